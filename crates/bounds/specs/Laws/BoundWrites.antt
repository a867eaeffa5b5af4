-- The write pass over two whole forms whose bound has room, by their kinds. Assumes nothing.
use Rattle.std.specs.Option.{option_map}
use Rattle.std.specs.Prelude.{Option as Maybe}
use Rattle.std.proofs.lemmas.Bool.{not-true, not-false}
use Rattle.cedar.specs.Types.{anyset}
use Rattle.cedar.specs.Bound.{join_set}
use Rattle.bounds.specs.Joins.{KnownLength}
use Rattle.bounds.specs.Laws.UntypedSets.{typed-cut, untyped-is, element-known}
use Rattle.bound_lengths.specs.Laws.Bounds.{set-join}
use Rattle.std.specs.Prelude.{◌≡◌, Bool, true, false, not, ◌&&◌, ◌||◌, cond, ℕ, ◌-◌, ◌≤◌, ◌<◌, eqb, length, get_or}
use Rattle.std.proofs.Math.Path.{refl, ap, sym}
use Rattle.std.proofs.Common.{ap₂, ◌∙◌, arith, length-append}
use mathlib.Core.List.{List, [], ◌∷◌, ◌++◌}
use Rattle.std.proofs.Math.Decide.{ℕ_discrete}
use Rattle.std.proofs.Math.ListN.{take}
use Rattle.cedar.specs.Types.{Mode, strict, is_permissive, eq_names, Ty, atom, set, rec, act, ent, ext, Attrs}
use Rattle.cedar.specs.Bytes.{u16, flag, enc_names}
use Rattle.cedar.specs.Laws.Shape.{Ordered}
use Rattle.cedar.specs.TypeForm.{count, enc, entries, bodies}
use Rattle.cedar.specs.Result.{Result, ok, err, bind}
use Rattle.cedar.specs.Outcome.{over}
use Rattle.cedar.specs.Bound.{union, join_record}
use Rattle.cedar.specs.Laws.DirectBound.{direct, direct_attrs, direct_names}
use Rattle.cedar.proofs.Laws.Join.{join_attrs-join}
use Rattle.cedar.proofs.Laws.Lost.{lost-count}
use Rattle.cedar.proofs.Laws.Direct.{direct_attrs-bound}
use Rattle.forms.specs.Parts.{part, rest, rd, kind}
use Rattle.forms.specs.TypeBytes.{whole, dec, names_by}
use Rattle.forms.specs.Laws.Parts.{part-is, length_part}
use Rattle.forms.specs.Laws.Views.{is-record, is-entity, is-action, is-extension, is-atom}
use Rattle.writing.specs.Written.{Written}
use Rattle.writing.specs.FormLengths.{table, form_of, Ready}
use Rattle.forms.specs.Codes.{code}
use Rattle.bound_lengths.specs.Kinds.{unlike, joined_of}
use Rattle.bound_lengths.specs.Pairs.{joined_attrs}
use Rattle.forms.specs.Tables.{attrs_at}
use Rattle.bounds.specs.Joins.{count_of, is_ok}
use Rattle.bounds.specs.Laws.KeptAttributes.{ok-bind, joined-direct, strict-many}
use Rattle.writing.specs.Laws.FormLengths.{length-entries, Cut}
use Rattle.bound_lengths.specs.Laws.Kinds.{unlike-of}
use Rattle.writing.specs.Laws.Laying.{ready-room, written_known}
use Rattle.forms.specs.Laws.Tables.{attrs-count}
use Rattle.bound_lengths.specs.Laws.Names.{names-long}
use Rattle.bound_lengths.specs.Laws.Bounds.{count-from, attrs-from, form-is, ordered, never-left, never-right, unlike-join, record-join, action-join}
use Rattle.bound_lengths.specs.Laws.Bounds.{action-apart, extension-join, extension-apart, entity-join, atoms-join, atom-form}

first_code : (t : Ty) → kind (enc t) ≡ code t
unfolding enc
first_code (atom k) = refl
first_code (set t) = refl
first_code (rec o xs) = refl
first_code (act n xs) = refl
first_code (ent ns) = refl
first_code (ext n) = refl

single : (l : List ℕ) → length l ≡ 1 → l ≡ kind l ∷ []
single [] h = absurd (omega arith)
single (n ∷ []) h = refl
single (n ∷ i ∷ l) h = absurd (omega arith)

pub kept-few : {r : Result Attrs} {o : List ℕ} → Ready table r o → (n : ℕ) → n ≡ count_of r → n < 65536
kept-few g n e = omega (arith, e ∙ ap count_of g.is, g.small, length-append (entries g.result) (bodies g.result), length-entries g.result)

-- The bound of two unlike kinds is its code.
module _ (m : Mode) (j k : ℕ) {o : List ℕ} (g : Ready enc (unlike m j k) o) (x : Result ℕ) (told : x ≡ joined_of (unlike m j k)) where
  module _ (b : ℕ) (q : x ≡ ok b) where
    is_code : enc g.result ≡ b ∷ []
    is_code =
        let f : x ≡ ok (code g.result) = told ∙ ap joined_of g.is in
        let z : b ≡ code g.result = cc in
        let u = unlike-of m j k x told b q in
        let w : ok u.0 ≡ ok g.result = sym u.1.0 ∙ g.is in
        let v : u.0 ≡ g.result = cc in
        single (enc g.result) (sym (ap (λ (t : Ty). length (enc t)) v) ∙ u.1.1.1) ∙ ap (λ (n : ℕ). n ∷ []) (first_code g.result ∙ sym z)

    pub unlike-room : 1 ≤ length o
    unlike-room = omega (arith, g.room, ap length is_code)

    pub unlike-written : (xs : List ℕ) → xs ≡ over (b ∷ []) o → Written (form_of enc (unlike m j k)) o xs 1
    unlike-written xs f = written_known g g.result g.is (b ∷ []) xs 1 is_code f refl

-- The kind and the count of k names stand before the names.
pub entities-cut : (ns ks : List ℕ) (k : ℕ) → k ≡ length (union ns ks) → Cut enc_names enc (10 ∷ u16 k) (ok (union ns ks)) (ok (ent (union ns ks)))
unfolding enc
entities-cut ns ks k g = record { make = ent; is = refl; cut = λ ls q. let z : union ns ks ≡ ls = cc in rw (g, z) refl }

pub entities-few : (ns ks : List ℕ) (k : ℕ) → k ≡ length (union ns ks) → {o : List ℕ} → Ready enc (ok (ent (union ns ks))) o → k < 65536
unfolding enc
entities-few ns ks k h g = omega (arith, ready-room g (ent (union ns ks)) refl, names-long (union ns ks), h)

-- Two whole forms, and room for their bound.
pub record Given (m : Mode) (l : ℕ) (a b o : List ℕ) : Type 0 where
  pub first : whole l a ≡ true
  pub second : whole l b ≡ true
  pub bytes : (i : ℕ) → get_or a i 0 < 256
  pub bytes' : (i : ℕ) → get_or b i 0 < 256
  pub ready : Ready enc (direct m (dec l a) (dec l b)) o

pub given : (m : Mode) (l : ℕ) (a b : List ℕ) {o : List ℕ} → whole l a ≡ true → whole l b ≡ true → ((i : ℕ) → get_or a i 0 < 256) → ((i : ℕ) → get_or b i 0 < 256) →
    Ready enc (direct m (dec l a) (dec l b)) o → Given m l a b o
given m l a b p q y z g = record { first = p; second = q; bytes = y; bytes' = z; ready = g }

-- The bound is one of the forms.
pub record Copied (r : Result Ty) (b o : List ℕ) : Type 0 where
  pub room : length b ≤ length o
  pub written : (xs : List ℕ) (x : ℕ) → Written b o xs x → Written (form_of enc r) o xs x

pub copied : {r : Result Ty} {o : List ℕ} → Ready enc r o → (c : Ty) (b : List ℕ) → r ≡ ok c → enc c ≡ b → Copied r b o
copied g c b e f = record { room = omega (arith, ready-room g c e, ap length f); written = λ xs x t. written_known g c e b xs x f t.bytes t.many }

-- The bound is another result.
pub record Same (r s : Result Ty) (o : List ℕ) : Type 0 where
  pub ready : Ready enc s o
  pub written : (xs : List ℕ) (x : ℕ) → Written (form_of enc s) o xs x → Written (form_of enc r) o xs x

known : {r : Result Ty} {o : List ℕ} → Ready enc r o → (s : Result Ty) → r ≡ s → Same r s o
known g s e = record { ready = rw e at g; written = λ xs x t. rw e t }

-- Two entities in strict mode: the first, where there is a bound.
strict-names : (m : Mode) (ns ks : List ℕ) (c : Ty) → is_permissive m ≡ false → direct_names m ns ks ≡ ok c → direct_names m ns ks ≡ ok (ent ns)
strict-names m ns ks c p e = rw p (go (eq_names ns ks) (rw p at e))
  where
    go : (q : Bool) → cond q (ok (ent ns)) (err 13) ≡ ok c → cond q (ok (ent ns)) (err 13) ≡ ok (ent ns)
    go true e = refl
    go false e = absurd (let z : ◌≡◌ {A = ℕ} 0 1 = cc in omega arith)

module _ {m : Mode} {l : ℕ} {a b o : List ℕ} (g : Given m l a b o) where
  abbrev joins : Result Ty
  joins = direct m (dec l a) (dec l b)

  -- The attributes of both, from their counts on.
  abbrev pub Tables : Mode → ℕ → Result Attrs
  Tables d at = joined_attrs d (attrs_at (l - 1) 0 (rest at a)) (attrs_at (l - 1) 0 (rest at b))

  tables-are : (d : Mode) (at : ℕ) → Tables d at ≡ joined_attrs d (attrs_at (l - 1) at a) (attrs_at (l - 1) at b)
  tables-are d at = ap₂ (λ (xs ys : Attrs). joined_attrs d xs ys) (attrs-from (l - 1) at a) (attrs-from (l - 1) at b)

  own : enc (dec l a) ≡ a
  own = form-is l a g.first g.bytes

  -- Never on either side.
  pub second-copied : kind a ≡ 0 → Copied joins b o
  second-copied e = copied g.ready (dec l b) b (never-left m l a b g.first g.second e) (form-is l b g.second g.bytes')

  pub first-copied : kind b ≡ 0 → Copied joins a o
  first-copied e = copied g.ready (dec l a) a (never-right m l a b g.first g.second e) own

  pub unlike-forms : (kind a ≡ kind b → ⊥) → (kind a ≡ 0 → ⊥) → (kind b ≡ 0 → ⊥) → Same joins (unlike m (kind a) (kind b)) o
  unlike-forms p q r = known g.ready (unlike m (kind a) (kind b)) (unlike-join m l a b g.first g.second p q r)

  -- Forms of one kind.
  module _ (k : kind a ≡ kind b) where
    -- Sets: of their elements' bound, or the untyped set.
    module _ (e : kind a ≡ 7) where
      abbrev Elements : Result Ty
      Elements = direct m (dec (l - 1) (rest 1 a)) (dec (l - 1) (rest 1 b))

      sets-are : joins ≡ join_set m Elements
      sets-are = set-join m l a b g.first g.second e (sym k ∙ e)

      pub sets-known : is_ok (join_set m Elements) ≡ true
      sets-known = ap is_ok (sym sets-are ∙ g.ready.is)

      pub sets-length : (n : Maybe ℕ) → KnownLength n (form_of enc joins) → KnownLength n (form_of enc (join_set m Elements))
      sets-length n f = rw (← sets-are) f

      module _ (z : Bool) (told : z ≡ not (is_ok Elements)) where
        pub sets-untyped : z ≡ true → Copied joins (6 ∷ []) o
        sets-untyped h =
            copied g.ready (atom anyset) (6 ∷ []) (sets-are ∙ untyped-is m Elements sets-known (not-true (is_ok Elements) (sym told ∙ h))) (atom-form anyset)

        module _ (h : z ≡ false) where
          typed : is_ok Elements ≡ true
          typed = not-false (is_ok Elements) (sym told ∙ h)

          pub sets-cut : Cut enc enc (7 ∷ []) Elements joins
          sets-cut = rw sets-are (typed-cut m Elements sets-known typed)

          pub elements-length : (n : Maybe ℕ) → KnownLength n (form_of enc joins) → KnownLength (option_map (λ k. k - 1) n) (form_of enc Elements)
          elements-length n f = element-known m Elements sets-known n (sets-length n f) typed

    pub entities-union : kind a ≡ 10 → is_permissive m ≡ true → Same joins (ok (ent (union (names_by 2 (rd a 1) (rest 3 a)) (names_by 2 (rd b 1) (rest 3 b))))) o
    entities-union e s =
        known g.ready (ok (ent (union (names_by 2 (rd a 1) (rest 3 a)) (names_by 2 (rd b 1) (rest 3 b)))))
        (entity-join m l a b g.first g.second e (sym k ∙ e) ∙ rw s refl)

    pub entities-copied : kind a ≡ 10 → is_permissive m ≡ false → Copied joins a o
    entities-copied e s =
        let j = entity-join m l a b g.first g.second e (sym k ∙ e) in
        let n = strict-names m (names_by 2 (rd a 1) (rest 3 a)) (names_by 2 (rd b 1) (rest 3 b)) g.ready.result s (sym j ∙ g.ready.is) in
        copied g.ready (ent (names_by 2 (rd a 1) (rest 3 a))) a (j ∙ n) (ap enc (sym (is-entity l a g.first e).is) ∙ own)

    pub others-copied : (kind a ≡ 7 → ⊥) → (kind a ≡ 8 → ⊥) → (kind a ≡ 10 → ⊥) → (kind a ≡ 11 → ⊥) → Copied joins a o
    others-copied p7 p8 p10 p11 = go (ℕ_discrete (kind a) 12) (ℕ_discrete (rd a 1) (rd b 1))
      where
        go : Dec (kind a ≡ 12) → Dec (rd a 1 ≡ rd b 1) → Copied joins a o
        go (yes e) (yes z) =
            copied g.ready (ext (rd a 1)) a (extension-join m l a b g.first g.second e (sym k ∙ e) (rd a 1) (rd b 1) refl refl z)
            (ap enc (sym (is-extension l a g.first e).is) ∙ own)
        go (yes e) (no z) =
            let r : err 15 ≡ ok g.ready.result = sym (extension-apart m l a b g.first g.second e (sym k ∙ e) (rd a 1) (rd b 1) refl refl z) ∙
            g.ready.is in
            absurd (let w : ◌≡◌ {A = ℕ} 0 1 = cc in omega arith)
        go (no p12) z =
            let s = atoms-join m l a b g.first g.second k p7 p8 p10 p11 p12 in
            let one = (is-atom l a g.first p7 p8 p10 p11 p12).sized in
            copied g.ready (atom s.0) a s.1.0 (atom-form s.0 ∙ ap (λ (n : ℕ). n ∷ []) s.1.1 ∙ sym (single a one))

    -- Records: their attributes have a bound, and n of them are kept.
    abbrev made : Attrs → Ty
    made = join_record (eqb (get_or a 1 0) 1) (eqb (get_or b 1 0) 1) (attrs_at (l - 1) 2 a) (attrs_at (l - 1) 2 b)

    pub records-known : kind a ≡ 8 → is_ok (Tables m 2) ≡ true
    records-known e =
        ap is_ok (tables-are m 2) ∙ sym (ok-bind (joined_attrs m (attrs_at (l - 1) 2 a) (attrs_at (l - 1) 2 b)) made)
        ∙ sym (ap is_ok (record-join m l a b g.first g.second e (sym k ∙ e))) ∙ ap is_ok g.ready.is

    pub records-cut : kind a ≡ 8 → (n i j : ℕ) (x : Bool) → n ≡ count_of (Tables m 2) → i ≡ rd (rest 2 a) 0 → j ≡ rd (rest 2 b) 0 →
        x ≡ (eqb (get_or a 1 0) 1 || eqb (get_or b 1 0) 1 || not (eqb n i && eqb n j)) →
        Cut table enc (8 ∷ flag x ∷ u16 n) (Tables m 2) joins
    unfolding enc Ordered
    records-cut e n i j x nn ni nj nx =
        let f = sym k ∙ e in
        let oa : Ordered (dec l a) = ordered l a g.first g.bytes in
        let ob : Ordered (dec l b) = ordered l b g.second g.bytes' in
        record {
          make = made;
          is = record-join m l a b g.first g.second e f ∙ ap (λ (r : Result Attrs). bind r (λ cs. ok (made cs))) (sym (tables-are m 2));
          cut =
              λ cs z. front (attrs_at (l - 1) 2 a) (attrs_at (l - 1) 2 b) cs (sym (tables-are m 2) ∙ z) (rw (is-record l a g.first e).is at oa)
              (rw (is-record l b g.second f).is at ob) (nn ∙ ap count_of z) (ni ∙ count-from 2 a ∙ sym (attrs-count (dec (l - 1)) (rd a 2) _ _))
              (nj ∙ count-from 2 b ∙ sym (attrs-count (dec (l - 1)) (rd b 2) _ _));
        }
      where
        front : (xs ys cs : Attrs) → joined_attrs m xs ys ≡ ok cs → Ordered (rec (eqb (get_or a 1 0) 1) xs) → Ordered (rec (eqb (get_or b 1 0) 1) ys) →
            n ≡ count cs → i ≡ count xs → j ≡ count ys →
            enc (join_record (eqb (get_or a 1 0) 1) (eqb (get_or b 1 0) 1) xs ys cs) ≡ (8 ∷ flag x ∷ u16 n) ++ table cs
        front xs ys cs z ox oy u v w =
            let d : direct_attrs m xs ys ≡ ok cs = sym (joined-direct m xs ys cs z) ∙ z in
            let c = lost-count (join_attrs-join xs m ys cs (sym (direct_attrs-bound xs m ys 0 ox oy) ∙ d)) ox oy in
            rw (nx, u, v, w, c) refl

    -- Actions, whose names were read.
    module _ (e : kind a ≡ 11) (n i : ℕ) (q : n ≡ rd a 1) (r : i ≡ rd b 1) where
      pub actions-unlike : (n ≡ i → ⊥) → Same joins (unlike m (kind a) (kind b)) o
      actions-unlike h =
          let f = sym k ∙ e in
          known g.ready (unlike m (kind a) (kind b)) (action-apart m l a b g.first g.second e f n i q r h ∙ rw (e, f) refl)

      -- Of one name they join strictly.
      pub actions-strict : n ≡ i → Same joins (direct strict (dec l a) (dec l b)) o
      actions-strict h =
          let f = sym k ∙ e in
          known g.ready (direct strict (dec l a) (dec l b))
          (action-join m l a b g.first g.second e f n i q r h ∙ sym (action-join strict l a b g.first g.second e f n i q r h))

      -- The kind, the name and the count stand before the first's attributes.
      pub actions-cut : n ≡ i → Cut table enc (part 0 5 a) (Tables strict 3) joins
      unfolding enc
      actions-cut h =
          record {
            make = act (rd a 1);
            is =
                action-join m l a b g.first g.second e (sym k ∙ e) n i q r h ∙
                ap (λ (r : Result Attrs). bind r (λ cs. ok (act (rd a 1) cs))) (sym (tables-are strict 3));
            cut =
                λ cs z. rw (
                  front (attrs_at (l - 1) 3 a) (sym own ∙ ap enc (is-action l a g.first e).is),
                  strict-many strict refl (attrs_at (l - 1) 3 a) (attrs_at (l - 1) 3 b) cs (sym (tables-are strict 3) ∙ z),
                ) refl;
          }
        where
          front : (xs : Attrs) → a ≡ enc (act (rd a 1) xs) → part 0 5 a ≡ 11 ∷ u16 (rd a 1) ++ u16 (count xs)
          front xs z = part-is 5 a ∙ ap (λ (w : List ℕ). take 5 w) z

      pub actions-front : 5 ≡ length (part 0 5 a)
      actions-front = sym (length_part 0 5 a (is-action l a g.first e).some)

      pub actions-many : {o' : List ℕ} → Ready table (Tables strict 3) o' → (c : ℕ) → c ≡ rd (rest 3 a) 0 → c ≡ count_of (Tables strict 3)
      actions-many t c z =
          z ∙ count-from 3 a ∙ sym (attrs-count (dec (l - 1)) (rd a 3) _ _) ∙ strict-many strict refl (attrs_at (l - 1) 3 a) (attrs_at (l - 1) 3 b) t.result
          (sym (tables-are strict 3) ∙ t.is) ∙ sym (ap count_of t.is)
