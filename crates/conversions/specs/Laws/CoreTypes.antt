-- The core type of a type, by what it is made of. Assumes nothing.
use Rattle.std.specs.Prelude.{◌≡◌, Bool, ℕ, zero, suc, replicate, ◌+◌, ◌*◌, ◌/◌, ◌≤◌, length, true, ◌-◌, ◌<◌, eqb, get_or}
use Rattle.std.proofs.Math.Path.{refl, ap}
use Rattle.std.proofs.Common.{sym, ◌∙◌}
use Rattle.std.proofs.lemmas.List.{length-replicate, replicate_more}
use mathlib.Core.List.{List, [], ◌∷◌, ◌++◌}
use Rattle.std.proofs.Math.Option.{Option, none, some}
use native.Mathlib.Omega.{arith}
use Rattle.std.proofs.Math.Decide.{ℕ_discrete}
use borrow.Author.Tests.{ne_eqb}
use Rattle.cedar.specs.Types.{Atom, never, true', false', bool, long, string, anyset, anyent, Ty, atom, set, rec, act, ent, ext, Attrs, nil, attr, as_set}
use Rattle.cedar.specs.Bytes.{u16, flag, ◌>>=◌}
use Rattle.cedar.specs.TypeForm.{atom_code, count, enc, one}
use Rattle.cedar.specs.Conversion.{convert, convert_attrs}
use Rattle.cedar.specs.Result.{Result, ok, err, bind}
use Rattle.cedar.specs.Outcome.{over}
use Rattle.cedar.specs.Limits.{most_bytes}
use Rattle.forms.specs.Kinds.{kind_number}
use Rattle.forms.specs.Names.{names_in, Ascending}
use Rattle.forms.specs.Parts.{rest, rd, part, kind}
use Rattle.forms.specs.TypeForms.{type_of, listed, IsPlain, TookFirstAttribute}
use Rattle.forms.specs.declared.kinds.Kind.{Kind}
use Rattle.forms.specs.declared.type_forms.TypeForm.{TypeForm}
use Rattle.forms.specs.declared.kinds.Kind.TheVariants as kinds
use Rattle.forms.specs.declared.type_forms.AttributeForm.{AttributeForm}
use Rattle.forms.specs.declared.type_forms.AttributeForms.{AttributeForms}
use Rattle.forms.specs.TypeBytes.{names_by, dec_a, whole, dec}
use Rattle.forms.specs.Laws.Kinds.{kind-same}
use Rattle.forms.specs.Laws.Names.{names-length}
use Rattle.forms.specs.Laws.TypeForms.{plain-code}
use Rattle.writing.specs.Written.{Written}
use Rattle.writing.specs.FormLengths.{cap, plus, table, form_length_of, form_of, Ready, or_refuse}
use Rattle.writing.specs.Laws.Writing.{back, over-at, length_over}
use Rattle.writing.specs.Laws.FormLengths.{Cut, cut-length, before, Summing, summing-not, summing-more, summing-err}
use Rattle.writing.specs.Laws.Laying.{ready-room, written_known, Laying, laying-start, laying-end, laying-ready, behind-front, behind-at, behind-ready, behind-small, behind-written}
use Rattle.writing.specs.Laws.Laying.{laying-entry, laying-small, laying-more}
use Rattle.conversions.specs.CoreTypes.{core, core_attrs, bool_or, in_sets, PastSets}
use Rattle.forms.specs.Tables.{Left}
use Rattle.forms.specs.Laws.Views.{is-record}
use Rattle.forms.specs.Laws.Codes.{atom-at}
use Rattle.forms.specs.Laws.Parts.{length_rest}
use Rattle.forms.specs.Laws.Tables.{left_is}

-- A step after another, with the refusal.
refuse-map : {A B : Type 0} (n : ℕ) (o : Option A) (f : A → B) → or_refuse n (o >>= λ a. some (f a)) ≡ bind (or_refuse n o) (λ a. ok (f a))
refuse-map n none f = refl
refuse-map n (some a) f = refl

core-before : (n : ℕ) (r : Bool) (t : Ty) (xs : Attrs) → core_attrs (attr n r t xs) ≡ before n r (core t) (core_attrs xs)
unfolding core core_attrs convert
core-before n r t xs = go (convert t) (convert_attrs xs)
  where
    go : (c : Option Ty) (cs : Option Attrs) → or_refuse 8 (c >>= λ u. (cs >>= λ l. some (attr n r u l))) ≡ before n r (or_refuse 8 c) (or_refuse 8 cs)
    go none cs = refl
    go (some u) none = refl
    go (some u) (some l) = refl

core-nil : core_attrs nil ≡ ok nil
unfolding core_attrs convert
core-nil = refl

pub attrs-end : {xs : Attrs} → xs ≡ nil → core_attrs xs ≡ ok nil
attrs-end e = ap core_attrs e ∙ core-nil

-- A list of bytes from its first attribute on.
pub attrs-step : {l n : ℕ} {es bs : List ℕ} (s : Left l n es bs) (p : 0 < n) (k : ℕ) (q : k ≡ rd es 3) →
    core_attrs (dec_a (dec l) n es bs) ≡ before (rd es 0) (eqb (get_or es 2 0) 1) (core (dec l (part 0 k bs)))
    (core_attrs (dec_a (dec l) (n - 1) (rest 5 es) (rest k bs)))
attrs-step {l} {n} {es} {bs} s p k q =
    ap core_attrs (left_is s p k q) ∙ core-before (rd es 0) (eqb (get_or es 2 0) 1) (dec l (part 0 k bs)) (dec_a (dec l) (n - 1) (rest 5 es) (rest k bs))

-- The only refusal: its number is 8.
pub core-refused : (t : Ty) (d : ℕ) → core t ≡ err d → d ≡ 8
unfolding core
core-refused t d e = go (convert t) e
  where
    go : (o : Option Ty) → or_refuse 8 o ≡ err d → d ≡ 8
    go none e = let z : 8 ≡ d = cc in sym z
    go (some u) e = absurd (let z : ◌≡◌ {A = ℕ} 0 1 = cc in omega arith)

pub core_attrs-refused : (xs : Attrs) (d : ℕ) → core_attrs xs ≡ err d → d ≡ 8
unfolding core_attrs
core_attrs-refused xs d e = go (convert_attrs xs) e
  where
    go : (o : Option Attrs) → or_refuse 8 o ≡ err d → d ≡ 8
    go none e = let z : 8 ≡ d = cc in sym z
    go (some u) e = absurd (let z : ◌≡◌ {A = ℕ} 0 1 = cc in omega arith)

pub core-err : (t : Ty) (x : Result ℕ) (d : ℕ) → x ≡ form_length_of enc (core t) → x ≡ err d → core t ≡ err 8
unfolding core
core-err t x d p q = go (convert t) p
  where
    go : (o : Option Ty) → x ≡ form_length_of enc (or_refuse 8 o) → or_refuse 8 o ≡ err 8
    go none p = refl
    go (some u) p = absurd (let z : ◌≡◌ {A = ℕ} 0 1 = cc in omega arith)

-- An attribute that was taken from a list, and the others.
module _ {xs ys : AttributeForms} {a : AttributeForm} (t : TookFirstAttribute xs ys a) where
  abbrev Type' : Result Ty
  Type' = core (type_of a.form)

  abbrev Rest : Result Attrs
  Rest = core_attrs (listed ys)

  core-step : core_attrs (listed xs) ≡ before a.name a.required Type' Rest
  core-step = ap core_attrs t.all ∙ core-before a.name a.required (type_of a.form) (listed ys)

  -- The loop of the length pass, where its type's length was asked.
  module _ {all : Result Attrs} {sum : ℕ} (i : Summing all (core_attrs (listed xs)) sum) (x : Result ℕ) (told : x ≡ form_length_of enc Type') where
    pub attrs-not : (d : ℕ) → x ≡ err d → err d ≡ form_length_of table all
    attrs-not d q = summing-not i a.name a.required Type' Rest core-step x told d q

    pub attrs-refused : (d : ℕ) → x ≡ err d → err 8 ≡ form_length_of table all
    attrs-refused d z = summing-err i 8 (core-step ∙ rw (core-err (type_of a.form) x d told z) refl)

    pub attrs-more : (k z : ℕ) → x ≡ ok k → z ≡ cap (sum + k + 5) → Summing all Rest z
    attrs-more k z q g = summing-more i a.name a.required Type' Rest core-step x told k z q g

  -- The loop of the write pass.
  module _ {all : Result Attrs} {o : List ℕ} {at pos : ℕ} {out : List ℕ} (i : Laying all (core_attrs (listed xs)) o at pos out) where
    pub core-ready : Ready enc Type' (rest pos out)
    core-ready = laying-ready i a.name a.required Type' Rest core-step

    module _ (zs : List ℕ) (x : ℕ) (w : Written (form_of enc Type') (rest pos out) zs x) where
      pub core-entry : 5 ≤ length (rest at (back pos out zs))
      core-entry = laying-entry i a.name a.required Type' Rest core-step zs x w

      pub core-small : (x ≤ most_bytes) × ((pos + x ≤ most_bytes) × (at + 5 ≤ most_bytes))
      core-small = laying-small i a.name a.required Type' Rest core-step zs x w

      pub core-more : (vs : List ℕ) → vs ≡ over (u16 a.name ++ (flag a.required ∷ u16 x)) (rest at (back pos out zs)) →
          Laying all Rest o (at + 5) (pos + x) (back at (back pos out zs) vs)
      core-more vs h = laying-more i a.name a.required Type' Rest core-step zs x w vs h

core-atom : (a : Atom) (k : ℕ) → atom_code a ≡ k → (k ≡ 0 → ⊥) → (k ≡ 9 → ⊥) → (c : Ty) × ((core (atom a) ≡ ok c) × (enc c ≡ bool_or k ∷ []))
unfolding core convert enc
core-atom never k e p q = absurd (p (sym e))
core-atom true' k e p q = (atom bool, (refl, rw (← e) refl))
core-atom false' k e p q = (atom bool, (refl, rw (← e) refl))
core-atom bool k e p q = (atom bool, (refl, rw (← e) refl))
core-atom long k e p q = (atom long, (refl, rw (← e) refl))
core-atom string k e p q = (atom string, (refl, rw (← e) refl))
core-atom anyset k e p q = (atom anyset, (refl, rw (← e) refl))
core-atom anyent k e p q = absurd (q (sym e))

names-one : (b : List ℕ) → names_by 2 1 b ≡ rd b 0 ∷ []
unfolding names_by
names-one b = refl

-- As many attributes as before.
pub core-count : (xs cs : Attrs) → core_attrs xs ≡ ok cs → count cs ≡ count xs
core-count nil cs e = let z : ok nil ≡ ok cs = sym core-nil ∙ e in let y : nil ≡ cs = cc in rw (← y) refl
core-count (attr n r t xs) cs e = go (core t) (core_attrs xs) (core-count xs) (sym (core-before n r t xs) ∙ e)
  where
    go : (c : Result Ty) (l : Result Attrs) → ((ds : Attrs) → l ≡ ok ds → count ds ≡ count xs) → before n r c l ≡ ok cs → count cs ≡ suc (count xs)
    go (ok u) (ok l) f g = let y : attr n r u l ≡ cs = cc in rw (← y) (ap suc (f l refl))
    go (ok u) (err d) f g = absurd (let z : ◌≡◌ {A = ℕ} 0 1 = cc in omega arith)
    go (err d) l f g = absurd (let z : ◌≡◌ {A = ℕ} 0 1 = cc in omega arith)

pub entity-long : (n : ℕ) → length (enc (ent (n ∷ []))) ≡ 5
unfolding enc
entity-long n = refl

pub extension-long : (n : ℕ) → length (enc (ext n)) ≡ 3
unfolding enc
extension-long n = refl

-- What is written is not refused.
refused-not : {r : Result Ty} {d : ℕ} {o : List ℕ} → Ready enc r o → r ≡ err d → ⊥
refused-not g e = let k = g.is in let z : ◌≡◌ {A = ℕ} 0 1 = cc in omega arith

-- In so many sets.
core-set : (x : Ty) → core (set x) ≡ bind (core x) (λ a. ok (set a))
unfolding core convert
core-set x = refuse-map 8 (convert x) set

sets-core : (n : ℕ) (x : Ty) → core (in_sets n x) ≡ bind (core x) (λ a. ok (in_sets n a))
sets-core zero x = go (core x)
  where
    go : (r : Result Ty) → r ≡ bind r (λ a. ok a)
    go (ok a) = refl
    go (err d) = refl
sets-core (suc n) x = core-set (in_sets n x) ∙ rw (sets-core n x) (go (core x))
  where
    go : (r : Result Ty) → bind (bind r (λ a. ok (in_sets n a))) (λ a. ok (set a)) ≡ bind r (λ a. ok (set (in_sets n a)))
    go (ok a) = refl
    go (err d) = refl

sets-bytes : (n : ℕ) (a : Ty) → enc (in_sets n a) ≡ replicate n 7 ++ enc a
unfolding enc
sets-bytes zero a = refl
sets-bytes (suc n) a = ap (λ z. 7 ∷ z) (sets-bytes n a)

pub sets-cut : {t : Ty} (x : Ty) (n : ℕ) → t ≡ in_sets n x → Cut enc enc (replicate n 7) (core x) (core t)
sets-cut x n e = record { make = in_sets n; is = ap core e ∙ sets-core n x; cut = λ a q. sets-bytes n a }

sets-more : (n : ℕ) (t : Ty) → in_sets n (set t) ≡ in_sets (suc n) t
sets-more zero t = refl
sets-more (suc n) t = ap set (sets-more n t)

-- The bytes of so many sets.
sevens : (n : ℕ) → length (replicate {A = ℕ} n 7) ≡ n
sevens n = length-replicate n 7

-- So far as the sets that a type begins with were gone down.
pub record Down (a x : TypeForm) (n : ℕ) : Type 0 where
  pub made : type_of a ≡ in_sets n (type_of x)
  pub levels : x.levels + n ≡ a.levels

pub down-start : (a : TypeForm) → Down a a 0
down-start a = record { made = refl; levels = omega arith }

module _ {a x : TypeForm} {n : ℕ} (d : Down a x n) where
  module _ (y : TypeForm) (p : (type_of x ≡ set (type_of y)) × (y.levels + 1 ≡ x.levels)) where
    pub down-again : Down a y (n + 1)
    down-again =
        let s : suc n ≡ n + 1 = omega arith in
        let counted : in_sets (suc n) (type_of y) ≡ in_sets (n + 1) (type_of y) = ap (λ (j : ℕ). in_sets j (type_of y)) s in
        record { made = d.made ∙ ap (in_sets n) p.0 ∙ sets-more n (type_of y) ∙ counted; levels = omega (arith, p.1, d.levels) }

    -- One more set is counted, and there is room for its kind.
    pub down-small : n + 1 ≤ a.levels
    down-small = omega (arith, p.1, d.levels)

    module _ {o : List ℕ} (g : Ready enc (core (type_of a)) o) where
      down-room : n + 1 ≤ length o
      down-room = omega (arith, behind-front (sets-cut (type_of y) (n + 1) down-again.made) g, sevens (n + 1))

      module _ {out : List ℕ} (q : out ≡ over (replicate n 7) o) where
        pub down-front : 1 ≤ length (rest n out)
        down-front = omega (arith, down-room, length_rest n out, ap length q, length_over (replicate n 7) o (omega (arith, down-room, sevens n)))

        pub down-put : (ys : List ℕ) → ys ≡ over (7 ∷ []) (rest n out) → back n out ys ≡ over (replicate (n + 1) 7) o
        down-put ys f =
            over-at o (replicate n 7) (7 ∷ []) out ys n q (sym (sevens n)) f (omega (arith, down-room, sevens n)) ∙
            ap (λ (z : List ℕ). over z o) (replicate_more n 7)

  pub down-end : as_set (type_of x) ≡ none → PastSets a x n
  down-end h = record { made = d.made; levels = d.levels; apart = h }

-- Where the bytes of the sets are known.
module _ {a x : TypeForm} {n : ℕ} (d : PastSets a x n) where
  pub past-length : (x₀ y : Result ℕ) → x₀ ≡ form_length_of enc (core (type_of x)) → y ≡ plus n x₀ → y ≡ form_length_of enc (core (type_of a))
  past-length x₀ y g h = cut-length (sets-cut (type_of x) n d.made) x₀ y g (h ∙ ap (λ (z : ℕ). plus z x₀) (sym (sevens n)))

  module _ {o : List ℕ} (g : Ready enc (core (type_of a)) o) {out : List ℕ} (q : out ≡ over (replicate n 7) o) where
    pub past-at : n ≤ length out
    past-at = behind-at (sets-cut (type_of x) n d.made) g out n q (sym (sevens n))

    pub past-ready : Ready enc (core (type_of x)) (rest n out)
    past-ready = behind-ready (sets-cut (type_of x) n d.made) g out n q (sym (sevens n))

    pub past-written : (ys : List ℕ) (k : ℕ) → Written (form_of enc (core (type_of x))) (rest n out) ys k →
        Written (form_of enc (core (type_of a))) o (back n out ys) (k + n)
    past-written ys k t = behind-written (sets-cut (type_of x) n d.made) g out n q (sym (sevens n)) ys k t

    pub past-small : (ys : List ℕ) (k : ℕ) → Written (form_of enc (core (type_of x))) (rest n out) ys k → k + n ≤ most_bytes
    past-small ys k t = behind-small (sets-cut (type_of x) n d.made) g out n q (sym (sevens n)) ys k t

-- A type that is no set is not a set.
pub set-not : {A : Type 0} {t x : Ty} → as_set t ≡ none → t ≡ set x → A
set-not h e = absurd (some-none (sym (ap as_set e) ∙ h))
  where
    some-none : {t : Ty} → some t ≡ none → ⊥
    some-none p = cc

-- The core type by what a type is made of.
module _ (t : Ty) where
  pub set-cut : {x : Ty} → t ≡ set x → Cut enc enc (7 ∷ []) (core x) (core t)
  unfolding core convert enc
  set-cut {x} e = record { make = set; is = ap core e ∙ refuse-map 8 (convert x) set; cut = λ a q. refl }

  pub record-cut : {o : Bool} {xs : Attrs} {n : ℕ} → t ≡ rec o xs → n ≡ count xs → Cut table enc (8 ∷ flag o ∷ u16 n) (core_attrs xs) (core t)
  unfolding core core_attrs convert enc
  record-cut {o} {xs} {n} e c =
      record {
        make = λ cs. rec o cs;
        is = ap core e ∙ refuse-map 8 (convert_attrs xs) (λ cs. rec o cs);
        cut = λ cs q. rw (core-count xs cs q, ← c) refl;
      }

  pub action-core : {n : ℕ} {xs : Attrs} → t ≡ act n xs → core t ≡ ok (ent (n ∷ []))
  unfolding core convert
  action-core e = ap core e

  pub extension-core : {n : ℕ} → t ≡ ext n → core t ≡ ok (ext n)
  unfolding core convert
  extension-core e = ap core e

  -- Of an entity: one name or more.
  module _ (ns : List ℕ) (e : t ≡ ent (names_in ns)) where
    pub entity-core : length ns ≡ 2 → core t ≡ ok (ent (rd ns 0 ∷ []))
    unfolding core convert
    entity-core q = ap core (e ∙ ap ent one)
      where
        one : names_in ns ≡ rd ns 0 ∷ []
        one = ap (λ (j : ℕ). names_by 2 j ns) (omega arith) ∙ names-one ns

    pub entities-core : Ascending ns → (length ns ≡ 2 → ⊥) → core t ≡ err 8
    unfolding core convert
    entities-core a q = rw (e, names-length 2 (length ns / 2) ns, ne_eqb (length ns / 2) 1 (λ z. q (omega (arith, a.even, z)))) refl

  -- The length pass.
  pub known-length : (c : Ty) (k : ℕ) → core t ≡ ok c → length (enc c) ≡ k → k ≤ 5 → ok k ≡ form_length_of enc (core t)
  known-length c k e q p = rw (e, q) (ap ok (omega arith))

  pub refused-length : core t ≡ err 8 → err 8 ≡ form_length_of enc (core t)
  refused-length e = rw e refl

  -- A form of one byte.
  module _ {k : Kind} (p : IsPlain t k) where
    pub never-core : k ≡ kinds.Never → core t ≡ err 8
    unfolding core convert
    never-core e = let z : one never ≡ one p.which = rw e at p.kind in let y : never ≡ p.which = cc in ap core p.is ∙ rw (← y) refl

    pub any-core : k ≡ kinds.AnyEntity → core t ≡ err 8
    unfolding core convert
    any-core e = let z : one anyent ≡ one p.which = rw e at p.kind in let y : anyent ≡ p.which = cc in ap core p.is ∙ rw (← y) refl

    single : (k ≡ kinds.Never → ⊥) → (k ≡ kinds.AnyEntity → ⊥) → (c : Ty) × ((core t ≡ ok c) × (enc c ≡ bool_or (kind_number k) ∷ []))
    single p0 p9 =
        let s = core-atom p.which (kind_number k) (plain-code p) (λ z. p0 (kind-same k kinds.Never z)) (λ z. p9 (kind-same k kinds.AnyEntity z)) in
        (s.0, (ap core p.is ∙ s.1.0, s.1.1))

    pub atom-length : (k ≡ kinds.Never → ⊥) → (k ≡ kinds.AnyEntity → ⊥) → ok 1 ≡ form_length_of enc (core t)
    atom-length p0 p9 = let s = single p0 p9 in known-length s.0 1 s.1.0 (ap length s.1.1) (omega arith)

    -- Where it is written, it is no kind that is refused.
    module _ {o : List ℕ} (g : Ready enc (core t) o) where
      ready-single : (c : Ty) × ((core t ≡ ok c) × (enc c ≡ bool_or (kind_number k) ∷ []))
      ready-single = single (λ e. refused-not g (never-core e)) (λ e. refused-not g (any-core e))

      pub atom-room : 1 ≤ length o
      atom-room = omega (arith, ready-room g ready-single.0 ready-single.1.0, ap length ready-single.1.1)

      pub atom-written : (j : ℕ) (xs : List ℕ) → j ≡ bool_or (kind_number k) → xs ≡ over (j ∷ []) o → Written (form_of enc (core t)) o xs 1
      atom-written j xs q f = let s = ready-single in written_known g s.0 s.1.0 (j ∷ []) xs 1 (s.1.1 ∙ rw q refl) f refl

  -- The write pass, where the form is written at once.
  module _ {o : List ℕ} (g : Ready enc (core t) o) where
    pub entity-room : {n : ℕ} → core t ≡ ok (ent (n ∷ [])) → 5 ≤ length o
    entity-room {n} e = omega (arith, ready-room g _ e, entity-long n)

    pub entity-written : {n : ℕ} (k : ℕ) (xs : List ℕ) → core t ≡ ok (ent (n ∷ [])) → k ≡ n → xs ≡ over (10 ∷ u16 1 ++ u16 k) o → Written (form_of enc (core t)) o xs 5
    unfolding enc
    entity-written {n} k xs e q f = written_known g (ent (n ∷ [])) e (10 ∷ u16 1 ++ u16 k) xs 5 (rw q refl) f refl

    pub extension-room : {n : ℕ} → t ≡ ext n → 3 ≤ length o
    extension-room {n} e = omega (arith, ready-room g _ (extension-core e), extension-long n)

    pub extension-written : {n : ℕ} (xs : List ℕ) → t ≡ ext n → xs ≡ over (12 ∷ u16 n) o → Written (form_of enc (core t)) o xs 3
    unfolding enc
    extension-written {n} xs e f = written_known g (ext n) (extension-core e) (12 ∷ u16 n) xs 3 refl f refl

    pub one_name : (ns : List ℕ) → t ≡ ent (names_in ns) → Ascending ns → (length ns ≡ 2) × (core t ≡ ok (ent (rd ns 0 ∷ [])))
    one_name ns e a = go (ℕ_discrete (length ns) 2)
      where
        go : Dec (length ns ≡ 2) → (length ns ≡ 2) × (core t ≡ ok (ent (rd ns 0 ∷ [])))
        go (yes p) = (p, entity-core ns e p)
        go (no p) = absurd (refused-not g (entities-core ns e a p))

-- The same of a form that is written: it is no Never and no any entity, and a record has its front.
never-refused : (l : ℕ) (b : List ℕ) → whole l b ≡ true → kind b ≡ 0 → core (dec l b) ≡ err 8
unfolding core convert
never-refused l b h e = rw (atom-at l b h 0 e never refl) refl

any-refused : (l : ℕ) (b : List ℕ) → whole l b ≡ true → kind b ≡ 9 → core (dec l b) ≡ err 8
unfolding core convert
any-refused l b h e = rw (atom-at l b h 9 e anyent refl) refl

module _ (l : ℕ) (b : List ℕ) (h : whole l b ≡ true) {o : List ℕ} (g : Ready enc (core (dec l b)) o) where
  pub never-not : kind b ≡ 0 → ⊥
  never-not e = refused-not g (never-refused l b h e)

  pub any-not : kind b ≡ 9 → ⊥
  any-not e = refused-not g (any-refused l b h e)

  pub record-front : kind b ≡ 8 → 4 ≤ length o
  record-front e = behind-front (record-cut (dec l b) (is-record l b h e).is refl) g

-- The write pass over an attribute list.
pub core-laying : (xs : Attrs) (n : ℕ) {o : List ℕ} → n ≡ count xs → Ready table (core_attrs xs) o → Laying (core_attrs xs) (core_attrs xs) o 0 (5 * n) o
core-laying xs n c g = laying-start n g (λ ys e. core-count xs ys e ∙ sym c)

pub core-end : {all : Result Attrs} {xs : Attrs} {o : List ℕ} {at pos : ℕ} {out : List ℕ} → Laying all (core_attrs xs) o at pos out → xs ≡ nil →
    Written (form_of table all) o out pos
core-end i e = laying-end i (attrs-end e)
