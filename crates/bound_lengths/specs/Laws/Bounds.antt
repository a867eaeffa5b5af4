-- The bound of two forms by their kinds. Assumes nothing.
use Rattle.std.specs.Prelude.{◌≡◌, List, [], ◌∷◌, Bool, true, ◌||◌, ℕ, ◌+◌, ◌*◌, ◌-◌, ◌≤◌, ◌<◌, eqb, length, get_or}
use Rattle.std.proofs.Math.Path.{refl, sym}
use Rattle.std.proofs.Common.{ap, ap₂, ◌∙◌, arith, drop-drop}
use Rattle.std.proofs.Math.Decide.{ℕ_discrete}
use borrow.Author.Tests.{eq-eqb, ne_eqb}
use Rattle.cedar.specs.Types.{Mode, strict, Atom, never, true', false', bool, long, string, anyset, anyent, Ty, atom, set, rec, act, ent, ext, Attrs, same}
use Rattle.cedar.specs.Laws.Shape.{WF, Ordered}
use Rattle.cedar.specs.TypeForm.{atom_code, enc, one, kind_of}
use Rattle.cedar.specs.Result.{Result, ok, err, bind}
use Rattle.cedar.specs.Subtype.{sub}
use Rattle.cedar.specs.Bound.{bound, join_record, join_set, lost}
use Rattle.cedar.specs.Limits.{most_bytes}
use Rattle.cedar.specs.Laws.DirectBound.{direct, direct_names}
use Rattle.cedar.proofs.Laws.TypeForm.{parse-iff}
use Rattle.forms.specs.Parts.{part, rest, rd, kind}
use Rattle.forms.specs.TypeBytes.{whole, dec, dec_a, names_by}
use Rattle.forms.specs.Laws.Bytes.{Bytes-index}
use Rattle.forms.specs.Laws.Parts.{length_rest, rest-is, rest-rest}
use Rattle.forms.specs.Laws.Sure.{sure-yes, rd-drop}
use Rattle.forms.specs.Laws.TypeTwin.{type-twin}
use Rattle.forms.specs.Kinds.{kind_number}
use Rattle.forms.specs.TypeForms.{type_of, IsPlain}
use Rattle.forms.specs.declared.type_forms.TypeForm.{TypeForm}
use Rattle.forms.specs.declared.kinds.Kind.{Kind}
use Rattle.forms.specs.Laws.TypeForms.{plain-code}
use Rattle.forms.specs.Laws.Views.{is_set, is-record, is-entity}
use Rattle.forms.specs.Laws.Views.{is-action, is-extension, is-atom}
use Rattle.writing.specs.FormLengths.{cap, plus, table, form_length_of}
use Rattle.forms.specs.Codes.{code}
use Rattle.bound_lengths.specs.Kinds.{unlike, partless}
use Rattle.bound_lengths.specs.Pairs.{joined_attrs}
use Rattle.forms.specs.Tables.{attrs_at, Tabled}
use Rattle.forms.specs.Laws.Codes.{atom-code, code-dec, atom-at}
use Rattle.bound_lengths.specs.Laws.Kinds.{unlike-is}
use Rattle.bound_lengths.specs.Laws.Lengths.{record-long, action-long, type-length}
use Rattle.bound_lengths.specs.Sets.{set_length}
use Rattle.bound_lengths.specs.Laws.Sets.{joined_length}

-- A table whose count stands at c, from its count on.
module _ (c : ℕ) (b : List ℕ) where
  pub count-from : rd (rest c b) 0 ≡ rd b c
  count-from = let e : c + 0 ≡ c = omega arith in ap (λ (z : List ℕ). rd z 0) (rest-is c b) ∙ rd-drop c b 0 ∙ ap (λ (j : ℕ). rd b j) e

  entries_from : (n : ℕ) → part 2 (2 + 5 * n) (rest c b) ≡ part (c + 2) (c + 2 + 5 * n) b
  entries_from n =
      let e : 2 + 5 * n - 2 ≡ 5 * n = omega arith in
      let f : c + 2 + 5 * n - (c + 2) ≡ 5 * n = omega arith in
      rw (e, f, rest-is c b, drop-drop 2 c b) refl

  bodies-from : (n : ℕ) → rest (2 + 5 * n) (rest c b) ≡ rest (c + 2 + 5 * n) b
  bodies-from n = let e : c + (2 + 5 * n) ≡ c + 2 + 5 * n = omega arith in rest-rest c (2 + 5 * n) b ∙ ap (λ (k : ℕ). rest k b) e

pub attrs-from : (l c : ℕ) (b : List ℕ) → attrs_at l 0 (rest c b) ≡ attrs_at l c b
attrs-from l c b =
    ap (λ (n : ℕ). dec_a (dec l) n (part 2 (2 + 5 * n) (rest c b)) (rest (2 + 5 * n) (rest c b))) (count-from c b)
    ∙ ap₂ (λ (es bs : List ℕ). dec_a (dec l) (rd b c) es bs) (entries_from c b (rd b c)) (bodies-from c b (rd b c))

tabled-from : {l c : ℕ} {b : List ℕ} → Tabled l c b → Tabled l 0 (rest c b)
tabled-from {l} {c} {b} t =
    record {
      front = omega arith;
      fit = omega (arith, t.fit, length_rest c b, count-from c b);
      sound = rw (count-from c b, entries_from c b (rd b c), bodies-from c b (rd b c)) t.sound;
    }

-- What is read from bytes.
module _ (l : ℕ) (b : List ℕ) (h : whole l b ≡ true) where
  module _ (all : (i : ℕ) → get_or b i 0 < 256) where
    reads : (enc (dec l b) ≡ b) × WF l (dec l b)
    reads = (parse-iff l b (dec l b) (Bytes-index b all)).0 (sure-yes (type-twin l b) h)

    pub form-is : enc (dec l b) ≡ b
    form-is = reads.0

    pub ordered : Ordered (dec l b)
    ordered = reads.1.1

  pub record-tabled : kind b ≡ 8 → Tabled (l - 1) 0 (rest 2 b)
  record-tabled e = let i = is-record l b h e in tabled-from {c = 2} {b = b} record { front = omega arith; fit = i.fit; sound = i.sound }

  pub action-tabled : kind b ≡ 11 → Tabled (l - 1) 0 (rest 3 b)
  action-tabled e = let i = is-action l b h e in tabled-from {c = 3} {b = b} record { front = omega arith; fit = i.fit; sound = i.sound }

-- Never with a type, and a type with Never.
never-join : (m : Mode) (v : Ty) → direct m (atom never) v ≡ ok v
unfolding direct bound sub same
never-join m (atom k) = refl
never-join m (set t) = refl
never-join m (rec o xs) = refl
never-join m (act n xs) = refl
never-join m (ent ns) = refl
never-join m (ext n) = refl

join-never : (m : Mode) (u : Ty) → direct m u (atom never) ≡ ok u
unfolding direct bound sub same
join-never m (atom never) = refl
join-never m (atom true') = refl
join-never m (atom false') = refl
join-never m (atom bool) = refl
join-never m (atom long) = refl
join-never m (atom string) = refl
join-never m (atom anyset) = refl
join-never m (atom anyent) = refl
join-never m (set t) = refl
join-never m (rec o xs) = refl
join-never m (act n xs) = refl
join-never m (ent ns) = refl
join-never m (ext n) = refl

atom-join : (m : Mode) (a : Atom) → direct m (atom a) (atom a) ≡ ok (atom a)
unfolding direct bound sub
atom-join m never = refl
atom-join m true' = refl
atom-join m false' = refl
atom-join m bool = refl
atom-join m long = refl
atom-join m string = refl
atom-join m anyset = refl
atom-join m anyent = refl

-- A result that is known, and its length.
pub known-length : (r : Result Ty) (c : Ty) (w : List ℕ) (x : ℕ) → r ≡ ok c → enc c ≡ w → x ≡ cap (length w) → ok x ≡ form_length_of enc r
known-length r c w x e f g = ap ok g ∙ sym (rw (e, f) refl)

pub of_length : (r : Result Ty) (c : Ty) (n : ℕ) → r ≡ ok c → length (enc c) ≡ n → n ≤ most_bytes → ok n ≡ form_length_of enc r
of_length r c n e f g = known-length r c (enc c) n e refl (omega arith)

-- A type made of attributes, with n bytes before them.
attributed-length : (r : Result Attrs) (s : Result Ty) (make : Attrs → Ty) (n : ℕ) → ((cs : Attrs) → length (enc (make cs)) ≡ length (table cs) + n) →
    s ≡ bind r (λ cs. ok (make cs)) → (k : Result ℕ) (y : Result ℕ) → k ≡ form_length_of table r → y ≡ plus n k → y ≡ form_length_of enc s
attributed-length r s make n l e k y p q = q ∙ ap (plus n) p ∙ go r ∙ sym (ap (form_length_of enc) e)
  where
    go : (r : Result Attrs) → plus n (form_length_of table r) ≡ form_length_of enc (bind r (λ cs. ok (make cs)))
    go (ok cs) = ap ok (omega (arith, l cs))
    go (err d) = refl

pub extension-long : (n : ℕ) → length (enc (ext n)) ≡ 3
unfolding enc
extension-long n = refl

pub atom-form : (k : Atom) → enc (atom k) ≡ atom_code k ∷ []
unfolding enc
atom-form k = refl

-- Never is the only type of its first byte.
code-never : (t : Ty) → code t ≡ 0 → t ≡ atom never
code-never (atom never) e = refl
code-never (atom true') e = absurd (omega arith)
code-never (atom false') e = absurd (omega arith)
code-never (atom bool) e = absurd (omega arith)
code-never (atom long) e = absurd (omega arith)
code-never (atom string) e = absurd (omega arith)
code-never (atom anyset) e = absurd (omega arith)
code-never (atom anyent) e = absurd (omega arith)
code-never (set t) e = absurd (omega arith)
code-never (rec o xs) e = absurd (omega arith)
code-never (act n xs) e = absurd (omega arith)
code-never (ent ns) e = absurd (omega arith)
code-never (ext n) e = absurd (omega arith)

-- A form's first byte is its type's, and where it is the bound, so is its length.
module _ (t : TypeForm) where
  pub first-byte : {k : ℕ} → k ≡ kind t.bytes.now → code (type_of t) ≡ k
  first-byte e = code-dec t.levels t.bytes.now t.whole ∙ sym e

  pub form-length : (r : Result Ty) {x : ℕ} → r ≡ ok (type_of t) → x ≡ cap (length t.bytes.now) → ok x ≡ form_length_of enc r
  form-length r {x} e f = known-length r (type_of t) (enc (type_of t)) x e refl (f ∙ ap cap (sym (type-length t)))

  -- It has the first byte of a type that is nothing but its kind.
  pub same-atom : {u : Ty} (j k : Kind) (p : IsPlain u j) → kind_number k ≡ kind t.bytes.now → kind_number j ≡ kind_number k → type_of t ≡ atom p.which
  same-atom j k p e f = atom-at t.levels t.bytes.now t.whole (kind_number j) (sym (f ∙ e)) p.which p.kind

  pub other-atom : {u : Ty} (j k : Kind) → IsPlain u j → kind_number k ≡ kind t.bytes.now → (kind_number j ≡ kind_number k → ⊥) → code u ≡ code (type_of t) → ⊥
  other-atom j k p e h z = h (sym (ap code p.is ∙ plain-code p) ∙ z ∙ first-byte e)

-- The bound of two types by what they are made of.
module _ (m : Mode) (u v : Ty) where
  pub partless-left : code u ≡ 0 → partless m u v ≡ ok v
  partless-left e = rw (eq-eqb (code u) 0 e) refl

  pub partless-right : (code u ≡ 0 → ⊥) → code v ≡ 0 → partless m u v ≡ ok u
  partless-right p e = rw (ne_eqb (code u) 0 p, eq-eqb (code v) 0 e) refl

  pub partless-neither : (code u ≡ 0 → ⊥) → (code v ≡ 0 → ⊥) → partless m u v ≡ unlike m (code u) (code v)
  partless-neither p q = rw (ne_eqb (code u) 0 p, ne_eqb (code v) 0 q) refl

  pub codes-join : (code u ≡ code v → ⊥) → direct m u v ≡ partless m u v
  codes-join h = go (ℕ_discrete (code u) 0) (ℕ_discrete (code v) 0)
    where
      go : Dec (code u ≡ 0) → Dec (code v ≡ 0) → direct m u v ≡ partless m u v
      go (yes e) d = ap (λ (t : Ty). direct m t v) (code-never u e) ∙ never-join m v ∙ sym (partless-left e)
      go (no p) (yes e) = ap (direct m u) (code-never v e) ∙ join-never m u ∙ sym (partless-right p e)
      go (no p) (no q) = unlike-is m u v h p q ∙ sym (partless-neither p q)

  -- Neither is Never, and these are their kinds.
  pub partless-kinds : {j k : ℕ} → code u ≡ j → code v ≡ k → (j ≡ 0 → ⊥) → (k ≡ 0 → ⊥) → unlike m j k ≡ partless m u v
  partless-kinds e f p q = ap₂ (unlike m) (sym e) (sym f) ∙ sym (partless-neither (λ z. p (sym e ∙ z)) (λ z. q (sym f ∙ z)))

  pub atoms-length : (a : Atom) → u ≡ atom a → v ≡ atom a → ok 1 ≡ form_length_of enc (direct m u v)
  atoms-length a p q = of_length (direct m u v) (atom a) 1 (rw (p, q) (atom-join m a)) (ap length (atom-form a)) (omega arith)

  module _ {x y : Ty} (p : u ≡ set x) (q : v ≡ set y) where
    pub sets-join : direct m u v ≡ join_set m (direct m x y)
    unfolding direct
    sets-join = rw (p, q) refl

  module _ {o o' : Bool} {xs ys : Attrs} (p : u ≡ rec o xs) (q : v ≡ rec o' ys) where
    pub records-join : direct m u v ≡ bind (joined_attrs m xs ys) (λ cs. ok (join_record o o' xs ys cs))
    unfolding direct
    records-join = rw (p, q) refl

    pub records-length : (n k : Result ℕ) → n ≡ form_length_of table (joined_attrs m xs ys) → k ≡ plus 4 n → k ≡ form_length_of enc (direct m u v)
    records-length =
        attributed-length (joined_attrs m xs ys) (direct m u v) (join_record o o' xs ys) 4 (λ cs. record-long (o || o' || lost cs xs ys) cs) records-join

  module _ {ns ks : List ℕ} (p : u ≡ ent ns) (q : v ≡ ent ks) where
    pub entities-join : direct m u v ≡ direct_names m ns ks
    unfolding direct
    entities-join = rw (p, q) refl

  module _ {n k : ℕ} {xs ys : Attrs} (p : u ≡ act n xs) (q : v ≡ act k ys) where
    pub actions-join : n ≡ k → direct m u v ≡ bind (joined_attrs strict xs ys) (λ cs. ok (act n cs))
    unfolding direct
    actions-join e = rw (p, q, eq-eqb n k e) refl

    pub actions-length : n ≡ k → (x y : Result ℕ) → x ≡ form_length_of table (joined_attrs strict xs ys) → y ≡ plus 5 x → y ≡ form_length_of enc (direct m u v)
    actions-length e = attributed-length (joined_attrs strict xs ys) (direct m u v) (act n) 5 (action-long n) (actions-join e)

    pub actions-apart : (n ≡ k → ⊥) → direct m u v ≡ partless m u v
    unfolding direct
    actions-apart h = rw (p, q, ne_eqb n k h) refl

  module _ {n k : ℕ} (p : u ≡ ext n) (q : v ≡ ext k) where
    pub extensions-join : n ≡ k → direct m u v ≡ ok (ext n)
    unfolding direct bound sub same
    extensions-join e = rw (p, q, ← e, eq-eqb n n refl) refl

    pub extensions-length : n ≡ k → ok 3 ≡ form_length_of enc (direct m u v)
    extensions-length e = of_length (direct m u v) (ext n) 3 (extensions-join e) (extension-long n) (omega arith)

    pub extensions-apart : (n ≡ k → ⊥) → direct m u v ≡ partless m u v
    unfolding direct bound sub same
    extensions-apart h = rw (p, q, ne_eqb n k h, ne_eqb k n (λ z. h (sym z))) refl

-- The bound of two whole forms.
module _ (m : Mode) (l : ℕ) (a b : List ℕ) (ha : whole l a ≡ true) (hb : whole l b ≡ true) where
  abbrev pub joins : Result Ty
  joins = direct m (dec l a) (dec l b)

  pub never-left : kind a ≡ 0 → joins ≡ ok (dec l b)
  never-left e = ap (λ (u : Ty). direct m u (dec l b)) (atom-at l a ha 0 e never refl) ∙ never-join m (dec l b)

  pub never-right : kind b ≡ 0 → joins ≡ ok (dec l a)
  never-right e = ap (λ (v : Ty). direct m (dec l a) v) (atom-at l b hb 0 e never refl) ∙ join-never m (dec l a)

  pub unlike-join : (kind a ≡ kind b → ⊥) → (kind a ≡ 0 → ⊥) → (kind b ≡ 0 → ⊥) → joins ≡ unlike m (kind a) (kind b)
  unlike-join p q r =
      let ca = code-dec l a ha in
      let cb = code-dec l b hb in
      unlike-is m (dec l a) (dec l b) (λ e. p (sym ca ∙ e ∙ cb)) (λ e. q (sym ca ∙ e)) (λ e. r (sym cb ∙ e)) ∙ rw (ca, cb) refl

  pub set-join : kind a ≡ 7 → kind b ≡ 7 → joins ≡ join_set m (direct m (dec (l - 1) (rest 1 a)) (dec (l - 1) (rest 1 b)))
  set-join e f = sets-join m (dec l a) (dec l b) (is_set l a ha e).is (is_set l b hb f).is

  pub sets-length : kind a ≡ 7 → kind b ≡ 7 → (x y : Result ℕ) → x ≡ form_length_of enc (direct m (dec (l - 1) (rest 1 a)) (dec (l - 1) (rest 1 b))) →
      y ≡ set_length m x → y ≡ form_length_of enc joins
  sets-length e f x y p q =
      q ∙ ap (set_length m) p ∙ joined_length m (direct m (dec (l - 1) (rest 1 a)) (dec (l - 1) (rest 1 b))) ∙ sym (ap (form_length_of enc) (set-join e f))

  pub record-join : kind a ≡ 8 → kind b ≡ 8 →
      joins ≡ bind (joined_attrs m (attrs_at (l - 1) 2 a) (attrs_at (l - 1) 2 b))
      (λ cs. ok (join_record (eqb (get_or a 1 0) 1) (eqb (get_or b 1 0) 1) (attrs_at (l - 1) 2 a) (attrs_at (l - 1) 2 b) cs))
  record-join e f = records-join m (dec l a) (dec l b) (is-record l a ha e).is (is-record l b hb f).is

  module _ (e : kind a ≡ 11) (f : kind b ≡ 11) (n k : ℕ) (q : n ≡ rd a 1) (r : k ≡ rd b 1) where
    pub action-join : n ≡ k →
        joins ≡ bind (joined_attrs strict (attrs_at (l - 1) 3 a) (attrs_at (l - 1) 3 b)) (λ cs. ok (act (rd a 1) cs))
    action-join g = actions-join m (dec l a) (dec l b) (is-action l a ha e).is (is-action l b hb f).is (sym q ∙ g ∙ r)

    pub action-apart : (n ≡ k → ⊥) → joins ≡ unlike m 11 11
    unfolding direct
    action-apart g = rw ((is-action l a ha e).is, (is-action l b hb f).is, ne_eqb (rd a 1) (rd b 1) (λ z. g (q ∙ z ∙ sym r))) refl

  module _ (e : kind a ≡ 12) (f : kind b ≡ 12) (n k : ℕ) (q : n ≡ rd a 1) (r : k ≡ rd b 1) where
    pub extension-join : n ≡ k → joins ≡ ok (ext (rd a 1))
    extension-join g = extensions-join m (dec l a) (dec l b) (is-extension l a ha e).is (is-extension l b hb f).is (sym q ∙ g ∙ r)

    pub extension-apart : (n ≡ k → ⊥) → joins ≡ unlike m 12 12
    unfolding direct bound sub same
    extension-apart g =
        let p = ne_eqb (rd a 1) (rd b 1) (λ z. g (q ∙ z ∙ sym r)) in
        let p' = ne_eqb (rd b 1) (rd a 1) (λ z. g (q ∙ sym z ∙ sym r)) in
        rw ((is-extension l a ha e).is, (is-extension l b hb f).is, p, p') refl

  pub entity-join : kind a ≡ 10 → kind b ≡ 10 → joins ≡ direct_names m (names_by 2 (rd a 1) (rest 3 a)) (names_by 2 (rd b 1) (rest 3 b))
  entity-join e f = entities-join m (dec l a) (dec l b) (is-entity l a ha e).is (is-entity l b hb f).is

  pub atoms-join : kind a ≡ kind b → (kind a ≡ 7 → ⊥) → (kind a ≡ 8 → ⊥) → (kind a ≡ 10 → ⊥) → (kind a ≡ 11 → ⊥) → (kind a ≡ 12 → ⊥) →
      (k : Atom) × ((joins ≡ ok (atom k)) × (atom_code k ≡ kind a))
  atoms-join e p7 p8 p10 p11 p12 =
      let i = is-atom l a ha p7 p8 p10 p11 p12 in
      let j = is-atom l b hb (λ q. p7 (e ∙ q)) (λ q. p8 (e ∙ q)) (λ q. p10 (e ∙ q)) (λ q. p11 (e ∙ q)) (λ q. p12 (e ∙ q)) in
      let s : one j.kind-of ≡ one i.kind-of = sym j.kind-is ∙ ap kind_of (sym e) ∙ i.kind-is in
      let z : j.kind-of ≡ i.kind-of = cc in
      (i.kind-of, (rw (i.is, j.is, z) (atom-join m i.kind-of), atom-code i))
