-- Equal forms have equal bytes: names, and types. Assumes nothing.
use Rattle.std.specs.Prelude.{◌≡◌, refl, List, [], ◌∷◌, Bool, ◌&&◌, ℕ, ◌+◌, ◌*◌, ◌/◌, T, eqb, length}
use Rattle.std.proofs.Common.{ap, sym, ◌∙◌, arith, eq-eqb}
use lib.Pointwise.{pointwise}
use Rattle.cedar.specs.Bytes.{Bytes, enc_names}
use Rattle.cedar.specs.Types.{eq_names, same}
use Rattle.cedar.specs.TypeForm.{enc}
use Rattle.cedar.specs.Laws.Shape.{WF}
use Rattle.cedar.proofs.Laws.Tests.{T-ext}
use Rattle.cedar.proofs.Laws.Equality.{eq_names→eq, eq_names-refl, same→eq, same_refl}
use Rattle.cedar.proofs.Laws.Bytes.{parse_names-some}
use Rattle.cedar.proofs.Laws.TypeForm.{parse-reads, enc-injective}
use Rattle.forms.specs.Names.{names_in, Ascending}
use Rattle.forms.specs.TypeForms.{type_of}
use Rattle.forms.specs.declared.type_forms.TypeForm.{TypeForm}
use Rattle.forms.specs.Laws.Sure.{sure-yes}
use Rattle.forms.specs.Laws.TypeTwin.{names-twin, type-twin}

-- What `==` of slices answers.
pub same-bytes : (a b : List ℕ) → pointwise eqb a b ≡ eq_names a b
same-bytes [] [] = refl
same-bytes [] (y ∷ ys) = refl
same-bytes (x ∷ xs) [] = refl
same-bytes (x ∷ xs) (y ∷ ys) = ap (λ z. eqb x y && z) (same-bytes xs ys)

-- What is written from equal things is equal, and what is read from equal bytes too: a test of the things is one of the bytes.
module _ {A : Type 0} (write : A → List ℕ) (x y : A) (a b : List ℕ) (p : write x ≡ a) (q : write y ≡ b) where
  pub bytes-test : (s : Bool) → (T s → x ≡ y) → (x ≡ y → T s) → (a ≡ b → x ≡ y) → eq_names a b ≡ s
  bytes-test s f g h =
      T-ext (eq_names a b) s (λ t. g (h (eq_names→eq a b t)))
      (λ t. let e : a ≡ b = sym p ∙ ap write (f t) ∙ q in rw e (eq_names-refl b))

-- Names, two bytes each.
pub same-names : (a b : List ℕ) → Bytes a → Bytes b → Ascending a → Ascending b → eq_names a b ≡ eq_names (names_in a) (names_in b)
same-names a b x y f g =
    bytes-test enc_names (names_in a) (names_in b) a b (written a x f) (written b y g) (eq_names (names_in a) (names_in b))
    (λ t. eq_names→eq (names_in a) (names_in b) t) (λ e. rw e (eq_names-refl (names_in b))) (λ e. ap names_in e)
  where
    written : (c : List ℕ) → Bytes c → Ascending c → enc_names (names_in c) ≡ c
    written c z s =
        let n = length c / 2 in
        (parse_names-some n s.low c (names_in c) z (sure-yes (names-twin n s.low c) (rw (eq-eqb (length c) (2 * n) s.even) s.up))).0

-- A type's form is what is written of it.
type-written : (t : TypeForm) → Bytes t.bytes.now → (enc (type_of t) ≡ t.bytes.now) × WF t.levels (type_of t)
type-written t z = (parse-reads t.levels).into t.bytes.now (type_of t) z (sure-yes (type-twin t.levels t.bytes.now) t.whole)

-- Types.
pub same-types : (t u : TypeForm) → Bytes t.bytes.now → Bytes u.bytes.now → eq_names t.bytes.now u.bytes.now ≡ same (type_of t) (type_of u)
same-types t u x y =
    let p = type-written t x in
    let q = type-written u y in
    bytes-test enc (type_of t) (type_of u) t.bytes.now u.bytes.now p.0 q.0 (same (type_of t) (type_of u))
    (λ s. same→eq (type_of t) (type_of u) s) (λ e. rw e (same_refl (type_of u)))
    (λ e. enc-injective (t.levels + u.levels) (type_of t) (type_of u) (omega (arith, p.1.0), p.1.1) (omega (arith, q.1.0), q.1.1) (p.0 ∙ e ∙ sym q.0))
