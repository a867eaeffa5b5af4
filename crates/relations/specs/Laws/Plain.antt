-- Whether a type is plain, by what it is made of. Assumes nothing.
use Rattle.std.specs.Prelude.{◌≡◌, List, Bool, true, false, ◌&&◌, ℕ, ◌/◌, eqb, length}
use Rattle.std.proofs.Math.Path.{refl, ap, sym}
use Rattle.std.proofs.Common.{◌∙◌, arith}
use Rattle.cedar.specs.Types.{Ty, set, rec, act, ent, ext, Attrs, nil}
use Rattle.cedar.specs.Consistency.{plain, plain_attrs}
use Rattle.forms.specs.Kinds.{kind_number}
use Rattle.forms.specs.Names.{names_in, Ascending}
use Rattle.forms.specs.TypeForms.{type_of, listed, IsPlain, TookFirstAttribute}
use Rattle.forms.specs.declared.kinds.Kind.{Kind}
use Rattle.forms.specs.declared.type_forms.AttributeForm.{AttributeForm}
use Rattle.forms.specs.declared.type_forms.AttributeForms.{AttributeForms}
use Rattle.forms.specs.Laws.Names.{names-length}
use Rattle.forms.specs.Laws.Sure.{eqb_same}
use Rattle.forms.specs.Laws.TypeForms.{plain-code}
use Rattle.relations.specs.Meets.{plain_kind}
use Rattle.relations.specs.Laws.Meets.{plain-atom, plain_code}
use Rattle.forms.specs.Parts.{kind}
use Rattle.forms.specs.TypeBytes.{whole, dec}
use Rattle.forms.specs.Laws.Codes.{code-dec}

-- A walk that has come so far: what is left answers for the whole.
pub plain-end : {all : Bool} {xs : Attrs} → all ≡ plain_attrs xs → xs ≡ nil → true ≡ all
unfolding plain
plain-end i h = sym (i ∙ ap plain_attrs h)

module _ {all : Bool} {xs : AttributeForms} (i : all ≡ plain_attrs (listed xs)) where
  module _ {ys : AttributeForms} {a : AttributeForm} (t : TookFirstAttribute xs ys a) (x : Bool) (xq : x ≡ plain (type_of a.form)) where
    step : all ≡ (x && plain_attrs (listed ys))
    unfolding plain
    step = i ∙ ap plain_attrs t.all ∙ rw xq refl

    pub plain-not : x ≡ false → false ≡ all
    plain-not h = sym (step ∙ rw h refl)

    pub plain-again : x ≡ true → all ≡ plain_attrs (listed ys)
    plain-again h = step ∙ rw h refl

module _ (t : Ty) where
  pub plain-set : {x : Ty} → t ≡ set x → plain x ≡ plain t
  unfolding plain
  plain-set e = sym (ap plain e)

  pub plain-record : {o : Bool} {xs : Attrs} → t ≡ rec o xs → plain_attrs xs ≡ plain t
  unfolding plain
  plain-record e = sym (ap plain e)

  pub plain-entity : (ns : List ℕ) → t ≡ ent (names_in ns) → Ascending ns → eqb (length ns) 2 ≡ plain t
  unfolding plain
  plain-entity ns e s =
      eqb_same (length ns) 2 (length ns / 2) 1 (λ z. omega (arith, z)) (λ z. omega (arith, s.even, z))
      ∙ sym (ap plain e ∙ ap (λ (n : ℕ). eqb n 1) (names-length 2 (length ns / 2) ns))

  pub plain-action : {n : ℕ} {xs : Attrs} → t ≡ act n xs → false ≡ plain t
  unfolding plain
  plain-action e = sym (ap plain e)

  pub plain-extension : {n : ℕ} → t ≡ ext n → true ≡ plain t
  unfolding plain
  plain-extension e = sym (ap plain e)

  pub plain-plain : {k : Kind} → IsPlain t k → plain_kind (kind_number k) ≡ plain t
  plain-plain p = ap plain_kind (sym (plain-code p)) ∙ plain-atom p.which ∙ sym (ap plain p.is)

-- A form of a kind without parts, or of an action, by its first byte.
pub plain_other : (l : ℕ) (b : List ℕ) → whole l b ≡ true → (kind b ≡ 7 → ⊥) → (kind b ≡ 8 → ⊥) → (kind b ≡ 10 → ⊥) → (kind b ≡ 12 → ⊥) →
    plain_kind (kind b) ≡ plain (dec l b)
plain_other l b h p q r s =
    let c = code-dec l b h in
    ap plain_kind (sym c) ∙ plain_code (dec l b) (λ z. p (sym c ∙ z)) (λ z. q (sym c ∙ z)) (λ z. r (sym c ∙ z)) (λ z. s (sym c ∙ z))
