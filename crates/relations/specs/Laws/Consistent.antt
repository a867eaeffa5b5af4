-- A type with a core type, by what they are made of. Assumes nothing.
use Rattle.std.specs.Prelude.{◌≡◌, refl, Bool, true, false, ◌&&◌, ℕ}
use Rattle.std.proofs.Math.Path.{ap, sym}
use Rattle.std.proofs.Math.Option.{none}
use Rattle.std.proofs.Common.{ap₂, ◌∙◌}
use mathlib.Core.List.{List}
use Rattle.cedar.specs.Types.{Ty, Attrs, atom, set, rec, act, ent, ext, same, as_set, as_rec}
use Rattle.cedar.specs.Consistency.{consistent_atom, consistent_entity, consistent, consistent_attrs, covered_names}
use Rattle.forms.specs.Codes.{code}
use Rattle.forms.specs.Kinds.{kind_number}
use Rattle.forms.specs.TypeForms.{IsPlain}
use Rattle.forms.specs.declared.kinds.Kind.{Kind}
use Rattle.forms.specs.Laws.TypeForms.{plain-code}
use Rattle.relations.specs.Meets.{plain_kind, kind_meets}
use Rattle.relations.specs.Laws.Under.{atom-of}
use Rattle.relations.specs.Laws.Meets.{atom-meets, meets-atom, consistent-kinds, kinds-meet}
use Rattle.forms.specs.Parts.{kind}
use Rattle.forms.specs.TypeBytes.{whole, dec}
use Rattle.forms.specs.Laws.Codes.{code-dec}

module _ (a b : Ty) where
  pub with-set : {x y : Ty} → a ≡ set x → b ≡ set y → consistent x y ≡ consistent a b
  unfolding consistent
  with-set p q = sym (ap₂ consistent p q)

  pub set-not : {y : Ty} → as_set a ≡ none → b ≡ set y → false ≡ consistent a b
  unfolding consistent
  set-not e q = sym (ap (consistent a) q ∙ rw e refl)

  pub with-entity : {ks : List ℕ} → b ≡ ent ks → consistent_entity a ks ≡ consistent a b
  unfolding consistent
  with-entity q = sym (ap (consistent a) q)

  pub with-action : {n : ℕ} {ys : Attrs} → b ≡ act n ys → false ≡ consistent a b
  unfolding consistent
  with-action q = sym (ap (consistent a) q)

  pub with-extension : {n : ℕ} → b ≡ ext n → same a b ≡ consistent a b
  unfolding consistent
  with-extension q = rw q refl

  -- Records, by their attributes.
  pub record-not : {p : Bool} {ys : Attrs} → as_rec a ≡ none → b ≡ rec p ys → false ≡ consistent a b
  unfolding consistent
  record-not e q = sym (ap (consistent a) q ∙ rw e refl)

  module _ {o p : Bool} {xs ys : Attrs} (aq : a ≡ rec o xs) (bq : b ≡ rec p ys) (x : Bool) (q : x ≡ consistent_attrs o xs ys) where
    records : consistent a b ≡ (x && covered_names xs p ys)
    unfolding consistent
    records = ap₂ consistent aq bq ∙ rw q refl

    pub attributes-not : x ≡ false → x ≡ consistent a b
    attributes-not z = z ∙ sym (records ∙ rw z refl)

    pub with-record : x ≡ true → (y : Bool) → y ≡ covered_names xs p ys → y ≡ consistent a b
    with-record z y yq = yq ∙ sym (records ∙ rw z refl)

  -- A type without parts, by its kind.
  module _ (n : ℕ) (c : n ≡ code a) {k : Kind} (p : IsPlain b k) where
    with-atom : consistent a b ≡ consistent_atom a p.which
    unfolding consistent
    with-atom = ap (consistent a) p.is

    pub with-alike : n ≡ kind_number k → plain_kind (kind_number k) ≡ consistent a b
    with-alike e =
        let s : a ≡ atom p.which = atom-of a p.which (sym c ∙ e ∙ sym (plain-code p)) in
        ap plain_kind (sym (plain-code p)) ∙ atom-meets p.which ∙ sym (with-atom ∙ ap (λ (z : Ty). consistent_atom z p.which) s)

    pub with-unlike : (n ≡ kind_number k → ⊥) → kind_meets n (kind_number k) ≡ consistent a b
    with-unlike h =
        sym (with-atom ∙ meets-atom a p.which (λ e. h (c ∙ e ∙ plain-code p)) ∙ ap₂ kind_meets (sym c) (plain-code p))

-- The same of whole forms, by their first bytes.
module _ (l : ℕ) (a b : List ℕ) (h : whole l a ≡ true) (g : whole l b ≡ true) where
  pub unlike-kinds : (kind b ≡ 10 → ⊥) → (kind a ≡ kind b → ⊥) → kind_meets (kind a) (kind b) ≡ consistent (dec l a) (dec l b)
  unlike-kinds k n =
      sym (consistent-kinds (dec l a) (dec l b) (λ e. n (sym (code-dec l a h) ∙ e ∙ code-dec l b g)) (λ e. k (sym (code-dec l b g) ∙ e)) ∙
      ap₂ kind_meets (code-dec l a h) (code-dec l b g))

  -- Kinds that are alike.
  module _ (e : kind a ≡ kind b) where
    pub with-kind : (kind b ≡ 10 → ⊥) → (kind b ≡ 7 → ⊥) → (kind b ≡ 8 → ⊥) → (kind b ≡ 12 → ⊥) → plain_kind (kind b) ≡ consistent (dec l a) (dec l b)
    with-kind r p q s =
        let c = code-dec l b g in
        ap plain_kind (sym c)
        ∙ kinds-meet (dec l a) (dec l b) (code-dec l a h ∙ e ∙ sym c) (λ z. p (sym c ∙ z)) (λ z. q (sym c ∙ z)) (λ z. r (sym c ∙ z)) (λ z. s (sym c ∙ z))
