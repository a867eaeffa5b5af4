-- A type under another, by what they are made of. Assumes nothing.
use Rattle.std.specs.Prelude.{◌≡◌, refl, Bool, true, false, ◌||◌, ◌&&◌, ℕ, eqb}
use Rattle.std.proofs.Common.{ap, ◌∙◌, ◌⊎◌, inl, inr}
use Rattle.std.proofs.Math.Path.{ap₂, sym}
use Rattle.std.proofs.Math.Option.{none}
use mathlib.Core.List.{List}
use Rattle.cedar.specs.Types.{Mode, Atom, Ty, Attrs, atom, set, rec, act, ent, ext, never, is, same, names, is_never, as_set, as_rec, as_ent, eq_names}
use Rattle.cedar.specs.Subtype.{sub_names, sub, sub_attrs}
use Rattle.cedar.proofs.Laws.Tests.{T→true, or_inl, or_inr}
use Rattle.cedar.proofs.Laws.Equality.{is-refl}
use Rattle.forms.specs.Codes.{code}
use Rattle.forms.specs.Kinds.{kind_number}
use Rattle.forms.specs.TypeForms.{type_of, IsPlain, Shaped}
use Rattle.forms.specs.declared.type_forms.TypeForm.{TypeForm}
use Rattle.forms.specs.declared.type_forms.AttributeForms.{AttributeForms}
use Rattle.forms.specs.declared.type_forms.Shape.{Shape}
use Rattle.forms.specs.declared.type_forms.Shape.TheVariants as shape
use Rattle.forms.specs.declared.kinds.Kind.{Kind}
use Rattle.forms.specs.Laws.TypeForms.{plain-code}
use Rattle.relations.specs.Under.{kind_under, record_under}
use Rattle.relations.specs.Laws.Under.{never-code, atom-of, under-atom, one-injective, sub-kinds}
use Rattle.cedar.specs.Bytes.{Bytes}
use Rattle.cedar.specs.TypeForm.{kind_of}
use Rattle.forms.specs.Parts.{kind}
use Rattle.forms.specs.TypeBytes.{whole, dec}
use Rattle.forms.specs.Laws.Views.{is-action, is-extension, is-atom}
use Rattle.forms.specs.Laws.Codes.{code-dec}
use Rattle.relations.specs.Laws.SameForm.{same-types}

itself-under : (m : Mode) (k : Atom) → sub m (atom k) (atom k) ≡ true
unfolding sub
itself-under m k = T→true _ (or_inr (is k never) _ (or_inl (is k k) _ (is-refl k)))

or-false : (x : Bool) → x || false ≡ x
or-false true = refl
or-false false = refl

module _ (m : Mode) (a b : Ty) where
  pub set-under : {x y : Ty} → a ≡ set x → b ≡ set y → sub m x y ≡ sub m a b
  unfolding sub
  set-under p q = sym (ap₂ (sub m) p q)

  pub entity-under : {ns ks : List ℕ} → a ≡ ent ns → b ≡ ent ks → sub_names m ns ks ≡ sub m a b
  unfolding sub
  entity-under p q = sym (ap₂ (sub m) p q)

  -- Records, by their attributes.
  module _ {o p : Bool} {xs ys : Attrs} (aq : a ≡ rec o xs) (bq : b ≡ rec p ys) (x : Bool) (q : x ≡ record_under m o (names xs) p (names ys)) where
    records : sub m a b ≡ (x && sub_attrs m xs ys)
    unfolding sub record_under
    records = ap₂ (sub m) aq bq ∙ rw q refl

    pub record-under : x ≡ true → (y : Bool) → y ≡ sub_attrs m xs ys → y ≡ sub m a b
    record-under z y yq = yq ∙ sym (records ∙ rw z refl)

    pub record-not : x ≡ false → x ≡ sub m a b
    record-not z = z ∙ sym (records ∙ rw z refl)

  -- By the kind of the lower type.
  module _ (n : ℕ) (c : n ≡ code a) where
    never-is : eqb n 0 ≡ is_never a
    never-is = ap (λ (j : ℕ). eqb j 0) c ∙ sym (never-code a)

    pub not-set : {y : Ty} → as_set a ≡ none → b ≡ set y → eqb n 0 ≡ sub m a b
    unfolding sub
    not-set e q = never-is ∙ sym (ap (sub m a) q ∙ rw e (or-false (is_never a)))

    pub not-record : {o : Bool} {ys : Attrs} → as_rec a ≡ none → b ≡ rec o ys → eqb n 0 ≡ sub m a b
    unfolding sub
    not-record e q = never-is ∙ sym (ap (sub m a) q ∙ rw e (or-false (is_never a)))

    pub not-entity : {ks : List ℕ} → as_ent a ≡ none → b ≡ ent ks → eqb n 0 ≡ sub m a b
    unfolding sub
    not-entity e q = never-is ∙ sym (ap (sub m a) q ∙ rw e (or-false (is_never a)))

    -- Actions and extensions: Never, or the same.
    pub never-under : sub m a b ≡ (is_never a || same a b) → eqb n 0 ≡ true → true ≡ sub m a b
    never-under s h = sym (s ∙ rw (sym never-is ∙ h) refl)

    pub same-under : sub m a b ≡ (is_never a || same a b) → eqb n 0 ≡ false → same a b ≡ sub m a b
    same-under s h = sym (s ∙ rw (sym never-is ∙ h) refl)

    -- A type without parts.
    module _ {k : Kind} (p : IsPlain b k) where
      pub alike-under : n ≡ kind_number k → true ≡ sub m a b
      alike-under e =
          sym (ap₂ (sub m) (atom-of a p.which (sym c ∙ e ∙ sym (plain-code p))) p.is ∙ itself-under m p.which)

      pub unlike-under : (n ≡ kind_number k → ⊥) → kind_under m n (kind_number k) ≡ sub m a b
      unfolding sub
      unlike-under h =
          let u = under-atom m a p.which (λ e. h (c ∙ e ∙ plain-code p)) in
          sym (ap (sub m a) p.is ∙ u ∙ ap₂ (kind_under m) (sym c) (plain-code p))

-- Under an action or an extension stand Never and the same.
module _ (m : Mode) (a : Ty) where
  under-action : (b : Ty) {n : ℕ} {ys : Attrs} → b ≡ act n ys → sub m a b ≡ (is_never a || same a b)
  unfolding sub
  under-action b e = rw e refl

  under-extension : (b : Ty) {n : ℕ} → b ≡ ext n → sub m a b ≡ (is_never a || same a b)
  unfolding sub
  under-extension b e = rw e refl

  pub same-only : (t : TypeForm) (s : Shape) → Shaped t s → ((n : ℕ) × (xs : AttributeForms) × (s ≡ shape.Action n xs)) ⊎ ((n : ℕ) × (s ≡ shape.Extension n)) →
      sub m a (type_of t) ≡ (is_never a || same a (type_of t))
  same-only t s p (inl (n, xs, e)) = under-action (type_of t) (rw e at p).0
  same-only t s p (inr (n, e)) = under-extension (type_of t) (rw e at p).0

-- The same of whole forms, by their first bytes.
module _ (m : Mode) (l : ℕ) (a b : List ℕ) (h : whole l a ≡ true) (g : whole l b ≡ true) where
  -- Unlike kinds.
  pub unlike-kinds : (kind a ≡ kind b → ⊥) → (r : Bool) → r ≡ kind_under m (kind a) (kind b) → r ≡ sub m (dec l a) (dec l b)
  unlike-kinds n r q =
      q ∙ sym (sub-kinds m (dec l a) (dec l b) (λ e. n (sym (code-dec l a h) ∙ e ∙ code-dec l b g)) ∙ ap₂ (kind_under m) (code-dec l a h) (code-dec l b g))

  -- Kinds that are alike.
  module _ (e : kind a ≡ kind b) where
    pub action-under : Bytes a → Bytes b → kind b ≡ 11 → eq_names a b ≡ sub m (dec l a) (dec l b)
    unfolding sub
    action-under x y k =
        let s = (is-action l a h (e ∙ k)).is in
        let t = (is-action l b g k).is in
        same-types l a b x y h g ∙ ap₂ same s t ∙ sym (ap₂ (sub m) s t)

    pub extension-under : Bytes a → Bytes b → kind b ≡ 12 → eq_names a b ≡ sub m (dec l a) (dec l b)
    unfolding sub
    extension-under x y k =
        let s = (is-extension l a h (e ∙ k)).is in
        let t = (is-extension l b g k).is in
        same-types l a b x y h g ∙ ap₂ same s t ∙ sym (ap₂ (sub m) s t)

    pub atoms-under : (kind b ≡ 7 → ⊥) → (kind b ≡ 8 → ⊥) → (kind b ≡ 10 → ⊥) → (kind b ≡ 11 → ⊥) → (kind b ≡ 12 → ⊥) → true ≡ sub m (dec l a) (dec l b)
    atoms-under p q r s t =
        let x = is-atom l a h (λ z. p (sym e ∙ z)) (λ z. q (sym e ∙ z)) (λ z. r (sym e ∙ z)) (λ z. s (sym e ∙ z)) (λ z. t (sym e ∙ z)) in
        let y = is-atom l b g p q r s t in
        let j : x.kind-of ≡ y.kind-of = one-injective (sym x.kind-is ∙ ap kind_of e ∙ y.kind-is) in
        sym (ap₂ (sub m) (x.is ∙ ap atom j) y.is ∙ itself-under m y.kind-of)
