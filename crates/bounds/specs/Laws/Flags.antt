-- Two tests joined, where the first is of two numbers, or is a Boolean. Assumes nothing.
use Rattle.std.specs.Prelude.{◌≡◌, refl, Bool, true, false, ◌&&◌, ◌||◌, ℕ, eqb}
use Rattle.std.proofs.Common.{◌∙◌, eq-eqb, ne_eqb}

module _ (a b : ℕ) (y z : Bool) where
  pub and-equal : a ≡ b → z ≡ y → z ≡ (eqb a b && y)
  and-equal e q = q ∙ rw (eq-eqb a b e) refl

  pub and-unequal : (a ≡ b → ⊥) → z ≡ eqb a b → z ≡ (eqb a b && y)
  and-unequal n q = q ∙ rw (ne_eqb a b n) refl

  pub or-equal : a ≡ b → z ≡ eqb a b → z ≡ (eqb a b || y)
  or-equal e q = q ∙ rw (eq-eqb a b e) refl

  pub or-unequal : (a ≡ b → ⊥) → z ≡ y → z ≡ (eqb a b || y)
  or-unequal n q = q ∙ rw (ne_eqb a b n) refl

module _ (x y z : Bool) where
  pub or-true : x ≡ true → z ≡ x → z ≡ (x || y)
  or-true e q = q ∙ rw e refl

  pub or-other : x ≡ false → z ≡ y → z ≡ (x || y)
  or-other e q = q ∙ rw e refl
