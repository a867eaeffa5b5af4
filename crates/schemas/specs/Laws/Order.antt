-- Entries that may follow. Assumes nothing.
use Rattle.std.specs.Prelude.{◌≡◌, refl, List, Bool, true, false, not, ◌||◌, ℕ, ◌≤◌, ◌<◌, leb, ltb, get_or}
use Rattle.std.proofs.Common.{ap, sym, ◌∙◌, arith, le-leb, le-ltb, eq-eqb, ne_eqb}
use Rattle.std.proofs.lemmas.Bool.{lt-leb, not-true, not-false}
use Rattle.cedar.specs.Types.{is_action}
use Rattle.forms.specs.Parts.{rd}
use Rattle.schemas.specs.SchemaBytes.{entity_row, action_row, function_row}

-- An entity entry.
module _ (e : List ℕ) (low name : ℕ) (q : name ≡ rd e 0) (y : Bool) (p : y ≡ is_action name) where
  named : is_action (rd e 0) ≡ y
  named = sym (p ∙ ap is_action q)

  pub entity-odd : y ≡ true → false ≡ entity_row.ok low e
  entity-odd h = rw (named, h) refl

  pub entity-kind : y ≡ false → 1 < get_or e 2 0 → false ≡ entity_row.ok low e
  entity-kind h g = rw (named, h, lt-leb (get_or e 2 0) 1 g) refl

  pub entity-open : y ≡ false → get_or e 2 0 ≤ 1 → leb low name ≡ entity_row.ok low e
  entity-open h g = rw (named, h, le-leb (get_or e 2 0) 1 g, q) refl

  -- An action entry.
  module _ (id : ℕ) where
    pub action-even : not y ≡ true → false ≡ action_row.ok (low, id) e
    action-even h = rw (named, not-true y h) refl

    module _ (h : not y ≡ false) where
      pub action-same : name ≡ low → (i : ℕ) → i ≡ rd e 2 → leb id i ≡ action_row.ok (low, id) e
      action-same g i j = rw (named, not-false y h, le-ltb low (rd e 0) (omega arith), eq-eqb low (rd e 0) (omega arith), j) refl

      pub action-open : (name ≡ low → ⊥) → ltb low name ≡ action_row.ok (low, id) e
      action-open g = rw (named, not-false y h, ne_eqb low (rd e 0) (λ z. g (q ∙ sym z)), q) (sym (or-false (ltb low (rd e 0))))
        where
          or-false : (b : Bool) → b || false ≡ b
          or-false true = refl
          or-false false = refl

-- A function entry.
module _ (e : List ℕ) (low name : ℕ) (q : name ≡ rd e 0) where
  pub function-returns : get_or e 2 0 ≡ 1 → leb low name ≡ function_row.ok low e
  function-returns h = rw (h, q) refl

  module _ (h : get_or e 2 0 ≡ 1 → ⊥) where
    pub function-flag : (get_or e 2 0 ≡ 0 → ⊥) → false ≡ function_row.ok low e
    function-flag g = rw (lt-leb (get_or e 2 0) 1 (let z : 1 < get_or e 2 0 = omega arith in z)) refl

    pub function-named : get_or e 2 0 ≡ 0 → (m : ℕ) → m ≡ rd e 3 → (m ≡ 0 → ⊥) → false ≡ function_row.ok low e
    function-named g m j n = rw (g, ne_eqb (rd e 3) 0 (λ z. n (j ∙ z))) refl

    pub function-open : get_or e 2 0 ≡ 0 → (m : ℕ) → m ≡ rd e 3 → m ≡ 0 → leb low name ≡ function_row.ok low e
    function-open g m j n = rw (g, eq-eqb (rd e 3) 0 (sym j ∙ n), q) refl
