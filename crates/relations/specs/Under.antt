-- Subtypes by what a form shows before its parts: kinds, names, flags. Assumes nothing: these are definitions.
use Rattle.std.specs.Prelude.{ℕ, List, Bool, not, ◌||◌, cond, ◌&&◌, eqb}
use Rattle.cedar.specs.Types.{Mode, is_permissive, never, true', false', bool, anyset, anyent, eq_names}
use Rattle.cedar.specs.TypeForm.{atom_code, set_code, entity_code, action_code}

-- A type of kind j under one of another kind k: Never under all, True and False under Bool, a set under the untyped set; permissive,
-- an entity or an action under any entity.
unfoldable pub kind_under : Mode → ℕ → ℕ → Bool
kind_under m j k =
    eqb j (atom_code never)
    || cond (eqb k (atom_code bool)) (eqb j (atom_code true') || eqb j (atom_code false'))
    (cond (eqb k (atom_code anyset)) (eqb j set_code) (eqb k (atom_code anyent) && ((eqb j entity_code || eqb j action_code) && is_permissive m)))

-- A record with the names ns under one with the names ks, o and p whether they are open.
unfoldable pub record_under : Mode → Bool → List ℕ → Bool → List ℕ → Bool
record_under m o ns p ks = (not o || p) && (eq_names ns ks || (is_permissive m && p))
