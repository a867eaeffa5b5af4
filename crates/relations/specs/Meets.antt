-- Consistency by what a form shows before its parts. Assumes nothing: these are definitions.
use Rattle.std.specs.Prelude.{ℕ, Bool, ◌||◌, cond, ◌&&◌, eqb, leb}
use Rattle.cedar.specs.Types.{true', false', bool, anyset}
use Rattle.cedar.specs.TypeForm.{atom_code, set_code}

-- The kinds without parts that are plain: 3 to 6.
unfoldable pub plain_kind : ℕ → Bool
plain_kind k = leb (atom_code bool) k && leb k (atom_code anyset)

-- A type of kind j with one of another kind k, which is no entity: True and False with Bool, a set with the untyped set.
unfoldable pub kind_meets : ℕ → ℕ → Bool
kind_meets j k = cond (eqb k (atom_code bool)) (eqb j (atom_code true') || eqb j (atom_code false')) (eqb k (atom_code anyset) && eqb j set_code)
