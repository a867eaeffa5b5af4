-- Lists of names. Assumes nothing: this is a definition.
use Rattle.std.specs.Prelude.{ℕ, List, [], ◌∷◌, cond, ltb}

-- The names from the first on that is not below a name.
unfoldable pub from_name : ℕ → List ℕ → List ℕ
from_name name [] = []
from_name name (n ∷ ns) = cond (ltb n name) (from_name name ns) (n ∷ ns)
