-- Names, two bytes each. Assumes nothing: these are definitions.
use Rattle.std.specs.Prelude.{ℕ, ◌*◌, ◌/◌, List, true, ◌≡◌, length}
use Rattle.forms.specs.TypeBytes.{names_up, names_by}

-- The names that bytes say.
abbrev pub names_in : List ℕ → List ℕ
names_in b = names_by 2 (length b / 2) b

-- They ascend strictly from some name on, with no byte over.
pub record Ascending (b : List ℕ) : Type 0 where
  pub low : ℕ
  pub even : length b ≡ 2 * (length b / 2)
  pub up : names_up (length b / 2) low b ≡ true
