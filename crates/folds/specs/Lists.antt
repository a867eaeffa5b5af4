-- The fold of a list. Assumes nothing: these are definitions.
use Rattle.std.specs.Prelude.{ℕ, ◌≤◌, ◌<◌, List, true, ◌≡◌, Result as RustResult, Ok, Err, length}
use Rattle.cedar.specs.Types.{Ty}
use Rattle.cedar.specs.Limits.{Limits, most_bytes}
use Rattle.cedar.specs.Result.{Result, ok, err}
use Rattle.forms.specs.Parts.{part}
use Rattle.forms.specs.TypeBytes.{dec}
use Rattle.forms.specs.ListBytes.{list_fits}
use Rattle.forms.specs.Refusals.{number_of}
use Rattle.forms.specs.declared.refusals.Refusal.{Refusal}
use Rattle.folds.specs.Steps.{Held}

-- A whole list, and room for any form within the limits.
pub record Opened (lim : Limits) (list last : List ℕ) : Type 0 where
  pub deep : 0 < lim.levels
  pub some : 0 < lim.bytes
  pub most : lim.bytes ≤ most_bytes
  pub good : list_fits lim list ≡ true
  pub room : lim.bytes ≤ length last

-- A fold's answer: a bound, its form left in the first bytes of `last`; or a refusal.
abbrev pub FoldsTo : Limits → Result Ty → List ℕ → RustResult ℕ Refusal → Type 0
FoldsTo lim f last (Ok n) = (f ≡ ok (dec lim.levels (part 0 n last))) × Held lim n last
FoldsTo lim f last (Err e) = f ≡ err (number_of e)
