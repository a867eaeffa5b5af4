-- The steps of a fold. Assumes nothing: these are definitions.
use Rattle.std.specs.Prelude.{ℕ, ◌≤◌, List, true, false, ◌≡◌, Result as RustResult, Ok, Err, length}
use Rattle.cedar.specs.Types.{Ty}
use Rattle.cedar.specs.TypeForm.{enc}
use Rattle.cedar.specs.Limits.{Limits, most_bytes}
use Rattle.cedar.specs.Result.{Result, ok, err}
use Rattle.cedar.specs.Calls.{step_fits}
use Rattle.forms.specs.Parts.{part}
use Rattle.forms.specs.TypeBytes.{whole, dec}
use Rattle.forms.specs.Refusals.{number_of}
use Rattle.forms.specs.declared.refusals.Refusal.{Refusal}
use Rattle.forms.specs.declared.refusals.Refusal.TheVariants.{Workspace}
use Rattle.folds.specs.declared.steps.NoStep.{NoStep}
use Rattle.folds.specs.declared.steps.NoStep.TheVariants.{Unbounded, TooLong}

-- The refusal of a fold that ends so.
abbrev pub refusal_of : NoStep → Refusal
refusal_of (Unbounded reason) = reason
refusal_of TooLong = Workspace

-- A whole form within the limits stands in the first len bytes of `last`, which has room for any such form.
pub record Held (lim : Limits) (len : ℕ) (last : List ℕ) : Type 0 where
  pub most : lim.bytes ≤ most_bytes
  pub room : lim.bytes ≤ length last
  pub fits : len ≤ lim.bytes
  pub good : whole lim.levels (part 0 len last) ≡ true
  pub exact : enc (dec lim.levels (part 0 len last)) ≡ part 0 len last

-- A step's answer: the bound b within a workspace of so many bytes, its form left in the first bytes of `last`; no bound, with its reason; or one
-- too long.
abbrev pub Stepped : Limits → Result Ty → ℕ → List ℕ → RustResult ℕ NoStep → Type 0
Stepped lim b work last (Ok n) = (b ≡ ok (dec lim.levels (part 0 n last))) × (step_fits lim work (dec lim.levels (part 0 n last)) ≡ true) × Held lim n last
Stepped lim b work last (Err (Unbounded e)) = b ≡ err (number_of e)
Stepped lim b work last (Err TooLong) = (c : Ty) × ((b ≡ ok c) × (step_fits lim work c ≡ false))
