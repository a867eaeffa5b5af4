use native.Mathlib.Omega.{arith}
use Rattle.strings.specs.Laws.Steps.{width-plain, width_low, width-high}
use Rattle.strings.proofs.text.width.Goals as goal

pub returns-in-0-to-127 : goal.returns-in-0-to-127
returns-in-0-to-127 c = width-plain _ _ (omega arith) (omega arith)

pub returns-in_default : goal.returns-in_default
returns-in_default c = width_low _ _ (omega arith) (omega arith) (omega arith)

pub returns-in_default-2 : goal.returns-in_default-2
returns-in_default-2 c = width-high _ _ (omega arith) (omega arith)
