use native.Mathlib.Omega.{arith}
use Rattle.strings.specs.Laws.Steps.{passes_none, passes-plain, passes_whole}
use Rattle.strings.proofs.text.pass_plain.Goals as goal

pub loop-i-init : goal.loop-i-init
loop-i-init c = passes_none _ _ (omega arith)

pub returns-then-b-i-ge128 : goal.returns-then-b-i-ge128
returns-then-b-i-ge128 c = (c.loop-i.invariant, λ h. omega arith)

pub loop-i-preserved : goal.loop-i-preserved
loop-i-preserved c = passes-plain c.loop-i.invariant (omega arith) (omega arith)

pub returns : goal.returns
returns c = (passes_whole c.loop-i.invariant (omega arith), λ h. absurd (omega arith))
