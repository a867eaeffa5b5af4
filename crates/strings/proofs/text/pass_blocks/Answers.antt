use native.Mathlib.Omega.{arith}
use Rattle.strings.specs.Laws.Steps.{passes_none, passes-block}
use Rattle.strings.proofs.text.pass_blocks.Goals as goal

pub loop-i-init : goal.loop-i-init
loop-i-init c = passes_none _ _ (omega arith)

pub loop-i-preserved : goal.loop-i-preserved
loop-i-preserved c = passes-block _ c.loop-i.invariant (omega arith) (c.plain.ensures c.if-not-plain.false)
