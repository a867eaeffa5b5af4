use Rattle.conversions.specs.Laws.CoreTypes.{down-again}
use Rattle.conversions.proofs.core_types.past_sets.Goals as goal

pub loop-element-preserved : goal.loop-element-preserved
loop-element-preserved c = down-again c.loop-element.invariant c.in-Some.element c.in-Some.ensures
