use Rattle.bound_lengths.specs.Laws.PastSets.{down-start, down-again, down-left, down-right}
use Rattle.bound_lengths.proofs.sets.past_sets.Goals as goal

pub loop-x-init : goal.loop-x-init
loop-x-init c = down-start c.args.a c.args.b

pub loop-x-preserved : goal.loop-x-preserved
loop-x-preserved c = down-again c.loop-x.invariant c.in-Some.x c.in-Some-element.y c.in-Some.ensures c.in-Some-element.ensures

pub returns-in_default-element : goal.returns-in_default-element
returns-in_default-element c = down-right c.loop-x.invariant c.in_default-element.ensures

pub returns : goal.returns
returns c = down-left c.loop-x.invariant c.in_default.ensures
