use Rattle.relations.specs.Laws.Sets.{down-start, down-again, down-lower, down-upper}
use Rattle.relations.proofs.sets.past_sets.Goals as goal

pub loop-x-init : goal.loop-x-init
loop-x-init c = down-start c.args.t0 c.args.t1

pub loop-x-preserved : goal.loop-x-preserved
loop-x-preserved c = down-again c.loop-x.invariant c.in-Some.x c.in-Some-element.y c.in-Some.ensures c.in-Some-element.ensures

pub returns-in_default-element : goal.returns-in_default-element
returns-in_default-element c = down-upper c.loop-x.invariant c.in_default-element.ensures

pub returns : goal.returns
returns c = down-lower c.loop-x.invariant c.in_default.ensures
