use Rattle.relations.specs.Laws.Sets.{own-start, own-again, own-end}
use Rattle.relations.proofs.sets.past_own_sets.Goals as goal

pub loop-x-init : goal.loop-x-init
loop-x-init c = own-start c.args.t

pub loop-x-preserved : goal.loop-x-preserved
loop-x-preserved c = own-again c.loop-x.invariant c.in-Some.x c.in-Some.ensures

pub returns : goal.returns
returns c = own-end c.loop-x.invariant c.in_default.ensures
