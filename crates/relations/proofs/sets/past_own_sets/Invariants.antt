use Rattle.relations.specs.Laws.Sets.{OwnDown}
use Rattle.relations.proofs.sets.past_own_sets.Given as goal

abbrev pub invariant-loop-x : goal.invariant-loop-x
invariant-loop-x l = OwnDown l.fn.t l.left

abbrev pub decreases-loop-x : goal.decreases-loop-x
decreases-loop-x l = l.left.levels
