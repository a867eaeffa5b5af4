use Rattle.bound_lengths.specs.Laws.PastSets.{Down}
use Rattle.bound_lengths.proofs.sets.past_sets.Given as goal

abbrev pub invariant-loop-x : goal.invariant-loop-x
invariant-loop-x l = Down l.fn.a l.fn.b l.left l.right l.sets

abbrev pub decreases-loop-x : goal.decreases-loop-x
decreases-loop-x l = l.left.levels
