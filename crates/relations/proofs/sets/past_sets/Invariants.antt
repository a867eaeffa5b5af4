use Rattle.relations.specs.Laws.Sets.{Down}
use Rattle.relations.proofs.sets.past_sets.Given as goal

abbrev pub invariant-loop-x : goal.invariant-loop-x
invariant-loop-x l = Down l.fn.t0 l.fn.t1 l.lower l.upper

abbrev pub decreases-loop-x : goal.decreases-loop-x
decreases-loop-x l = l.upper.levels
