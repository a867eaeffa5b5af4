use Rattle.conversions.specs.Laws.CoreTypes.{Down}
use Rattle.conversions.proofs.core_types.past_sets.Given as goal

abbrev pub invariant-loop-element : goal.invariant-loop-element
invariant-loop-element l = Down l.fn.t l.below l.sets

abbrev pub decreases-loop-element : goal.decreases-loop-element
decreases-loop-element l = l.below.levels
