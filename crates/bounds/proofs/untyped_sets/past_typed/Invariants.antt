use Rattle.forms.specs.Modes.{as_mode}
use Rattle.bounds.specs.TypedSets.{TypedDown}
use Rattle.bounds.proofs.untyped_sets.past_typed.Given as goal

abbrev pub invariant-loop-x : goal.invariant-loop-x
invariant-loop-x l = TypedDown (as_mode l.mode) l.fn.a l.fn.b l.left l.right l.length l.sets

abbrev pub decreases-loop-x : goal.decreases-loop-x
decreases-loop-x l = l.left.levels
