use Rattle.forms.specs.Limits.{as_limits}
use Rattle.schemas.specs.Laws.Walks.{WalkLeft}
use Rattle.schemas.proofs.sections.rows_within.Given as goal

abbrev pub invariant-loop-rows : goal.invariant-loop-rows
invariant-loop-rows g l = WalkLeft (as_limits l.limits) l.kind l.fn.x l.s l.rows.left l.low l.rows.entries.now l.rows.bodies.now

abbrev pub decreases-loop-rows : goal.decreases-loop-rows
decreases-loop-rows g l = l.rows.left
