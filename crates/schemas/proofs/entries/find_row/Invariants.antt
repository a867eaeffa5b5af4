use Rattle.schemas.specs.Laws.Entries.{FindLeft}
use Rattle.schemas.proofs.entries.find_row.Given as goal

abbrev pub invariant-loop-row : goal.invariant-loop-row
invariant-loop-row g l = FindLeft g.row.WIDTH l.key l.fn.x l.s l.rows.left l.rows.entries.now l.rows.bodies.now

abbrev pub decreases-loop-row : goal.decreases-loop-row
decreases-loop-row g l = l.rows.left
