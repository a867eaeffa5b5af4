use Prim.Native.Nat.{◌+◌, ◌*◌}
use Rattle.levels.specs.Deepest.{deepest_at}
use Rattle.levels.specs.Laws.Deepest.{BodiesAhead}
use Rattle.levels.specs.Laws.Deepest.{SetsAbove}
use Rattle.levels.proofs.depths.+deeper_deepest_body_type_levels_value_levels.Given as goal

abbrev pub decreases-deeper : goal.decreases-deeper
decreases-deeper l = 3 * l.levels + 1

abbrev pub decreases-deepest_body : goal.decreases-deepest_body
decreases-deepest_body l = 3 * l.levels + 2

abbrev pub decreases-type_levels : goal.decreases-type_levels
decreases-type_levels l = 3 * l.levels

abbrev pub decreases-value_levels : goal.decreases-value_levels
decreases-value_levels l = 3 * l.levels

abbrev pub invariant-deepest_body-loop-left : goal.invariant-deepest_body-loop-left
invariant-deepest_body-loop-left l = BodiesAhead l.form l.levels l.width (deepest_at l.form l.levels l.width l.at l.t) l.left l.e l.b l.most

abbrev pub decreases-deepest_body-loop-left : goal.decreases-deepest_body-loop-left
decreases-deepest_body-loop-left l = l.left

abbrev pub invariant-type_levels-loop-b : goal.invariant-type_levels-loop-b
invariant-type_levels-loop-b l = SetsAbove l.levels l.t l.left l.b

abbrev pub decreases-type_levels-loop-b : goal.decreases-type_levels-loop-b
decreases-type_levels-loop-b l = l.left
