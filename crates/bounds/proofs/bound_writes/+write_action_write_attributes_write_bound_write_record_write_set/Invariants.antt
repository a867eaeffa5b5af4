use Prim.Native.Nat.{◌+◌, ◌*◌, ◌-◌}
use Rattle.forms.specs.Modes.{as_mode}
use Rattle.forms.specs.Tables.{attrs_at}
use Rattle.bound_lengths.specs.Pairs.{joined_attrs}
use Rattle.bounds.specs.Laws.Joining.{Joining}
use Rattle.bounds.proofs.bound_writes.+write_action_write_attributes_write_bound_write_record_write_set.Given as goal

abbrev pub decreases-write_action : goal.decreases-write_action
decreases-write_action l = 3 * l.levels - 1

abbrev pub decreases-write_attributes : goal.decreases-write_attributes
decreases-write_attributes l = 3 * l.levels + 1

abbrev pub decreases-write_bound : goal.decreases-write_bound
decreases-write_bound l = 3 * l.levels

abbrev pub decreases-write_record : goal.decreases-write_record
decreases-write_record l = 3 * l.levels - 1

abbrev pub decreases-write_set : goal.decreases-write_set
decreases-write_set l = 3 * l.levels - 1

abbrev pub invariant-write_attributes-loop-row : goal.invariant-write_attributes-loop-row
invariant-write_attributes-loop-row l =
    Joining (as_mode l.mode) (joined_attrs (as_mode l.mode) (attrs_at l.levels 0 l.a) (attrs_at l.levels 0 l.b)) l.levels
    l.initial.out l.rows.left l.rows.entries.now l.rows.bodies.now l.others.left l.others.entries.now l.others.bodies.now l.at l.pos l.out

abbrev pub decreases-write_attributes-loop-row : goal.decreases-write_attributes-loop-row
decreases-write_attributes-loop-row l = l.rows.left
