use Rattle.forms.specs.Modes.{as_mode}
use Rattle.forms.specs.Tables.{attrs_at}
use Rattle.bound_lengths.specs.Pairs.{joined_attrs}
use Rattle.bounds.specs.Laws.KeptAttributes.{Counting}
use Rattle.bounds.proofs.kept_attributes.kept_count.Given as goal

abbrev pub invariant-loop-row : goal.invariant-loop-row
invariant-loop-row l =
    Counting (as_mode l.mode) (joined_attrs (as_mode l.mode) (attrs_at l.levels 0 l.a) (attrs_at l.levels 0 l.b)) l.initial.rows.left l.levels
    l.rows.left l.rows.entries.now l.rows.bodies.now l.others.left l.others.entries.now l.others.bodies.now l.count

abbrev pub decreases-loop-row : goal.decreases-loop-row
decreases-loop-row l = l.rows.left
