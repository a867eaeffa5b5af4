use Rattle.std.proofs.Common.{◌+◌, ◌*◌}
use Rattle.forms.specs.Rows.{none_left}
use Rattle.forms.specs.TypeBytes.{attr_row, whole}
use Rattle.forms.specs.Laws.Rows.{RowsLeft}
use Rattle.forms.specs.Laws.Types.{SetsLeft}
use Rattle.forms.proofs.types.+attributes_within_type_within.Given as goal

abbrev pub decreases-attributes_within : goal.decreases-attributes_within
decreases-attributes_within l = 2 * l.levels + 1

abbrev pub decreases-type_within : goal.decreases-type_within
decreases-type_within l = 2 * l.levels

abbrev pub invariant-attributes_within-loop-ahead : goal.invariant-attributes_within-loop-ahead
invariant-attributes_within-loop-ahead l =
    RowsLeft attr_row (λ _. whole l.levels) none_left l.initial.ahead.left 0 l.initial.ahead.entries.now l.initial.ahead.bodies.now l.ahead.left l.low
    l.ahead.entries.now l.ahead.bodies.now

abbrev pub decreases-attributes_within-loop-ahead : goal.decreases-attributes_within-loop-ahead
decreases-attributes_within-loop-ahead l = l.ahead.left

abbrev pub invariant-type_within-loop-left : goal.invariant-type_within-loop-left
invariant-type_within-loop-left l = SetsLeft l.levels l.t l.left l.b

abbrev pub decreases-type_within-loop-left : goal.decreases-type_within-loop-left
decreases-type_within-loop-left l = l.left
