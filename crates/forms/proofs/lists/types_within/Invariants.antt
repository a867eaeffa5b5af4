use Rattle.forms.specs.Limits.{as_limits}
use Rattle.forms.specs.Rows.{none_left}
use Rattle.forms.specs.ValueBytes.{member_row}
use Rattle.forms.specs.ListBytes.{type_fits}
use Rattle.forms.specs.Laws.Rows.{RowsLeft}
use Rattle.forms.proofs.lists.types_within.Given as goal

abbrev pub invariant-loop-ahead : goal.invariant-loop-ahead
invariant-loop-ahead l =
    RowsLeft member_row (λ _. type_fits (as_limits l.limits)) none_left l.types.left tt l.types.entries.now l.types.bodies.now l.ahead.left tt
    l.ahead.entries.now l.ahead.bodies.now

abbrev pub decreases-loop-ahead : goal.decreases-loop-ahead
decreases-loop-ahead l = l.ahead.left
