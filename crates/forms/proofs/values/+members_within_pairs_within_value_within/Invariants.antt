use Rattle.std.proofs.Common.{◌+◌, ◌*◌}
use Rattle.forms.specs.Rows.{none_left}
use Rattle.forms.specs.ValueBytes.{member_row, pair_row, whole_v}
use Rattle.forms.specs.Laws.Rows.{RowsLeft}
use Rattle.forms.proofs.values.+members_within_pairs_within_value_within.Given as goal

abbrev pub decreases-members_within : goal.decreases-members_within
decreases-members_within l = 2 * l.levels + 1

abbrev pub decreases-pairs_within : goal.decreases-pairs_within
decreases-pairs_within l = 2 * l.levels + 1

abbrev pub decreases-value_within : goal.decreases-value_within
decreases-value_within l = 2 * l.levels

abbrev pub invariant-members_within-loop-ahead : goal.invariant-members_within-loop-ahead
invariant-members_within-loop-ahead l =
    RowsLeft member_row (λ _. whole_v l.levels) none_left l.initial.ahead.left tt l.initial.ahead.entries.now l.initial.ahead.bodies.now l.ahead.left tt l.ahead.entries.now
    l.ahead.bodies.now

abbrev pub decreases-members_within-loop-ahead : goal.decreases-members_within-loop-ahead
decreases-members_within-loop-ahead l = l.ahead.left

abbrev pub invariant-pairs_within-loop-ahead : goal.invariant-pairs_within-loop-ahead
invariant-pairs_within-loop-ahead l =
    RowsLeft pair_row (λ _. whole_v l.levels) none_left l.initial.ahead.left 0 l.initial.ahead.entries.now l.initial.ahead.bodies.now l.ahead.left l.low l.ahead.entries.now
    l.ahead.bodies.now

abbrev pub decreases-pairs_within-loop-ahead : goal.decreases-pairs_within-loop-ahead
decreases-pairs_within-loop-ahead l = l.ahead.left
