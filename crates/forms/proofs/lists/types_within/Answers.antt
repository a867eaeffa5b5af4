use Rattle.std.proofs.Common.{refl}
use Rattle.std.proofs.Math.Bool.{true}
use Rattle.forms.specs.Laws.RowsWithin.{within-short, within-body, within-again}
use Rattle.forms.specs.Laws.Rows.{rows_start, rows_end}
use Rattle.forms.specs.Laws.ValueTwin.{member-local}
use Rattle.forms.proofs.lists.types_within.Goals as goal

pub loop-ahead-init : goal.loop-ahead-init
loop-ahead-init c = rows_start c.requires

pub returns-in_default : goal.returns-in_default
returns-in_default c = within-short c.loop-ahead.invariant c.loop-ahead-test.true c.in_default.ensures

pub returns-then-not-whole_type : goal.returns-then-not-whole_type
returns-then-not-whole_type c =
    within-body c.loop-ahead.invariant member-local c.in-Some.ensures.0 c.whole_type.result c.whole_type.ensures c.if-not-whole_type.true

pub loop-ahead-preserved : goal.loop-ahead-preserved
loop-ahead-preserved c =
    within-again c.loop-ahead.invariant member-local c.in-Some.ensures.0 true refl refl c.in-Some.ensures.1 c.whole_type.result c.whole_type.ensures
    c.if-not-whole_type.false tt refl

pub returns : goal.returns
returns c = rows_end c.loop-ahead.invariant c.loop-ahead-test.false c.is_empty.result c.is_empty.ensures
