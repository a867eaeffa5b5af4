use Rattle.cedar.specs.Types.{eq_names}
use Rattle.forms.specs.TypeBytes.{names_by}
use Rattle.forms.specs.Laws.Names.{SameLeft}
use Rattle.forms.proofs.rows.Rows.same_names.Given as goal

abbrev pub invariant-loop-entry : goal.invariant-loop-entry
invariant-loop-entry g l =
    let w = g.row.WIDTH in
    let all = l.fn.self in
    let other = l.fn.other in
    SameLeft w (eq_names (names_by w all.left all.entries.now) (names_by w other.left other.entries.now)) l.entry-iterator l.others
