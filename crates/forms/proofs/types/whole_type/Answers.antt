use Rattle.cedar.specs.TypeForm.{parse}
use Rattle.forms.specs.Laws.Sure.{within-over, within-yes}
use Rattle.forms.specs.Laws.TypeTwin.{type-twin}
use Rattle.forms.proofs.types.whole_type.Goals as goal

pub returns-then-limits-t : goal.returns-then-limits-t
returns-then-limits-t c =
    let args = c.args in
    within-over args.limits.bytes (parse args.limits.levels) args.t.now (type-twin args.limits.levels args.t.now) c.if-limits-t.true

pub returns : goal.returns
returns c =
    let args = c.args in
    within-yes args.limits.bytes (parse args.limits.levels) args.t.now (type-twin args.limits.levels args.t.now) c.if-limits-t.false
    c.type_within.result c.type_within.ensures
