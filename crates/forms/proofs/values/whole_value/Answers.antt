use Rattle.cedar.specs.ValueForm.{parse_value}
use Rattle.forms.specs.Laws.Sure.{within-over, within-yes}
use Rattle.forms.specs.Laws.ValueTwin.{value-twin}
use Rattle.forms.proofs.values.whole_value.Goals as goal

pub returns-then-limits-v : goal.returns-then-limits-v
returns-then-limits-v c =
    let args = c.args in
    within-over args.limits.bytes (parse_value args.limits.levels) args.v.now (value-twin args.limits.levels args.v.now) c.if-limits-v.true

pub returns : goal.returns
returns c =
    let args = c.args in
    within-yes args.limits.bytes (parse_value args.limits.levels) args.v.now (value-twin args.limits.levels args.v.now)
    c.if-limits-v.false c.value_within.result c.value_within.ensures
