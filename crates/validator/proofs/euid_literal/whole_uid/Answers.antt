use Rattle.forms.specs.Limits.{as_limits}
use Rattle.validator.specs.Laws.Uids.{value-some, uid-by-kind}
use Rattle.validator.proofs.euid_literal.whole_uid.Goals as goal

pub bounds-v-0 : goal.bounds-v-0
bounds-v-0 c =
    let whole-value = c.whole_value in
    let args = c.args in
    value-some (as_limits args.limits) args.v.now whole-value.result whole-value.ensures c.if-not-whole_value.false-raw

pub returns : goal.returns
returns c =
    let whole-value = c.whole_value in
    let args = c.args in
    uid-by-kind (as_limits args.limits) args.v.now whole-value.result whole-value.ensures c.if-not-whole_value.false-raw
