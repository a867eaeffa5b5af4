use Rattle.forms.specs.Limits.{as_limits}
use Rattle.validator.specs.Laws.Schemas.{limits-fair, checked-missing}
use Rattle.validator.specs.Laws.MayHave.{may-have-no-schema}
use Rattle.validator.proofs.may_have_attr.may_have_attr_checked.Goals as goal

pub returns-in_default : goal.returns-in_default
returns-in_default c =
    let args = c.args in
    let fair = limits-fair (as_limits args.schema.now.limits) c.are_allowed.result c.are_allowed.ensures c.if-not-are_allowed.false-raw in
    may-have-no-schema (as_limits args.schema.now.limits) fair args.attr args.schema.now.bytes.now args.t.now
    (checked-missing args.schema.now fair c.in_default.ensures)
