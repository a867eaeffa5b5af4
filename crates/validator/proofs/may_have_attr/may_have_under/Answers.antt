use Rattle.cedar.specs.Result.{ok}
use Rattle.schemas.specs.Schema.{limits_in}
use Rattle.validator.specs.Laws.Schemas.{schema-there}
use Rattle.validator.specs.Laws.MayHave.{may-have-no-type, may-have-said}
use Rattle.validator.proofs.may_have_attr.may_have_under.Goals as goal

pub returns-in_default : goal.returns-in_default
returns-in_default c =
    let args = c.args in
    may-have-no-type (limits_in args.schema.now) args.schema.now.sectioned.fair args.attr args.schema.now.bytes.now args.t.now _ (schema-there args.schema.now)
    c.in_default.ensures

pub returns : goal.returns
returns c =
    let args = c.args in
    may-have-said (limits_in args.schema.now) args.schema.now.sectioned.fair args.attr args.schema.now.bytes.now args.t.now _ (schema-there args.schema.now) _
    c.in-Some.ensures.3 (ok c.yes_or_no.result) c.may_have_attr.result c.yes_or_no.ensures c.may_have_attr.ensures
