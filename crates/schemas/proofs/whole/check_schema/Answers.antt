use Rattle.schemas.specs.Laws.Checks.{check-refused, check-allowed}
use Rattle.schemas.proofs.whole.check_schema.Goals as goal

pub returns-then-not-are_allowed : goal.returns-then-not-are_allowed
returns-then-not-are_allowed c =
    check-refused c.args.limits c.args.s.now c.are_allowed.result c.are_allowed.ensures c.if-not-are_allowed.true-raw

pub returns : goal.returns
returns c =
    check-allowed c.args.limits c.args.s.now c.are_allowed.result c.are_allowed.ensures c.if-not-are_allowed.false-raw _ c.sections_within.ensures
