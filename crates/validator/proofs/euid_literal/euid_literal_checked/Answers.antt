use Rattle.forms.specs.Laws.Bytes.{Bytes-index}
use Rattle.std.specs.Borrow.{Bor}
use Rattle.std.proofs.Common.{subst, sym}
use Rattle.cedar.specs.Bytes.{Bytes}
use Rattle.std.specs.Prelude.{ℕ, List}
use Rattle.forms.specs.Limits.{as_limits}
use Rattle.validator.specs.Laws.Schemas.{limits-fair, checked-missing}
use Rattle.validator.specs.Laws.Literal.{literal-no-schema}
use Rattle.validator.proofs.euid_literal.euid_literal_checked.Goals as goal

pub returns-in_default : goal.returns-in_default
returns-in_default c =
    let args = c.args in
    let fair = limits-fair (as_limits args.schema.now.limits) c.are_allowed.result c.are_allowed.ensures c.if-not-are_allowed.false-raw in
    literal-no-schema (as_limits args.schema.now.limits) fair args.schema.now.bytes.now args.v.now args.out.now
    (checked-missing args.schema.now fair c.in_default.ensures)

pub literal_under-requires : goal.literal_under-requires
literal_under-requires c = subst (λ (b : Bor (List ℕ)). Bytes b.now) (sym c.in-Some.ensures.bytes) (Bytes-index c.args.schema.now.bytes.now c.args.schema.now.fit)
