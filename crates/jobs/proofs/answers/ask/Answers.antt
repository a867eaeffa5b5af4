use Rattle.std.proofs.Common.{refl}
use Rattle.cedar.specs.Conformance.{shorter, exact}
use Rattle.forms.specs.Limits.{as_limits}
use Rattle.jobs.specs.Laws.Asking.{quiet-subtype, quiet-may-have, quiet-conforms, answered-quiet}
use Rattle.jobs.proofs.answers.ask.Goals as goal

pub returns-in-Subtype : goal.returns-in-Subtype
returns-in-Subtype c =
    let args = c.args in
    answered-quiet (rw (c.in-Subtype.is, c.requires.own_limits) refl)
    (quiet-subtype (as_limits args.schema.now.limits) args.schema.now.bytes.now args.q.mode args.q.first.now args.q.second.now) c.is_subtype_checked.ensures

pub returns-in-MayHave : goal.returns-in-MayHave
returns-in-MayHave c =
    let args = c.args in
    answered-quiet (rw (c.in-MayHave.is, c.requires.own_limits) refl)
    (quiet-may-have (as_limits args.schema.now.limits) args.schema.now.bytes.now args.q.attribute args.q.first.now) c.may_have_attr_checked.ensures

pub returns-in-Conforms : goal.returns-in-Conforms
returns-in-Conforms c =
    let args = c.args in
    answered-quiet (rw (c.in-Conforms.is, c.requires.own_limits) refl)
    (quiet-conforms (as_limits args.schema.now.limits) args.schema.now.bytes.now shorter args.q.first.now args.q.second.now)
    c.typecheck_restricted_expr_checked.ensures

pub returns-in-Full : goal.returns-in-Full
returns-in-Full c =
    let args = c.args in
    answered-quiet (rw (c.in-Full.is, c.requires.own_limits) refl)
    (quiet-conforms (as_limits args.schema.now.limits) args.schema.now.bytes.now exact args.q.first.now args.q.second.now)
    c.typecheck_restricted_expr_exact_checked.ensures
