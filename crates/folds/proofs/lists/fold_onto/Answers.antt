use Rattle.std.proofs.Common.{ℕ, Ok, Err, subst, ◌∙◌, arith, lit<}
use Rattle.std.proofs.lemmas.Result.{err_from_is_err_and}
use Rattle.cedar.specs.Bound.{bound}
use Rattle.forms.specs.Limits.{as_limits}
use Rattle.forms.specs.Modes.{as_mode}
use Rattle.forms.specs.Parts.{part}
use Rattle.forms.specs.TypeBytes.{dec}
use Rattle.folds.specs.Steps.{Stepped}
use Rattle.folds.specs.Laws.Lists.{folding-laid, folding-type, folding-not, folding-next, folding-end}
use Rattle.folds.proofs.lists.fold_onto.Goals as goal

pub next-requires : goal.next-requires
next-requires c = (lit< tt, folding-laid c.loop-row.invariant.0)

pub join_step-requires-clause-t_whole : goal.join_step-requires-clause-t_whole
join_step-requires-clause-t_whole c = folding-type c.loop-row.invariant.0 c.in-Some.ensures

pub returns-in_err-to : goal.returns-in_err-to
returns-in_err-to c =
    let thrown = err_from_is_err_and c.from_residual.result c.from_residual.ensures.1 in
    let stepped = subst (λ (w : ℕ). Stepped (as_limits c.args.limits)
    (bound (as_mode c.args.mode) (dec c.args.limits.levels (part 0 c.loop-row.to c.loop-row.last)) (dec c.args.limits.levels c.in-Some.row.body.now))
    w c.join_step.new.last (Err c.in_err-to.field-0.0)) c.loop-row.invariant.1 c.in_err-to.ensures in
    rw (thrown.1, thrown.2) (folding-not c.loop-row.invariant.0 c.in-Some.ensures c.join_step.new.last c.in_err-to.field-0.0 stepped)

pub loop-row-preserved : goal.loop-row-preserved
loop-row-preserved c =
    let stepped = subst (λ (w : ℕ). Stepped (as_limits c.args.limits)
    (bound (as_mode c.args.mode) (dec c.args.limits.levels (part 0 c.loop-row.to c.loop-row.last)) (dec c.args.limits.levels c.in-Some.row.body.now))
    w c.join_step.new.last (Ok c.in_ok-to.to)) c.loop-row.invariant.1 c.in_ok-to.ensures in (
      folding-next c.loop-row.invariant.0 c.in-Some.ensures c.join_step.new.last c.in_ok-to.to stepped,
      c.join_step.auto.work ∙ c.loop-row.invariant.1,
      c.join_step.auto.last ∙ c.loop-row.invariant.2,
    )

pub returns : goal.returns
returns c = folding-end c.loop-row.invariant.0 (omega (arith, c.in_default.ensures.none))
