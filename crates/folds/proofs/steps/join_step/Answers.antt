use Rattle.std.proofs.Common.{arith}
use Rattle.forms.specs.Modes.{as_mode}
use Rattle.folds.specs.Laws.Steps.{stepping, step_stays, step-stays-long}
use lib.ListN.{length}
use borrow.Author.Tests.{not-false}
use mathlib.Core.Path.{sym, ◌∙◌}
use Rattle.folds.proofs.steps.join_step.Goals as goal

pub returns-then-work-len : goal.returns-then-work-len
returns-then-work-len c =
    let under = sym c.is_subtype.ensures ∙ not-false c.is_subtype.result c.if-not-is_subtype.false-raw in
    let from =
    stepping c.requires.held c.requires.t_whole (λ i. grind arith)
    (λ i. (c.type_inv.t i).fits) in
    step-stays-long (as_mode c.args.mode) from (length c.args.work.now) under c.if-work-len.true

pub returns : goal.returns
returns c =
    let under = sym c.is_subtype.ensures ∙ not-false c.is_subtype.result c.if-not-is_subtype.false-raw in
    let from =
    stepping c.requires.held c.requires.t_whole (λ i. grind arith)
    (λ i. (c.type_inv.t i).fits) in
    step_stays (as_mode c.args.mode) from (length c.args.work.now) under c.if-work-len.false
