use Rattle.std.proofs.Common.{arith, refl, ◌∙◌}
use Rattle.schemas.specs.Laws.Arguments.{args-not, args-again, args_end}
use Rattle.schemas.proofs.arguments.arguments_within.Goals as goal

pub loop-argument-init : goal.loop-argument-init
loop-argument-init c = record { same = refl }

pub argument_within-requires : goal.argument_within-requires
argument_within-requires c = omega (arith, c.in-Some.ensures.cases.3)

pub returns-then-not-argument_within : goal.returns-then-not-argument_within
returns-then-not-argument_within c =
    let cut = c.in-Some.ensures.cases in
    args-not c.loop-argument.invariant cut.0 _ _ cut.1 cut.2 c.argument_within.result c.argument_within.ensures c.if-not-argument_within.true-raw

pub loop-argument-smaller : goal.loop-argument-smaller
loop-argument-smaller c = let cut = c.in-Some.ensures.cases in omega (arith, cut.4)

pub loop-argument-preserved : goal.loop-argument-preserved
loop-argument-preserved c =
    let cut = c.in-Some.ensures.cases in
    args-again c.loop-argument.invariant cut.0 _ _ cut.1 cut.2 c.argument_within.result c.argument_within.ensures c.if-not-argument_within.false-raw

pub returns : goal.returns
returns c = c.is_empty.ensures ∙ args_end c.loop-argument.invariant c.in_default.ensures.cases
