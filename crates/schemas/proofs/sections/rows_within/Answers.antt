use Rattle.std.proofs.Common.{arith, ◌∙◌}
use Rattle.schemas.specs.Laws.Walks.{at_least, walk_start, walk-sized, walk-short, walk-unfit, walk-body, walk-again, walk_end}
use Rattle.schemas.proofs.sections.rows_within.Goals as goal

pub loop-rows-init : goal.loop-rows-init
loop-rows-init g c =
    let rows = c.rows-rows.ensures in
    walk_start c.requires.wide c.requires.inside rows.left rows.entries rows.bodies

pub take-requires : goal.take-requires
take-requires g c =
    (omega arith, (omega (arith, c.loop-rows-test.true), (omega (arith, c.requires.wide, at_least c.args.kind), walk-sized c.loop-rows.invariant c.requires.wide)))

pub returns-in_err-row : goal.returns-in_err-row
returns-in_err-row g c = c.from_residual.ensures ∙ walk-short c.loop-rows.invariant c.requires.wide c.loop-rows-test.true c.in_err-row.ensures

pub returns-then-not-follows : goal.returns-then-not-follows
returns-then-not-follows g c =
    walk-unfit c.loop-rows.invariant c.requires.wide c.in_ok-row.ensures.0 c.follows.result c.follows.ensures c.if-not-follows.true

pub returns-then-not-body_within : goal.returns-then-not-body_within
returns-then-not-body_within g c =
    walk-body c.loop-rows.invariant c.requires.wide c.in_ok-row.ensures.0 c.body_within.result c.body_within.ensures c.if-not-body_within.true

pub loop-rows-preserved : goal.loop-rows-preserved
loop-rows-preserved g c =
    let took = c.in_ok-row.ensures in
    walk-again c.loop-rows.invariant c.requires.wide took.0 took.1 c.follows.result c.follows.ensures c.if-not-follows.false
    c.body_within.result c.body_within.ensures c.if-not-body_within.false c.next-low.result c.next-low.ensures

pub returns : goal.returns
returns g c = walk_end c.loop-rows.invariant c.loop-rows-test.false
