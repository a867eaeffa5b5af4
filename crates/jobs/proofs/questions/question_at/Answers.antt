use Rattle.std.proofs.Common.{arith, sym, ◌∙◌, ◌-◌, length, le-leb}
use Rattle.std.proofs.lemmas.Bool.{lt-leb}
use Rattle.jobs.specs.Laws.Walk.{counted, stands-none, stands-short, stands-entry, stands-unknown, stands-over, stands-last, first-inside, asks-is, next-is}
use Rattle.jobs.proofs.questions.question_at.Goals as goal

pub returns-then-count-index-clause-question : goal.returns-then-count-index-clause-question
returns-then-count-index-clause-question c = sym (stands-none c.args.job.now c.args.cursor (omega (arith, c.count.ensures.0, c.if-count-index.true)))

pub bodies_from-requires : goal.bodies_from-requires
bodies_from-requires c = (counted c.args.job.now c.args.cursor.index (omega (arith, c.count.ensures.0, c.if-count-index.false))).0

pub returns-then-job-bodies_from-clause-question : goal.returns-then-job-bodies_from-clause-question
returns-then-job-bodies_from-clause-question c = sym (stands-short c.args.job.now c.args.cursor (omega (arith, c.count.ensures.0, c.if-count-index.false)) (omega (arith, c.bodies_from.ensures, c.if-job-bodies_from.true)))

pub returns-in_default-clause-question : goal.returns-in_default-clause-question
returns-in_default-clause-question c = sym (stands-unknown c.args.job.now c.args.cursor (omega (arith, c.count.ensures.0, c.if-count-index.false)) (omega (arith, c.bodies_from.ensures, c.if-job-bodies_from.false)) c.in_default.ensures)

pub returns-then-job-body-clause-question : goal.returns-then-job-body-clause-question
returns-then-job-body-clause-question c = sym (stands-over c.args.job.now c.args.cursor (omega (arith, c.count.ensures.0, c.if-count-index.false)) (omega (arith, c.bodies_from.ensures, c.if-job-bodies_from.false)) c.in-Ok.ensures.0 c.if-job-body.true)

pub returns-then-job-body-2-clause-question : goal.returns-then-job-body-2-clause-question
returns-then-job-body-2-clause-question c =
    sym (stands-last c.args.job.now c.args.cursor (omega (arith, c.count.ensures.0, c.if-count-index.false)) (omega (arith, c.bodies_from.ensures, c.if-job-bodies_from.false)) c.in-Ok.ensures.0 c.if-job-body.false c.lengths-lengths.result c.lengths-lengths.ensures) ∙
    lt-leb c.lengths-lengths.result (length c.args.job.now - c.args.cursor.body) c.if-job-body-2.true

pub bounds-job-at : goal.bounds-job-at
bounds-job-at c = let p = stands-entry c.args.job.now c.args.cursor (omega (arith, c.count.ensures.0, c.if-count-index.false)) (omega (arith, c.bodies_from.ensures, c.if-job-bodies_from.false)) in omega (arith, p, c.well_formed)

pub lengths-lengths-requires : goal.lengths-lengths-requires
lengths-lengths-requires c = let p = stands-entry c.args.job.now c.args.cursor (omega (arith, c.count.ensures.0, c.if-count-index.false)) (omega (arith, c.bodies_from.ensures, c.if-job-bodies_from.false)) in omega (arith, p, c.well_formed)

pub u16_at-requires : goal.u16_at-requires
u16_at-requires c = let p = stands-entry c.args.job.now c.args.cursor (omega (arith, c.count.ensures.0, c.if-count-index.false)) (omega (arith, c.bodies_from.ensures, c.if-job-bodies_from.false)) in omega (arith, p, c.well_formed)

pub bounds-job-at-2 : goal.bounds-job-at-2
bounds-job-at-2 c = let p = stands-entry c.args.job.now c.args.cursor (omega (arith, c.count.ensures.0, c.if-count-index.false)) (omega (arith, c.bodies_from.ensures, c.if-job-bodies_from.false)) in omega (arith, p, c.well_formed)

pub u16_at-requires-2 : goal.u16_at-requires-2
u16_at-requires-2 c = let p = stands-entry c.args.job.now c.args.cursor (omega (arith, c.count.ensures.0, c.if-count-index.false)) (omega (arith, c.bodies_from.ensures, c.if-job-bodies_from.false)) in omega (arith, p, c.well_formed)

pub slice_bounds-question-end : goal.slice_bounds-question-end
slice_bounds-question-end c = omega (arith, first-inside c.args.job.now c.args.cursor, c.u16_at.ensures.0, c.lengths-lengths.ensures)

pub slice_bounds-question-count-2 : goal.slice_bounds-question-count-2
slice_bounds-question-count-2 c = omega (arith, first-inside c.args.job.now c.args.cursor, c.u16_at.ensures.0, c.lengths-lengths.ensures)

pub slice_bounds-question-start-2 : goal.slice_bounds-question-start-2
slice_bounds-question-start-2 c = slice_bounds-question-count-2 c

pub returns-clause-question : goal.returns-clause-question
returns-clause-question c =
    let job = c.args.job.now in
    let at = c.args.cursor in
    let n = c.u16_at.ensures.0 in
    let l = c.lengths-lengths.ensures in
    let s = sym (stands-last job at (omega (arith, c.count.ensures.0, c.if-count-index.false)) (omega (arith, c.bodies_from.ensures, c.if-job-bodies_from.false)) c.in-Ok.ensures.0 c.if-job-body.false c.lengths-lengths.result l) ∙
    le-leb c.lengths-lengths.result (length job - at.body) c.if-job-body-2.false in
    (s, asks-is job at c.in-Ok.operation c.in-Ok.ensures.1 c.u16_at-2.ensures.0 n l (omega (arith, first-inside job at, n, l)) (omega (arith, l)), next-is job at l)
