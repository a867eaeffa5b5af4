use Rattle.jobs.specs.Laws.Whole.{whole-over, whole_is}
use Rattle.jobs.proofs.whole.whole_job.Goals as goal

pub returns-then-job-bodies : goal.returns-then-job-bodies
returns-then-job-bodies c =
    let bodies-from = c.bodies_from-bodies in
    let args = c.args in
    whole-over args.job.now bodies-from.result bodies-from.ensures c.if-job-bodies.true

pub returns : goal.returns
returns c =
    let u16-at = c.u16_at in
    let if3 = c.if-job-bodies in
    let bodies-from = c.bodies_from-bodies in
    let if2 = c.if-job-lt-ENTRIES in
    let if1 = c.if-job-gt-BLOCK_BYTES in
    let args = c.args in
    whole_is args.job.now bodies-from.result bodies-from.ensures if1.false if2.false if3.false u16-at.result u16-at.ensures.0
    c.entries_fit.result c.entries_fit.ensures
