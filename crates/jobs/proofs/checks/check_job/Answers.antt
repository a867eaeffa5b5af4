use Rattle.std.specs.Prelude.{ℕ, List}
use Rattle.std.specs.Borrow.{Bor}
use Rattle.std.proofs.Common.{arith}
use mathlib.Core.Path.{ap, ◌∙◌}
use Rattle.jobs.specs.Laws.Checks.{schema-is, job-limits, cut-check, part-check}
use Rattle.jobs.proofs.checks.check_job.Goals as goal

pub returns-then-job-lt-ENTRIES : goal.returns-then-job-lt-ENTRIES
returns-then-job-lt-ENTRIES c =
    let limits = c.new.ensures.1 ∙ job-limits c.standard-limits.result c.standard-limits.ensures in
    cut-check c.args.job.now c.new.result limits (ap (λ (x : Bor (List ℕ)). x.now) c.new.ensures.0) (omega (arith, c.if-job-lt-ENTRIES.true))

pub returns-then-job-bodies : goal.returns-then-job-bodies
returns-then-job-bodies c =
    let cut = c.new-then-job-bodies in
    let limits = cut.ensures.1 ∙ job-limits c.standard-limits.result c.standard-limits.ensures in
    cut-check c.args.job.now cut.result limits (ap (λ (x : Bor (List ℕ)). x.now) cut.ensures.0)
    (omega (arith, c.bodies_from-bodies.ensures, c.if-job-bodies.true))

pub returns : goal.returns
returns c =
    let limits = c.new-2.ensures.1 ∙ job-limits c.standard-limits.result c.standard-limits.ensures in
    let part = schema-is c.args.job.now c.schema_from-schema.ensures.0 c.bodies_from-bodies.ensures in
    part-check c.args.job.now c.new-2.result limits (ap (λ (x : Bor (List ℕ)). x.now) c.new-2.ensures.0 ∙ part)
    (omega (arith, c.bodies_from-bodies.ensures, c.if-job-bodies.false))
