use Rattle.std.proofs.Common.{◌≡◌}
use Rattle.jobs.specs.Walk.{ahead}
use Rattle.printing.proofs.job.print_lines.Given as goal

abbrev pub decreases-loop-n : goal.decreases-loop-n
decreases-loop-n l = ahead l.walk.job.now l.walk.cursor

abbrev pub invariant-loop-n : goal.invariant-loop-n
invariant-loop-n l = l.walk.job.now ≡ l.fn.job
