use Rattle.std.proofs.Common.{◌∙◌}
use Rattle.jobs.specs.Operations.{op}
use Rattle.jobs.specs.Laws.Whole.{entry-over, entry-mode, entry-attribute, entry-second}
use Rattle.jobs.proofs.whole.entry_fits.Goals.{then-taken_or_zero, else-taken_or_zero}
use Rattle.jobs.proofs.whole.entry_fits.Goals as goal

pub returns-in_default : goal.returns-in_default
returns-in_default c = entry-over c.args.job.now c.args.at c.in_default.ensures

pub returns-then-taken_or_zero-2 : goal.returns-then-taken_or_zero-2
returns-then-taken_or_zero-2 c =
    elim c.if-taken_or_zero.branch [
      | then-taken_or_zero w ↦
          (let p = entry-second c.args.job.now c.args.at (op c.in-Ok.operation) c.in-Ok.ensures (cc) (cc) in cc)
      | else-taken_or_zero w ↦ cc
    ]

pub returns-else-taken_or_zero-2 : goal.returns-else-taken_or_zero-2
returns-else-taken_or_zero-2 c =
    elim c.if-taken_or_zero.branch [
      | then-taken_or_zero w ↦
          c.if-taken_or_zero-2.false ∙ entry-attribute c.args.job.now c.args.at (op c.in-Ok.operation) c.in-Ok.ensures (cc) (cc)
      | else-taken_or_zero w ↦ c.if-taken_or_zero-2.false ∙ entry-mode c.args.job.now c.args.at (op c.in-Ok.operation) c.in-Ok.ensures (cc)
    ]
