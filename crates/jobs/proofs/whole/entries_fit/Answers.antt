use Rattle.std.proofs.Common.{arith, sym, ◌∙◌}
use Rattle.jobs.specs.Laws.Whole.{entries-unfit, entries-short, entries-again, entries-end}
use Rattle.jobs.proofs.whole.entries_fit.Goals as goal

pub returns-then-not-entry_fits : goal.returns-then-not-entry_fits
returns-then-not-entry_fits c = entries-unfit c.loop-index.invariant c.loop-index-test.true (sym c.entry_fits.ensures ∙ c.if-not-entry_fits.true)

pub returns-then-room-lengths : goal.returns-then-room-lengths
returns-then-room-lengths c =
    entries-short c.loop-index.invariant c.loop-index-test.true (omega (arith, c.lengths-lengths.ensures, c.if-room-lengths.true))

pub loop-index-preserved : goal.loop-index-preserved
loop-index-preserved c =
    rw c.lengths-lengths.ensures (entries-again c.loop-index.invariant c.loop-index-test.true (sym c.entry_fits.ensures ∙ c.if-not-entry_fits.false)
    (omega (arith, c.lengths-lengths.ensures, c.if-room-lengths.false)))

pub returns : goal.returns
returns c = entries-end c.loop-index.invariant c.loop-index-test.false
