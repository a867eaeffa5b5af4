use Rattle.jobs.specs.Laws.Whole.{EntriesLeft}
use Rattle.jobs.proofs.whole.entries_fit.Given as goal

abbrev pub invariant-loop-index : goal.invariant-loop-index
invariant-loop-index l = EntriesLeft l.job l.n l.bytes l.index l.room
