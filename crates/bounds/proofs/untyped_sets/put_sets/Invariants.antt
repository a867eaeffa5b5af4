use Rattle.std.specs.Prelude.{◌-◌, ◌≤◌, replicate}
use Rattle.writing.specs.Laws.Writing.{Writing}
use Rattle.bounds.proofs.untyped_sets.put_sets.Given as goal

abbrev pub invariant-loop-at : goal.invariant-loop-at
invariant-loop-at l = record { within : l.at ≤ l.sets; writing : Writing (replicate l.sets 7) (replicate (l.sets - l.at) 7) l.initial.out l.at l.out }

abbrev pub decreases-loop-at : goal.decreases-loop-at
decreases-loop-at l = l.sets - l.at
