use Rattle.std.proofs.Common.{◌≡◌, ◌≤◌, length}
use Rattle.std.specs.Prelude.{take}
use Rattle.cedar.specs.Outcome.{over}
use Rattle.writing.proofs.writers.copy.Given as goal

abbrev pub invariant-loop-i : goal.invariant-loop-i
invariant-loop-i l = (l.i ≤ length l.src) × (l.i-end ≡ length l.src) × (l.out ≡ over (take l.i l.src) l.initial.out)
