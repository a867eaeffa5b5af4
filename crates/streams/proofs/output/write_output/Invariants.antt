use Rattle.std.proofs.Common.{◌≡◌, length}
use Rattle.streams.proofs.output.write_output.Given as goal

abbrev pub invariant-loop : goal.invariant-loop
invariant-loop l = length l.fn.buf ≡ 0 → (l.counter ≡ 0) × (length l.left ≡ 0)
