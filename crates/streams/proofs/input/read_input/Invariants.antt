use Rattle.std.proofs.Common.{◌≤◌, length}
use Rattle.streams.proofs.input.read_input.Given as goal

abbrev pub invariant-loop : goal.invariant-loop
invariant-loop l = l.at ≤ length l.buf
