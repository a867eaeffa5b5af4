use Prim.Native.Nat.{◌/◌, ◌%◌, ◌<◌}
use Rattle.strings.specs.Laws.Steps.{Pairs}
use Rattle.strings.proofs.text.plain.Given as goal

abbrev pub invariant-loop-j : goal.invariant-loop-j
invariant-loop-j l = l.all % 256 < 128 → l.all / 256 < 128 → Pairs l.b l.at l.n l.j
