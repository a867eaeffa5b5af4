use Rattle.strings.specs.Steps.{Passes}
use Rattle.strings.proofs.text.pass_plain.Given as goal

abbrev pub invariant-loop-i : goal.invariant-loop-i
invariant-loop-i l = Passes l.b l.at l.i
