use Rattle.std.proofs.Common.{length}
use Rattle.schemas.specs.Laws.Arguments.{ArgsLeft}
use Rattle.schemas.proofs.arguments.arguments_within.Given as goal

abbrev pub invariant-loop-argument : goal.invariant-loop-argument
invariant-loop-argument l = ArgsLeft l.b l.left

abbrev pub decreases-loop-argument : goal.decreases-loop-argument
decreases-loop-argument l = length l.left
