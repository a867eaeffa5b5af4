use Rattle.forms.specs.Laws.Types.{UpLeft}
use Rattle.forms.proofs.types.names_ascend.Given as goal

abbrev pub invariant-loop-pair : goal.invariant-loop-pair
invariant-loop-pair l = UpLeft l.names l.low l.pair-iterator
