use Rattle.std.specs.Prelude.{length}
use Rattle.cedar.specs.Subtype.{subset}
use Rattle.relations.specs.Laws.Names.{Walk}
use Rattle.relations.proofs.names.names_subset.Given as goal

abbrev pub invariant-loop-a : goal.invariant-loop-a
invariant-loop-a l = Walk subset l.first l.second l.a l.b

abbrev pub decreases-loop-a : goal.decreases-loop-a
decreases-loop-a l = length l.b
