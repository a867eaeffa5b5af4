use Rattle.cedar.specs.Types.{mem}
use Rattle.forms.specs.Names.{names_in}
use Rattle.forms.specs.Laws.NamesIn.{NamesLeft}
use Rattle.conformance.proofs.entities.stands.Given as goal

abbrev pub invariant-loop-pair : goal.invariant-loop-pair
invariant-loop-pair l = NamesLeft (mem l.name (names_in l.names)) (mem l.name) l.pair-iterator
