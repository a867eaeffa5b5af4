use Rattle.cedar.specs.Attribute.{may_have_names}
use Rattle.forms.specs.Names.{names_in}
use Rattle.schemas.specs.Schema.{said_by}
use Rattle.forms.specs.Laws.NamesIn.{NamesLeft}
use Rattle.attributes.proofs.may_have_attr.entity_may_have.Given as goal

abbrev pub invariant-loop-entity : goal.invariant-loop-entity
invariant-loop-entity l =
    NamesLeft (may_have_names (said_by l.schema) l.name (names_in l.types)) (may_have_names (said_by l.schema) l.name) l.entity-iterator
