use Rattle.std.proofs.Common.{length, ◌-◌}
use Rattle.cedar.specs.Attribute.{fold_attr}
use Rattle.cedar.specs.Calls.{step_fits}
use Rattle.forms.specs.Parts.{part}
use Rattle.forms.specs.TypeBytes.{dec}
use Rattle.forms.specs.Names.{names_in}
use Rattle.schemas.specs.Schema.{limits_in, said_by}
use Rattle.lookups.specs.Laws.Lookup.{Folding}
use Rattle.lookups.proofs.lookup_attribute_type.fold_attribute.Given as goal

abbrev pub invariant-loop-entity : goal.invariant-loop-entity
invariant-loop-entity l =
    Folding (limits_in l.schema) (length l.fn.work) (said_by l.schema) l.name
    (fold_attr (step_fits (limits_in l.schema) (length l.fn.work)) (said_by l.schema) l.name (
      l.fn.first.required,
      dec ((limits_in l.schema).levels - 1) (part 0 l.fn.first.bytes l.fn.last),
    ) (names_in l.types)) l.found l.last l.entity-iterator
