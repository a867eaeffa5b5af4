use Rattle.std.proofs.Common.{◌∙◌}
use Rattle.forms.specs.declared.kinds.Kind.TheVariants as is_kind
use Rattle.forms.specs.Laws.Kinds.{same-number}
use Rattle.relations.specs.Laws.Names.{one-name}
use Rattle.relations.specs.Laws.Meets.{entity-plain, entity-name, entity-action}
use Rattle.relations.proofs.is_consistent_with.entity_consistent.Goals as goal

pub names_share-requires-clause-second_up : goal.names_share-requires-clause-second_up
names_share-requires-clause-second_up c = one-name 0 c.args.name.now c.requires

pub returns-in-Plain : goal.returns-in-Plain
returns-in-Plain c = c.eq.ensures ∙ same-number c.in-Plain.kind is_kind.AnyEntity ∙ entity-plain _ _ c.requires c.in-Plain.ensures

pub returns-in-Entity : goal.returns-in-Entity
returns-in-Entity c = entity-name _ c.args.name.now c.requires c.in-Entity.names.now c.in-Entity.ensures.0 c.names_share.result c.names_share.ensures

pub returns-in-Action : goal.returns-in-Action
returns-in-Action c = entity-action _ _ c.requires c.in-Action.ensures.0 c.u16_at.result c.u16_at.ensures.0
