use Rattle.std.proofs.Common.{refl, ◌∙◌}
use Rattle.forms.specs.declared.kinds.Kind.TheVariants as is_kind
use Rattle.forms.specs.Laws.Kinds.{same-number}
use Rattle.relations.specs.Laws.Shapes.{no-entity}
use Rattle.relations.specs.Laws.Subtype.{entity-under, not-entity}
use Rattle.relations.proofs.is_subtype.entity_under.Goals as goal

pub returns-in-Entity : goal.returns-in-Entity
returns-in-Entity c = c.names_under.ensures ∙ entity-under _ _ _ c.in-Entity.ensures.0 refl

pub returns-in_default : goal.returns-in_default
returns-in_default c =
    c.eq.ensures ∙ same-number c.kind.result is_kind.Never
    ∙ not-entity _ _ _ _ c.kind.ensures (no-entity c.args.t c.shape.result c.shape.ensures c.in_default.not-Entity) refl
