use Rattle.std.proofs.Common.{◌∙◌}
use Rattle.relations.specs.Laws.Plain.{plain-end, plain-not, plain-again, plain-record, plain-entity, plain-action, plain-extension, plain-plain}
use Rattle.relations.specs.Laws.Sets.{never-set}
use Rattle.relations.proofs.is_plain.+attributes_plain_is_plain.Goals as goal

pub attributes_plain-returns-then-not-is_plain : goal.attributes_plain-returns-then-not-is_plain
attributes_plain-returns-then-not-is_plain t c =
    plain-not c.loop-attribute.invariant.1 c.in-Some.ensures c.is_plain.result c.is_plain.ensures c.if-not-is_plain.true

pub attributes_plain-loop-attribute-preserved : goal.attributes_plain-loop-attribute-preserved
attributes_plain-loop-attribute-preserved t c = (
  c.in-Some.ensures.levels ∙ c.loop-attribute.invariant.0,
  plain-again c.loop-attribute.invariant.1 c.in-Some.ensures c.is_plain.result c.is_plain.ensures c.if-not-is_plain.false,
)

pub attributes_plain-returns : goal.attributes_plain-returns
attributes_plain-returns t c = plain-end c.loop-attribute.invariant.1 c.in_default.ensures

pub is_plain-returns-in-Plain : goal.is_plain-returns-in-Plain
is_plain-returns-in-Plain t c = c.kind_is_plain.ensures ∙ plain-plain _ c.in-Plain.ensures ∙ c.past_own_sets-left.ensures.same

pub is_plain-returns-in-Set : goal.is_plain-returns-in-Set
is_plain-returns-in-Set t c = never-set c.past_own_sets-left.ensures.apart c.in-Set.ensures.0 ∙ c.past_own_sets-left.ensures.same

pub is_plain-returns-in-Record : goal.is_plain-returns-in-Record
is_plain-returns-in-Record t c = c.attributes_plain.ensures ∙ plain-record _ c.in-Record.ensures.0 ∙ c.past_own_sets-left.ensures.same

pub is_plain-returns-in-Entity : goal.is_plain-returns-in-Entity
is_plain-returns-in-Entity t c = plain-entity _ _ c.in-Entity.ensures.0 c.in-Entity.ensures.1 ∙ c.past_own_sets-left.ensures.same

pub is_plain-returns-in-Action : goal.is_plain-returns-in-Action
is_plain-returns-in-Action t c = plain-action _ c.in-Action.ensures.0 ∙ c.past_own_sets-left.ensures.same

pub is_plain-returns-in-Extension : goal.is_plain-returns-in-Extension
is_plain-returns-in-Extension t c = plain-extension _ c.in-Extension.ensures.0 ∙ c.past_own_sets-left.ensures.same
