use Rattle.std.proofs.Common.{refl, sym, ap, ◌∙◌}
use Rattle.cedar.specs.Consistency.{consistent}
use Rattle.forms.specs.TypeForms.{type_of}
use Rattle.relations.specs.Laws.Consistent.{set-not, with-entity, with-action, with-extension, record-not, attributes-not, with-record}
use Rattle.relations.specs.Laws.Meeting.{meeting-end, meeting-not, meeting-again, alone-not, alone-optional, alone-open}
use Rattle.relations.specs.Laws.Names.{entity-named}
use Rattle.relations.specs.Laws.Shapes.{no-record}
use Rattle.relations.proofs.is_consistent_with.+attributes_consistent_is_consistent_with.Goals as goal
use Rattle.relations.proofs.is_consistent_with.+attributes_consistent_is_consistent_with.Goals.{attributes_consistent-else-attribute-via-then-attribute+else-not-is_open, attributes_consistent-else-attribute-via-else-attribute}

pub attributes_consistent-returns-then-not-is_consistent_with : goal.attributes_consistent-returns-then-not-is_consistent_with
attributes_consistent-returns-then-not-is_consistent_with t c =
    meeting-not c.loop-attribute.invariant.1 c.in-Some.ensures c.in-Some-find.ensures.1 c.is_consistent_with.result c.is_consistent_with.ensures
    c.if-not-is_consistent_with.true

pub attributes_consistent-loop-attribute-preserved-else-not-is_consistent_with :
    goal.attributes_consistent-loop-attribute-preserved-else-not-is_consistent_with
attributes_consistent-loop-attribute-preserved-else-not-is_consistent_with t c = (
  c.in-Some.ensures.levels ∙ c.loop-attribute.invariant.0,
  meeting-again c.loop-attribute.invariant.1 c.in-Some.ensures c.in-Some-find.ensures.1 c.is_consistent_with.result c.is_consistent_with.ensures
      c.in-Some-find.ensures.0 c.if-not-is_consistent_with.false,
)

pub attributes_consistent-returns-then-not-is_open : goal.attributes_consistent-returns-then-not-is_open
attributes_consistent-returns-then-not-is_open t c =
    alone-not c.loop-attribute.invariant.1 c.in-Some.ensures c.in-None.ensures.1 c.if-attribute.true c.if-not-is_open.true

pub attributes_consistent-loop-attribute-preserved : goal.attributes_consistent-loop-attribute-preserved
attributes_consistent-loop-attribute-preserved t c =
    let i = c.loop-attribute.invariant in
    let here = c.in-Some.ensures in
    let none = c.in-None.ensures in (
      here.levels ∙ i.0,
      elim c.else-attribute.branch [
        | attributes_consistent-else-attribute-via-then-attribute+else-not-is_open w ↦ alone-open i.1 here none.1 none.0 w.if-not-is_open.false
        | attributes_consistent-else-attribute-via-else-attribute w ↦ alone-optional i.1 here none.1 none.0 w.if-attribute.false
      ],
    )

pub attributes_consistent-returns : goal.attributes_consistent-returns
attributes_consistent-returns t c = meeting-end c.loop-attribute.invariant.1 c.in_default.ensures

pub is_consistent_with-returns-in-Plain : goal.is_consistent_with-returns-in-Plain
is_consistent_with-returns-in-Plain t c = c.partless_consistent.ensures (type_of c.args.t1) c.in-Plain.ensures

pub parts_consistent-returns-in-Plain : goal.parts_consistent-returns-in-Plain
parts_consistent-returns-in-Plain t c = c.partless_consistent.ensures (type_of c.past_sets.result.1) c.in-Plain.ensures ∙ c.past_sets.ensures.meets

pub parts_consistent-entity_consistent-requires : goal.parts_consistent-entity_consistent-requires
parts_consistent-entity_consistent-requires t c = entity-named c.past_sets.result.1 c.in-Entity.names.now c.in-Entity.ensures.0

pub record_consistent-returns-then-attributes_consistent : goal.record_consistent-returns-then-attributes_consistent
record_consistent-returns-then-attributes_consistent t c =
    with-record _ _ c.in-Record.ensures.0 refl c.attributes_consistent.result c.attributes_consistent.ensures c.if-attributes_consistent.true _
    c.names_covered.ensures

pub record_consistent-returns-else-attributes_consistent : goal.record_consistent-returns-else-attributes_consistent
record_consistent-returns-else-attributes_consistent t c =
    attributes-not _ _ c.in-Record.ensures.0 refl c.attributes_consistent.result c.attributes_consistent.ensures c.if-attributes_consistent.false

pub record_consistent-returns-in_default : goal.record_consistent-returns-in_default
record_consistent-returns-in_default t c = record-not _ _ (no-record c.args.t c.shape.result c.shape.ensures c.in_default.not-Record) refl

pub parts_consistent-returns-in-Set : goal.parts_consistent-returns-in-Set
parts_consistent-returns-in-Set t c = set-not _ _ (c.past_sets.ensures.apart c.in-Set.ensures.0) c.in-Set.ensures.0 ∙ c.past_sets.ensures.meets

pub parts_consistent-returns-in-Record : goal.parts_consistent-returns-in-Record
parts_consistent-returns-in-Record t c =
    c.record_consistent.ensures ∙ ap (consistent (type_of c.past_sets.result.0)) (sym c.in-Record.ensures.0) ∙ c.past_sets.ensures.meets

pub parts_consistent-returns-in-Entity : goal.parts_consistent-returns-in-Entity
parts_consistent-returns-in-Entity t c = c.entity_consistent.ensures ∙ with-entity _ _ c.in-Entity.ensures.0 ∙ c.past_sets.ensures.meets

pub parts_consistent-returns-in-Action : goal.parts_consistent-returns-in-Action
parts_consistent-returns-in-Action t c = with-action _ _ c.in-Action.ensures.0 ∙ c.past_sets.ensures.meets

pub parts_consistent-returns-in-Extension : goal.parts_consistent-returns-in-Extension
parts_consistent-returns-in-Extension t c = c.same.ensures ∙ with-extension _ _ c.in-Extension.ensures.0 ∙ c.past_sets.ensures.meets
