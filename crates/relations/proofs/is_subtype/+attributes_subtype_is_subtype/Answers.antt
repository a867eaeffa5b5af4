use Rattle.std.proofs.Common.{refl, sym, ap, ◌∙◌}
use Rattle.cedar.specs.Subtype.{sub}
use Rattle.forms.specs.Modes.{as_mode}
use Rattle.forms.specs.TypeForms.{type_of}
use Rattle.forms.specs.declared.kinds.Kind.TheVariants as is_kind
use Rattle.forms.specs.Laws.Kinds.{kinds-agree, kinds-differ, same-number}
use Rattle.relations.specs.Laws.Shapes.{no-record}
use Rattle.relations.specs.Laws.Subtype.{record-under, record-not, not-set, not-record, never-under, same-under}
use Rattle.relations.specs.Laws.Subtype.{alike-under, unlike-under, same-only}
use Rattle.relations.specs.Laws.Walks.{under-end, under-missing, under-flag, under-type, under-again}
use Rattle.relations.proofs.is_subtype.+attributes_subtype_is_subtype.Goals as goal

pub attributes_subtype-returns-in_default-find : goal.attributes_subtype-returns-in_default-find
attributes_subtype-returns-in_default-find t c = under-missing c.loop-attribute.invariant.1 c.in-Some.ensures c.in_default-find.ensures.1

pub attributes_subtype-returns-then-not-required_under : goal.attributes_subtype-returns-then-not-required_under
attributes_subtype-returns-then-not-required_under t c =
    under-flag c.loop-attribute.invariant.1 c.in-Some.ensures c.in-Some-find.ensures.1 c.required_under.result c.required_under.ensures
    c.if-not-required_under.true

pub attributes_subtype-returns-then-not-is_subtype : goal.attributes_subtype-returns-then-not-is_subtype
attributes_subtype-returns-then-not-is_subtype t c =
    under-type c.loop-attribute.invariant.1 c.in-Some.ensures c.in-Some-find.ensures.1 c.required_under.result c.required_under.ensures
    c.if-not-required_under.false c.is_subtype.result c.is_subtype.ensures c.if-not-is_subtype.true

pub attributes_subtype-loop-attribute-preserved : goal.attributes_subtype-loop-attribute-preserved
attributes_subtype-loop-attribute-preserved t c = (
  c.in-Some.ensures.levels ∙ c.loop-attribute.invariant.0,
  under-again c.loop-attribute.invariant.1 c.in-Some.ensures c.in-Some-find.ensures.1 c.required_under.result c.required_under.ensures
      c.if-not-required_under.false c.is_subtype.result c.is_subtype.ensures c.in-Some-find.ensures.0 c.if-not-is_subtype.false,
)

pub attributes_subtype-returns : goal.attributes_subtype-returns
attributes_subtype-returns t c = under-end c.loop-attribute.invariant.1 c.in_default.ensures

pub record_subtype-returns-then-record_under : goal.record_subtype-returns-then-record_under
record_subtype-returns-then-record_under t c =
    record-under _ _ _ c.in-Record.ensures.0 refl c.record_under.result c.record_under.ensures c.if-record_under.true _ c.attributes_subtype.ensures

pub record_subtype-returns-else-record_under : goal.record_subtype-returns-else-record_under
record_subtype-returns-else-record_under t c =
    record-not _ _ _ c.in-Record.ensures.0 refl c.record_under.result c.record_under.ensures c.if-record_under.false

pub record_subtype-returns-in_default : goal.record_subtype-returns-in_default
record_subtype-returns-in_default t c =
    c.eq.ensures ∙ same-number c.kind.result is_kind.Never
    ∙ not-record _ _ _ _ c.kind.ensures (no-record c.args.t c.shape.result c.shape.ensures c.in_default.not-Record) refl

pub is_subtype-returns-then-eq : goal.is_subtype-returns-then-eq
is_subtype-returns-then-eq t c =
    c.if-eq.true
    ∙ alike-under _ _ _ _ c.kind-j.ensures c.in-Plain.ensures (kinds-agree c.kind-j.result c.in-Plain.k c.eq.result c.eq.ensures c.if-eq.true)

pub is_subtype-returns-else-eq : goal.is_subtype-returns-else-eq
is_subtype-returns-else-eq t c =
    c.kind_under.ensures
    ∙ unlike-under _ _ _ _ c.kind-j.ensures c.in-Plain.ensures (kinds-differ c.kind-j.result c.in-Plain.k c.eq.result c.eq.ensures c.if-eq.false)

pub parts_subtype-returns-then-eq : goal.parts_subtype-returns-then-eq
parts_subtype-returns-then-eq t c =
    c.if-eq.true
    ∙ alike-under _ _ _ _ c.kind-j.ensures c.in-Plain.ensures (kinds-agree c.kind-j.result c.in-Plain.k c.eq.result c.eq.ensures c.if-eq.true)
    ∙ c.past_sets.ensures.same (as_mode c.args.mode)

pub parts_subtype-returns-else-eq : goal.parts_subtype-returns-else-eq
parts_subtype-returns-else-eq t c =
    c.kind_under.ensures
    ∙ unlike-under _ _ _ _ c.kind-j.ensures c.in-Plain.ensures (kinds-differ c.kind-j.result c.in-Plain.k c.eq.result c.eq.ensures c.if-eq.false)
    ∙ c.past_sets.ensures.same (as_mode c.args.mode)

pub parts_subtype-returns-in-Set : goal.parts_subtype-returns-in-Set
parts_subtype-returns-in-Set t c =
    let past = c.past_sets.ensures in
    c.eq-in-Set.ensures ∙ same-number c.kind-j.result is_kind.Never
    ∙ not-set _ _ _ _ c.kind-j.ensures (past.apart c.in-Set.ensures.0) c.in-Set.ensures.0 ∙ past.same (as_mode c.args.mode)

pub parts_subtype-returns-in-Record : goal.parts_subtype-returns-in-Record
parts_subtype-returns-in-Record t c =
    c.record_subtype.ensures ∙ ap (sub (as_mode c.args.mode) (type_of c.past_sets.result.0)) (sym c.in-Record.ensures.0)
    ∙ c.past_sets.ensures.same (as_mode c.args.mode)

pub parts_subtype-returns-in-Entity : goal.parts_subtype-returns-in-Entity
parts_subtype-returns-in-Entity t c =
    c.entity_under.ensures ∙ ap (sub (as_mode c.args.mode) (type_of c.past_sets.result.0)) (sym c.in-Entity.ensures.0)
    ∙ c.past_sets.ensures.same (as_mode c.args.mode)

pub parts_subtype-returns-then-eq-2 : goal.parts_subtype-returns-then-eq-2
parts_subtype-returns-then-eq-2 t c =
    c.if-eq-2.true
    ∙ never-under _ _ _ _ c.kind-j.ensures (same-only _ _ c.past_sets.result.1 c.shape.result c.shape.ensures c.in-Action.is)
    (sym (same-number c.kind-j.result is_kind.Never) ∙ sym c.eq-in-Action.ensures ∙ c.if-eq-2.true)
    ∙ c.past_sets.ensures.same (as_mode c.args.mode)

pub parts_subtype-returns-else-eq-2 : goal.parts_subtype-returns-else-eq-2
parts_subtype-returns-else-eq-2 t c =
    c.same.ensures
    ∙ same-under _ _ _ _ c.kind-j.ensures (same-only _ _ c.past_sets.result.1 c.shape.result c.shape.ensures c.in-Action.is)
    (sym (same-number c.kind-j.result is_kind.Never) ∙ sym c.eq-in-Action.ensures ∙ c.if-eq-2.false)
    ∙ c.past_sets.ensures.same (as_mode c.args.mode)
