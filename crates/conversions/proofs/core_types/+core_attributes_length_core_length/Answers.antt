use Rattle.std.proofs.Common.{arith, ap, refl, ◌∙◌, inl, inr}
use Rattle.cedar.specs.Result.{ok}
use Rattle.forms.specs.Refusals.{number_of}
use Rattle.writing.specs.Laws.FormLengths.{seen-err, summing-end, cut-length}
use Rattle.conversions.specs.Laws.CoreTypes.{attrs-end, attrs-not, attrs-more, record-cut, known-length, refused-length, atom-length, past-length, set-not}
use Rattle.conversions.specs.Laws.CoreTypes.{never-core, any-core, entity-core, entities-core, action-core, extension-core, entity-long, extension-long}
use Rattle.conversions.proofs.core_types.+core_attributes_length_core_length.Goals as goal

pub core_attributes_length-returns-in_err-n : goal.core_attributes_length-returns-in_err-n
core_attributes_length-returns-in_err-n t c =
    seen-err c.from_residual.result c.in_err-n.field-0.0 c.from_residual.ensures.1 ∙
    attrs-not c.in-Some.ensures c.loop-attribute.invariant.1 _ c.in_err-n.ensures (number_of c.in_err-n.field-0.0) refl

pub core_attributes_length-loop-attribute-preserved : goal.core_attributes_length-loop-attribute-preserved
core_attributes_length-loop-attribute-preserved t c =
    let here = c.in-Some.ensures in
    (here.levels ∙ c.loop-attribute.invariant.0, attrs-more here c.loop-attribute.invariant.1 _ c.in_ok-n.ensures c.in_ok-n.n _ refl c.capped-sum.ensures)

pub core_attributes_length-returns : goal.core_attributes_length-returns
core_attributes_length-returns t c = summing-end c.loop-attribute.invariant.1 (attrs-end c.in_default.ensures)

pub below_length-returns-in_err-n-in-Record : goal.below_length-returns-in_err-n-in-Record
below_length-returns-in_err-n-in-Record t c =
    let thrown = c.from_residual in
    seen-err thrown.result c.in_err-n-in-Record.field-0.0 thrown.ensures.1 ∙
    cut-length (record-cut _ c.in-Record.ensures.0 refl) _ _ c.in_err-n-in-Record.ensures refl

pub below_length-returns-in_ok-n-in-Record : goal.below_length-returns-in_ok-n-in-Record
below_length-returns-in_ok-n-in-Record t c =
    cut-length (record-cut _ c.in-Record.ensures.0 refl) (ok c.in_ok-n-in-Record.n) _ c.in_ok-n-in-Record.ensures (ap ok c.longer.ensures)

pub below_length-returns-then-names-eq-NAME : goal.below_length-returns-then-names-eq-NAME
below_length-returns-then-names-eq-NAME t c = known-length _ _ 5 (entity-core _ _ c.in-Entity.ensures.0 c.if-names-eq-NAME.true) (entity-long _) (omega arith)

pub below_length-returns-else-names-eq-NAME : goal.below_length-returns-else-names-eq-NAME
below_length-returns-else-names-eq-NAME t c = refused-length _ (entities-core _ _ c.in-Entity.ensures.0 c.in-Entity.ensures.1 c.if-names-eq-NAME.false)

pub below_length-returns-in-Never : goal.below_length-returns-in-Never
below_length-returns-in-Never t c =
    refused-length _ (elim c.in-Never.is [
      | inl h ↦ never-core _ c.in-Plain.ensures h
      | inr h ↦ any-core _ c.in-Plain.ensures h
    ])

pub below_length-returns-in_default : goal.below_length-returns-in_default
below_length-returns-in_default t c = atom-length _ c.in-Plain.ensures c.in_default.not-Never c.in_default.not-AnyEntity

pub below_length-returns-in-Action : goal.below_length-returns-in-Action
below_length-returns-in-Action t c = known-length _ _ 5 (action-core _ c.in-Action.ensures.0) (entity-long _) (omega arith)

pub below_length-returns-in-Extension : goal.below_length-returns-in-Extension
below_length-returns-in-Extension t c = known-length _ _ 3 (extension-core _ c.in-Extension.ensures.0) (extension-long _) (omega arith)

pub below_length-returns-in-Set : goal.below_length-returns-in-Set
below_length-returns-in-Set t c = set-not c.requires c.in-Set.ensures.0

pub core_length-returns-in_err-n : goal.core_length-returns-in_err-n
core_length-returns-in_err-n t c =
    seen-err c.from_residual.result c.in_err-n.field-0.0 c.from_residual.ensures.1 ∙ past-length c.past_sets-sets.ensures _ _ c.in_err-n.ensures refl

pub core_length-returns : goal.core_length-returns
core_length-returns t c = past-length c.past_sets-sets.ensures (ok c.in_ok-n.n) _ c.in_ok-n.ensures (ap ok c.longer.ensures)
