use Rattle.std.proofs.Common.{sym, ap, refl, ◌∙◌}
use Rattle.cedar.specs.Result.{ok}
use Rattle.cedar.specs.TypeForm.{enc}
use Rattle.forms.specs.Modes.{as_mode}
use Rattle.forms.specs.Refusals.{number_of}
use Rattle.forms.specs.TypeForms.{type_of}
use Rattle.forms.specs.Laws.Kinds.{whole-kind}
use Rattle.writing.specs.FormLengths.{plus, form_length_of}
use Rattle.writing.specs.Laws.FormLengths.{seen-err, summing-end}
use Rattle.bound_lengths.specs.Laws.PastSets.{past-length, set-apart}
use Rattle.bound_lengths.specs.Laws.Kinds.{eq-kind, not-kind}
use Rattle.bound_lengths.specs.Laws.Shapes.{sort, codes-apart}
use Rattle.bound_lengths.specs.Laws.Pairs.{joined-step, joined-end, pair-not, pair-dropped, pair-more, pair-none}
use Rattle.bound_lengths.specs.Laws.Bounds.{codes-join, atoms-length, same-atom, other-atom, records-length, entities-join}
use Rattle.bound_lengths.specs.Laws.Bounds.{actions-length, actions-apart, extensions-length, extensions-apart}
use Rattle.bound_lengths.proofs.bound_length.+actions_length_attributes_length_bare_length_bound_length_pair_length_records_length.Goals as goal
use Rattle.bound_lengths.proofs.bound_length.+actions_length_attributes_length_bare_length_bound_length_pair_length_records_length.Goals.{bare_length-in-Plain+else-eq as with-plain, bare_length-in-Set as with-set}
use Rattle.bound_lengths.proofs.bound_length.+actions_length_attributes_length_bare_length_bound_length_pair_length_records_length.Goals.{bare_length-in-Record+in_default as with-record, bare_length-in-Entity+in_default-shape as with-entity}
use Rattle.bound_lengths.proofs.bound_length.+actions_length_attributes_length_bare_length_bound_length_pair_length_records_length.Goals.{bare_length-in-Action+in-Action-shape+else-j-k as with-actions, bare_length-in-Action+in_default-shape-2 as with-action}
use Rattle.bound_lengths.proofs.bound_length.+actions_length_attributes_length_bare_length_bound_length_pair_length_records_length.Goals.{bare_length-in-Extension+in-Extension-shape+else-j-k-2 as with-extensions, bare_length-in-Extension+in_default-shape-3 as with-extension}

pub attributes_length-returns-in_err-n : goal.attributes_length-returns-in_err-n
attributes_length-returns-in_err-n t c =
    let refusal = c.in_err-n.field-0.0 in
    let step = joined-step (as_mode c.args.mode) c.in-Some.ensures c.find-other.result c.find-other.ensures in
    seen-err c.from_residual.result refusal c.from_residual.ensures.1 ∙ ap (plus c.args.front) (pair-not c.loop-attribute.invariant.1 step (number_of refusal) c.in_err-n.ensures)

pub attributes_length-loop-attribute-preserved-in-Some-2 : goal.attributes_length-loop-attribute-preserved-in-Some-2
attributes_length-loop-attribute-preserved-in-Some-2 t c =
    let step = joined-step (as_mode c.args.mode) c.in-Some.ensures c.find-other.result c.find-other.ensures in (
      c.in-Some.ensures.levels ∙ c.loop-attribute.invariant.0,
      pair-more c.loop-attribute.invariant.1 step c.in-Some-2.n (rw c.in-Some-2.is at c.in_ok-n.ensures) _ c.capped-sum.ensures,
    )

pub attributes_length-loop-attribute-preserved : goal.attributes_length-loop-attribute-preserved
attributes_length-loop-attribute-preserved t c =
    let step = joined-step (as_mode c.args.mode) c.in-Some.ensures c.find-other.result c.find-other.ensures in (
      c.in-Some.ensures.levels ∙ c.loop-attribute.invariant.0,
      pair-dropped c.loop-attribute.invariant.1 step (rw c.in_default-2.is at c.in_ok-n.ensures),
    )

pub attributes_length-returns : goal.attributes_length-returns
attributes_length-returns t c =
    ap ok c.longer.ensures ∙ ap (plus c.args.front) (summing-end c.loop-attribute.invariant.1 (joined-end (as_mode c.args.mode) _ c.in_default.ensures))

pub bare_length-of-requires : goal.bare_length-of-requires
bare_length-of-requires t c = whole-kind c.args.b.levels c.args.b.bytes.now c.args.b.whole

pub bare_length-returns-then-eq : goal.bare_length-returns-then-eq
bare_length-returns-then-eq t c =
    let plain = c.in-Plain.ensures in
    let same = eq-kind c.in-Plain.j c.of.result c.if-eq.ensures in
    atoms-length (as_mode c.args.mode) _ _ plain.which plain.is (same-atom c.args.b c.in-Plain.j c.of.result plain c.of.ensures same)

pub bare_length-returns-in-Record-shape : goal.bare_length-returns-in-Record-shape
bare_length-returns-in-Record-shape t c =
    records-length (as_mode c.args.mode) _ _ c.in-Record.ensures.0 c.in-Record-shape.ensures.0 _ _ refl c.records_length.ensures

pub bare_length-returns-in-Entity-shape : goal.bare_length-returns-in-Entity-shape
bare_length-returns-in-Entity-shape t c =
    c.entities_length.ensures ∙ sym (ap (form_length_of enc) (entities-join (as_mode c.args.mode) _ _ c.in-Entity.ensures.0 c.in-Entity-shape.ensures.0))

pub bare_length-returns-then-j-k : goal.bare_length-returns-then-j-k
bare_length-returns-then-j-k t c =
    actions-length (as_mode c.args.mode) _ _ c.in-Action.ensures.0 c.in-Action-shape.ensures.0 c.if-j-k.true _ _ refl c.actions_length.ensures

pub bare_length-returns-then-j-k-2 : goal.bare_length-returns-then-j-k-2
bare_length-returns-then-j-k-2 t c =
    extensions-length (as_mode c.args.mode) _ _ c.in-Extension.ensures.0 c.in-Extension-shape.ensures.0 c.if-j-k-2.true

pub bare_length-returns : goal.bare_length-returns
bare_length-returns t c =
    let m = as_mode c.args.mode in
    let codes = codes-join m (type_of c.args.a) (type_of c.args.b) in
    let apart = codes-apart c.args.a c.args.b c.shape.result in
    c.partless_length.ensures ∙ sym (ap (form_length_of enc) (elim c.match-shape.branch [
      | with-plain w ↦ codes (other-atom c.args.b w.in-Plain.j w.of.result w.in-Plain.ensures w.of.ensures (not-kind w.in-Plain.j w.of.result w.if-eq.ensures))
      | with-set w ↦ codes (set-apart _ _ c.requires _ w.in-Set.ensures.0)
      | with-record w ↦
          codes (apart _ c.shape.ensures w.shape-in-Record.ensures 2 (ap sort w.in-Record.is) (λ o. w.in_default.not-Record o.0 o.1.0 o.1.1))
      | with-entity w ↦ codes (apart _ c.shape.ensures w.shape-in-Entity.ensures 3 (ap sort w.in-Entity.is) (λ o. w.in_default-shape.not-Entity o.0 o.1))
      | with-actions w ↦ actions-apart m _ _ w.in-Action.ensures.0 w.in-Action-shape.ensures.0 w.if-j-k.false
      | with-action w ↦
          codes (apart _ c.shape.ensures w.shape-in-Action.ensures 4 (ap sort w.in-Action.is) (λ o. w.in_default-shape-2.not-Action o.0 o.1.0 o.1.1))
      | with-extensions w ↦ extensions-apart m _ _ w.in-Extension.ensures.0 w.in-Extension-shape.ensures.0 w.if-j-k-2.false
      | with-extension w ↦
          codes (apart _ c.shape.ensures w.shape-in-Extension.ensures 5 (ap sort w.in-Extension.is) (λ o. w.in_default-shape-3.not-Extension o.0 o.1))
    ]))

pub pair_length-returns-in-Err : goal.pair_length-returns-in-Err
pair_length-returns-in-Err t c =
    let mine = c.args.attribute in
    let other = c.in-Some.other in
    rw c.in-Some.is
    (pair-none (as_mode c.args.mode) mine.required other.required _ _ (number_of c.in-Err.refusal) _ c.in-Err.ensures c.dropped-in-Err.ensures)

pub bound_length-returns : goal.bound_length-returns
bound_length-returns t c = past-length (as_mode c.args.mode) c.past_sets-sets.ensures _ _ c.bare_length.ensures c.sets_length.ensures
