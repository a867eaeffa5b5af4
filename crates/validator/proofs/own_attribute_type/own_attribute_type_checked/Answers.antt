use Rattle.cedar.specs.Result.{ok}
use Rattle.forms.specs.Limits.{as_limits}
use Rattle.forms.specs.Refusals.{number_of}
use Rattle.writing.specs.FormLengths.{seen}
use native.Mathlib.Omega.{arith}
use mathlib.Core.Path.{refl, ap, ◌∙◌}
use Rattle.validator.specs.Laws.Handed.{here-refused, here-nothing, here_found, here-required, here-optional}
use Rattle.validator.proofs.own_attribute_type.own_attribute_type_checked.Goals as goal

pub returns-in-Err : goal.returns-in-Err
returns-in-Err c =
    let args = c.args in
    rw c.from.ensures (here-refused (as_limits args.schema.now.limits) args.schema.now.bytes.now args.attr args.t (λ i. omega (arith, c.type_inv.t i))
    (seen c.own_attribute_part_checked.result) c.own_attribute_part_checked.ensures (number_of c.in-Err.refusal) (ap seen c.in-Err.is) _ refl refl)

pub returns-in-Ok-None : goal.returns-in-Ok-None
returns-in-Ok-None c =
    let args = c.args in
    here-nothing (as_limits args.schema.now.limits) args.schema.now.bytes.now args.attr args.t (λ i. omega (arith, c.type_inv.t i))
    (seen c.own_attribute_part_checked.result) c.own_attribute_part_checked.ensures (ap seen c.in-Ok-None.is ∙ ap ok c.in-Ok-None.field-0-is) _ refl refl

pub slice_bounds-result-count : goal.slice_bounds-result-count
slice_bounds-result-count c =
    let args = c.args in
    let f = here_found (as_limits args.schema.now.limits) args.schema.now.bytes.now args.attr args.t (λ i. omega (arith, c.type_inv.t i))
    (seen c.own_attribute_part_checked.result) c.own_attribute_part_checked.ensures c.in-Ok-Some.part (ap seen c.in-Ok-Some.is ∙ ap ok c.in-Ok-Some.field-0-is) in
    omega (arith, f.order, f.inside)

pub slice_bounds-result-end-then-part : goal.slice_bounds-result-end-then-part
slice_bounds-result-end-then-part c =
    let args = c.args in
    let f = here_found (as_limits args.schema.now.limits) args.schema.now.bytes.now args.attr args.t (λ i. omega (arith, c.type_inv.t i))
    (seen c.own_attribute_part_checked.result) c.own_attribute_part_checked.ensures c.in-Ok-Some.part (ap seen c.in-Ok-Some.is ∙ ap ok c.in-Ok-Some.field-0-is) in
    omega (arith, f.order, f.inside)

pub returns-then-part : goal.returns-then-part
returns-then-part c =
    let args = c.args in
    here-required (as_limits args.schema.now.limits) args.schema.now.bytes.now args.attr args.t (λ i. omega (arith, c.type_inv.t i))
    (seen c.own_attribute_part_checked.result) c.own_attribute_part_checked.ensures c.in-Ok-Some.part (ap seen c.in-Ok-Some.is ∙ ap ok c.in-Ok-Some.field-0-is)
    _ refl (omega arith) refl c.if-part.true

pub slice_bounds-result-count-in-Ok-Some : goal.slice_bounds-result-count-in-Ok-Some
slice_bounds-result-count-in-Ok-Some c =
    let args = c.args in
    let f = here_found (as_limits args.schema.now.limits) args.schema.now.bytes.now args.attr args.t (λ i. omega (arith, c.type_inv.t i))
    (seen c.own_attribute_part_checked.result) c.own_attribute_part_checked.ensures c.in-Ok-Some.part (ap seen c.in-Ok-Some.is ∙ ap ok c.in-Ok-Some.field-0-is) in
    omega (arith, f.order, f.inside)

pub slice_bounds-result-end-in-Ok-Some : goal.slice_bounds-result-end-in-Ok-Some
slice_bounds-result-end-in-Ok-Some c =
    let args = c.args in
    let f = here_found (as_limits args.schema.now.limits) args.schema.now.bytes.now args.attr args.t (λ i. omega (arith, c.type_inv.t i))
    (seen c.own_attribute_part_checked.result) c.own_attribute_part_checked.ensures c.in-Ok-Some.part (ap seen c.in-Ok-Some.is ∙ ap ok c.in-Ok-Some.field-0-is) in
    omega (arith, f.order, f.inside)

pub returns-else-part : goal.returns-else-part
returns-else-part c =
    let args = c.args in
    here-optional (as_limits args.schema.now.limits) args.schema.now.bytes.now args.attr args.t (λ i. omega (arith, c.type_inv.t i))
    (seen c.own_attribute_part_checked.result) c.own_attribute_part_checked.ensures c.in-Ok-Some.part (ap seen c.in-Ok-Some.is ∙ ap ok c.in-Ok-Some.field-0-is)
    _ refl (omega arith) refl c.if-part.false

pub slice_bounds-result-start : goal.slice_bounds-result-start
slice_bounds-result-start c = slice_bounds-result-count c

pub slice_bounds-result-start-in-Ok-Some : goal.slice_bounds-result-start-in-Ok-Some
slice_bounds-result-start-in-Ok-Some c = slice_bounds-result-count-in-Ok-Some c
