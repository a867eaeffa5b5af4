use mathlib.Core.Path.{sym, ◌∙◌}
use borrow.Author.Tests.{not-true, not-false}
use Rattle.forms.specs.Limits.{as_limits}
use Rattle.validator.specs.Laws.Values.{value_there, value-whole}
use Rattle.validator.specs.Laws.Measure.{measure-no-text, measure-whole-value}
use Rattle.validator.proofs.measure_value.measure_value.Goals as goal

pub is_textual-requires : goal.is_textual-requires
is_textual-requires c =
    let whole = c.whole_value in
    let args = c.args in
    value-whole (as_limits args.limits) args.v.now whole.result whole.ensures c.if-not-whole_value.false-raw

pub returns-then-not-is_textual : goal.returns-then-not-is_textual
returns-then-not-is_textual c =
    let text = c.is_textual in
    let whole = c.whole_value in
    let allowed = c.are_allowed in
    let fair = sym allowed.ensures ∙ not-false allowed.result c.if-not-are_allowed.false-raw in
    let args = c.args in
    let lim = as_limits args.limits in
    measure-no-text lim fair args.v.now (value_there lim args.v.now whole.result whole.ensures c.if-not-whole_value.false-raw)
    text.result text.ensures (not-true text.result c.if-not-is_textual.true-raw)

pub value_levels-requires : goal.value_levels-requires
value_levels-requires c =
    let whole = c.whole_value in
    let args = c.args in
    value-whole (as_limits args.limits) args.v.now whole.result whole.ensures c.if-not-whole_value.false-raw

pub returns : goal.returns
returns c =
    let text = c.is_textual in
    let whole = c.whole_value in
    let allowed = c.are_allowed in
    let fair = sym allowed.ensures ∙ not-false allowed.result c.if-not-are_allowed.false-raw in
    let args = c.args in
    let lim = as_limits args.limits in
    measure-whole-value lim fair args.v.now (λ i. (c.type_inv.v i).fits) c.value_levels.result
    (value_there lim args.v.now whole.result whole.ensures c.if-not-whole_value.false-raw)
    (value-whole lim args.v.now whole.result whole.ensures c.if-not-whole_value.false-raw) text.result text.ensures
    (not-false text.result c.if-not-is_textual.false-raw) c.value_levels.ensures
