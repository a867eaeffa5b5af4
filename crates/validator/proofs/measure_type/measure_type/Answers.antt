use mathlib.Core.Path.{sym, ◌∙◌}
use borrow.Author.Tests.{not-false}
use Rattle.forms.specs.Limits.{as_limits}
use Rattle.validator.specs.Laws.Questions.{type-there, type-whole}
use Rattle.validator.specs.Laws.Measure.{measure-whole-type}
use Rattle.validator.proofs.measure_type.measure_type.Goals as goal

pub type_levels-requires : goal.type_levels-requires
type_levels-requires c =
    let whole = c.whole_type in
    let args = c.args in
    type-whole (as_limits args.limits) args.t.now whole.result whole.ensures c.if-not-whole_type.false-raw

pub returns : goal.returns
returns c =
    let whole = c.whole_type in
    let allowed = c.are_allowed in
    let fair = sym allowed.ensures ∙ not-false allowed.result c.if-not-are_allowed.false-raw in
    let args = c.args in
    let lim = as_limits args.limits in
    measure-whole-type lim fair args.t.now (λ i. (c.type_inv.t i).fits) c.type_levels.result
    (type-there lim args.t.now whole.result whole.ensures c.if-not-whole_type.false-raw)
    (type-whole lim args.t.now whole.result whole.ensures c.if-not-whole_type.false-raw) c.type_levels.ensures
