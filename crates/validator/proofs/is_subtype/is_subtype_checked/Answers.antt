use Rattle.cedar.specs.Result.{ok}
use Rattle.forms.specs.Limits.{as_limits}
use Rattle.forms.specs.Laws.Modes.{mode-known}
use Rattle.validator.specs.Laws.Schemas.{limits-fair, checked-missing, checked-there}
use Rattle.validator.specs.Laws.Subtype.{subtype-schema, subtype-first, subtype-second, subtype-said}
use Rattle.validator.proofs.is_subtype.is_subtype_checked.Goals as goal

pub returns-in_default : goal.returns-in_default
returns-in_default c =
    let args = c.args in
    let fair = limits-fair (as_limits args.schema.now.limits) c.are_allowed.result c.are_allowed.ensures c.if-not-are_allowed.false-raw in
    let mode = mode-known args.mode c.try_from.result c.try_from.ensures c.in_ok-m.m c.in_ok-m.was in
    subtype-schema (as_limits args.schema.now.limits) fair args.mode args.schema.now.bytes.now args.t0.now args.t1.now _ mode
    (checked-missing args.schema.now fair c.in_default.is)

pub returns-in_default-within : goal.returns-in_default-within
returns-in_default-within c =
    let args = c.args in
    let fair = limits-fair (as_limits args.schema.now.limits) c.are_allowed.result c.are_allowed.ensures c.if-not-are_allowed.false-raw in
    let mode = mode-known args.mode c.try_from.result c.try_from.ensures c.in_ok-m.m c.in_ok-m.was in
    subtype-first (as_limits args.schema.now.limits) fair args.mode args.schema.now.bytes.now args.t0.now args.t1.now _ mode _
    (checked-there args.schema.now c.in-Some.field-0 c.in-Some.is) c.in_default-within.ensures

pub returns-in_default-within-2 : goal.returns-in_default-within-2
returns-in_default-within-2 c =
    let args = c.args in
    let fair = limits-fair (as_limits args.schema.now.limits) c.are_allowed.result c.are_allowed.ensures c.if-not-are_allowed.false-raw in
    let mode = mode-known args.mode c.try_from.result c.try_from.ensures c.in_ok-m.m c.in_ok-m.was in
    subtype-second (as_limits args.schema.now.limits) fair args.mode args.schema.now.bytes.now args.t0.now args.t1.now _ mode _
    (checked-there args.schema.now c.in-Some.field-0 c.in-Some.is) _ c.in-Some-within.ensures.3 c.in_default-within-2.ensures

pub returns : goal.returns
returns c =
    let args = c.args in
    let fair = limits-fair (as_limits args.schema.now.limits) c.are_allowed.result c.are_allowed.ensures c.if-not-are_allowed.false-raw in
    let mode = mode-known args.mode c.try_from.result c.try_from.ensures c.in_ok-m.m c.in_ok-m.was in
    subtype-said (as_limits args.schema.now.limits) fair args.mode args.schema.now.bytes.now args.t0.now args.t1.now _ mode _
    (checked-there args.schema.now c.in-Some.field-0 c.in-Some.is) _ c.in-Some-within.ensures.3 _ c.in-Some-within-2.ensures.3 (ok c.yes_or_no.result)
    c.is_subtype.result c.yes_or_no.ensures c.is_subtype.ensures
