use Rattle.std.proofs.Common.{ap, length}
use Rattle.cedar.proofs.Laws.Limits.{allowed-bytes}
use Rattle.cedar.specs.Laws.DirectBound.{direct}
use Rattle.cedar.specs.TypeForm.{enc}
use Rattle.forms.specs.Limits.{as_limits}
use Rattle.forms.specs.Modes.{as_mode}
use Rattle.forms.specs.Refusals.{number_of}
use Rattle.forms.specs.TypeForms.{type_of}
use Rattle.forms.specs.Laws.Modes.{mode-known}
use Rattle.writing.specs.FormLengths.{seen, form_of}
use Rattle.writing.specs.Written.{Written}
use Rattle.validator.specs.Laws.Schemas.{limits-fair, checked-missing, checked-there}
use Rattle.validator.specs.Laws.Writing.{refuses, refuses-as, writes-not, writes-over, wrote, wrote-whole, wrote-levels}
use Rattle.validator.specs.Laws.Bound.{bound-schema, bound-first, bound-second, bound-direct, bound-within}
use Rattle.validator.proofs.least_upper_bound.least_upper_bound_checked.Goals as goal

pub returns-in_default : goal.returns-in_default
returns-in_default c =
    let args = c.args in
    let lim = as_limits args.schema.now.limits in
    let fair = limits-fair lim c.are_allowed.result c.are_allowed.ensures c.if-not-are_allowed.false-raw in
    let mode = mode-known args.mode c.try_from.result c.try_from.ensures c.in_ok-m.m c.in_ok-m.was in
    refuses 2 (bound-schema lim fair args.mode args.schema.now.bytes.now args.t0.now args.t1.now (length args.out.now) _ mode
    (checked-missing args.schema.now fair c.in_default.is))

pub returns-in_default-within : goal.returns-in_default-within
returns-in_default-within c =
    let args = c.args in
    let lim = as_limits args.schema.now.limits in
    let fair = limits-fair lim c.are_allowed.result c.are_allowed.ensures c.if-not-are_allowed.false-raw in
    let mode = mode-known args.mode c.try_from.result c.try_from.ensures c.in_ok-m.m c.in_ok-m.was in
    refuses 3 (bound-first lim fair args.mode args.schema.now.bytes.now args.t0.now args.t1.now (length args.out.now) _ mode _
    (checked-there args.schema.now c.in-Some.field-0 c.in-Some.is) c.in_default-within.ensures)

pub returns-in_default-within-2 : goal.returns-in_default-within-2
returns-in_default-within-2 c =
    let args = c.args in
    let lim = as_limits args.schema.now.limits in
    let fair = limits-fair lim c.are_allowed.result c.are_allowed.ensures c.if-not-are_allowed.false-raw in
    let mode = mode-known args.mode c.try_from.result c.try_from.ensures c.in_ok-m.m c.in_ok-m.was in
    refuses 4 (bound-second lim fair args.mode args.schema.now.bytes.now args.t0.now args.t1.now (length args.out.now) _ mode _
    (checked-there args.schema.now c.in-Some.field-0 c.in-Some.is) _ c.in-Some-within.ensures.3 c.in_default-within-2.ensures)

pub returns-in_err-n : goal.returns-in_err-n
returns-in_err-n c =
    let args = c.args in
    let lim = as_limits args.schema.now.limits in
    let fair = limits-fair lim c.are_allowed.result c.are_allowed.ensures c.if-not-are_allowed.false-raw in
    let mode = mode-known args.mode c.try_from.result c.try_from.ensures c.in_ok-m.m c.in_ok-m.was in
    let call = bound-direct lim fair args.mode args.schema.now.bytes.now args.t0.now args.t1.now (length args.out.now) _ mode _
    (checked-there args.schema.now c.in-Some.field-0 c.in-Some.is) _ c.in-Some-within.ensures.3 (λ i. (c.type_inv.t0 i).fits) (λ i. (c.type_inv.t1 i).fits) _
    c.in-Some-within-2.ensures.3 in
    let bound = direct (as_mode c.in_ok-m.m) (type_of c.in-Some-within.first) (type_of c.in-Some-within-2.second) in
    let refusal = c.in_err-n.field-0.0 in
    refuses-as c.from_residual-in_err-n.result refusal c.from_residual-in_err-n.ensures.1 (writes-not lim (allowed-bytes lim fair).1 bound args.out.now _ call
    (seen c.bound_length.result) c.bound_length.ensures (number_of refusal) (ap seen c.in_err-n.was))

pub returns-then-not-answer_fits : goal.returns-then-not-answer_fits
returns-then-not-answer_fits c =
    let args = c.args in
    let lim = as_limits args.schema.now.limits in
    let fair = limits-fair lim c.are_allowed.result c.are_allowed.ensures c.if-not-are_allowed.false-raw in
    let mode = mode-known args.mode c.try_from.result c.try_from.ensures c.in_ok-m.m c.in_ok-m.was in
    let call = bound-direct lim fair args.mode args.schema.now.bytes.now args.t0.now args.t1.now (length args.out.now) _ mode _
    (checked-there args.schema.now c.in-Some.field-0 c.in-Some.is) _ c.in-Some-within.ensures.3 (λ i. (c.type_inv.t0 i).fits) (λ i. (c.type_inv.t1 i).fits) _
    c.in-Some-within-2.ensures.3 in
    let bound = direct (as_mode c.in_ok-m.m) (type_of c.in-Some-within.first) (type_of c.in-Some-within-2.second) in
    writes-over lim (allowed-bytes lim fair).1 bound args.out.now _ call (seen c.bound_length.result) c.bound_length.ensures c.in_ok-n.n
    (ap seen c.in_ok-n.was) c.answer_fits.result c.answer_fits.ensures c.if-not-answer_fits.true-raw

pub type_levels-requires : goal.type_levels-requires
type_levels-requires c =
    let args = c.args in
    let lim = as_limits args.schema.now.limits in
    let fair = limits-fair lim c.are_allowed.result c.are_allowed.ensures c.if-not-are_allowed.false-raw in
    let mode = mode-known args.mode c.try_from.result c.try_from.ensures c.in_ok-m.m c.in_ok-m.was in
    let there = checked-there args.schema.now c.in-Some.field-0 c.in-Some.is in
    let call = bound-direct lim fair args.mode args.schema.now.bytes.now args.t0.now args.t1.now (length args.out.now) _ mode _ there _
    c.in-Some-within.ensures.3 (λ i. (c.type_inv.t0 i).fits) (λ i. (c.type_inv.t1 i).fits) _ c.in-Some-within-2.ensures.3 in
    let within = bound-within lim fair args.mode args.schema.now.bytes.now args.t0.now args.t1.now (length args.out.now) _ mode _ there _
    c.in-Some-within.ensures.3 (λ i. (c.type_inv.t0 i).fits) (λ i. (c.type_inv.t1 i).fits) _ c.in-Some-within-2.ensures.3 in
    let bound = direct (as_mode c.in_ok-m.m) (type_of c.in-Some-within.first) (type_of c.in-Some-within-2.second) in
    let written : Written (form_of enc bound) args.out.now c.write_bound.new.out c.write_bound.result =
    rw (c.in-Some-within.ensures.1, c.in-Some-within-2.ensures.1) c.write_bound.ensures in
    wrote-whole (wrote lim (allowed-bytes lim fair).1 bound args.out.now _ call (seen c.bound_length.result) c.bound_length.ensures c.in_ok-n.n
    (ap seen c.in_ok-n.was) c.answer_fits.result c.answer_fits.ensures c.if-not-answer_fits.false-raw c.write_bound.new.out c.write_bound.result written within)

pub returns : goal.returns
returns c =
    let args = c.args in
    let lim = as_limits args.schema.now.limits in
    let fair = limits-fair lim c.are_allowed.result c.are_allowed.ensures c.if-not-are_allowed.false-raw in
    let mode = mode-known args.mode c.try_from.result c.try_from.ensures c.in_ok-m.m c.in_ok-m.was in
    let there = checked-there args.schema.now c.in-Some.field-0 c.in-Some.is in
    let call = bound-direct lim fair args.mode args.schema.now.bytes.now args.t0.now args.t1.now (length args.out.now) _ mode _ there _
    c.in-Some-within.ensures.3 (λ i. (c.type_inv.t0 i).fits) (λ i. (c.type_inv.t1 i).fits) _ c.in-Some-within-2.ensures.3 in
    let within = bound-within lim fair args.mode args.schema.now.bytes.now args.t0.now args.t1.now (length args.out.now) _ mode _ there _
    c.in-Some-within.ensures.3 (λ i. (c.type_inv.t0 i).fits) (λ i. (c.type_inv.t1 i).fits) _ c.in-Some-within-2.ensures.3 in
    let bound = direct (as_mode c.in_ok-m.m) (type_of c.in-Some-within.first) (type_of c.in-Some-within-2.second) in
    let written : Written (form_of enc bound) args.out.now c.write_bound.new.out c.write_bound.result =
    rw (c.in-Some-within.ensures.1, c.in-Some-within-2.ensures.1) c.write_bound.ensures in
    wrote-levels (wrote lim (allowed-bytes lim fair).1 bound args.out.now _ call (seen c.bound_length.result) c.bound_length.ensures c.in_ok-n.n
    (ap seen c.in_ok-n.was) c.answer_fits.result c.answer_fits.ensures c.if-not-answer_fits.false-raw c.write_bound.new.out c.write_bound.result written within)
    c.type_levels.result c.type_levels.ensures
