use Rattle.std.proofs.Common.{ap, length}
use Rattle.cedar.proofs.Laws.Limits.{allowed-bytes}
use Rattle.forms.specs.Limits.{as_limits}
use Rattle.forms.specs.Refusals.{number_of}
use Rattle.forms.specs.TypeForms.{type_of}
use Rattle.writing.specs.FormLengths.{seen}
use Rattle.conversions.specs.CoreTypes.{core}
use Rattle.validator.specs.Laws.Writing.{refuses, refuses-as, writes-not, writes-over, writes-ready, wrote, wrote-whole, wrote-levels}
use Rattle.validator.specs.Laws.Conversion.{convert-not, convert-whole, core-within}
use Rattle.validator.proofs.convert.convert_under.Goals as goal

pub returns-in_default : goal.returns-in_default
returns-in_default c = refuses 3 (convert-not (as_limits c.args.limits) c.requires c.args.t.now (length c.args.out.now) c.in_default.ensures)

pub returns-then-not-answer_fits : goal.returns-then-not-answer_fits
returns-then-not-answer_fits c =
    let lim = as_limits c.args.limits in
    let call = convert-whole lim c.requires c.args.t.now (length c.args.out.now) _ c.in-Some.ensures.3 in
    writes-over lim (allowed-bytes lim c.requires).1 (core (type_of c.in-Some.whole)) c.args.out.now _ call (seen c.core_length.result) c.core_length.ensures
    c.in_ok-n.n (ap seen c.in_ok-n.was) c.answer_fits.result c.answer_fits.ensures c.if-not-answer_fits.true-raw

pub write_core-requires : goal.write_core-requires
write_core-requires c =
    let lim = as_limits c.args.limits in
    let call = convert-whole lim c.requires c.args.t.now (length c.args.out.now) _ c.in-Some.ensures.3 in
    writes-ready lim (allowed-bytes lim c.requires).1 (core (type_of c.in-Some.whole)) c.args.out.now _ call (seen c.core_length.result) c.core_length.ensures
    c.in_ok-n.n (ap seen c.in_ok-n.was) c.answer_fits.result c.answer_fits.ensures c.if-not-answer_fits.false-raw

pub type_levels-requires : goal.type_levels-requires
type_levels-requires c =
    let lim = as_limits c.args.limits in
    let form = c.in-Some.ensures in
    let call = convert-whole lim c.requires c.args.t.now (length c.args.out.now) _ form.3 in
    let within = core-within lim c.args.t c.in-Some.whole form.0 form.1 (λ i. (c.type_inv.t i).fits) in
    let was-written = wrote lim (allowed-bytes lim c.requires).1 (core (type_of c.in-Some.whole)) c.args.out.now _ call (seen c.core_length.result)
    c.core_length.ensures c.in_ok-n.n (ap seen c.in_ok-n.was) c.answer_fits.result c.answer_fits.ensures c.if-not-answer_fits.false-raw
    c.write_core.new.out c.write_core.result c.write_core.ensures within in
    wrote-whole was-written

pub returns : goal.returns
returns c =
    let lim = as_limits c.args.limits in
    let form = c.in-Some.ensures in
    let call = convert-whole lim c.requires c.args.t.now (length c.args.out.now) _ form.3 in
    let within = core-within lim c.args.t c.in-Some.whole form.0 form.1 (λ i. (c.type_inv.t i).fits) in
    let was-written = wrote lim (allowed-bytes lim c.requires).1 (core (type_of c.in-Some.whole)) c.args.out.now _ call (seen c.core_length.result)
    c.core_length.ensures c.in_ok-n.n (ap seen c.in_ok-n.was) c.answer_fits.result c.answer_fits.ensures c.if-not-answer_fits.false-raw
    c.write_core.new.out c.write_core.result c.write_core.ensures within in
    wrote-levels was-written c.type_levels.result c.type_levels.ensures

pub returns-in_err-n : goal.returns-in_err-n
returns-in_err-n c =
    let lim = as_limits c.args.limits in
    let call = convert-whole lim c.requires c.args.t.now (length c.args.out.now) _ c.in-Some.ensures.3 in
    let refusal = c.in_err-n.field-0.0 in
    refuses-as c.from_residual.result refusal c.from_residual.ensures.1 (writes-not lim (allowed-bytes lim c.requires).1 (core (type_of c.in-Some.whole))
    c.args.out.now _ call (seen c.core_length.result) c.core_length.ensures (number_of refusal) (ap seen c.in_err-n.was))
