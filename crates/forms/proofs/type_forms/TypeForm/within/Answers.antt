use Rattle.std.proofs.Common.{refl}
use Rattle.forms.specs.Limits.{as_limits}
use Rattle.forms.specs.Laws.TypeForms.{form-there, form-whole, form-few}
use Rattle.forms.proofs.type_forms.TypeForm.within.Goals as goal

pub invariant_of-result : goal.invariant_of-result
invariant_of-result c = record { whole = form-whole (as_limits c.args.limits) c.args.bytes.now c.whole_type.result c.whole_type.ensures c.if-not-whole_type.false }

pub returns : goal.returns
returns c =
    let lim = as_limits c.args.limits in
    let yes = c.if-not-whole_type.false in (
      refl,
      refl,
      form-few lim c.args.bytes.now c.whole_type.result c.whole_type.ensures yes,
      form-there lim c.args.bytes.now c.whole_type.result c.whole_type.ensures yes,
    )
