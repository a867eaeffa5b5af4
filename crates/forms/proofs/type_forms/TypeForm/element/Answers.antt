use Rattle.std.proofs.Common.{arith, sym, ◌∙◌}
use Rattle.forms.specs.TypeForms.{type_of}
use Rattle.forms.specs.Laws.Codes.{no-set-code}
use Rattle.forms.specs.Laws.Kinds.{whole-kind}
use Rattle.forms.specs.Laws.TypeForms.{as_set, kind-said}
use Rattle.forms.proofs.type_forms.TypeForm.element.Goals as goal

pub bounds-b-0 : goal.bounds-b-0
bounds-b-0 c = (whole-kind c.args.self.levels c.args.self.bytes.now c.args.self.whole).0

pub returns-then-b : goal.returns-then-b
returns-then-b c = no-set-code (type_of c.args.self) (λ e. c.if-b.true (sym (kind-said c.args.self) ∙ e))

pub overflow_sub-levels : goal.overflow_sub-levels
overflow_sub-levels c = omega (arith, (as_set c.args.self c.if-b.false).deep)

pub invariant_of-result : goal.invariant_of-result
invariant_of-result c = record { whole = (as_set c.args.self c.if-b.false).good }

pub returns : goal.returns
returns c = let here = as_set c.args.self c.if-b.false in (here.is, omega (arith, here.deep))
