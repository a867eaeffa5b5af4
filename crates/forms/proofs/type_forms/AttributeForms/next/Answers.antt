use Rattle.std.proofs.Common.{arith, lit<, refl}
use Rattle.forms.specs.Laws.Attributes.{laid}
use Rattle.forms.specs.Laws.AttributeRows.{taken-attribute, taken-none}
use Rattle.forms.specs.Laws.TypeForms.{sound-taken}
use Rattle.forms.proofs.type_forms.AttributeForms.next.Goals as goal

pub next-requires : goal.next-requires
next-requires c = (lit< tt, laid c.args.self.now.sound)

pub returns-in_err-row : goal.returns-in_err-row
returns-in_err-row c = rw c.from_residual.ensures (taken-none c.args.self.now.sound c.in_err-row.ensures.none)

pub invariant_of-self : goal.invariant_of-self
invariant_of-self c = record { sound = sound-taken c.next.result c.args.self.now.sound c.next.ensures }

pub invariant_of-result : goal.invariant_of-result
invariant_of-result c = record { whole = (taken-attribute c.args.self.now.sound c.in_ok-row.ensures).body }

pub returns : goal.returns
returns c =
    let here = taken-attribute c.args.self.now.sound c.in_ok-row.ensures in
    record {
      all = rw (c.name.ensures.0, c.is_required.ensures) here.is;
      levels = refl;
      below = refl;
      fewer = omega (arith, c.in_ok-row.ensures.left);
      small = c.name.ensures.1;
    }
