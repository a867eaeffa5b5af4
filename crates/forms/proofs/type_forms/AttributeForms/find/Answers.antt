use Rattle.std.proofs.Common.{lit<, refl}
use Rattle.forms.specs.Laws.Attributes.{laid}
use Rattle.forms.specs.Laws.AttributeRows.{found-attribute, found-none}
use Rattle.forms.specs.Laws.TypeForms.{sound-ahead, passed-ahead}
use Rattle.forms.proofs.type_forms.AttributeForms.find.Goals as goal

pub find-requires : goal.find-requires
find-requires c = (lit< tt, laid c.args.self.now.sound)

pub invariant_of-self : goal.invariant_of-self
invariant_of-self c = record { sound = sound-ahead c.args.self.now c.args.name c.find.ensures.passed }

pub returns-in_err-row : goal.returns-in_err-row
returns-in_err-row c = (
  passed-ahead c.args.self.now c.args.name c.in_err-row.ensures.passed _ refl refl refl refl,
  rw c.from_residual.ensures (found-none c.args.self.now.sound c.in_err-row.ensures.passed c.in_err-row.ensures.sought),
)

pub invariant_of-result : goal.invariant_of-result
invariant_of-result c =
    let sought = c.in_ok-row.ensures.sought in
    record { whole = (found-attribute c.args.self.now.sound c.in_ok-row.ensures.passed sought.0 sought.1).1 }

pub returns : goal.returns
returns c =
    let sought = c.in_ok-row.ensures.sought in
    let here = found-attribute c.args.self.now.sound c.in_ok-row.ensures.passed sought.0 sought.1 in (
      passed-ahead c.args.self.now c.args.name c.in_ok-row.ensures.passed _ refl refl refl refl,
      record { found = rw c.is_required.ensures here.2; named = refl; below = refl },
    )
