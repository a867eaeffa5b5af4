use mathlib.Core.Path.{refl, sym, ◌∙◌}
use Rattle.schemas.specs.Laws.Finders.{kept}
use Rattle.schemas.proofs.checked.Checked.whole.Goals as goal

pub invariant_of-result : goal.invariant_of-result
invariant_of-result c =
    let self = c.args.self.now in
    record { sectioned = (kept self.limits self.bytes.now c.in_ok-sections.sections (sym self.own_check ∙ c.in_ok-sections.was)).0 }

pub returns : goal.returns
returns c =
    let self = c.args.self.now in
    record { bytes = refl; limits = (kept self.limits self.bytes.now c.in_ok-sections.sections (sym self.own_check ∙ c.in_ok-sections.was)).1 }
