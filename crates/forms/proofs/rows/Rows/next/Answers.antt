use Rattle.std.proofs.Common.{ap, ◌∙◌, ◌-◌, arith, List, ℕ}
use Rattle.forms.specs.Parts.{rd}
use Rattle.forms.specs.Laws.Parts.{pos, rd-take}
use Rattle.forms.specs.Laws.RowBytes.{laid-fit}
use Rattle.forms.proofs.rows.Rows.next.Goals as goal

pub split_at-requires-2 : goal.split_at-requires-2
split_at-requires-2 g c =
    let rows = c.args.self.now in
    let w = g.row.WIDTH in
    let len = c.u16_at.ensures.0 ∙ ap (λ (z : List ℕ). rd z (w - 2)) c.split_at.ensures.front
    ∙ rd-take w rows.entries.now (w - 2) (omega (arith, c.requires.wide)) in
    omega (arith, len, laid-fit c.requires (pos rows.left c.if-self-eq0.false))
