use Rattle.std.proofs.Common.{arith}
use Rattle.forms.specs.Laws.RowBytes.{width-room}
use Rattle.forms.proofs.rows.Rows.within.Goals as goal

pub overflow_mul-end : goal.overflow_mul-end
overflow_mul-end g c = omega (arith, width-room g.row.WIDTH c.u16_at-left.result c.requires.1 c.u16_at-left.ensures.1)

pub overflow_add-end : goal.overflow_add-end
overflow_add-end g c = omega (arith, width-room g.row.WIDTH c.u16_at-left.result c.requires.1 c.u16_at-left.ensures.1, c.requires.0)
