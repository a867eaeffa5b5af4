use Rattle.std.proofs.Common.{arith}
use Rattle.forms.specs.Laws.RowBytes.{laid-skipped}
use Rattle.forms.proofs.rows.Rows.find.Goals as goal

pub next-requires : goal.next-requires
next-requires g c = (omega arith, laid-skipped c.requires c.skip_below.ensures)
