use Rattle.std.proofs.Common.{List, ℕ}
use Rattle.forms.specs.Search.{Laid}
use Rattle.forms.specs.RowBytes.{Skipped}
use Rattle.forms.proofs.rows.Rows.skip_below.Given as goal

-- what passes the rest passes all
abbrev pub invariant-loop-self : goal.invariant-loop-self
invariant-loop-self g l =
    let w = g.row.WIDTH in
    let all = l.fn.self in
    record {
      laid : Laid w l.self.left l.self.entries.now l.self.bodies.now;
      passed : (m : ℕ) (fs cs : List ℕ) → Skipped w l.self.left l.name l.self.entries.now l.self.bodies.now m fs cs →
          Skipped w all.left l.name all.entries.now all.bodies.now m fs cs;
    }

abbrev pub decreases-loop-self : goal.decreases-loop-self
decreases-loop-self g l = l.self.left
