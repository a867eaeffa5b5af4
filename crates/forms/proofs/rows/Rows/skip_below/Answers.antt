use Rattle.std.proofs.Common.{arith}
use Rattle.forms.specs.Laws.RowBytes.{took, laid-more, skipped-more, skipped-here, skipped-over}
use Rattle.forms.proofs.rows.Rows.skip_below.Goals as goal

pub returns-then-name-u16_at : goal.returns-then-name-u16_at
returns-then-name-u16_at g c =
    let rows = c.loop-self.self in
    c.loop-self.invariant.passed rows.left rows.entries.now rows.bodies.now
    (skipped-here c.args.name (omega (arith, c.u16_at.ensures.0, c.if-name-u16_at.true)))

pub loop-self-preserved : goal.loop-self-preserved
loop-self-preserved g c =
    let rows = c.loop-self.self in
    let more = c.next.new.self in
    let t = (took g.row.WIDTH rows.left rows.entries.now rows.bodies.now more.left more.entries.now more.bodies.now c.next.result c.next.ensures
    c.loop-self-test.true).2 in
    record {
      laid = laid-more t c.loop-self.invariant.laid;
      passed = λ m fs cs h. c.loop-self.invariant.passed m fs cs
          (skipped-more t (omega (arith, c.u16_at.ensures.0, c.if-name-u16_at.false)) h);
    }

pub returns : goal.returns
returns g c =
    let rows = c.loop-self.self in
    c.loop-self.invariant.passed rows.left rows.entries.now rows.bodies.now (skipped-over c.args.name (omega (arith, c.loop-self-test.false)))
