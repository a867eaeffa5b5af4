use Rattle.std.proofs.Common.{refl}
use Rattle.forms.specs.Laws.Names.{same-other, same_start, same_end, same_not, same_more}
use Rattle.forms.proofs.rows.Rows.same_names.Goals as goal

pub returns-then-self-other : goal.returns-then-self-other
returns-then-self-other g c =
    let all = c.args.self in
    let others = c.args.other in
    same-other g.row.WIDTH all.left others.left all.entries.now others.entries.now c.if-self-other.true

pub loop-entry-init : goal.loop-entry-init
loop-entry-init g c =
    let w = g.row.WIDTH in
    let all = c.args.self in
    let others = c.args.other in
    let items = c.chunks_exact-entry-items.ensures in
    same_start w all.left others.left all.entries.now others.entries.now c.requires.wide c.if-self-other.false c.requires.sized.0 c.requires.sized.1
    c.into_iter-entry-iterator.ensures.into_iter_gives items.rest items.size

pub returns-then-u16_at : goal.returns-then-u16_at
returns-then-u16_at g c =
    let s = c.in-Some.ensures.steps.1 in
    same_not c.requires.wide c.loop-entry.invariant _ _ s.0 s.1 _ _ c.u16_at.ensures.0 c.u16_at-in-loop-entry.ensures.0 c.if-u16_at.true

pub loop-entry-preserved : goal.loop-entry-preserved
loop-entry-preserved g c =
    let s = c.in-Some.ensures.steps in
    same_more c.requires.wide c.loop-entry.invariant _ _ s.1.0 s.1.1 _ _ c.u16_at.ensures.0 c.u16_at-in-loop-entry.ensures.0 c.if-u16_at.false
    c.next.new.self s.0 refl

pub returns : goal.returns
returns g c = same_end c.requires.wide c.loop-entry.invariant c.in-None.ensures.steps.1.0
