use Rattle.std.proofs.Common.{arith, refl}
use Rattle.forms.specs.Laws.Types.{up-start, up-end, pair-room, up-low, up-again}
use Rattle.forms.proofs.types.names_ascend.Goals as goal

pub loop-pair-init : goal.loop-pair-init
loop-pair-init c =
    let items = c.chunks_exact-pair-items.ensures in
    up-start c.into_iter-pair-iterator.ensures.into_iter_gives items.rest items.size

pub u16_at-name-requires : goal.u16_at-name-requires
u16_at-name-requires c =
    let s = c.in-Some.ensures.steps in
    omega (arith, pair-room c.loop-pair.invariant _ _ s.1.0 s.1.1)

pub returns-then-name-low : goal.returns-then-name-low
returns-then-name-low c =
    let s = c.in-Some.ensures.steps in
    up-low c.loop-pair.invariant _ _ s.1.0 s.1.1 (omega (arith, c.if-name-low.true, c.u16_at-name.ensures.0))

pub loop-pair-preserved : goal.loop-pair-preserved
loop-pair-preserved c =
    let s = c.in-Some.ensures.steps in
    rw c.u16_at-name.ensures.0 (up-again c.loop-pair.invariant _ _ s.1.0 s.1.1 (omega (arith, c.if-name-low.false, c.u16_at-name.ensures.0)) c.next.new.self s.0 refl)

pub returns : goal.returns
returns c = up-end c.loop-pair.invariant c.in-None.ensures.steps.1.0
