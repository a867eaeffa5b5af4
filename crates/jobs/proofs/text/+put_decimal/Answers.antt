use Rattle.writing.specs.Laws.Writing.{written-room}
use Rattle.jobs.specs.Laws.Text.{high-room, high-told}
use native.Mathlib.Omega.{arith}
use Rattle.jobs.proofs.text.+put_decimal.Goals as goal

pub put_decimal-at-requires : goal.put_decimal-at-requires
put_decimal-at-requires t c =
    (omega (arith, c.decreases), omega (arith, high-room c.args.n c.args.out.now c.requires c.if-n-lt10.false))

pub put_one-requires-2 : goal.put_one-requires-2
put_one-requires-2 t c =
    let put-decimal-step = c.put_decimal-at in
    let if1 = c.if-n-lt10 in
    let args = c.args in
    let by-high-room = high-room args.n args.out.now c.requires if1.false in
    omega (arith, by-high-room, written-room put-decimal-step.ensures (omega (arith, by-high-room)))

pub returns : goal.returns
returns t c =
    let put-one2 = c.put_one-2 in
    let digit2 = c.digit-2 in
    let put-decimal-step = c.put_decimal-at in
    let if1 = c.if-n-lt10 in
    high-told c.args.n c.args.out.now c.requires if1.false _ put-decimal-step.ensures digit2.ensures put-one2.ensures
