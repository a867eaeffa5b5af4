use Rattle.std.proofs.Common.{arith, ap, ltb→lt, ◌≡◌, ◌+◌, ◌-◌, ◌*◌, ◌/◌, ◌%◌, T, sym, subst, get_or}
use Rattle.strings.specs.Laws.Steps.{pairs-none, pairs-more, pairs-all}
use Rattle.strings.proofs.text.plain.Goals as goal

pub loop-j-init : goal.loop-j-init
loop-j-init c = λ low high.
    pairs-none c.args.b.now c.args.at c.args.n c.odd_byte-all.result c.odd_byte-all.ensures (omega (arith, c.type_inv.b (c.args.at + c.args.n - 1))) low

pub loop-j-preserved : goal.loop-j-preserved
loop-j-preserved c =
    pairs-more _ _ _ _ _ _ c.loop-j.invariant (omega (arith, c.type_inv.b (c.args.at + 2 * c.loop-j.j))) c.from_le_bytes-all.ensures

pub returns-then-first-lt128 : goal.returns-then-first-lt128
returns-then-first-lt128 c = λ h.
    let first : get_or c.to_le_bytes.result 0 0 ≡ c.loop-j.all % 256 = ap (λ bytes. get_or bytes 0 0) c.to_le_bytes.ensures in
    let second : get_or c.to_le_bytes.result 1 0 ≡ c.loop-j.all / 256 % 256 = ap (λ bytes. get_or bytes 1 0) c.to_le_bytes.ensures in
    let below = ltb→lt (get_or c.to_le_bytes.result 1 0) 128 (subst T (sym h) tt) in
    pairs-all _ _ _ _ (omega arith) c.loop-j-test.false (c.loop-j.invariant (omega (arith, first, c.if-first-lt128.true)) (omega (arith, second, below)))

pub returns-else-first-lt128 : goal.returns-else-first-lt128
returns-else-first-lt128 c = λ h.
    let below = ltb→lt (get_or c.to_le_bytes.result 0 0) 128 (subst T (sym h) tt) in
    absurd (omega (arith, below, c.if-first-lt128.false))
