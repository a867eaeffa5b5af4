use native.Mathlib.Omega.{arith}
use Rattle.strings.specs.Laws.Steps.{then-width, four-short, four-second, four-third, four-no, four-yes}
use Rattle.strings.proofs.text.width_four.Goals as goal

pub returns-then-b-at-lt4 : goal.returns-then-b-at-lt4
returns-then-b-at-lt4 c = four-short _ _ (omega arith) (omega arith) (omega arith) (omega arith)

pub returns-then-not-is_second : goal.returns-then-not-is_second
returns-then-not-is_second c = four-second _ _ (omega arith) (omega arith) (omega arith) (omega arith) _ c.is_second.ensures c.if-not-is_second.true

pub returns-then-not-is_tail : goal.returns-then-not-is_tail
returns-then-not-is_tail c =
    four-third _ _ (omega arith) (omega arith) (omega arith) (omega arith) _ c.is_second.ensures c.if-not-is_second.false _ c.is_tail.ensures c.if-not-is_tail.true

pub returns : goal.returns
returns c =
    let second = c.is_second.ensures in
    let is = c.if-not-is_second.false in
    let third = c.is_tail.ensures in
    let is3 = c.if-not-is_tail.false in
    then-width c.is_tail-2.result c.then_some.ensures (four-no _ _ (omega arith) (omega arith) (omega arith) (omega arith) _ second is _ third is3 _ c.is_tail-2.ensures)
    (four-yes _ _ (omega arith) (omega arith) (omega arith) (omega arith) _ second is _ third is3 _ c.is_tail-2.ensures)
