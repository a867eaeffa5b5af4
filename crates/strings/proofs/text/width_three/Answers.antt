use native.Mathlib.Omega.{arith}
use Rattle.strings.specs.Laws.Steps.{then-width, three-short, three-second, three-no, three-yes}
use Rattle.strings.proofs.text.width_three.Goals as goal

pub returns-then-b-at-lt3 : goal.returns-then-b-at-lt3
returns-then-b-at-lt3 c = three-short _ _ (omega arith) (omega arith) (omega arith) (omega arith)

pub returns-then-not-is_second : goal.returns-then-not-is_second
returns-then-not-is_second c = three-second _ _ (omega arith) (omega arith) (omega arith) (omega arith) _ c.is_second.ensures c.if-not-is_second.true

pub returns : goal.returns
returns c =
    let second = c.is_second.ensures in
    let is = c.if-not-is_second.false in
    then-width c.is_tail.result c.then_some.ensures (three-no _ _ (omega arith) (omega arith) (omega arith) (omega arith) _ second is _ c.is_tail.ensures)
    (three-yes _ _ (omega arith) (omega arith) (omega arith) (omega arith) _ second is _ c.is_tail.ensures)
