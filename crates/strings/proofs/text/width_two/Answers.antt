use native.Mathlib.Omega.{arith}
use Rattle.strings.specs.Laws.Steps.{then-width, two-short, two-no, two-yes}
use Rattle.strings.proofs.text.width_two.Goals as goal

pub returns-then-b-at-lt2 : goal.returns-then-b-at-lt2
returns-then-b-at-lt2 c = two-short _ _ (omega arith) (omega arith) (omega arith) (omega arith)

pub returns : goal.returns
returns c =
    then-width c.is_tail.result c.then_some.ensures (two-no _ _ (omega arith) (omega arith) (omega arith) (omega arith) _ c.is_tail.ensures) (two-yes _ _ (omega arith) (omega arith) (omega arith) (omega arith) _ c.is_tail.ensures)
