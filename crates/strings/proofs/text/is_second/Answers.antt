use Rattle.strings.specs.Laws.Steps.{second-E0, second-ED, second-F0, second-F4, second-other}
use Rattle.strings.proofs.text.is_second.Goals as goal

pub returns-in-224 : goal.returns-in-224
returns-in-224 c = second-E0 _ _ _ c.within.ensures c.in-224.is

pub returns-in-237 : goal.returns-in-237
returns-in-237 c = second-ED _ _ _ c.within-in-237.ensures c.in-237.is

pub returns-in-240 : goal.returns-in-240
returns-in-240 c = second-F0 _ _ _ c.within-in-240.ensures c.in-240.is

pub returns-in-244 : goal.returns-in-244
returns-in-244 c = second-F4 _ _ _ c.within-in-244.ensures c.in-244.is

pub returns-in_default : goal.returns-in_default
returns-in_default c =
    let m = c.in_default.in_default-own.rest in
    second-other _ _ _ c.is_tail.ensures m.0.0.0.1 m.0.0.1 m.0.1 m.1
