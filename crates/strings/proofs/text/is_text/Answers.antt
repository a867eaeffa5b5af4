use native.Mathlib.Omega.{arith}
use Rattle.strings.specs.Laws.Steps.{passes-thrice, text-yes, text-no}
use Rattle.strings.proofs.text.is_text.Goals as goal

pub returns-then-j-b : goal.returns-then-j-b
returns-then-j-b c =
    text-yes (passes-thrice c.loop-i.invariant c.pass_blocks-long.ensures c.pass_blocks-short.ensures c.pass_plain-j.ensures.0) (omega arith)

pub returns-in_default : goal.returns-in_default
returns-in_default c =
    text-no (passes-thrice c.loop-i.invariant c.pass_blocks-long.ensures c.pass_blocks-short.ensures c.pass_plain-j.ensures.0) c.in_default.ensures

pub returns : goal.returns
returns c = text-yes c.loop-i.invariant (omega arith)
