use Rattle.std.proofs.Common.{arith, ◌≡◌, leb, ℕ, ap₂, ◌∙◌, ◌&&◌, Bool}
use Rattle.std.proofs.lemmas.Bool.Decides.{nat_tests}
use Rattle.std.specs.Ordering.{is_le}
use Rattle.std.specs.Ordering.{nat_cmp}
use Rattle.strings.specs.Steps.{is_in}
use Rattle.strings.proofs.text.within.Goals as goal

is_le-nat : (a b : ℕ) → is_le (nat_cmp a b) ≡ leb a b
is_le-nat a b = grind (arith, nat_tests)

pub returns : goal.returns
unfolding is_in
returns c =
    let n = c.new.ensures in
    (rw (n.start, n.exhausted, n.end) at c.contains.ensures.value) ∙ ap₂ (λ (x y : Bool). x && y) (is_le-nat c.args.low c.args.x) (is_le-nat c.args.x c.args.high)
