use native.Mathlib.Omega.{arith}
use mathlib.Core.Path.{refl}
use borrow.Author.Tests.{le-leb, lt-leb}
use Rattle.cedar.specs.Limits.{most_levels, fewest_bytes}
use Rattle.forms.proofs.limits.Limits.are_allowed.Goals as goal

pub returns-then-self-lt-FEWEST_LEVELS : goal.returns-then-self-lt-FEWEST_LEVELS
returns-then-self-lt-FEWEST_LEVELS c =
    let self = c.args.self in
    rw (lt-leb 1 self.levels (omega arith)) refl

pub returns-then-self-gt-MOST_LEVELS : goal.returns-then-self-gt-MOST_LEVELS
returns-then-self-gt-MOST_LEVELS c =
    let self = c.args.self in
    rw (le-leb 1 self.levels (omega arith), lt-leb self.levels most_levels (omega arith)) refl

pub returns-then-self-lt-FEWEST_BYTES : goal.returns-then-self-lt-FEWEST_BYTES
returns-then-self-lt-FEWEST_BYTES c =
    let self = c.args.self in
    rw (le-leb 1 self.levels (omega arith), le-leb self.levels most_levels (omega arith), lt-leb fewest_bytes self.bytes (omega arith)) refl

pub returns : goal.returns
returns c =
    let self = c.args.self in
    rw (le-leb 1 self.levels (omega arith), le-leb self.levels most_levels (omega arith), le-leb fewest_bytes self.bytes (omega arith)) refl
