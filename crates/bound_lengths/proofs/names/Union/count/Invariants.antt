use Rattle.std.proofs.Common.{◌≡◌, ◌+◌, ◌*◌, ◌≤◌, length}
use Rattle.cedar.specs.Bound.{union}
use Rattle.forms.specs.Names.{names_in, Ascending}
use Rattle.bound_lengths.proofs.names.Union.count.Given as goal

abbrev pub invariant-loop-self : goal.invariant-loop-self
invariant-loop-self l = record {
  left : Ascending l.self.left.now;
  right : Ascending l.self.right.now;
  most : 2 * l.count + length l.self.left.now + length l.self.right.now ≤ length l.fn.self.left.now + length l.fn.self.right.now;
  many : length (union (names_in l.fn.self.left.now) (names_in l.fn.self.right.now)) ≡ l.count + length (union (names_in l.self.left.now) (names_in l.self.right.now));
}

abbrev pub decreases-loop-self : goal.decreases-loop-self
decreases-loop-self l = length l.self.left.now + length l.self.right.now
