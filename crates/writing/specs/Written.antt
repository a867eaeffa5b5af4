-- What a writer's contract says: every byte of the buffer, and how many it filled. Assumes nothing: this is a definition.
use Rattle.std.specs.Prelude.{ℕ, List, ◌≡◌, length}
use Rattle.cedar.specs.Outcome.{over}

-- The bytes w stand at the front of the buffer, all behind them is as before, and r is how many they are.
pub record Written (w before after : List ℕ) (r : ℕ) : Type 0 where
  pub bytes : after ≡ over w before
  pub many : r ≡ length w
