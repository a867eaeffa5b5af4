-- The list form: `parse_list` reads a list of types.
use Rattle.std.specs.Prelude.{ℕ, List, leb, length}
use Rattle.std.proofs.Math.Option.{Option, some}
use Rattle.cedar.specs.Types.{Ty}
use Rattle.cedar.specs.Bytes.{guard, ◌>>=◌}
use Rattle.cedar.specs.Table.{parse_counted, any_order, read_length, seconds}
use Rattle.cedar.specs.Limits.{max_listed}

-- At most 64 types; p reads one.
abbrev pub parse_list : (List ℕ → Option Ty) → List ℕ → Option (List Ty)
parse_list p b = do
  xs ← parse_counted read_length any_order (λ h. p) 2 tt b
  _ ← guard (leb (length xs) max_listed)
  some (seconds xs)
