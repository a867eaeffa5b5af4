-- The wholeness questions: any bytes to the tree of a whole form within its limits, or nothing.
use Rattle.std.specs.Prelude.{ℕ, List, cond, leb, length}
use Rattle.std.proofs.Math.Option.{Option, none}
use Rattle.cedar.specs.Types.{Ty, Value, Schema}
use Rattle.cedar.specs.Limits.{Limits, block_bytes}
use Rattle.cedar.specs.TypeForm.{parse}
use Rattle.cedar.specs.ValueForm.{parse_value}
use Rattle.cedar.specs.ListForm.{parse_list}
use Rattle.cedar.specs.SchemaForm.{parse_schema}

-- At most so many bytes, read by p.
abbrev pub within : {A : Type 0} → ℕ → (List ℕ → Option A) → List ℕ → Option A
within most p b = cond (leb (length b) most) (p b) none

-- The type of a whole type form.
abbrev pub whole_type : Limits → List ℕ → Option Ty
whole_type lim b = within lim.bytes (parse lim.levels) b

-- The value of a whole value form.
abbrev pub whole_value : Limits → List ℕ → Option Value
whole_value lim b = within lim.bytes (parse_value lim.levels) b

-- The types of a whole list.
abbrev pub whole_list : Limits → List ℕ → Option (List Ty)
whole_list lim b = within block_bytes (parse_list (λ c. whole_type lim c)) b

-- The schema of a whole schema form.
abbrev pub whole_schema : Limits → List ℕ → Option Schema
whole_schema lim b = within block_bytes (parse_schema (λ c. whole_type lim c)) b
