-- One number for the outcome of a schema's check. Assumes nothing: these are definitions.
use Rattle.std.specs.Prelude.{ℕ, ◌+◌, ◌*◌, ◌/◌, ◌%◌, ◌≤◌, List, true, cond, ◌≡◌, Option as Maybe, Some, None}
use Rattle.cedar.specs.Limits.{Limits, allowed, block_bytes}
use Rattle.forms.specs.Limits.{as_limits}
use Rattle.forms.specs.declared.limits.Limits.{Limits as LimitsStruct}
use Rattle.schemas.specs.Offsets.{offsets_of}
use Rattle.schemas.specs.SchemaBytes.{checked}
use Rattle.schemas.specs.declared.offsets.Offsets.{Offsets}
use Rattle.exports.specs.Steps.{packed_step, levels_step}

-- The limits that two numbers give.
abbrev pub within : ℕ → ℕ → Limits
within levels bytes = record { levels = levels; bytes = bytes }

-- Where the bodies of the actions start, above it where those of the functions start, and above both the levels and the bytes; both starts
-- are 0 where there is no whole schema.
abbrev pub packed_of : LimitsStruct → Maybe Offsets → ℕ
packed_of l (Some o) = o.actions + packed_step * (o.functions + packed_step * (l.levels + levels_step * l.bytes))
packed_of l None = packed_step * (packed_step * (l.levels + levels_step * l.bytes))

-- The number of a check of bytes under limits: 0 where these are out of their ranges.
abbrev pub check_number : LimitsStruct → List ℕ → ℕ
check_number l b = cond (allowed (as_limits l)) (packed_of l (offsets_of (checked l b))) 0

-- The limits that a number tells.
abbrev pub limits_in : ℕ → LimitsStruct
limits_in n = record { levels = n / packed_step / packed_step % levels_step; bytes = n / packed_step / packed_step / levels_step }

-- Offsets within the length of a schema, and limits that are allowed.
pub record Near (l : LimitsStruct) (o : Maybe Offsets) : Type 0 where
  pub fair : allowed (as_limits l) ≡ true
  pub inside : (x : Offsets) → o ≡ Some x → (x.actions ≤ block_bytes) × (x.functions ≤ block_bytes)
