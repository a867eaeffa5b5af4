-- A schema that was checked once and is kept with its block. Assumes nothing: these are definitions.
use Rattle.std.specs.Prelude.{ℕ, List, ◌≡◌, Option as Maybe}
use Rattle.forms.specs.declared.limits.Limits.{Limits}
use Rattle.schemas.specs.SchemaBytes.{checked}
use Rattle.schemas.specs.Offsets.{offsets_of}
use Rattle.schemas.specs.declared.offsets.Offsets.{Offsets}

-- What is kept beside the block is that of its own check.
abbrev pub OwnCheck : List ℕ → Limits → Maybe Offsets → Type 0
OwnCheck block limits offsets = offsets ≡ offsets_of (checked limits block)
