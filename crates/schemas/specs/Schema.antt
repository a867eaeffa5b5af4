-- What a checked schema says. Assumes nothing: these are definitions.
use Rattle.std.specs.Prelude.{◌≡◌}
use Rattle.cedar.specs.Types.{Schema as Said}
use Rattle.cedar.specs.Limits.{Limits}
use Rattle.forms.specs.Limits.{as_limits}
use Rattle.schemas.specs.SchemaBytes.{dec_s}
use Rattle.schemas.specs.declared.schema.Schema.{Schema}
use Rattle.schemas.specs.declared.checked.Checked.{Checked}

-- The limits that it was checked under.
abbrev pub limits_in : Schema → Limits
limits_in s = as_limits s.sections.limits

-- The schema that its bytes say.
abbrev pub said_by : Schema → Said
said_by s = dec_s (limits_in s) s.bytes.now

-- A whole schema is that of a check: its bytes and its limits.
pub record OfCheck (c : Checked) (s : Schema) : Type 0 where
  pub bytes : s.bytes ≡ c.bytes
  pub limits : s.sections.limits ≡ c.limits
