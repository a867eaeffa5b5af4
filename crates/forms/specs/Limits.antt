-- The record of limits as the code's struct. Assumes nothing: these are definitions.
use Rattle.cedar.specs.Limits.{Limits}
use Rattle.forms.specs.declared.limits.Limits.{Limits as LimitsStruct}

-- The limits that a struct means.
abbrev pub as_limits : LimitsStruct → Limits
as_limits l = record { levels = l.levels; bytes = l.bytes }
