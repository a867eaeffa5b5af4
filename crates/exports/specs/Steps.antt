-- What the upper part of a number is multiplied by. Assumes nothing: these are definitions.
use Rattle.std.specs.Prelude.{ℕ}

-- What stands above a kind.
abbrev pub kind_step : ℕ
kind_step = 256

-- The second of two offsets, the limits above both, and the levels above a length.
abbrev pub packed_step : ℕ
packed_step = 65536

-- The bytes above the levels.
abbrev pub levels_step : ℕ
levels_step = 64
