-- The uid that a literal is asked of. Assumes nothing: this is a definition.
use Rattle.std.specs.Prelude.{ℕ, List}
use Rattle.std.proofs.Math.Option.{Option}
use Rattle.cedar.specs.Bytes.{◌>>=◌}
use Rattle.cedar.specs.Limits.{Limits}
use Rattle.cedar.specs.Whole.{whole_value}
use Rattle.cedar.specs.Conformance.{as_uid}

-- The uid of a whole value form, if it is one.
abbrev pub uid_of : Limits → List ℕ → Option (ℕ × ℕ)
uid_of lim b = whole_value lim b >>= as_uid
