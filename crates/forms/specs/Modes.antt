-- The mode as the code's enum. Assumes nothing: these are definitions.
use Rattle.std.specs.Prelude.{Result, Ok, Err}
use Rattle.std.proofs.Math.Option.{Option, none, some}
use Rattle.cedar.specs.Types.{Mode, strict, permissive, loose}
use Rattle.forms.specs.declared.modes.Mode.{Mode as ModeEnum}
use Rattle.forms.specs.declared.modes.Mode.TheVariants.{Strict, Permissive, Loose}
use Rattle.forms.specs.declared.modes.UnknownMode.{UnknownMode}

-- The mode that a case means.
abbrev pub as_mode : ModeEnum → Mode
as_mode Strict = strict
as_mode Permissive = permissive
as_mode Loose = loose

-- The mode of a number that was read.
abbrev pub mode_in : Result ModeEnum UnknownMode → Option Mode
mode_in (Ok m) = some (as_mode m)
mode_in (Err e) = none
