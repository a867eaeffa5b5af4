-- A lookup: what it asks, and how it ends. Assumes nothing: these are definitions.
use Rattle.std.specs.Prelude.{ℕ, ◌≤◌, ◌-◌, List, Bool, true, ◌≡◌, length, Option as Maybe, Some, None, Result as RustResult, Ok, Err}
use Rattle.std.proofs.Math.Option.{Option, none, some}
use Rattle.cedar.specs.Types.{Ty}
use Rattle.cedar.specs.Limits.{Limits}
use Rattle.cedar.specs.Result.{Result, ok, err, step_too_long}
use Rattle.forms.specs.Parts.{part}
use Rattle.forms.specs.TypeBytes.{whole, dec}
use Rattle.folds.specs.Steps.{Held}
use Rattle.attributes.specs.declared.own_attribute.Attribute.{Attribute}
use Rattle.lookups.specs.declared.lookup_attribute_type.Looked.{Looked}
use Rattle.lookups.specs.declared.lookup_attribute_type.TooLong.{TooLong}

-- The limits of an attribute's form: a level less than those of the type that lists it.
abbrev pub below : Limits → Limits
below lim = record { levels = lim.levels - 1; bytes = lim.bytes }

-- An attribute's form is whole and within the limits.
pub record Shown (lim : Limits) (x : Attribute) : Type 0 where
  pub few : length x.form.now ≤ lim.bytes
  pub good : whole (lim.levels - 1) x.form.now ≡ true

-- A whole type, and room for an attribute's form.
pub record Asked (lim : Limits) (t last : List ℕ) : Type 0 where
  pub good : whole lim.levels t ≡ true
  pub few : length t ≤ lim.bytes
  pub room : lim.bytes ≤ length last

-- The lookup o ends: with an attribute, whose form stands in the first bytes of `last`; with none; or with 9.
abbrev pub LookedUp : Limits → Result (Option (Bool × Ty)) → List ℕ → RustResult (Maybe Looked) TooLong → Type 0
LookedUp lim o last (Ok (Some x)) = (o ≡ ok (some (x.required, dec (lim.levels - 1) (part 0 x.bytes last)))) × Held (below lim) x.bytes last
LookedUp lim o last (Ok None) = o ≡ ok none
LookedUp lim o last (Err e) = o ≡ err step_too_long
