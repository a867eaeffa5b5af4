-- Name lists: what is asked, and how one ends. Assumes nothing: these are definitions.
use Rattle.std.specs.Prelude.{ℕ, ◌*◌, ◌≤◌, List, ◌≡◌, length, Result as RustResult, Ok, Err}
use Rattle.cedar.specs.Bytes.{enc_names}
use Rattle.cedar.specs.Limits.{most_bytes}
use Rattle.cedar.specs.Result.{Result, ok, err, step_too_long}
use Rattle.forms.specs.Search.{Laid}
use Rattle.forms.specs.declared.rows.Rows.{Rows}
use Rattle.writing.specs.Written.{Written}
use Rattle.lookups.specs.declared.lookup_attribute_type.TooLong.{TooLong}

-- Attributes, and room for their names.
pub record Entered (x : Rows 5) (kept : List ℕ) : Type 0 where
  pub laid : Laid 5 x.left x.entries.now x.bodies.now
  pub room : 2 * x.left ≤ length kept
  pub size : length kept ≤ most_bytes

-- The name list o ends: with the bytes of its names written, or with 9.
abbrev pub NamedBy : Result (List ℕ) → List ℕ → List ℕ → RustResult ℕ TooLong → Type 0
NamedBy o before after (Ok n) = (ns : List ℕ) × ((o ≡ ok ns) × Written (enc_names ns) before after n)
NamedBy o before after (Err e) = o ≡ err step_too_long
