-- Searches in a whole schema by key. Assumes nothing: these are definitions.
use Rattle.std.specs.Prelude.{ℕ, zero, suc, ◌+◌, ◌*◌, ◌-◌, ◌≤◌, List, Bool, true, ◌&&◌, cond, ◌≡◌, eqb, length, get_or, Option as Maybe, Some, None, option_map}
use Rattle.std.proofs.Math.Option.{Option, none, some}
use Rattle.cedar.specs.Types.{Attrs}
use Rattle.cedar.specs.Limits.{Limits, allowed, block_bytes}
use Rattle.forms.specs.Limits.{as_limits}
use Rattle.forms.specs.Parts.{part, rest, rd}
use Rattle.forms.specs.declared.rows.Row.{Row}
use Rattle.forms.specs.Tables.{attrs_at}
use Rattle.schemas.specs.SchemaBytes.{section_end, sections_of, whole_s}
use Rattle.schemas.specs.declared.sections.Section.{Section}
use Rattle.schemas.specs.declared.sections.Sections.{Sections}
use Rattle.schemas.specs.declared.entries.Key.{Key}
use Rattle.schemas.specs.declared.entries.Key.TheVariants.{Name, Uid}
use Rattle.schemas.specs.declared.entries.Signature.{Signature}

-- The first entry has the key.
abbrev pub key_is : Key → List ℕ → Bool
key_is (Name n) es = eqb n (rd es 0)
key_is (Uid k i) es = eqb k (rd es 0) && eqb i (rd es 2)

-- The first of n entries that has the key, and its body.
unfoldable pub entry_from : ℕ → Key → ℕ → List ℕ → List ℕ → Maybe (List ℕ × List ℕ)
entry_from w key zero es bs = None
entry_from w key (suc n) es bs =
    cond (key_is key es) (Some (part 0 w es, part 0 (rd es (w - 2)) bs)) (entry_from w key n (rest w es) (rest (rd es (w - 2)) bs))

-- A section's entry of a key, and its body.
abbrev pub entry_at : ℕ → Key → Section → List ℕ → Maybe (List ℕ × List ℕ)
entry_at w key x b = entry_from w key x.count (rest x.entries b) (rest x.bodies b)

-- The bytes of a row: its entry and its body.
abbrev pub row_bytes : Row → List ℕ × List ℕ
row_bytes r = (r.head.now, r.body.now)

-- What a function's entry says: which extension it returns, if it returns one; behind it, its arguments.
abbrev pub signature_of : List ℕ × List ℕ → Maybe ℕ × List ℕ
signature_of y = (cond (eqb (get_or y.0 2 0) 1) (Some (rd y.0 3)) None, y.1)

-- A function's signature, by its name.
abbrev pub function_at : ℕ → Section → List ℕ → Maybe (Maybe ℕ × List ℕ)
function_at name x b = option_map signature_of (entry_at 7 (Name name) x b)

-- The same of the code's.
abbrev pub signature_bytes : Signature → Maybe ℕ × List ℕ
signature_bytes f = (f.returns, f.arguments.now)

-- The extension that a function returns, as cedar says it.
abbrev pub returns_of : Maybe ℕ → Option ℕ
returns_of (Some e) = some e
returns_of None = none

-- A section of so wide entries lies within the bytes.
pub record LaidIn (w : ℕ) (x : Section) (b : List ℕ) : Type 0 where
  pub entries : x.entries + w * x.count ≤ length b
  pub room : section_end w x b ≤ length b

-- A schema that was checked, and its sections.
pub record Sectioned (b : List ℕ) (x : Sections) : Type 0 where
  pub few : length b ≤ block_bytes
  pub fair : allowed (as_limits x.limits) ≡ true
  pub yes : whole_s (as_limits x.limits) b ≡ true
  pub is : x ≡ sections_of x.limits b

-- Whether an entry's body, a record form, is open.
abbrev pub open_at : List ℕ → Bool
open_at c = eqb (get_or c 1 0) 1

-- Its attributes.
abbrev pub body_attrs : Limits → List ℕ → Attrs
body_attrs lim c = attrs_at (lim.levels - 1) 2 c
