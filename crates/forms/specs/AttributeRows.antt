-- The attributes of a list, by what is left of its table. Assumes nothing: these are definitions.
use Rattle.std.specs.Prelude.{ℕ, List}
use Rattle.cedar.specs.Types.{Attrs}
use Rattle.forms.specs.TypeBytes.{names_by, dec_a, dec, Sound}
use Rattle.forms.specs.declared.rows.Rows.{Rows}

-- Whole attributes of at most l levels each, names from `low` on.
abbrev pub SoundFrom : ℕ → ℕ → Rows 5 → Type 0
SoundFrom l low r = Sound l r.left low r.entries.now r.bodies.now

-- Whole attributes of at most l levels each.
abbrev pub SoundRows : ℕ → Rows 5 → Type 0
SoundRows l r = SoundFrom l 0 r

-- The attributes that they say.
abbrev pub attributes_of : ℕ → Rows 5 → Attrs
attributes_of l r = dec_a (dec l) r.left r.entries.now r.bodies.now

-- Their names.
abbrev pub names_of : Rows 5 → List ℕ
names_of r = names_by 5 r.left r.entries.now
