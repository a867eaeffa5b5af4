-- The attributes of a record or an action in its form: the table whose count stands at a place. Assumes nothing: these are definitions.
use Rattle.std.specs.Prelude.{ℕ, ◌+◌, ◌≤◌, ◌<◌, List, length}
use Rattle.cedar.specs.Types.{Attrs}
use Rattle.forms.specs.Parts.{part, rest, rd}
use Rattle.forms.specs.Rows.{table_end}
use Rattle.forms.specs.TypeBytes.{attr_row, dec_a, dec, Sound}

-- The attributes of a form whose count stands at c.
abbrev pub attrs_at : ℕ → ℕ → List ℕ → Attrs
attrs_at l c b = dec_a (dec l) (rd b c) (part (c + 2) (table_end attr_row c b) b) (rest (table_end attr_row c b) b)

-- A form whose count at c is followed by as many whole attributes, and no byte over.
pub record Tabled (l c : ℕ) (b : List ℕ) : Type 0 where
  pub front : c < 4
  pub fit : table_end attr_row c b ≤ length b
  pub sound : Sound l (rd b c) 0 (part (c + 2) (table_end attr_row c b) b) (rest (table_end attr_row c b) b)

-- What a walk has left of an attribute list.
pub record Left (l n : ℕ) (es bs : List ℕ) : Type 0 where
  pub low : ℕ
  pub sound : Sound l n low es bs
