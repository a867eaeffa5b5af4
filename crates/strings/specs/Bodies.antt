-- The bodies of a table, whatever else its entries say: a set's members, a call's arguments, a record's values. Assumes nothing: this
-- is a definition.
use Rattle.std.specs.Prelude.{ℕ, List}
use Rattle.cedar.specs.Types.{Values}
use Rattle.cedar.specs.ValueForm.{values_from}
use Rattle.forms.specs.Rows.{body_row, table_of}
use Rattle.forms.specs.ValueBytes.{dec_v}

-- The values that the bodies say, in a table whose count stands at c.
abbrev pub bodies_at : ℕ → ℕ → ℕ → List ℕ → Values
bodies_at levels width c b = values_from (table_of (body_row width) (λ _. dec_v levels) c b)
