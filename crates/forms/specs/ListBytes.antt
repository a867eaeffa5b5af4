-- List forms in the borrow checker's terms. Assumes nothing: these are definitions.
use Rattle.std.specs.Prelude.{ℕ, ◌*◌, List, Bool, true, ◌&&◌, ◌≡◌, leb, length}
use Rattle.cedar.specs.Types.{Ty, present}
use Rattle.cedar.specs.Table.{seconds}
use Rattle.cedar.specs.Limits.{Limits, max_listed}
use Rattle.cedar.specs.Whole.{whole_type}
use Rattle.forms.specs.Parts.{rd}
use Rattle.forms.specs.Rows.{rows_to, rows_of, none_left, table_fits, table_of}
use Rattle.forms.specs.TypeBytes.{dec}
use Rattle.forms.specs.ValueBytes.{member_row}

-- A whole type within the limits.
abbrev pub type_fits : Limits → List ℕ → Bool
type_fits lim b = present (whole_type lim b)

-- n whole types, with no byte over.
abbrev pub whole_ts : Limits → ℕ → List ℕ → List ℕ → Bool
whole_ts lim n es bs = rows_to member_row (λ _. type_fits lim) none_left n tt es bs

-- The types that they say.
abbrev pub dec_ts : ℕ → ℕ → List ℕ → List ℕ → List Ty
dec_ts l n es bs = seconds (rows_of member_row (λ _. dec l) n es bs)

-- A list's count, lengths and types.
abbrev pub list_fits : Limits → List ℕ → Bool
list_fits lim b = leb (rd b 0) max_listed && table_fits member_row (λ _. type_fits lim) tt 0 b

-- The types that a list says.
abbrev pub list_of : ℕ → List ℕ → List Ty
list_of l b = seconds (table_of member_row (λ _. dec l) 0 b)

-- n lengths, and n whole types behind them.
pub record SoundTs (lim : Limits) (n : ℕ) (es bs : List ℕ) : Type 0 where
  pub sized : length es ≡ 2 * n
  pub good : whole_ts lim n es bs ≡ true
