-- The walk over types and values: which forms are whole, how many levels one has, and the deepest body of a table. Assumes nothing: these
-- are definitions.
use Rattle.std.specs.Prelude.{ℕ, max, List, [], ◌∷◌, Bool}
use Rattle.cedar.specs.Levels.{depth, depth_value}
use Rattle.forms.specs.Rows.{body_row, table_of}
use Rattle.forms.specs.TypeBytes.{whole, dec}
use Rattle.forms.specs.ValueBytes.{whole_v, dec_v}
use Rattle.levels.specs.declared.depths.Form.{Form}
use Rattle.levels.specs.declared.depths.Form.TheVariants.{Types as types, Values as values}

-- A whole form of at most so many levels.
abbrev pub whole_form : Form → ℕ → List ℕ → Bool
whole_form types l b = whole l b
whole_form values l b = whole_v l b

-- The levels of what a form says.
abbrev pub levels_in : Form → ℕ → List ℕ → ℕ
levels_in types l b = depth (dec l b)
levels_in values l b = depth_value (dec_v l b)

-- The most levels of some bodies.
abbrev pub most_of : List (Unit {0} × ℕ) → ℕ
most_of [] = 0
most_of (x ∷ xs) = max x.1 (most_of xs)

-- The levels of the deepest body, in a table whose count stands at c and whose entries have this width.
abbrev pub deepest_at : Form → ℕ → ℕ → ℕ → List ℕ → ℕ
deepest_at f l width c b = most_of (table_of (body_row width) (λ _. levels_in f l) c b)
