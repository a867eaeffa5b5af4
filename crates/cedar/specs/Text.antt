-- Text is UTF-8 by the table of RFC 3629, section 4; and whether every string of a value is text.
use Rattle.std.specs.Prelude.{ℕ, List, [], ◌∷◌, Bool, true, false, ◌&&◌, cond, leb}
use Rattle.std.proofs.Math.Option.{Option, none, some}
use Rattle.cedar.specs.Types.{Value, boolean, number, text, uid, set_of, record_of, call, Values, end, value, Pairs, empty, pair, maybe}

-- A range of bytes: the first and the last.
abbrev pub Range : Type 0
Range = ℕ × ℕ

-- Is a byte in a range?
abbrev pub in_range : Range → ℕ → Bool
in_range r x = leb r.0 x && leb x r.1

-- `UTF8-tail`.
abbrev pub tail : Range
tail = (0x80, 0xBF)

-- A row of the table: the range of a character's first byte, then one for each byte after it.
abbrev pub TextRow : Type 0
TextRow = Range × List Range

-- `UTF8-char`: a row for each alternative.
abbrev pub text_rows : List TextRow
text_rows =
    -- `UTF8-1`.
    ((0x00, 0x7F), []) ∷
    -- `UTF8-2`.
    ((0xC2, 0xDF), tail ∷ []) ∷
    -- `UTF8-3`.
    ((0xE0, 0xE0), (0xA0, 0xBF) ∷ tail ∷ []) ∷
    ((0xE1, 0xEC), tail ∷ tail ∷ []) ∷
    ((0xED, 0xED), (0x80, 0x9F) ∷ tail ∷ []) ∷
    ((0xEE, 0xEF), tail ∷ tail ∷ []) ∷
    -- `UTF8-4`.
    ((0xF0, 0xF0), (0x90, 0xBF) ∷ tail ∷ tail ∷ []) ∷
    ((0xF1, 0xF3), tail ∷ tail ∷ tail ∷ []) ∷
    ((0xF4, 0xF4), (0x80, 0x8F) ∷ tail ∷ tail ∷ []) ∷
    []

-- What must follow a first byte: the other ranges of the row whose first range has it.
abbrev pub followed : List TextRow → ℕ → Option (List Range)
followed [] x = none
followed (r ∷ rs) x = cond (in_range r.0 x) (some r.1) (followed rs x)

-- Bytes that go on where these ranges are still to come: a byte in each, then character after character, none cut off.
unfoldable pub goes_on : List Range → List ℕ → Bool
goes_on [] [] = true
goes_on (r ∷ rs) [] = false
goes_on [] (x ∷ b) = maybe false (λ rs. goes_on rs b) (followed text_rows x)
goes_on (r ∷ rs) (x ∷ b) = in_range r x && goes_on rs b

-- `UTF8-octets`.
abbrev pub is_text : List ℕ → Bool
is_text b = goes_on [] b

unfoldable mutual
  -- Every string of a value is text, at every level.
  pub textual : Value → Bool
  textual (boolean b) = true
  textual (number l) = true
  textual (text l) = is_text l
  textual (uid k i) = true
  textual (set_of vs) = textual_values vs
  textual (record_of ps) = textual_pairs ps
  textual (call f vs) = textual_values vs

  -- Every string of some values.
  pub textual_values : Values → Bool
  textual_values end = true
  textual_values (value v vs) = textual v && textual_values vs

  -- Every string of some pairs.
  pub textual_pairs : Pairs → Bool
  textual_pairs empty = true
  textual_pairs (pair n v ps) = textual v && textual_pairs ps
