-- Text from an index on, and what the steps of the code say of it. Assumes nothing: these are definitions.
use Rattle.std.specs.Prelude.{ℕ, ◌+◌, ◌<◌, ◌≤◌, List, Bool, false, cond, ◌≡◌, eqb, length, get_or, drop, Option, MatchOption}
use Rattle.cedar.specs.Text.{Range, in_range, tail, is_text}

-- The bytes from i on are text.
unfoldable pub text_from : List ℕ → ℕ → Bool
text_from b i = is_text (drop i b)

-- A byte is in a range.
unfoldable pub is_in : Range → ℕ → Bool
is_in r x = in_range r x

-- The range of the second byte after the first byte x of three or four.
unfoldable pub second_range : ℕ → Range
second_range x =
    cond (eqb x 0xE0) (0xA0, 0xBF) (cond (eqb x 0xED) (0x80, 0x9F) (cond (eqb x 0xF0) (0x90, 0xBF) (cond (eqb x 0xF4) (0x80, 0x8F) tail)))

-- At `at` stands a character of n bytes.
pub record Character (b : List ℕ) (at n : ℕ) : Type 0 where
  pub some : 0 < n
  pub fits : at + n ≤ length b
  pub right : text_from b at ≡ text_from b (at + n)

-- How many bytes the character at `at` has; where there is none, the bytes from `at` on are no text.
abbrev pub Width : List ℕ → ℕ → Option ℕ → Type 0
Width b at r = MatchOption r (text_from b at ≡ false) (λ n. Character b at n)

-- From `at` to r there is nothing but whole characters.
pub record Passes (b : List ℕ) (at r : ℕ) : Type 0 where
  pub from : at ≤ r
  pub fits : r ≤ length b
  pub right : text_from b at ≡ text_from b r

-- The same past `at`; where there is none, the bytes from `at` on are no text.
abbrev pub PassesWide : List ℕ → ℕ → Option ℕ → Type 0
PassesWide b at r = MatchOption r (text_from b at ≡ false) (λ n. (at < n) × Passes b at n)

-- The n bytes from `at` on are below 128.
pub record Plain (b : List ℕ) (at n : ℕ) : Type 0 where
  pub each : (k : ℕ) → k < n → get_or b (at + k) 0 < 128
