-- Searches by name over entries of one width. Assumes nothing: these are definitions.
use Rattle.std.specs.Prelude.{ℕ, zero, suc, ◌+◌, ◌*◌, ◌-◌, ◌≤◌, List, cond, ◌≡◌, ltb, length}
use Rattle.forms.specs.Parts.{rest, rd}

-- How many of n entries stand before the first whose name is not below the name.
unfoldable pub below : ℕ → ℕ → ℕ → List ℕ → ℕ
below w zero name es = 0
below w (suc n) name es = cond (ltb (rd es 0) name) (suc (below w n name (rest w es))) 0

-- How many bytes the bodies of the first k entries take.
unfoldable pub used : ℕ → ℕ → List ℕ → ℕ
used w zero es = 0
used w (suc k) es = rd es (w - 2) + used w k (rest w es)

-- The name that the entry after the first k may have at least.
unfoldable pub low_at : ℕ → ℕ → ℕ → List ℕ → ℕ
low_at w zero low es = low
low_at w (suc k) low es = low_at w k (rd es 0 + 1) (rest w es)

-- n entries, and room for their bodies.
pub record Laid (w n : ℕ) (es bs : List ℕ) : Type 0 where
  pub wide : 2 ≤ w
  pub sized : length es ≡ w * n
  pub room : used w n es ≤ length bs
