-- Entries below a name, and the bytes of their bodies, entry by entry. Assumes nothing.
use Rattle.std.specs.Prelude.{◌≡◌, List, ℕ, zero, suc, ◌+◌, ◌-◌, ◌≤◌, ◌<◌, ◌*◌, length}
use Rattle.std.proofs.Math.Path.{refl}
use Rattle.std.proofs.Common.{sub-one, add-one, arith, subst, mul-suc, mul-le-mul_left}
use borrow.Author.Tests.{lt-ltb, le-ltb}
use Rattle.forms.specs.Parts.{rest, rd}
use Rattle.forms.specs.Search.{below, used, Laid}

pub used_step : (w k : ℕ) (es : List ℕ) → 0 < k → used w k es ≡ rd es (w - 2) + used w (k - 1) (rest w es)
unfolding used
used_step w zero es p = absurd (omega arith)
used_step w (suc k) es p = rw (sub-one (suc k)) refl

pub used-none : (w : ℕ) (es : List ℕ) → used w 0 es ≡ 0
unfolding used
used-none w es = refl

pub below_step : (w n name : ℕ) (es : List ℕ) → 0 < n → rd es 0 < name → below w n name es ≡ below w (n - 1) name (rest w es) + 1
unfolding below
below_step w zero name es p h = absurd (omega arith)
below_step w (suc n) name es p h = rw (lt-ltb (rd es 0) name h, sub-one (suc n), add-one (below w n name (rest w es))) refl

pub below-here : (w n name : ℕ) (es : List ℕ) → name ≤ rd es 0 → below w n name es ≡ 0
unfolding below
below-here w zero name es h = refl
below-here w (suc n) name es h = rw (le-ltb (rd es 0) name h) refl

pub below_none : (w n name : ℕ) (es : List ℕ) → n ≤ 0 → below w n name es ≡ 0
unfolding below
below_none w zero name es h = refl
below_none w (suc n) name es h = absurd (omega arith)

-- The entry after those below a name lies within the entries.
mul-room : (w k n : ℕ) → k < n → w * k + w ≤ w * n
mul-room w k zero h = absurd (omega arith)
mul-room w k (suc n) h = subst (λ (x : ℕ). x ≤ w * suc n) (mul-suc w k) (mul-le-mul_left w (omega arith))

module _ (w n name : ℕ) (es bs : List ℕ) (l : Laid w n es bs) (k : ℕ) (q : k ≡ below w n name es) where
  pub at_room : k < n → w * k + w ≤ length es
  at_room h = rw l.sized (mul-room w k n h)
