-- A buffer of which a part is lent. Assumes nothing.
use Rattle.std.specs.Prelude.{ℕ, ◌-◌, ◌≤◌, ◌≡◌, List, ◌++◌, length, take, drop}
use Rattle.std.proofs.Common.{arith, length-append, length-take, length-drop}
use Rattle.forms.specs.Parts.{rest}
use Rattle.forms.specs.Laws.Parts.{length_rest}

-- A part that comes back as long as it was leaves the buffer as long as it was.
pub back-length : (at : ℕ) (xs ys : List ℕ) → at ≤ length xs → length ys ≡ length (rest at xs) →
    length (take at xs ++ (ys ++ drop (length xs - at) (drop at xs))) ≡ length xs
back-length at xs ys h e =
    simp (length-append, length-take, length-drop) (omega (arith, e, length_rest at xs))
