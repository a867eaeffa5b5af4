-- Two functions that agree on the numbers below n, by computing both. Assumes nothing.
use Rattle.std.specs.Prelude.{◌≡◌, List, [], ◌∷◌, ℕ, zero, suc, ◌<◌}
use Rattle.std.proofs.Common.{arith}
use Rattle.std.proofs.Math.Decide.{ℕ_discrete}

module _ {A : Type 0} where
  abbrev pub below : (ℕ → A) → ℕ → List A
  below f zero = []
  below f (suc n) = f n ∷ below f n

  pub by-table : (f g : ℕ → A) (n : ℕ) → below f n ≡ below g n → (j : ℕ) → j < n → f j ≡ g j
  by-table f g zero h j p = absurd (omega arith)
  by-table f g (suc n) h j p =
      let e : f n ≡ g n = cc in
      let t : below f n ≡ below g n = cc in
      go (ℕ_discrete j n) e (by-table f g n t j)
    where
      go : Dec (j ≡ n) → f n ≡ g n → (j < n → f j ≡ g j) → f j ≡ g j
      go (yes q) e k = rw q e
      go (no q) e k = k (omega arith)
