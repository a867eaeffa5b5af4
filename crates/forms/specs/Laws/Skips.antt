-- Skipping entries of a table, for any row whose entries begin with their name. Assumes nothing.
use Rattle.std.specs.Prelude.{◌≡◌, Bool, cond, length}
use Rattle.std.proofs.Math.Path.{refl}
use Rattle.std.proofs.Common.{ap, mul-zero, mul-suc}
use mathlib.Core.List.{List, [], ◌∷◌, ◌++◌}
use Rattle.std.proofs.Math.Bool.{true, false}
use Prim.Native.Nat.{ℕ, zero, suc, ◌+◌, ◌*◌, ◌-◌, ◌≤◌, ◌<◌}
use Rattle.std.proofs.Math.Numerals.{sub-one}
use native.Mathlib.Omega.{arith}
use Rattle.std.proofs.Math.Dec.{ltb}
use borrow.Author.Tests.{ltb-true, ltb-false}
use Rattle.forms.specs.Parts.{part, rest, rd}
use Rattle.forms.specs.Rows.{Row, body_length, rows_to, rows_of}
use Rattle.forms.specs.Search.{below, used, low_at}
use Rattle.forms.specs.Laws.Parts.{length_rest, rest_0, rest-rest}
use Rattle.forms.specs.Laws.Rows.{first}

-- What stands behind one entry more.
pub rest_more : (w k : ℕ) (es : List ℕ) → rest (w * k) (rest w es) ≡ rest (w * suc k) es
rest_more w k es = let e : w + w * k ≡ w * suc k = rw (mul-suc w k) (omega arith) in rw (← e) (rest-rest w (w * k) es)

rest-none : (w : ℕ) (es : List ℕ) → rest (w * 0) es ≡ es
rest-none w es = rw (mul-zero w) (rest_0 es)

-- How far a search goes, and why it stops.
pub below-most : (w n name : ℕ) (es : List ℕ) → below w n name es ≤ n
unfolding below
below-most w zero name es = omega arith
below-most w (suc n) name es = go (ltb (rd es 0) name) (below-most w n name (rest w es))
  where
    go : (b : Bool) {k : ℕ} → k ≤ n → cond b (suc k) 0 ≤ suc n
    go true h = omega arith
    go false h = omega arith

pub below-stop : (w n name : ℕ) (es : List ℕ) → below w n name es < n → name ≤ rd (rest (w * below w n name es) es) 0
unfolding below
below-stop w zero name es h = absurd (omega arith)
below-stop w (suc n) name es h = go (ltb (rd es 0) name) refl (below w n name (rest w es)) h (λ g. below-stop w n name (rest w es) g)
  where
    go : (b : Bool) → ltb (rd es 0) name ≡ b → (k : ℕ) → cond b (suc k) 0 < suc n → (k < n → name ≤ rd (rest (w * k) (rest w es)) 0) →
        name ≤ rd (rest (w * cond b (suc k) 0) es) 0
    go true e k g f = rw (← rest_more w k es) (f (omega arith))
    go false e k g f = rw (rest-none w es) (ltb-false (rd es 0) name e)

pub used-less : (w k n : ℕ) (es : List ℕ) → k ≤ n → used w k es ≤ used w n es
unfolding used
used-less w zero n es h = omega arith
used-less w (suc k) zero es h = absurd (omega arith)
used-less w (suc k) (suc n) es h = omega (arith, used-less w k n (rest w es) (omega arith))

module _ {H A : Type 0} (key : H → ℕ) where
  -- Every name is below m; every name is at least m.
  abbrev pub Below : ℕ → List (H × A) → Type 0
  Below m [] = Unit {0}
  Below m (x ∷ xs) = (key x.0 < m) × Below m xs

  abbrev pub From : ℕ → List (H × A) → Type 0
  From m [] = Unit {0}
  From m (x ∷ xs) = (m ≤ key x.0) × From m xs

  from_less : (m k : ℕ) (xs : List (H × A)) → k ≤ m → From m xs → From k xs
  from_less m k [] h f = tt
  from_less m k (x ∷ xs) h f = (omega (arith, f.0), from_less m k xs h f.1)

module _ {S H A : Type 0} (r : Row S H) (w : H → List ℕ → Bool) (e : List ℕ → Bool) (d : H → List ℕ → A) where
  -- The bodies of n entries have room.
  pub rows-used : (n : ℕ) (s : S) (es bs : List ℕ) → rows_to r w e n s es bs ≡ true → used r.width n es ≤ length bs
  unfolding used
  rows-used zero s es bs h = omega arith
  rows-used (suc n) s es bs h =
      let f = first r w e (suc n) s es bs (omega arith) h in
      let g = rows-used n (r.next es) (rest r.width es) (rest (body_length r es) bs) (rw sub-one at f.more) in
      omega (arith, g, f.inside, length_rest (body_length r es) bs)

  -- The first k entries, and the others.
  pub rows_cut : (k n : ℕ) (es bs : List ℕ) → k ≤ n →
      rows_of r d n es bs ≡ rows_of r d k es bs ++ rows_of r d (n - k) (rest (r.width * k) es) (rest (used r.width k es) bs)
  unfolding rows_of used
  rows_cut zero n es bs h = let z : n - 0 ≡ n = omega arith in rw (z, rest-none r.width es, rest_0 bs) refl
  rows_cut (suc k) zero es bs h = absurd (omega arith)
  rows_cut (suc k) (suc n) es bs h =
      let z : suc n - suc k ≡ n - k = omega arith in
      let l = body_length r es in
      rw (z, ← rest_more r.width k es, ← rest-rest l (used r.width k (rest r.width es)) bs)
      (ap {B = List (H × A)} (λ y. (r.head es, d (r.head es) (part 0 l bs)) ∷ y) (rows_cut k n (rest r.width es) (rest l bs) (omega arith)))

-- Rows whose entries begin with their name, ascending.
module _ {H A : Type 0} (r : Row ℕ H) (w : H → List ℕ → Bool) (e : List ℕ → Bool) (d : H → List ℕ → A) (key : H → ℕ) where
  pub record Named : Type 0 where
    pub key-is : (es : List ℕ) → key (r.head es) ≡ rd es 0
    pub low-is : (low : ℕ) (es : List ℕ) → r.ok low es ≡ true → low ≤ rd es 0
    pub next-is : (es : List ℕ) → r.next es ≡ rd es 0 + 1

  module _ (t : Named) where
    -- Past k entries the table is in order too.
    pub rows-skip : (k n low : ℕ) (es bs : List ℕ) → k ≤ n → rows_to r w e n low es bs ≡ true →
        rows_to r w e (n - k) (low_at r.width k low es) (rest (r.width * k) es) (rest (used r.width k es) bs) ≡ true
    unfolding used low_at
    rows-skip zero n low es bs h g = let z : n - 0 ≡ n = omega arith in rw (z, rest-none r.width es, rest_0 bs) g
    rows-skip (suc k) zero low es bs h g = absurd (omega arith)
    rows-skip (suc k) (suc n) low es bs h g =
        let z : suc n - suc k ≡ n - k = omega arith in
        let l = body_length r es in
        let f = first r w e (suc n) low es bs (omega arith) g in
        rw (z, ← rest_more r.width k es, ← rest-rest l (used r.width k (rest r.width es)) bs)
        (rows-skip k n (rd es 0 + 1) (rest r.width es) (rest l bs) (omega arith) (rw (sub-one, t.next-is es) at f.more))

    -- What a search passes is below the name.
    pub rows-below : (n name : ℕ) (es bs : List ℕ) → Below key name (rows_of r d (below r.width n name es) es bs)
    unfolding rows_of below
    rows-below zero name es bs = tt
    rows-below (suc n) name es bs =
        go (ltb (rd es 0) name) refl (below r.width n name (rest r.width es)) (rows-below n name (rest r.width es) (rest (body_length r es) bs))
      where
        go : (b : Bool) → ltb (rd es 0) name ≡ b → (k : ℕ) → Below key name (rows_of r d k (rest r.width es) (rest (body_length r es) bs)) →
            Below key name (rows_of r d (cond b (suc k) 0) es bs)
        go true q k f = unfold rows_of in (omega (arith, t.key-is es, ltb-true (rd es 0) name q), f)
        go false q k f = unfold rows_of in tt

    -- The names are at least the first bound.
    pub rows-from : (n low : ℕ) (es bs : List ℕ) → rows_to r w e n low es bs ≡ true → From key low (rows_of r d n es bs)
    unfolding rows_of
    rows-from zero low es bs h = tt
    rows-from (suc n) low es bs h =
        let f = first r w e (suc n) low es bs (omega arith) h in
        let g = t.low-is low es f.fits in (
          omega (arith, t.key-is es, g),
          from_less key (rd es 0 + 1) low (rows_of r d n (rest r.width es) (rest (body_length r es) bs)) (omega arith)
              (rows-from n (rd es 0 + 1) (rest r.width es) (rest (body_length r es) bs) (rw (sub-one, t.next-is es) at f.more)),
        )
