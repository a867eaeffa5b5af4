-- Laws of parts and of tests. Assumes nothing.
use Rattle.std.specs.Prelude.{◌≡◌, refl, List, [], ◌∷◌, ◌++◌, Bool, true, false, ◌&&◌, ℕ, zero, suc, ◌+◌, ◌-◌, ◌≤◌, ◌<◌, length, take, drop}
use Rattle.std.proofs.Common.{sym, ◌∙◌, arith, length-take, length-drop, take_all, drop-drop, get_or-take}
use Rattle.std.proofs.Math.Seq.{take-nil}
use Rattle.forms.specs.Parts.{part, rest, rd}

-- Two tests at once.
pub and_l : (a b : Bool) → a && b ≡ true → a ≡ true
and_l true b h = refl
and_l false b h = h

pub and_r : (a b : Bool) → a && b ≡ true → b ≡ true
and_r true b h = h
and_r false b h = absurd (let z : ◌≡◌ {A = ℕ} 0 1 = cc in omega arith)

pub and-not-l : (a b : Bool) → a ≡ false → false ≡ a && b
and-not-l true b h = absurd (let z : ◌≡◌ {A = ℕ} 0 1 = cc in omega arith)
and-not-l false b h = refl

pub and-not-r : (a b : Bool) → b ≡ false → false ≡ a && b
and-not-r true b h = sym h
and-not-r false b h = refl

pub and_yes : (a b : Bool) → a ≡ true → a && b ≡ b
and_yes true b h = refl
and_yes false b h = absurd (let z : ◌≡◌ {A = ℕ} 0 1 = cc in omega arith)

pub and_same : (a : Bool) {b c : Bool} → (a ≡ true → b ≡ c) → a && b ≡ a && c
and_same true h = h refl
and_same false h = refl

-- Lengths.
pub length_rest : (a : ℕ) (b : List ℕ) → length (rest a b) ≡ length b - a
length_rest a b = simp (length-take, length-drop) (omega arith)

pub length_part : (a e : ℕ) (b : List ℕ) → e ≤ length b → length (part a e b) ≡ e - a
length_part a e b h = simp (length-take, length-drop) (omega arith)

-- The rest is what is dropped to; the first k bytes are those taken.
pub rest-is : (a : ℕ) (b : List ℕ) → rest a b ≡ drop a b
rest-is a b = take_all (length b - a) (drop a b) (omega (arith, length-drop a b))

pub part-is : (k : ℕ) (b : List ℕ) → part 0 k b ≡ take k b
part-is k b = let e : k - 0 ≡ k = omega arith in rw e refl

pub rest_0 : (b : List ℕ) → rest 0 b ≡ b
rest_0 b = rest-is 0 b

pub rest-rest : (a k : ℕ) (b : List ℕ) → rest k (rest a b) ≡ rest (a + k) b
rest-rest a k b = rest-is k (rest a b) ∙ rw (rest-is a b, drop-drop k a b) (sym (rest-is (a + k) b))

pub part-rest : (a k : ℕ) (b : List ℕ) → part 0 k (rest a b) ≡ part a (a + k) b
part-rest a k b =
    let e : k - 0 ≡ k = omega arith in
    let f : a + k - a ≡ k = omega arith in
    rw (rest-is a b, e, f) refl

-- What is dropped of what is taken.
pub drop-take : (w k : ℕ) (l : List ℕ) → drop w (take k l) ≡ take (k - w) (drop w l)
drop-take zero k l = let e : k - 0 ≡ k = omega arith in rw e refl
drop-take (suc w) zero l = let e : 0 - suc w ≡ 0 = omega arith in rw e refl
drop-take (suc w) (suc k) [] = sym (take-nil (suc k - suc w))
drop-take (suc w) (suc k) (x ∷ l) = let e : suc k - suc w ≡ k - w = omega arith in rw e (drop-take w k l)

pub rd-take : (k : ℕ) (l : List ℕ) (i : ℕ) → i + 1 < k → rd (take k l) i ≡ rd l i
rd-take k l i h = rw (get_or-take k l i 0 (omega arith), get_or-take k l (i + 1) 0 h) refl

-- A number that is above 0.
pub pos : (n : ℕ) → (n ≡ 0 → ⊥) → 0 < n
pos zero h = absurd (h refl)
pos (suc n) h = omega arith

-- What is appended to a part.
pub rd-append : (a b : List ℕ) → 2 ≤ length a → rd (a ++ b) 0 ≡ rd a 0
rd-append [] b h = absurd (omega arith)
rd-append (x ∷ []) b h = absurd (omega arith)
rd-append (x ∷ y ∷ a) b h = refl

pub rest-append : (w : ℕ) (a b : List ℕ) → length a ≡ w → rest w (a ++ b) ≡ b
rest-append w a b h = rest-is w (a ++ b) ∙ go w a h
  where
    go : (k : ℕ) (c : List ℕ) → length c ≡ k → drop k (c ++ b) ≡ b
    go zero [] e = refl
    go zero (x ∷ c) e = absurd (omega arith)
    go (suc k) [] e = absurd (omega arith)
    go (suc k) (x ∷ c) e = go k c (omega arith)
