-- Laws of numbers and bytes as text. Assumes nothing.
use Rattle.std.specs.Prelude.{◌≡◌, refl, List, [], ◌∷◌, ◌++◌, ℕ, zero, suc, ◌+◌, ◌*◌, ◌-◌, ◌/◌, ◌%◌, ◌^◌, ◌≤◌, ◌<◌, length, take, drop, get_or}
use Rattle.std.proofs.Common.{ap, arith, add-one, length-append, drop-cons, lt-ltb, le-ltb}
use Rattle.std.proofs.Math.Nat.{pow-succ'}
use Rattle.std.proofs.Math.Decide.{dec_le}
use Rattle.cedar.specs.Lines.{digit, decimal_from, decimal, hex}
use Rattle.cedar.specs.Outcome.{over}
use Rattle.forms.specs.Parts.{rest}
use Rattle.writing.specs.Written.{Written}
use Rattle.writing.specs.Laws.Writing.{written_one, written-more}
use Rattle.forms.specs.Laws.Parts.{rest-is}

-- A digit of base 16.
pub digit_low : (d : ℕ) → d < 10 → 48 + d ≡ digit d
digit_low d h = rw (lt-ltb d 10 h) refl

pub digit-high : (d : ℕ) → 10 ≤ d → 87 + d ≡ digit d
digit-high d h = rw (le-ltb d 10 h) refl

-- More than n digits are never asked for.
decimal-fuel : (f g n : ℕ) → n < f → n < g → decimal_from f n ≡ decimal_from g n
decimal-fuel zero g n p q = absurd (omega arith)
decimal-fuel (suc f) zero n p q = absurd (omega arith)
decimal-fuel (suc f) (suc g) n p q = go (dec_le 10 n) (λ h. decimal-fuel f g (n / 10) (omega arith) (omega arith))
  where
    go : Dec (10 ≤ n) → (10 ≤ n → decimal_from f (n / 10) ≡ decimal_from g (n / 10)) → decimal_from (suc f) n ≡ decimal_from (suc g) n
    go (yes h) e = rw (le-ltb n 10 h) (ap (λ (w : List ℕ). w ++ (digit (n % 10) ∷ [])) (e h))
    go (no h) e = rw (lt-ltb n 10 (omega arith)) refl

pub decimal-low : (n : ℕ) → n < 10 → decimal n ≡ digit n ∷ []
decimal-low n h = rw (lt-ltb n 10 h) refl

pub decimal-high : (n : ℕ) → 10 ≤ n → decimal n ≡ decimal (n / 10) ++ (digit (n % 10) ∷ [])
decimal-high n h = rw (le-ltb n 10 h) (ap (λ (w : List ℕ). w ++ (digit (n % 10) ∷ [])) (decimal-fuel n (suc (n / 10)) (n / 10) (omega arith) (omega arith)))

-- A number below a power of ten has no more digits.
pub decimal-short : (k n : ℕ) → n < 10 ^ suc k → length (decimal n) ≤ suc k
decimal-short zero n h = omega (arith, ap length (decimal-low n (omega arith)))
decimal-short (suc k) n h = go (dec_le 10 n) (decimal-short k (n / 10) (omega (arith, pow-succ' 10 (suc k))))
  where
    go : Dec (10 ≤ n) → length (decimal (n / 10)) ≤ suc k → length (decimal n) ≤ suc (suc k)
    go (yes p) f = omega (arith, ap length (decimal-high n p), length-append (decimal (n / 10)) (digit (n % 10) ∷ []))
    go (no p) f = omega (arith, ap length (decimal-low n (omega arith)))

-- A writer of a number: of one digit, or of the digits before the last and the last.
module _ (n : ℕ) (o : List ℕ) (h : length (decimal n) ≤ length o) where
  pub low-room : n < 10 → 1 ≤ length o
  low-room p = omega (arith, ap length (decimal-low n p))

  pub high-room : 10 ≤ n → length (decimal (n / 10)) + 1 ≤ length o
  high-room p = omega (arith, ap length (decimal-high n p), length-append (decimal (n / 10)) (digit (n % 10) ∷ []))

  pub low_told : n < 10 → {xs : List ℕ} (d : ℕ) → d ≡ digit n → xs ≡ over (d ∷ []) o → Written (decimal n) o xs 1
  low_told p d e t = rw (decimal-low n p, ← e) (written_one d t)

  pub high-told : 10 ≤ n → {xs ys : List ℕ} {at : ℕ} (d : ℕ) → Written (decimal (n / 10)) o xs at → d ≡ digit (n % 10) → ys ≡ over (d ∷ []) (rest at xs) →
      Written (decimal n) o (take at xs ++ (ys ++ drop (length xs - at) (drop at xs))) (at + 1)
  high-told p d t e u = rw (decimal-high n p, ← e) (written-more t (written_one d u) (omega (arith, high-room p)))

-- How many digits bytes take.
pub length-hex : (b : List ℕ) → length (hex b) ≡ 2 * length b
length-hex [] = refl
length-hex (x ∷ b) = omega (arith, length-hex b)

-- The digits of the bytes from i on begin with those of byte i.
pub hex-from : (b : List ℕ) (i x : ℕ) → i < length b → x ≡ get_or b i 0 → hex (drop i b) ≡ hex (x ∷ []) ++ hex (drop (i + 1) b)
hex-from b i x h e = rw (add-one i, drop-cons b i 0, e) refl

-- The digits of one byte, of the first, and of none.
pub byte-told : (x : ℕ) {o xs ys : List ℕ} (c d : ℕ) → 2 ≤ length o → c ≡ digit (x / 16) → xs ≡ over (c ∷ []) o → d ≡ digit (x % 16) →
    ys ≡ over (d ∷ []) (rest 1 xs) →
    Written (hex (x ∷ [])) o (take 1 xs ++ (ys ++ drop (length xs - 1) (drop 1 xs))) 2
byte-told x c d h e t f u = rw (← e, ← f) (written-more (written_one c t) (written_one d u) h)

pub hex-first : (b : List ℕ) → 0 < length b → hex b ≡ hex (get_or b 0 0 ∷ []) ++ hex (rest 1 b)
hex-first [] p = absurd (omega arith)
hex-first (x ∷ b) p = rw (rest-is 1 (x ∷ b)) refl

pub hex-none : (b : List ℕ) → length b ≤ 0 → hex b ≡ []
hex-none [] h = refl
hex-none (x ∷ b) h = absurd (omega arith)
