-- Reading and writing bytes: u16 numbers, flags, ascending names, and steps that may fail.
use Rattle.std.specs.Prelude.{ℕ, zero, suc, ◌+◌, ◌*◌, ◌/◌, ◌%◌, ◌<◌, List, [], ◌∷◌, ◌++◌, Bool, true, false, leb}
use Rattle.std.proofs.Math.Option.{Option, none, some}

-- Two bytes, low byte first.
abbrev pub u16 : ℕ → List ℕ
u16 n = n % 256 ∷ n / 256 ∷ []

-- A flag's byte.
abbrev pub flag : Bool → ℕ
flag false = 0
flag true = 1

-- The u16 names of a list.
abbrev pub enc_names : List ℕ → List ℕ
enc_names [] = []
enc_names (n ∷ ns) = u16 n ++ enc_names ns

infixl 20 ◌>>=◌
-- One step after another, as long as they succeed.
abbrev pub ◌>>=◌ : {A B : Type 0} → Option A → (A → Option B) → Option B
◌>>=◌ none f = none
◌>>=◌ (some a) f = f a

-- A test as a step.
abbrev pub guard : Bool → Option (Unit {0})
guard true = some tt
guard false = none

-- A byte off the front.
abbrev pub byte : List ℕ → Option (ℕ × List ℕ)
byte [] = none
byte (a ∷ l) = some (a, l)

-- A u16 off the front.
abbrev pub word : List ℕ → Option (ℕ × List ℕ)
word [] = none
word (a ∷ []) = none
word (a ∷ b ∷ l) = some (a + b * 256, l)

-- A flag, 0 or 1, off the front.
abbrev pub bit : List ℕ → Option (Bool × List ℕ)
bit [] = none
bit (zero ∷ l) = some (false, l)
bit (suc zero ∷ l) = some (true, l)
bit (suc (suc n) ∷ l) = none

-- No byte over.
abbrev pub finish : {A : Type 0} → A → List ℕ → Option A
finish a [] = some a
finish a (x ∷ l) = none

-- So many names, strictly ascending from `low` on, and no byte over.
abbrev pub parse_names : ℕ → ℕ → List ℕ → Option (List ℕ)
parse_names zero low b = finish [] b
parse_names (suc c) low b = do
  (n, b₁) ← word b
  _ ← guard (leb low n)
  ns ← parse_names c (suc n) b₁
  some (n ∷ ns)

-- Every element is a byte.
abbrev pub Bytes : List ℕ → Type 0
Bytes [] = Unit {0}
Bytes (x ∷ l) = (x < 256) × Bytes l
