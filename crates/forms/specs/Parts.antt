-- Parts of bytes and numbers in them, in the borrow checker's own terms. Assumes nothing: these are definitions.
use Rattle.std.specs.Prelude.{ℕ, ◌+◌, ◌*◌, ◌-◌, List, Bool, cond, length, take, drop, get_or}
use Rattle.std.proofs.Math.Option.{Option, none, some}

-- The bytes from a up to e, and those from a on, as a slice's part has them.
abbrev pub part : ℕ → ℕ → List ℕ → List ℕ
part a e b = take (e - a) (drop a b)

-- The bytes from a on.
abbrev pub rest : ℕ → List ℕ → List ℕ
rest a b = part a (length b) b

-- The u16 at i.
abbrev pub rd : List ℕ → ℕ → ℕ
rd b i = get_or b i 0 + 256 * get_or b (i + 1) 0

-- The first byte.
abbrev pub kind : List ℕ → ℕ
kind b = get_or b 0 0

-- What is decoded, where the test says yes.
abbrev pub sure : {A : Type 0} → Bool → A → Option A
sure b a = cond b (some a) none
