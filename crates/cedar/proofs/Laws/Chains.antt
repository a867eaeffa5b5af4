-- Chains of sets: each 07 byte before a form is a set around its type and takes one level; a chain that leaves no level, or has
-- nothing below it, is no type.
use Rattle.std.specs.Prelude.{ℕ, zero, suc, ◌+◌, ◌≤◌, List, [], ◌∷◌, ◌≡◌, refl, Bool, true, false, cond, leb, length}
use Rattle.std.proofs.Common.{zero-add, suc-add, not-suc-le-zero, le_of_suc-le-suc, arith, ap, ◌∙◌}
use Rattle.std.proofs.Math.Option.{Option, none, some}
use Rattle.cedar.specs.Types.{Ty, set}
use Rattle.cedar.specs.Bytes.{◌>>=◌}
use Rattle.cedar.specs.TypeForm.{set_code, parse}
use Rattle.cedar.specs.Limits.{Limits, standard}
use Rattle.cedar.specs.Whole.{whole_type}
use Rattle.cedar.specs.Outcome.{Outcome, refused}
use Rattle.cedar.specs.Calls.{ask}

-- So many 07 bytes, then b.
unfoldable pub chain : ℕ → List ℕ → List ℕ
chain zero b = b
chain (suc n) b = set_code ∷ chain n b

-- So many sets around a type.
unfoldable pub sets : ℕ → Ty → Ty
sets zero t = t
sets (suc n) t = set (sets n t)

-- What is read, with one set around it.
abbrev in_set : Option Ty → Option Ty
in_set o = o >>= λ t. some (set t)

-- What is read, with so many sets around it.
abbrev pub in_sets : ℕ → Option Ty → Option Ty
in_sets n o = o >>= λ t. some (sets n t)

no-sets : (o : Option Ty) → o ≡ in_sets zero o
unfolding sets
no-sets none = refl
no-sets (some t) = refl

one-more-set : (n : ℕ) (o : Option Ty) → in_set (in_sets n o) ≡ in_sets (suc n) o
unfolding sets
one-more-set n none = refl
one-more-set n (some t) = refl

-- What stands below a chain is read with the levels that the chain left.
pub chain-parse : (n l : ℕ) (b : List ℕ) → parse (n + l) (chain n b) ≡ in_sets n (parse l b)
unfolding parse chain
chain-parse zero l b = rw (zero-add l) (no-sets (parse l b))
chain-parse (suc n) l b = rw (suc-add n l) (ap in_set (chain-parse n l b) ∙ one-more-set n (parse l b))

-- A chain of as many bytes as there are levels is no type, whatever stands below it.
pub chain-over : (l n : ℕ) (b : List ℕ) → l ≤ n → parse l (chain n b) ≡ none
unfolding parse chain
chain-over zero n b h = refl
chain-over (suc l) zero b h = absurd (not-suc-le-zero h)
chain-over (suc l) (suc n) b h = ap in_set (chain-over l n b (le_of_suc-le-suc h))

-- Nor is a chain with nothing below it.
pub chain-alone : (l n : ℕ) → parse l (chain n []) ≡ none
unfolding parse chain
chain-alone zero n = refl
chain-alone (suc l) zero = refl
chain-alone (suc l) (suc n) = ap in_set (chain-alone l n)

-- A form that is no type within its levels is refused by the number of the question that any call puts to it.
unread-refused : (lim : Limits) (b : List ℕ) (number : ℕ) (k : Ty → Outcome) → parse lim.levels b ≡ none
    → ask number (whole_type lim b) k ≡ refused number
unread-refused lim b number k e = ap (λ (o : Option Ty). ask number (cond (leb (length b) lim.bytes) o none) k) e ∙ either (leb (length b) lim.bytes)
  where
    either : (c : Bool) → ask number (cond c none none) k ≡ refused number
    either true = refl
    either false = refl

-- A chain that leaves no level is refused so.
pub chain-refused : (lim : Limits) (n : ℕ) (b : List ℕ) (number : ℕ) (k : Ty → Outcome) → lim.levels ≤ n
    → ask number (whole_type lim (chain n b)) k ≡ refused number
chain-refused lim n b number k h = unread-refused lim (chain n b) number k (chain-over lim.levels n b h)

-- And one with nothing below it.
pub chain-alone-refused : (lim : Limits) (n : ℕ) (number : ℕ) (k : Ty → Outcome) → ask number (whole_type lim (chain n [])) k ≡ refused number
chain-alone-refused lim n number k = unread-refused lim (chain n []) number k (chain-alone lim.levels n)

-- At 01's limits 4,000 bytes of 07 are, before anything or nothing.
pub four-thousand-refused : (b : List ℕ) (number : ℕ) (k : Ty → Outcome) → ask number (whole_type standard (chain 4000 b)) k ≡ refused number
four-thousand-refused b number k = chain-refused standard 4000 b number k (omega arith)
