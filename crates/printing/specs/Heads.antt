-- The head of a job in a batch. Assumes nothing: these are definitions, and laws of them.
use Rattle.std.specs.Prelude.{ℕ, ◌+◌, ◌*◌, List, Option, Some, None, Result, Ok, Err, cond, ltb, ◌≤◌, ◌<◌, ◌≡◌}
use Rattle.forms.specs.Parts.{rd}
use Rattle.printing.specs.declared.batch.BadHead.{BadHead}
use Rattle.printing.specs.declared.batch.BadHead.TheVariants.{Cut, TooLong}
use Rattle.std.proofs.Math.Path.{refl}
use Rattle.std.proofs.Common.{arith}
use borrow.Author.Tests.{lt-ltb, le-ltb}
use Rattle.std.proofs.Math.Dec.{nltb→le}
use Rattle.cedar.proofs.Laws.Tests.{cond_both}

-- The length that four bytes say.
abbrev pub length_of : List ℕ → ℕ
length_of b = rd b 0 + 65536 * rd b 2

-- The head in the first n bytes that were read for it: none at the end of the batch, a whole one has four.
abbrev pub head_of : List ℕ → ℕ → Result (Option ℕ) BadHead
head_of b n =
    cond (ltb 0 n) (cond (ltb n 4) (Err Cut) (cond (ltb 65536 (length_of b)) (Err TooLong) (Ok (Some (length_of b))))) (Ok None)

-- A job is within the buffer.
abbrev pub head_within : Result (Option ℕ) BadHead → Type 0
head_within (Ok (Some n)) = n ≤ 65536
head_within (Ok None) = Unit {0}
head_within (Err e) = Unit {0}

-- What the head of n bytes is, case by case.
module _ (b : List ℕ) (n : ℕ) where
  pub head-end : n ≡ 0 → Ok None ≡ head_of b n
  head-end e = rw (le-ltb 0 n (omega arith)) refl

  pub head-cut : 0 < n → n < 4 → Err Cut ≡ head_of b n
  head-cut p q = rw (lt-ltb 0 n p, lt-ltb n 4 q) refl

  pub head-long : 4 ≤ n → 65536 < length_of b → Err TooLong ≡ head_of b n
  head-long p q = rw (lt-ltb 0 n (omega arith), le-ltb n 4 p, lt-ltb 65536 (length_of b) q) refl

  pub head-job : 4 ≤ n → (l : ℕ) → l ≡ length_of b → l ≤ 65536 → Ok (Some l) ≡ head_of b n
  head-job p l e q = rw (lt-ltb 0 n (omega arith), le-ltb n 4 p, le-ltb 65536 (length_of b) (omega arith), e) refl

  pub head-within : head_within (head_of b n)
  head-within = cond_both head_within (ltb 0 n) (λ _. cond_both head_within (ltb n 4) (λ _. tt) (λ _. cond_both head_within (ltb 65536 (length_of b)) (λ _. tt) (λ t. nltb→le 65536 (length_of b) t))) (λ _. tt)
