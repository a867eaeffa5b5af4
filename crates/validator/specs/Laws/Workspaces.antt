-- A workspace that is cleared. Assumes nothing.
use Rattle.std.specs.Prelude.{ℕ, List, ◌≡◌, length, replicate, ◌+◌, ◌<◌, ◌≤◌, ◌++◌, set, drop}
use Rattle.std.proofs.Common.{ap, ◌∙◌, le_antisymm, append-nil, drop_of_length-le}
use Rattle.cedar.specs.Result.{Result}
use Rattle.cedar.specs.Outcome.{Outcome}
use Rattle.validator.specs.declared.answers.Answer.{Answer}
use Rattle.validator.specs.Answers.{Answered, AnsweredIn}
use Rattle.std.proofs.lemmas.List.Edits.{fill_more}

-- A workspace whose first i bytes are cleared.
module _ (w d : List ℕ) (i : ℕ) (e : w ≡ replicate i 0 ++ drop i d) where
  pub clear-more : i < length d → set w i 0 ≡ replicate (i + 1) 0 ++ drop (i + 1) d
  clear-more l = ap (λ (x : List ℕ). set x i 0) e ∙ fill_more i 0 d l

  pub clear-end : i ≤ length d → length d ≤ i → w ≡ replicate (length d) 0
  clear-end l g =
      e ∙ ap (λ (x : List ℕ). replicate i 0 ++ x) (drop_of_length-le d g) ∙ append-nil (replicate i 0) ∙ ap (λ (n : ℕ). replicate n 0) (le_antisymm l g)

-- An answer, and then the workspace is cleared.
pub cleared-after : {c : Outcome} {before after : List ℕ} {r : Result Answer} (work lent xs : List ℕ) → Answered c before after r → length lent ≡ length work →
    xs ≡ replicate (length lent) 0 → AnsweredIn c before after work xs r
cleared-after work lent xs a l e = record { answer = a.answer; result = a.result; cleared = e ∙ ap (λ (n : ℕ). replicate n 0) l }
