-- The theorem on sequences of bounds for a caller: the list that it keeps by the answers of its own calls is the theorem's run.
-- Assumes nothing.
use Rattle.std.specs.Prelude.{ℕ, List, [], ◌∷◌, ◌≡◌, refl, T, length}
use Rattle.std.proofs.Common.{sym, ap, ◌∙◌}
use Rattle.std.proofs.Math.Option.{some}
use Rattle.cedar.specs.Types.{mem}
use Rattle.cedar.specs.Bytes.{Bytes}
use Rattle.cedar.specs.Result.{Result}
use Rattle.cedar.specs.Limits.{Limits}
use Rattle.cedar.specs.Conformance.{Counts}
use Rattle.cedar.specs.Conforms.{Conforms}
use Rattle.cedar.specs.Calls.{bound_call}
use Rattle.cedar.specs.Sequence.{Listed, Step, standing, EachBytes, given_from, written, copied, after_step, after_steps, Kept}
use Rattle.cedar.proofs.Laws.Sequence.{run-keeps}
use Rattle.validator.specs.Answers.{Answered}
use Rattle.validator.specs.Laws.Answers.{copies, bound-copies}
use Rattle.validator.specs.declared.answers.Answer.{Answer}

-- One call of bound by a caller whose list is xs: its two types stand there; its buffer before, of the step's room, and after, and the
-- answer, by the entry's contract.
pub record Called (lim : Limits) (schema : List ℕ) (xs : List Listed) (c : Step) : Type 0 where
  pub first : Listed
  pub second : Listed
  pub first_at : standing xs c.left ≡ some first
  pub second_at : standing xs c.right ≡ some second
  pub before : List ℕ
  pub after : List ℕ
  pub told : Result Answer
  pub roomy : length before ≡ c.room
  pub contract : Answered (bound_call lim c.mode schema first.form second.form (length before)) before after told

-- The caller's list after it: the caller copies by the answer that it sees.
abbrev pub after_called : {lim : Limits} {schema : List ℕ} {xs : List Listed} {c : Step} → Called lim schema xs c → List Listed
after_called {xs = xs} k = copied xs k.first k.second (copies k.told k.after)

-- One call for each step.
abbrev pub AllCalled : Limits → List ℕ → List Listed → List Step → Type 0
AllCalled lim schema xs [] = Unit {0}
AllCalled lim schema xs (c ∷ cs) = (k : Called lim schema xs c) × AllCalled lim schema (after_called k) cs

-- The caller's list after them.
abbrev pub after_all_called : (lim : Limits) (schema : List ℕ) (xs : List Listed) (cs : List Step) → AllCalled lim schema xs cs → List Listed
after_all_called lim schema xs [] ks = xs
after_all_called lim schema xs (c ∷ cs) ks = after_all_called lim schema (after_called ks.0) cs ks.1

module _ (lim : Limits) (schema : List ℕ) where
  copied-called : (xs : List Listed) (c : Step) (k : Called lim schema xs c) →
      written (bound_call lim c.mode schema k.first.form k.second.form c.room) ≡ copies k.told k.after
  copied-called xs c k =
      ap (λ (n : ℕ). written (bound_call lim c.mode schema k.first.form k.second.form n)) (sym k.roomy)
      ∙ bound-copies lim c.mode schema k.first.form k.second.form k.before k.after k.told k.contract

  -- A step of the theorem's run does what the caller does.
  pub step-called : (xs : List Listed) (c : Step) (k : Called lim schema xs c) → after_step lim schema xs c ≡ after_called k
  step-called xs c k = rw (k.first_at, k.second_at) (ap (copied xs k.first k.second) (copied-called xs c k))

  -- So do all its steps.
  pub steps-called : (cs : List Step) (xs : List Listed) (ks : AllCalled lim schema xs cs) → after_steps lim schema xs cs ≡ after_all_called lim schema xs cs ks
  steps-called [] xs ks = refl
  steps-called (c ∷ cs) xs ks = ap (λ (l : List Listed). after_steps lim schema l cs) (step-called xs c ks.0) ∙ steps-called cs (after_called ks.0) ks.1

-- The theorem of the caller's list, by either rule on counts: a value that conforms to a type on it keeps what is said of it for every
-- type made from that one.
pub caller-keeps : (lim : Limits) (rule : Counts) (schema : List ℕ) (given : List (List ℕ)) (steps : List Step) → Bytes schema → EachBytes given
    → (ks : AllCalled lim schema (given_from 0 given) steps) → let listed = after_all_called lim schema (given_from 0 given) steps ks in
    (i j : ℕ) (x y : Listed) → standing listed i ≡ some x → standing listed j ≡ some y → T (mem i y.made_from)
    → (v : List ℕ) → Conforms lim rule schema x.form v → Kept lim rule schema y.form v
caller-keeps lim rule schema given steps hs hg ks i j x y ei ej =
    let e = steps-called lim schema steps (given_from 0 given) ks in
    run-keeps lim rule schema given steps hs hg i j x y (ap (λ (l : List Listed). standing l i) e ∙ ei) (ap (λ (l : List Listed). standing l j) e ∙ ej)
