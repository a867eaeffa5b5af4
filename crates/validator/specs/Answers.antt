-- What the entries' contracts say: the answer of an outcome, and every byte that was lent. Assumes nothing: these are definitions.
use Rattle.std.specs.Prelude.{ℕ, List, true, false, ◌≡◌, length, replicate}
use Rattle.cedar.specs.Bytes.{enc_names}
use Rattle.cedar.specs.TypeForm.{enc}
use Rattle.cedar.specs.Levels.{depth}
use Rattle.cedar.specs.Result.{Result, ok, err}
use Rattle.cedar.specs.Outcome.{Outcome, refused, said, nothing, measured, typed, attribute, named, result_after}
use Rattle.validator.specs.declared.answers.Answer.{Answer}
use Rattle.validator.specs.declared.answers.Answer.TheVariants.{Yes, No, Nothing, Measured, Typed, Attribute, Named}

-- 01's values for each case of `Answer`, or the number of a refusal; a type that is written tells its length and its levels.
abbrev pub answer_of : Outcome → Result Answer
answer_of (refused n) = err n
answer_of (said true) = ok Yes
answer_of (said false) = ok No
answer_of nothing = ok Nothing
answer_of (measured n l) = ok (Measured n l)
answer_of (typed t) = ok (Typed (length (enc t)) (depth t))
answer_of (attribute r t) = ok (Attribute r (length (enc t)) (depth t))
answer_of (named ns) = ok (Named (length (enc_names ns)))

-- An entry that writes: its answer, and the result buffer after it.
pub record Answered (o : Outcome) (before after : List ℕ) (r : Result Answer) : Type 0 where
  pub answer : r ≡ answer_of o
  pub result : after ≡ result_after o before

-- An entry that also takes a workspace, which is all zero after.
pub record AnsweredIn (o : Outcome) (before after work work_after : List ℕ) (r : Result Answer) : Type 0 where
  pub answer : r ≡ answer_of o
  pub result : after ≡ result_after o before
  pub cleared : work_after ≡ replicate (length work) 0
