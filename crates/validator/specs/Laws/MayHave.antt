-- The outcome of `may_have_attr`, question by question. Assumes nothing.
use Rattle.std.specs.Prelude.{ℕ, List, Bool, true, ◌≡◌, refl}
use Rattle.std.proofs.Math.Option.{none, some}
use Rattle.std.proofs.Common.{ap, ◌∙◌}
use Rattle.cedar.specs.Types.{Ty, Schema}
use Rattle.cedar.specs.Result.{Result, err}
use Rattle.cedar.specs.Limits.{Limits, allowed}
use Rattle.cedar.specs.Whole.{whole_type, whole_schema}
use Rattle.cedar.specs.Outcome.{said}
use Rattle.cedar.specs.Attribute.{may_have}
use Rattle.cedar.specs.Calls.{may_have_call}
use Rattle.validator.specs.Answers.{answer_of}
use Rattle.validator.specs.declared.answers.Answer.{Answer}

module _ (lim : Limits) (fair : allowed lim ≡ true) (a : ℕ) (schema t : List ℕ) where
  pub may-have-no-schema : whole_schema lim schema ≡ none → err 2 ≡ answer_of (may_have_call lim schema a t)
  may-have-no-schema e = rw (fair, e) refl

  module _ (s : Schema) (e : whole_schema lim schema ≡ some s) where
    pub may-have-no-type : whole_type lim t ≡ none → err 3 ≡ answer_of (may_have_call lim schema a t)
    may-have-no-type f = rw (fair, e, f) refl

    pub may-have-said : (u : Ty) → whole_type lim t ≡ some u → (r : Result Answer) (y : Bool) → r ≡ answer_of (said y) → y ≡ may_have s a u →
        r ≡ answer_of (may_have_call lim schema a t)
    may-have-said u f r y p q = p ∙ ap (λ (z : Bool). answer_of (said z)) q ∙ rw (fair, e, f) refl
