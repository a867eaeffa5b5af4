-- The call of `typecheck_restricted_expr`, question by question. Assumes nothing.
use Rattle.std.specs.Prelude.{◌≡◌, refl, List, Bool, true, false, not, ℕ}
use Rattle.std.proofs.Common.{ap, sym, ◌∙◌}
use Rattle.std.proofs.Math.Option.{none, some}
use Rattle.std.proofs.lemmas.Bool.{not-true, not-false}
use Rattle.cedar.specs.Types.{Ty, Value, Schema}
use Rattle.cedar.specs.Result.{Result, ok, err}
use Rattle.cedar.specs.Limits.{Limits, allowed}
use Rattle.cedar.specs.Whole.{whole_schema, whole_type, whole_value}
use Rattle.cedar.specs.Text.{textual}
use Rattle.cedar.specs.Conformance.{Verdict as Said, holds, fails, fails_inside, unknown, Counts, conforms}
use Rattle.cedar.specs.Calls.{of_verdict, conforms_by}
use Rattle.conformance.specs.declared.verdicts.Verdict.{Verdict}
use Rattle.conformance.specs.declared.verdicts.Verdict.TheVariants.{Holds, Fails, FailsInside, Unknown}
use Rattle.conformance.specs.Verdicts.{verdict_of}
use Rattle.validator.specs.Answers.{answer_of}
use Rattle.validator.specs.declared.answers.Answer.{Answer}
use Rattle.validator.specs.declared.answers.Answer.TheVariants.{Yes, No}

-- The answer of each verdict.
abbrev pub answer_to : Verdict → Result Answer
answer_to Holds = ok Yes
answer_to Fails = ok No
answer_to FailsInside = ok No
answer_to Unknown = err 7

answered : (d : Said) → answer_to (verdict_of d) ≡ answer_of (of_verdict d)
answered holds = refl
answered fails = refl
answered fails_inside = refl
answered unknown = refl

module _ (rule : Counts) (lim : Limits) (fair : allowed lim ≡ true) (schema t v : List ℕ) where
  pub conforms-no-schema : whole_schema lim schema ≡ none → err 2 ≡ answer_of (conforms_by rule lim schema t v)
  conforms-no-schema e = rw (fair, e) refl

  module _ (s : Schema) (e : whole_schema lim schema ≡ some s) where
    pub conforms-no-type : whole_type lim t ≡ none → err 3 ≡ answer_of (conforms_by rule lim schema t v)
    conforms-no-type f = rw (fair, e, f) refl

    module _ (a : Ty) (f : whole_type lim t ≡ some a) where
      pub conforms-no-value : whole_value lim v ≡ none → err 5 ≡ answer_of (conforms_by rule lim schema t v)
      conforms-no-value g = rw (fair, e, f, g) refl

      module _ (x : Value) (g : whole_value lim v ≡ some x) where
        pub conforms-no-text : (r : Bool) → r ≡ textual x → not r ≡ true → err 17 ≡ answer_of (conforms_by rule lim schema t v)
        conforms-no-text r q n = let h : textual x ≡ false = sym q ∙ not-true r n in rw (fair, e, f, g, h) refl

        -- The walk's verdict.
        pub conforms-said : (r : Bool) → r ≡ textual x → not r ≡ false → (d : Verdict) → d ≡ verdict_of (conforms rule s a x) → (w : Verdict) → d ≡ w →
            answer_to w ≡ answer_of (conforms_by rule lim schema t v)
        conforms-said r p n d q w z =
            let h : textual x ≡ true = sym p ∙ not-false r n in
            ap answer_to (sym z ∙ q) ∙ answered (conforms rule s a x) ∙ rw (fair, e, f, g, h) refl
