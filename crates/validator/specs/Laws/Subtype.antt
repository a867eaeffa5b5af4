-- The outcome of `is_subtype`, question by question. Assumes nothing.
use Rattle.std.specs.Prelude.{ℕ, List, Bool, true, ◌≡◌, refl}
use Rattle.std.proofs.Math.Option.{none, some}
use Rattle.std.proofs.Common.{ap, ◌∙◌}
use Rattle.cedar.specs.Types.{Mode, Ty, Schema}
use Rattle.cedar.specs.Result.{Result, err}
use Rattle.cedar.specs.Limits.{Limits, allowed}
use Rattle.cedar.specs.Whole.{whole_type, whole_schema}
use Rattle.cedar.specs.Outcome.{said}
use Rattle.cedar.specs.Subtype.{sub}
use Rattle.cedar.specs.Calls.{mode_of, subtype_call}
use Rattle.validator.specs.Answers.{answer_of}
use Rattle.validator.specs.declared.answers.Answer.{Answer}

module _ (lim : Limits) (fair : allowed lim ≡ true) (mode : ℕ) (schema t₀ t₁ : List ℕ) where
  pub subtype-mode : mode_of mode ≡ none → err 1 ≡ answer_of (subtype_call lim mode schema t₀ t₁)
  subtype-mode e = rw (fair, e) refl

  module _ (m : Mode) (em : mode_of mode ≡ some m) where
    pub subtype-schema : whole_schema lim schema ≡ none → err 2 ≡ answer_of (subtype_call lim mode schema t₀ t₁)
    subtype-schema e = rw (fair, em, e) refl

    module _ (s : Schema) (es : whole_schema lim schema ≡ some s) where
      pub subtype-first : whole_type lim t₀ ≡ none → err 3 ≡ answer_of (subtype_call lim mode schema t₀ t₁)
      subtype-first e = rw (fair, em, es, e) refl

      module _ (a : Ty) (ea : whole_type lim t₀ ≡ some a) where
        pub subtype-second : whole_type lim t₁ ≡ none → err 4 ≡ answer_of (subtype_call lim mode schema t₀ t₁)
        subtype-second e = rw (fair, em, es, ea, e) refl

        pub subtype-said : (b : Ty) → whole_type lim t₁ ≡ some b → (r : Result Answer) (y : Bool) → r ≡ answer_of (said y) → y ≡ sub m a b →
            r ≡ answer_of (subtype_call lim mode schema t₀ t₁)
        subtype-said b eb r y p q = p ∙ ap (λ (z : Bool). answer_of (said z)) q ∙ rw (fair, em, es, ea, eb) refl
