-- The bound call, question by question. Assumes nothing.
use Rattle.std.specs.Prelude.{ℕ, ◌<◌, List, true, ◌≡◌, refl, get_or}
use Rattle.std.proofs.Math.Option.{none, some}
use Rattle.std.proofs.Common.{sym, ap, ◌∙◌}
use Rattle.cedar.specs.Types.{Mode, Ty, Schema}
use Rattle.cedar.specs.Laws.Shape.{WF}
use Rattle.cedar.specs.Limits.{Limits, allowed}
use Rattle.cedar.specs.Whole.{whole_type, whole_schema}
use Rattle.cedar.specs.Result.{ok}
use Rattle.cedar.specs.Outcome.{refused}
use Rattle.cedar.specs.Bound.{bound}
use Rattle.cedar.specs.Laws.DirectBound.{direct}
use Rattle.cedar.specs.Calls.{mode_of, write_type, bound_call}
use Rattle.cedar.proofs.Laws.Whole.{whole_type-reads}
use Rattle.cedar.proofs.Laws.Direct.{direct-bound}
use Rattle.cedar.proofs.Laws.Join.{bound-WF}
use Rattle.forms.specs.Laws.Bytes.{Bytes-index}

-- A whole type is in order, within the levels.
in_order : (lim : Limits) (b : List ℕ) (a : Ty) → ((i : ℕ) → get_or b i 0 < 256) → whole_type lim b ≡ some a → WF lim.levels a
in_order lim b a known e = ((whole_type-reads lim).into b a (Bytes-index b known) e).1.0

module _ (lim : Limits) (fair : allowed lim ≡ true) (mode : ℕ) (s t₀ t₁ : List ℕ) (room : ℕ) where
  pub bound-mode : mode_of mode ≡ none → bound_call lim mode s t₀ t₁ room ≡ refused 1
  bound-mode e = rw (fair, e) refl

  module _ (m : Mode) (em : mode_of mode ≡ some m) where
    pub bound-schema : whole_schema lim s ≡ none → bound_call lim mode s t₀ t₁ room ≡ refused 2
    bound-schema e = rw (fair, em, e) refl

    module _ (x : Schema) (es : whole_schema lim s ≡ some x) where
      pub bound-first : whole_type lim t₀ ≡ none → bound_call lim mode s t₀ t₁ room ≡ refused 3
      bound-first e = rw (fair, em, es, e) refl

      module _ (a : Ty) (ea : whole_type lim t₀ ≡ some a) where
        pub bound-second : whole_type lim t₁ ≡ none → bound_call lim mode s t₀ t₁ room ≡ refused 4
        bound-second e = rw (fair, em, es, ea, e) refl

        module _ (k₀ : (i : ℕ) → get_or t₀ i 0 < 256) (k₁ : (i : ℕ) → get_or t₁ i 0 < 256) (b : Ty) (eb : whole_type lim t₁ ≡ some b) where
          first-WF : WF lim.levels a
          first-WF = in_order lim t₀ a k₀ ea

          second-WF : WF lim.levels b
          second-WF = in_order lim t₁ b k₁ eb

          -- The bound that the direct walk gives.
          pub bound-direct : bound_call lim mode s t₀ t₁ room ≡ write_type lim room (direct m a b)
          bound-direct = calls ∙ ap (write_type lim room) (sym (direct-bound a m b first-WF.1 second-WF.1))
            where
              calls : bound_call lim mode s t₀ t₁ room ≡ write_type lim room (bound m a b)
              calls = rw (fair, em, es, ea, eb) refl

          -- It is in order, within the levels.
          pub bound-within : (t : Ty) → direct m a b ≡ ok t → WF lim.levels t
          bound-within t e = bound-WF lim.levels m a b t first-WF second-WF (sym (direct-bound a m b first-WF.1 second-WF.1) ∙ e)
