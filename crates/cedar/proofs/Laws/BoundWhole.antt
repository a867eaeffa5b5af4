-- A bound of whole types that is short enough is whole, and its form is bytes.
use Rattle.std.specs.Prelude.{◌≤◌, ◌<◌, ℕ, List, ◌≡◌, length}
use Rattle.std.proofs.Common.{arith, sym, subst}
use Rattle.std.proofs.Math.Option.{some}
use Rattle.cedar.specs.Types.{Mode, Ty}
use Rattle.cedar.specs.Bytes.{Bytes}
use Rattle.cedar.specs.TypeForm.{enc}
use Rattle.cedar.specs.Limits.{Limits}
use Rattle.cedar.specs.Result.{ok}
use Rattle.cedar.specs.Bound.{bound}
use Rattle.cedar.specs.Whole.{whole_type}
use Rattle.cedar.proofs.Laws.Whole.{whole_type-reads}
use Rattle.cedar.proofs.Laws.Join.{bound-WF}
use Rattle.cedar.proofs.Laws.JoinBytes.{bound-bytes}

-- The bound of two whole types, within the limit on a form's length, is a whole form of bytes.
pub bound-whole : (lim : Limits) → lim.bytes < 65536 → (t₀ t₁ : List ℕ) → Bytes t₀ → Bytes t₁ → (m : Mode) (a b c : Ty)
    → whole_type lim t₀ ≡ some a → whole_type lim t₁ ≡ some b → bound m a b ≡ ok c → length (enc c) ≤ lim.bytes →
    Bytes (enc c) × (whole_type lim (enc c) ≡ some c)
bound-whole lim small t₀ t₁ h₀ h₁ m a b c ea eb e l =
    let (a₁, a₂) = (whole_type-reads lim).into t₀ a h₀ ea in
    let (b₁, b₂) = (whole_type-reads lim).into t₁ b h₁ eb in (
      bound-bytes m a b c e (subst Bytes (sym a₁) h₀) (subst Bytes (sym b₁) h₁) (omega arith),
      (whole_type-reads lim).back c (bound-WF lim.levels m a b c a₂.0 b₂.0 e, l),
    )
