-- Walks that go on only after a yes. Assumes nothing.
use Rattle.std.specs.Prelude.{◌≡◌, refl, ℕ}
use Rattle.std.proofs.Common.{ap, sym, ◌∙◌, arith}
use Rattle.cedar.specs.Conformance.{Verdict as Said, holds, fails, fails_inside, unknown, and_then}
use Rattle.conformance.specs.declared.verdicts.Verdict.{Verdict}
use Rattle.conformance.specs.declared.verdicts.Verdict.TheVariants.{Holds}
use Rattle.conformance.specs.Verdicts.{verdict_of}

-- A verdict that is one and then another.
pub record Then (all u v : Said) : Type 0 where
  pub is : all ≡ and_then u v

module _ {all u v : Said} (t : Then all u v) (x : Verdict) (e : x ≡ verdict_of u) where
  pub then-stop : (x ≡ Holds → ⊥) → x ≡ verdict_of all
  then-stop h = go u e ∙ ap verdict_of (sym t.is)
    where
      go : (w : Said) → x ≡ verdict_of w → x ≡ verdict_of (and_then w v)
      go holds e = absurd (h e)
      go fails e = e
      go fails_inside e = e
      go unknown e = e

  pub then-on : x ≡ Holds → all ≡ v
  then-on h = t.is ∙ go u e
    where
      go : (w : Said) → x ≡ verdict_of w → and_then w v ≡ v
      go holds e = refl
      go fails e = absurd (let z : ◌≡◌ {A = ℕ} 0 1 = cc in omega arith)
      go fails_inside e = absurd (let z : ◌≡◌ {A = ℕ} 0 1 = cc in omega arith)
      go unknown e = absurd (let z : ◌≡◌ {A = ℕ} 0 1 = cc in omega arith)
