-- The mode that a number means. Assumes nothing.
use Rattle.std.specs.Prelude.{◌≡◌, ℕ, Result, Ok, Err, refl, zero, suc}
use Rattle.std.proofs.Common.{ap, sym, ◌∙◌}
use Rattle.std.proofs.Math.Option.{none, some}
use Rattle.cedar.specs.Calls.{mode_of}
use Rattle.forms.specs.declared.modes.Mode.{Mode as ModeEnum}
use Rattle.forms.specs.declared.modes.UnknownMode.{UnknownMode}
use Rattle.forms.specs.Modes.{as_mode, mode_in}
use Rattle.cedar.specs.Types.{strict, permissive, loose}

-- The number of each mode, and the others.
pub number-strict : (n : ℕ) → n ≡ 0 → some strict ≡ mode_of n
number-strict n e = rw e refl

pub number-permissive : (n : ℕ) → n ≡ 1 → some permissive ≡ mode_of n
number-permissive n e = rw e refl

pub number-loose : (n : ℕ) → n ≡ 2 → some loose ≡ mode_of n
number-loose n e = rw e refl

pub number-none : (n : ℕ) → (n ≡ 0 → ⊥) → (n ≡ 1 → ⊥) → (n ≡ 2 → ⊥) → none ≡ mode_of n
number-none zero f g h = absurd (f refl)
number-none (suc zero) f g h = absurd (g refl)
number-none (suc (suc zero)) f g h = absurd (h refl)
number-none (suc (suc (suc n))) f g h = refl

-- A mode that was read of a number, by its cases.
module _ (n : ℕ) (r : Result ModeEnum UnknownMode) (q : mode_in r ≡ mode_of n) where
  pub mode-known : (m : ModeEnum) → r ≡ Ok m → mode_of n ≡ some (as_mode m)
  mode-known m h = sym q ∙ ap mode_in h

  pub mode-none : {e : UnknownMode} → r ≡ Err e → mode_of n ≡ none
  mode-none h = sym q ∙ ap mode_in h
