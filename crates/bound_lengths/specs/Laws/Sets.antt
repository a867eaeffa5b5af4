-- The length of a bound of sets is that of their elements' bound by `set_length`. Assumes nothing.
use Rattle.std.specs.Prelude.{◌≡◌, refl, Bool, true, false, cond, ℕ, zero, suc}
use Rattle.std.proofs.Common.{ap, arith, sym, ◌∙◌}
use Rattle.cedar.specs.Types.{Mode, is_loose, anyset, Ty, atom}
use Rattle.cedar.specs.TypeForm.{enc}
use Rattle.cedar.specs.Result.{Result, ok, err}
use Rattle.cedar.specs.Bound.{join_set}
use Rattle.writing.specs.FormLengths.{form_length_of}
use Rattle.bound_lengths.specs.Sets.{set_length, around}

-- The cases of an element's length.
pub typed-length : (m : Mode) (x : ℕ) (e y : Result ℕ) → e ≡ ok x → y ≡ set_length m (ok x) → y ≡ set_length m e
typed-length m x e y p q = q ∙ ap (set_length m) (sym p)

module _ (m : Mode) (d : ℕ) (e : Result ℕ) (p : e ≡ err d) where
  pub untyped-length : is_loose m ≡ true → ok 1 ≡ set_length m e
  untyped-length h = rw (p, h) refl

  pub refused-length : is_loose m ≡ false → err d ≡ set_length m e
  refused-length h = rw (p, h) refl

-- The length of their bound.
pub joined_length : (m : Mode) (r : Result Ty) → set_length m (form_length_of enc r) ≡ form_length_of enc (join_set m r)
unfolding enc
joined_length m (ok c) = ap ok (omega arith)
joined_length m (err d) = go (is_loose m)
  where
    go : (b : Bool) → cond b (ok 1) (err d) ≡ form_length_of enc (cond b (ok (atom anyset)) (err d))
    go true = refl
    go false = refl

pub joined_lengths : (m : Mode) (n : ℕ) (r : Result Ty) →
    around n (set_length m) (form_length_of enc r) ≡ form_length_of enc (around n (join_set m) r)
joined_lengths m zero r = refl
joined_lengths m (suc n) r = ap (around n (set_length m)) (joined_length m r) ∙ joined_lengths m n (join_set m r)
