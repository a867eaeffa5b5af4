-- An attribute of the first list that is kept: what it comes to, and how it is written. Assumes nothing.
use Rattle.std.specs.Prelude.{◌≡◌, refl, List, Bool, true, false, ◌&&◌, ◌||◌, cond, ℕ}
use Rattle.std.proofs.Common.{ap, sym, ◌∙◌, arith}
use Rattle.std.proofs.Math.Option.{Option, none, some}
use Rattle.cedar.specs.Types.{Mode, is_permissive, eq_flag, Ty}
use Rattle.cedar.specs.TypeForm.{enc}
use Rattle.cedar.specs.Result.{Result, ok, err}
use Rattle.cedar.specs.Laws.DirectBound.{direct}
use Rattle.writing.specs.Written.{Written}
use Rattle.writing.specs.FormLengths.{form_of, Ready}
use Rattle.bound_lengths.specs.Pairs.{joined, joined_to}
use Rattle.writing.specs.Laws.Laying.{ready-room}
use Rattle.bounds.specs.Joins.{pair_form}

-- An attribute that is kept was found, and its types have a bound.
pub record Both (m : Mode) (r : Bool) (t : Ty) (o : Option (Bool × Ty)) (y : Bool × Ty) : Type 0 where
  pub other : Bool × Ty
  pub found : o ≡ some other
  pub required : y.0 ≡ (r && other.0)
  pub bound : direct m t other.1 ≡ ok y.1

pub both : (m : Mode) (r : Bool) (t : Ty) (o : Option (Bool × Ty)) (y : Bool × Ty) → joined m r t o ≡ ok (some y) → Both m r t o y
both m r t none y e = absurd (go (is_permissive m) e)
  where
    go : (b : Bool) → cond b (ok none) (err 12) ≡ ok (some y) → ⊥
    go true e = let z : ◌≡◌ {A = ℕ} 0 1 = cc in omega arith
    go false e = let z : ◌≡◌ {A = ℕ} 0 1 = cc in omega arith
both m r t (some x) y e = go (direct m t x.1) refl e
  where
    go : (c : Result Ty) → direct m t x.1 ≡ c → joined_to m r x.0 c ≡ ok (some y) → Both m r t (some x) y
    go (ok c) p e = kept (is_permissive m || eq_flag r x.0) e
      where
        kept : (b : Bool) → cond b (ok (some (r && x.0, c))) (err 11) ≡ ok (some y) → Both m r t (some x) y
        kept true e =
            let z : (r && x.0, c) ≡ y = cc in
            record { other = x; found = refl; required = ap (λ (w : Bool × Ty). w.0) (sym z); bound = p ∙ ap (λ (w : Bool × Ty). ok w.1) z }
        kept false e = absurd (let z : ◌≡◌ {A = ℕ} 0 1 = cc in omega arith)
    go (err d) p e = absurd (drop (is_permissive m) e)
      where
        drop : (b : Bool) → cond b (ok none) (err d) ≡ ok (some y) → ⊥
        drop true e = let z : ◌≡◌ {A = ℕ} 0 1 = cc in omega arith
        drop false e = let z : ◌≡◌ {A = ℕ} 0 1 = cc in omega arith

-- The bound of its types, where it is kept.
module _ {j : Result (Option (Bool × Ty))} {c : Result Ty} {o : List ℕ} (y : Bool × Ty) (e : j ≡ ok (some y)) (f : c ≡ ok y.1) where
  pub pair-ready : Ready pair_form j o → Ready enc c o
  pair-ready g = let r = ready-room g (some y) e in record { result = y.1; is = f; small = r.0; room = r.1 }

  pub pair-written : (xs : List ℕ) (x : ℕ) → Written (form_of enc c) o xs x → Written (form_of pair_form j) o xs x
  pair-written xs x t = rw e (rw f at t)
