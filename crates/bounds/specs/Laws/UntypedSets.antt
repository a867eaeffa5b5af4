-- The bound of two sets by that of their elements: whether there is one, and when it is the untyped set. Assumes nothing.
use Rattle.std.proofs.Math.Path.{◌≡◌, refl, ap}
use Rattle.std.proofs.Common.{◌∙◌, arith, sym}
use Rattle.std.specs.Option.{option_map}
use Rattle.std.specs.Prelude.{Option as Maybe, Some, None, [], ◌∷◌, Bool, false, cond, ℕ, zero, suc, ◌-◌}
use Rattle.std.proofs.Math.Bool.{true, not}
use Rattle.std.proofs.Math.Dec.{eqb}
use Rattle.std.proofs.Math.ListN.{length}
use borrow.Author.Tests.{eq-eqb, ne_eqb}
use Rattle.cedar.specs.Types.{Mode, is_loose, anyset, Ty, atom, set}
use Rattle.cedar.specs.TypeForm.{enc}
use Rattle.cedar.specs.Result.{Result, ok, err, bind}
use Rattle.cedar.specs.Bound.{join_set}
use Rattle.cedar.proofs.Laws.Lengths.{enc-pos}
use Rattle.writing.specs.FormLengths.{form_of}
use Rattle.writing.specs.Laws.FormLengths.{Cut}
use Rattle.bound_lengths.specs.Sets.{around}
use Rattle.bounds.specs.Joins.{is_ok, KnownLength}

-- Whether two sets have a bound: loose always, else where their elements have.
module _ (m : Mode) where
  pub loose-known : is_loose m ≡ true → (r : Result Ty) → is_ok (join_set m r) ≡ true
  loose-known h (ok c) = refl
  loose-known h (err e) = rw h refl

  pub joined-known : is_loose m ≡ false → (r : Result Ty) → is_ok (join_set m r) ≡ is_ok r
  joined-known h (ok c) = refl
  joined-known h (err e) = rw h refl

  pub around-known : is_loose m ≡ false → (n : ℕ) (r : Result Ty) → is_ok (around n (join_set m) r) ≡ is_ok r
  around-known h zero r = refl
  around-known h (suc n) r = around-known h n (join_set m r) ∙ joined-known h r

-- Two sets that have a bound: of their elements, or the untyped set.
module _ (m : Mode) (r : Result Ty) (known : is_ok (join_set m r) ≡ true) where
  pub strict-typed : is_loose m ≡ false → false ≡ not (is_ok r)
  strict-typed h = ap not (sym known ∙ joined-known m h r)

  pub typed-cut : is_ok r ≡ true → Cut enc enc (7 ∷ []) r (join_set m r)
  unfolding enc
  typed-cut h = record { make = set; is = go r h; cut = λ c q. refl }
    where
      go : (r : Result Ty) → is_ok r ≡ true → join_set m r ≡ bind r (λ c. ok (set c))
      go (ok c) h = refl
      go (err e) h = absurd (let z : ◌≡◌ {A = ℕ} 0 1 = cc in omega arith)

  pub untyped-is : is_ok r ≡ false → join_set m r ≡ ok (atom anyset)
  untyped-is h = go r h known
    where
      loosely : (b : Bool) (e : ℕ) → is_ok {A = Ty} (cond b (ok (atom anyset)) (err e)) ≡ true → cond b (ok (atom anyset)) (err e) ≡ ok (atom anyset)
      loosely true e k = refl
      loosely false e k = absurd (let z : ◌≡◌ {A = ℕ} 0 1 = cc in omega arith)

      go : (r : Result Ty) → is_ok r ≡ false → is_ok (join_set m r) ≡ true → join_set m r ≡ ok (atom anyset)
      go (ok c) h k = absurd (let z : ◌≡◌ {A = ℕ} 0 1 = cc in omega arith)
      go (err e) h k = loosely (is_loose m) e k

  -- Its length tells which.
  pub length-tells : (n : ℕ) → n ≡ length (form_of enc (join_set m r)) → eqb n 1 ≡ not (is_ok r)
  unfolding enc
  length-tells n e = go r refl
    where
      go : (q : Result Ty) → r ≡ q → eqb n 1 ≡ not (is_ok q)
      go (ok c) p =
          let l = e ∙ ap (λ (q : Result Ty). length (form_of enc (join_set m q))) p in
          ne_eqb n 1 (λ z. let g = enc-pos c in omega (arith, l))
      go (err d) p = eq-eqb n 1 (e ∙ ap (λ (q : Result Ty). length (form_of enc q)) (untyped-is (ap is_ok p)))

  pub element-known : (o : Maybe ℕ) → KnownLength o (form_of enc (join_set m r)) → is_ok r ≡ true → KnownLength (option_map (λ n. n - 1) o) (form_of enc r)
  unfolding enc
  element-known None f h = f
  element-known (Some n) f h = go r h f
    where
      go : (q : Result Ty) → is_ok q ≡ true → n ≡ length (form_of enc (join_set m q)) → n - 1 ≡ length (form_of enc q)
      go (ok c) h e = omega (arith, e)
      go (err d) h e = absurd (let z : ◌≡◌ {A = ℕ} 0 1 = cc in omega arith)
