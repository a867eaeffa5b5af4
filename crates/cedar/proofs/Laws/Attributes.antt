-- Laws of attribute lists: what `find` finds, and what a list in order has.
use Rattle.std.specs.Prelude.{ℕ, suc, ◌≤◌, ◌<◌, Bool, true, false, ◌||◌, cond, ◌≡◌, refl, T, eqb, length}
use Rattle.std.proofs.Common.{le_trans, arith, sym, ap, ◌∙◌, subst}
use Rattle.std.proofs.Math.Nat.{le-max_left, le-max_right}
use Rattle.std.proofs.Math.Option.{Option, none, some, some-injective}
use Rattle.cedar.specs.Types.{Ty, Attrs, nil, attr, present, eq_names, mem, names, find}
use Rattle.cedar.specs.Levels.{depth, depths}
use Rattle.cedar.specs.Laws.Shape.{Ascend, Ordered, OrderedFrom}
use Rattle.cedar.specs.TypeForm.{count}
use Rattle.cedar.proofs.Laws.Tests.{T→true, cond-case, none-some, none_of, eqb-equal, eqb-false}
use Rattle.cedar.proofs.Laws.Equality.{eq_names→eq}

-- The first name is found.
pub find-equal : (n k : ℕ) (r : Bool) (t : Ty) (xs : Attrs) → n ≡ k → find n (attr k r t xs) ≡ some (r, t)
find-equal n k r t xs e = rw (T→true (eqb n k) (eqb-equal n k e))

-- Another name is looked for in the rest.
pub find-other : (n k : ℕ) (r : Bool) (t : Ty) (xs : Attrs) → (n ≡ k → ⊥) → find n (attr k r t xs) ≡ find n xs
find-other n k r t xs h = rw (eqb-false n k h)

-- No name below the first is found.
pub find-below : (xs : Attrs) (n low : ℕ) → OrderedFrom low xs → n < low → find n xs ≡ none
unfolding Ordered
find-below nil n low o h = refl
find-below (attr k r t xs) n low o h = find-other n k r t xs (λ e. let b = o.0 in omega arith) ∙ find-below xs n (suc k) o.2 (let b = o.0 in omega arith)

-- A list is in order from any lower name on.
pub ordered-from : (xs : Attrs) (low low' : ℕ) → low' ≤ low → OrderedFrom low xs → OrderedFrom low' xs
unfolding Ordered
ordered-from nil low low' h o = tt
ordered-from (attr k r t xs) low low' h o = (le_trans h o.0, o.1, o.2)

-- A property of each type of a list holds of what is found.
find-each : (P : Ty → Type 0) (Q : Attrs → Type 0) → ((n : ℕ) (r : Bool) (t : Ty) (xs : Attrs) → Q (attr n r t xs) → P t × Q xs)
    → (xs : Attrs) (n : ℕ) (y : Bool × Ty) → Q xs → find n xs ≡ some y → P y.1
find-each P Q step nil n y q e = none-some e
find-each P Q step (attr k r t xs) n y q e =
    let (p, q') = step k r t xs q in
    cond-case (eqb n k) e (λ h i. subst (λ (x : Bool × Ty). P x.1) (some-injective _ _ i) p) (λ h i. find-each P Q step xs n y q' i)

-- What is found in a list in order is in order.
pub find-ordered : (xs : Attrs) (n low : ℕ) (y : Bool × Ty) → OrderedFrom low xs → find n xs ≡ some y → Ordered y.1
unfolding Ordered
find-ordered xs n low y o e = find-each Ordered (λ ys. (i : ℕ) × OrderedFrom i ys) (λ k r t ys q. (q.1.1, (suc k, q.1.2))) xs n y (low, o) e

-- What is found is no deeper than the list.
pub find-depth : (ys : Attrs) (n : ℕ) (y : Bool × Ty) → find n ys ≡ some y → depth y.1 ≤ depths ys
unfolding depth
find-depth ys n y e = find-each (λ t. depth t ≤ depths ys) (λ zs. depths zs ≤ depths ys)
    (λ k r t zs q. (le_trans (le-max_left (depth t) (depths zs)) q, le_trans (le-max_right (depth t) (depths zs)) q)) ys n y (omega arith) e

-- A name is found just where it stands among the names.
pub find-mem : (xs : Attrs) (n : ℕ) → present (find n xs) ≡ mem n (names xs)
find-mem nil n = refl
find-mem (attr k r t xs) n = go (eqb n k) (find-mem xs n)
  where
    go : (b : Bool) → present (find n xs) ≡ mem n (names xs) → present (cond b (some (r, t)) (find n xs)) ≡ (b || mem n (names xs))
    go true e = refl
    go false e = e

-- Lists of the same names lack the same names.
pub find_none : (xs ys : Attrs) (n : ℕ) → T (eq_names (names xs) (names ys)) → find n ys ≡ none → find n xs ≡ none
find_none xs ys n h e =
    none_of (find n xs) (find-mem xs n ∙ ap (mem n) (eq_names→eq (names xs) (names ys) h) ∙ sym (find-mem ys n) ∙ ap (λ (o : Option (Bool × Ty)). present o) e)

-- There are as many names as attributes.
pub count-names : (xs : Attrs) → count xs ≡ length (names xs)
count-names nil = refl
count-names (attr n r t xs) = ap suc (count-names xs)

-- The names of a list in order ascend.
pub ascend-names : (xs : Attrs) (low : ℕ) → OrderedFrom low xs → Ascend low (names xs)
unfolding Ordered
ascend-names nil low o = tt
ascend-names (attr n r t xs) low o = (o.0, ascend-names xs (suc n) o.2)
