-- Down the sets whose bound is typed, and the write of their kinds. Assumes nothing.
use Rattle.std.specs.Option.{option_map}
use Rattle.std.specs.Prelude.{◌≡◌, refl, ℕ, suc, ◌+◌, ◌-◌, ◌≤◌, ◌<◌, List, [], ◌∷◌, ◌++◌, Bool, true, false, not, Option as Maybe, length, replicate}
use Rattle.std.proofs.Common.{ap, sym, subst, ◌∙◌, arith, append_assoc}
use Rattle.std.proofs.lemmas.List.{length-replicate, replicate_more}
use Rattle.std.proofs.lemmas.Bool.{not-true, not-false}
use Rattle.std.proofs.Math.Option.{none, some}
use Rattle.cedar.specs.Types.{Mode, anyset, Ty, atom, set, as_set}
use Rattle.cedar.specs.TypeForm.{enc}
use Rattle.cedar.specs.Result.{Result, ok, err, bind}
use Rattle.cedar.specs.Outcome.{over}
use Rattle.cedar.specs.Bound.{join_set}
use Rattle.cedar.specs.Laws.DirectBound.{direct}
use Rattle.forms.specs.Parts.{rest}
use Rattle.forms.specs.TypeBytes.{whole, dec}
use Rattle.forms.specs.TypeForms.{type_of}
use Rattle.forms.specs.declared.type_forms.TypeForm.{TypeForm}
use Rattle.writing.specs.FormLengths.{form_of, Ready}
use Rattle.writing.specs.Laws.FormLengths.{Cut}
use Rattle.writing.specs.Laws.Laying.{behind-front, behind-ready, behind-written}
use Rattle.writing.specs.Laws.Writing.{Writing, writing_start, writing_more, writing-end, back}
use Rattle.writing.specs.Written.{Written}
use Rattle.bound_lengths.specs.Laws.Bounds.{sets-join, atom-form}
use Rattle.bounds.specs.Joins.{is_ok, KnownLength}
use Rattle.bounds.specs.TypedSets.{TypedDown, PastTyped}
use Rattle.bounds.specs.Laws.UntypedSets.{typed-cut, untyped-is, element-known}
use Rattle.bounds.specs.Laws.BoundWrites.{Copied, copied}

regrouped : (a b c : List ℕ) → (a ++ b) ++ c ≡ a ++ (b ++ c)
regrouped a b c = rw append_assoc refl

-- A cut of a cut.
cut-again : {A B C : Type 0} {w : A → List ℕ} {v : B → List ℕ} {z : C → List ℕ} {p q : List ℕ} {r : Result A} {s : Result B} {t : Result C} →
    Cut w v p r s → Cut v z q s t → Cut w z (q ++ p) r t
cut-again {A = A} {B = B} {C = C} {w = w} {v = v} {z = z} {p = p} {q = q} {r = r} {s = s} {t = t} k l =
    record {
      make = λ a. l.make (k.make a);
      is = l.is ∙ ap (λ (x : Result B). bind x (λ b. ok (l.make b))) k.is ∙ go r;
      cut = λ a e. l.cut (k.make a) (k.is ∙ ap (λ (x : Result A). bind x (λ b. ok (k.make b))) e) ∙ ap (λ (x : List ℕ). q ++ x) (k.cut a e) ∙ sym (regrouped q p (w a));
    }
  where
    go : (r : Result A) → bind (bind r (λ a. ok (k.make a))) (λ b. ok (l.make b)) ≡ bind r (λ a. ok (l.make (k.make a)))
    go (ok a) = refl
    go (err e) = refl

whole-cut : (r : Result Ty) → Cut enc enc [] r r
whole-cut r = record { make = λ t. t; is = go r; cut = λ t e. refl }
  where
    go : (r : Result Ty) → r ≡ bind r (λ t. ok t)
    go (ok t) = refl
    go (err e) = refl

some-none : {t : Ty} → some t ≡ none → ⊥
some-none p = cc

pub typed-start : (m : Mode) (a b : TypeForm) (o : Maybe ℕ) → is_ok (direct m (type_of a) (type_of b)) ≡ true →
    KnownLength o (form_of enc (direct m (type_of a) (type_of b))) → TypedDown m a b a b o 0
typed-start m a b o h k =
    record { typed = whole-cut (direct m (type_of a) (type_of b)); bounded = h; known = k; below = omega arith; beside = omega arith; first = λ e. (refl, refl) }

module _ {m : Mode} {a b x y : TypeForm} {o : Maybe ℕ} {n : ℕ} (d : TypedDown m a b x y o n) where
  module _ (s t : TypeForm) (p : (type_of x ≡ set (type_of s)) × (s.levels + 1 ≡ x.levels)) (q : (type_of y ≡ set (type_of t)) × (t.levels + 1 ≡ y.levels)) where
    abbrev elements : Result Ty
    elements = direct m (type_of s) (type_of t)

    join : direct m (type_of x) (type_of y) ≡ join_set m elements
    join = sets-join m (type_of x) (type_of y) p.0 q.0

    pub elements-bounded : is_ok (join_set m elements) ≡ true
    elements-bounded = ap is_ok (sym join) ∙ d.bounded

    pub elements-known : KnownLength o (form_of enc (join_set m elements))
    elements-known = rw join at d.known

    -- Two sets whose bound is typed are gone down.
    pub typed-more : (z : Bool) → z ≡ not (is_ok elements) → z ≡ false → (k : Maybe ℕ) → k ≡ option_map (λ i. i - 1) o → TypedDown m a b s t k (n + 1)
    typed-more z told h k e =
        let good : is_ok elements ≡ true = not-false (is_ok elements) (sym told ∙ h) in
        let one : Cut enc enc (7 ∷ []) elements (direct m (type_of x) (type_of y)) = rw join (typed-cut m elements elements-bounded good) in
        let more : Cut enc enc (replicate n 7 ++ 7 ∷ []) elements (direct m (type_of a) (type_of b)) = cut-again one d.typed in
        record {
          typed = rw (replicate_more {X = ℕ} n 7) at more;
          bounded = good;
          known = rw e (element-known m elements elements-bounded o elements-known good);
          below = omega (arith, p.1, d.below);
          beside = omega (arith, q.1, d.beside);
          first = λ w. absurd (omega arith);
        }

    pub typed-untyped : (z : Bool) → z ≡ not (is_ok elements) → z ≡ true → PastTyped m a b x y o n
    typed-untyped z told h =
        record {
          down = d;
          end =
              λ u v e f. let i : u ≡ type_of s = let j : set u ≡ set (type_of s) = sym e ∙ p.0 in cc in
              let i' : v ≡ type_of t = let j : set v ≡ set (type_of t) = sym f ∙ q.0 in cc in
              rw (i, i') (not-true (is_ok elements) (sym told ∙ h));
        }

  pub typed-left : as_set (type_of x) ≡ none → PastTyped m a b x y o n
  typed-left h = record { down = d; end = λ u v e f. absurd (some-none (sym (ap as_set e) ∙ h)) }

  pub typed-right : as_set (type_of y) ≡ none → PastTyped m a b x y o n
  typed-right h = record { down = d; end = λ u v e f. absurd (some-none (sym (ap as_set f) ∙ h)) }

-- The kinds of n sets, of which `at` are written.
one-of : (k j : ℕ) → k ≡ suc j → replicate {A = ℕ} k 7 ≡ 7 ∷ replicate j 7
one-of k j e = rw e refl

pub kinds-start : (n : ℕ) (o : List ℕ) → n ≤ length o → Writing (replicate n 7) (replicate (n - 0) 7) o 0 o
kinds-start n o h =
    let e : n ≡ n - 0 = omega arith in
    subst (λ (j : ℕ). Writing (replicate n 7) (replicate j 7) o 0 o) e (writing_start (replicate n 7) o (omega (arith, length-replicate {A = ℕ} n 7)))

module _ (n at : ℕ) {o out : List ℕ} (i : Writing (replicate n 7) (replicate (n - at) 7) o at out) where
  pub kinds-more : at < n → (ys : List ℕ) → ys ≡ over (7 ∷ []) (rest at out) →
      Writing (replicate n 7) (replicate (n - (at + 1)) 7) o (at + 1) (back at out ys)
  kinds-more h ys e =
      let k : n - at ≡ suc (n - (at + 1)) = omega arith in
      writing_more i (7 ∷ []) (replicate (n - (at + 1)) 7) ys 1 (one-of (n - at) (n - (at + 1)) k) record { bytes = e; many = refl }

  pub kinds-end : n ≤ at → at ≤ n → Written (replicate n 7) o out n
  kinds-end h g =
      let k : n - at ≡ 0 = omega arith in
      let e : at ≡ n = omega arith in
      let w : Written (replicate n 7) o out at = writing-end i (ap (λ (j : ℕ). replicate {A = ℕ} j 7) k) in
      record { bytes = w.bytes; many = sym e ∙ w.many }

-- What is written of two types whose sets were gone down.
module _ {m : Mode} {s t x y : TypeForm} {k : Maybe ℕ} {n : ℕ} (p : PastTyped m s t x y k n) {o : List ℕ} (g : Ready enc (direct m (type_of s) (type_of t)) o) where
  many : n ≡ length (replicate {A = ℕ} n 7)
  many = sym (length-replicate {A = ℕ} n 7)

  pub typed-room : n ≤ length o
  typed-room = omega (arith, behind-front p.down.typed g, many)

  pub set-untyped : n ≡ 0 → {u v : Ty} → type_of s ≡ set u → type_of t ≡ set v → Copied (direct m (type_of s) (type_of t)) (6 ∷ []) o
  set-untyped z {u} {v} e f =
      let join : direct m (type_of s) (type_of t) ≡ join_set m (direct m u v) = sets-join m (type_of s) (type_of t) e f in
      let good : is_ok (join_set m (direct m u v)) ≡ true = ap is_ok (sym join ∙ g.is) in
      copied g (atom anyset) (6 ∷ []) (join ∙ untyped-is m (direct m u v) good (p.end u v ((p.down.first z).0 ∙ e) ((p.down.first z).1 ∙ f))) (atom-form anyset)

  module _ (h : s.levels ≡ t.levels) where
    level : y.levels ≡ x.levels
    level = omega (arith, p.down.below, p.down.beside)

    abbrev left-over : ℕ → Result Ty
    left-over i = direct m (type_of x) (dec i y.bytes.now)

    pub typed-whole : whole x.levels y.bytes.now ≡ true
    typed-whole = subst (λ (i : ℕ). whole i y.bytes.now ≡ true) level y.whole

    pub typed-known : KnownLength k (form_of enc (direct m (type_of x) (dec x.levels y.bytes.now)))
    typed-known = subst (λ (i : ℕ). KnownLength k (form_of enc (left-over i))) level p.down.known

    module _ (xs : List ℕ) (q : Written (replicate n 7) o xs n) where
      pub typed-ready : Ready enc (direct m (type_of x) (dec x.levels y.bytes.now)) (rest n xs)
      typed-ready = subst (λ (i : ℕ). Ready enc (left-over i) (rest n xs)) level (behind-ready p.down.typed g xs n q.bytes many)

      pub typed-written : (ys : List ℕ) (r : ℕ) → Written (form_of enc (direct m (type_of x) (dec x.levels y.bytes.now))) (rest n xs) ys r →
          Written (form_of enc (direct m (type_of s) (type_of t))) o (back n xs ys) (r + n)
      typed-written ys r w =
          behind-written p.down.typed g xs n q.bytes many ys r (subst (λ (i : ℕ). Written (form_of enc (left-over i)) (rest n xs) ys r) (sym level) w)
