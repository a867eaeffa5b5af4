-- Down the sets that two types begin with. Assumes nothing.
use Rattle.std.specs.Prelude.{◌≡◌, ℕ, zero, suc, ◌+◌, ◌-◌, ◌≤◌, ◌<◌, refl}
use Rattle.std.proofs.Common.{arith, ap, sym, ◌∙◌, add-one, sub-one}
use Rattle.std.proofs.Math.Option.{none, some}
use Rattle.cedar.specs.Types.{Mode, never, true', false', bool, long, string, anyset, anyent, Ty, atom, set, rec, act, ent, ext, as_set}
use Rattle.cedar.specs.TypeForm.{enc}
use Rattle.cedar.specs.Result.{Result}
use Rattle.cedar.specs.Bound.{join_set}
use Rattle.cedar.specs.Laws.DirectBound.{direct}
use Rattle.forms.specs.Codes.{code}
use Rattle.forms.specs.TypeForms.{type_of}
use Rattle.forms.specs.declared.type_forms.TypeForm.{TypeForm}
use Rattle.writing.specs.FormLengths.{form_length_of}
use Rattle.bound_lengths.specs.Sets.{set_length, around, PastSets}
use Rattle.bound_lengths.specs.Laws.Bounds.{sets-join}
use Rattle.bound_lengths.specs.Laws.Sets.{joined_lengths}

-- So far as two types were gone down.
pub record Down (a b x y : TypeForm) (n : ℕ) : Type 0 where
  pub joined : (m : Mode) → direct m (type_of a) (type_of b) ≡ around n (join_set m) (direct m (type_of x) (type_of y))
  pub below : x.levels + n ≡ a.levels

around-more : {A : Type 0} (n : ℕ) (f : A → A) (x : A) → around (n + 1) f x ≡ around n f (f x)
around-more n f x = rw (add-one n) refl

-- One of n sets less, and none left.
pub around-less : {A : Type 0} (f : A → A) (n : ℕ) (x y : A) → 0 < n → y ≡ f x → around (n - 1) f y ≡ around n f x
around-less f zero x y h p = absurd (omega arith)
around-less f (suc n) x y h p = rw (sub-one (suc n)) (ap (around n f) p)

pub around-none : {A : Type 0} (f : A → A) (n : ℕ) (x : A) → n ≤ 0 → around n f x ≡ x
around-none f zero x h = refl
around-none f (suc n) x h = absurd (omega arith)

some-none : {t : Ty} → some t ≡ none → ⊥
some-none p = cc

module _ {a b x y : TypeForm} {n : ℕ} (d : Down a b x y n) where
  -- Two sets are gone down.
  pub down-again : (s t : TypeForm) → (type_of x ≡ set (type_of s)) × (s.levels + 1 ≡ x.levels) → (type_of y ≡ set (type_of t)) × (t.levels + 1 ≡ y.levels) →
      Down a b s t (n + 1)
  down-again s t p q =
      record {
        joined = λ m. d.joined m ∙ ap (around n (join_set m)) (sets-join m (type_of x) (type_of y) p.0 q.0) ∙
            sym (around-more n (join_set m) (direct m (type_of s) (type_of t)));
        below = omega (arith, p.1, d.below);
      }

  -- The walk ends where one is no set.
  pub down-left : as_set (type_of x) ≡ none → PastSets a b x y n
  down-left h = record { joined = d.joined; below = d.below; bare = λ u e. absurd (some-none (sym (ap as_set e) ∙ h)) }

  pub down-right : as_set (type_of y) ≡ none → PastSets a b x y n
  down-right h = record { joined = d.joined; below = d.below; bare = λ u e. h }

pub down-start : (a b : TypeForm) → Down a b a b 0
down-start a b = record { joined = λ m. refl; below = omega arith }

-- The length of the bound, by that of what is left.
pub past-length : (m : Mode) {a b x y : TypeForm} {n : ℕ} → PastSets a b x y n → (r s : Result ℕ) → r ≡ form_length_of enc (direct m (type_of x) (type_of y)) →
    s ≡ around n (set_length m) r → s ≡ form_length_of enc (direct m (type_of a) (type_of b))
past-length m {a} {b} {x} {y} {n} p r s e f =
    f ∙ ap (around n (set_length m)) e ∙ joined_lengths m n (direct m (type_of x) (type_of y)) ∙ sym (ap (form_length_of enc) (p.joined m))

-- A set and no set have unlike kinds.
pub set-apart : (u v : Ty) → ((t : Ty) → u ≡ set t → as_set v ≡ none) → (t : Ty) → u ≡ set t → code u ≡ code v → ⊥
set-apart u v h t e z = go v (h t e) (sym (ap code e) ∙ z)
  where
    go : (v : Ty) → as_set v ≡ none → code (set t) ≡ code v → ⊥
    go (set w) p q = some-none p
    go (atom never) p q = omega arith
    go (atom true') p q = omega arith
    go (atom false') p q = omega arith
    go (atom bool) p q = omega arith
    go (atom long) p q = omega arith
    go (atom string) p q = omega arith
    go (atom anyset) p q = omega arith
    go (atom anyent) p q = omega arith
    go (rec o xs) p q = omega arith
    go (act n xs) p q = omega arith
    go (ent ns) p q = omega arith
    go (ext n) p q = omega arith
