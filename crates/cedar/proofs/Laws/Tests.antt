-- Laws of tests: what a Boolean, a choice, or a value that may be missing says.
use Rattle.std.specs.Prelude.{ℕ, ◌<◌, Bool, true, false, not, ◌&&◌, ◌||◌, cond, ◌≡◌, refl, ◌⊎◌, T, eqb, ltb}
use Rattle.std.proofs.Common.{arith, sym, subst, inl, inr, T_not, eqb→eq, ltb→lt, nltb→le}
use Rattle.std.proofs.Math.Option.{Option, none, some}
use Rattle.std.proofs.Math.Dec.{eqb_refl}
use Rattle.cedar.specs.Types.{maybe, present, does}

-- Both tests hold.
pub T_and : (a b : Bool) → T (a && b) → T a × T b
T_and true b h = (tt, h)
T_and false b h = absurd h

-- Two tests that hold, as one.
pub and_T : (a b : Bool) → T a → T b → T (a && b)
and_T true b g h = h
and_T false b g h = absurd g

-- One of the two tests holds.
pub T-or : (a b : Bool) → T (a || b) → T a ⊎ T b
T-or true b h = inl tt
T-or false b h = inr h

-- The first test holds, so one of them does.
pub or_inl : (a b : Bool) → T a → T (a || b)
or_inl true b h = tt
or_inl false b h = absurd h

-- The second test holds, so one of them does.
pub or_inr : (a b : Bool) → T b → T (a || b)
or_inr true b h = tt
or_inr false b h = h

-- What the second test gives stands in its place.
pub or_map : (a b c : Bool) → (T b → T c) → T (a || b) → T (a || c)
or_map true b c f h = tt
or_map false b c f h = f h

-- A test or never is the test.
pub or-false : (a : Bool) → T (a || false) → T a
or-false true h = tt
or-false false h = h

-- A test holds or does not.
pub not-or : (b : Bool) → T (not b || b)
not-or true = tt
not-or false = tt

-- Not the first, or the second: where the first holds, the second does.
pub not-or→ : (a b : Bool) → T (not a || b) → T a → T b
not-or→ true b h k = h
not-or→ false b h k = absurd k

-- A test that holds is true.
pub T→true : (a : Bool) → T a → a ≡ true
T→true true h = refl
T→true false h = absurd h

-- A test that does not hold is false.
pub not-T→false : (a : Bool) → (T a → ⊥) → a ≡ false
not-T→false true h = absurd (h tt)
not-T→false false h = refl

-- Tests that follow from each other are equal.
pub T-ext : (a b : Bool) → (T a → T b) → (T b → T a) → a ≡ b
T-ext true true f g = refl
T-ext true false f g = absurd (f tt)
T-ext false true f g = absurd (g tt)
T-ext false false f g = refl

-- Neither of two tests fails.
pub not-both : (a b : Bool) → not (a && b) ≡ false → T a × T b
not-both true true e = (tt, tt)
not-both true false e = absurd (let z : ◌≡◌ {A = ℕ} 0 1 = cc in omega arith)
not-both false b e = absurd (let z : ◌≡◌ {A = ℕ} 0 1 = cc in omega arith)

-- What a decision that says yes decides.
pub does→ : {A : Type 0} (d : Dec A) → T (does d) → A
does→ (yes a) h = a
does→ (no n) h = absurd h

-- A decision of what holds says yes.
pub →does : {A : Type 0} (d : Dec A) → A → T (does d)
→does (yes a) h = tt
→does (no n) h = n h

-- The two cases of a choice.
pub cond-case : {A C : Type 0} (b : Bool) {x y z : A} → cond b x y ≡ z → (T b → x ≡ z → C) → (T (not b) → y ≡ z → C) → C
cond-case true e f g = f tt e
cond-case false e f g = g tt e

-- Of two tests the one that was chosen holds.
pub cond-T : {C : Type 0} (b x y : Bool) → T (cond b x y) → (T x → C) → (T y → C) → C
cond-T true x y h f g = f h
cond-T false x y h f g = g h

-- Where the choice is against the first test, the second holds.
pub cond-second : (b x y : Bool) → T (not b) → T (cond b x y) → T y
cond-second true x y n h = absurd n
cond-second false x y n h = h

-- What holds in both cases of a choice holds of it.
pub cond_both : {A : Type 0} (P : A → Type 0) (b : Bool) {x y : A} → (T b → P x) → (T (not b) → P y) → P (cond b x y)
cond_both P true f g = f tt
cond_both P false f g = g tt

-- The two cases of a value that may be missing.
pub maybe-case : {A B C : Type 0} (o : Option A) {b z : B} {f : A → B} → maybe b f o ≡ z → (o ≡ none → b ≡ z → C) → ((x : A) → o ≡ some x → f x ≡ z → C) → C
maybe-case none e f g = f refl e
maybe-case (some x) e f g = g x refl e

-- A test that asks for a value: it is there, and passes.
pub maybe-T : {A C : Type 0} (o : Option A) (f : A → Bool) → T (maybe false f o) → ((x : A) → o ≡ some x → T (f x) → C) → C
maybe-T none f h k = absurd h
maybe-T (some x) f h k = k x refl h

-- A value that is there and passes.
pub T-maybe : {A : Type 0} {o : Option A} {x : A} (f : A → Bool) → o ≡ some x → T (f x) → T (maybe false f o)
T-maybe f e h = subst (λ o. T (maybe false f o)) (sym e) h

-- The same use of a value that may be missing.
pub maybe-cong : {A B : Type 0} (o : Option A) {b c : B} {f g : A → B} → b ≡ c → ((x : A) → o ≡ some x → f x ≡ g x) → maybe b f o ≡ maybe c g o
maybe-cong none e k = e
maybe-cong (some x) e k = k x refl

-- What is missing is not there.
pub none-some : {A C : Type 0} {x : A} → none ≡ some x → C
none-some e = absurd (let z : ◌≡◌ {A = ℕ} 0 1 = cc in omega arith)

-- What passes a test is there.
pub present-of : {A : Type 0} (o : Option A) (f : A → Bool) → T (maybe false f o) → T (present o)
present-of none f h = absurd h
present-of (some x) f h = tt

-- What is not there is missing.
pub none_of : {A : Type 0} (o : Option A) → present o ≡ false → o ≡ none
none_of none e = refl
none_of (some x) e = let z : ◌≡◌ {A = ℕ} 0 1 = cc in absurd (omega arith)

-- What is there is some value.
pub present-some : {A C : Type 0} (o : Option A) → T (present o) → ((x : A) → o ≡ some x → C) → C
present-some none h k = absurd h
present-some (some x) h k = k x refl

-- Equal numbers pass the test.
pub eqb-equal : (n k : ℕ) → n ≡ k → T (eqb n k)
eqb-equal n k e = subst (λ (i : ℕ). T (eqb n i)) e (eqb_refl n)

-- Numbers that fail the test differ.
pub eqb-differ : (n k : ℕ) → T (not (eqb n k)) → n ≡ k → ⊥
eqb-differ n k h e = T_not (eqb n k) h (eqb-equal n k e)

-- Unequal numbers fail the test.
pub eqb-false : (n k : ℕ) → (n ≡ k → ⊥) → eqb n k ≡ false
eqb-false n k h = not-T→false (eqb n k) (λ t. h (eqb→eq n k t))

-- A number is equal to itself.
pub eqb-true : (n : ℕ) → eqb n n ≡ true
eqb-true n = T→true (eqb n n) (eqb_refl n)

-- The two cases of a test.
pub T-case : {C : Type 0} (b : Bool) → (T b → C) → (T (not b) → C) → C
T-case true f g = f tt
T-case false f g = g tt

-- Three ways to compare two numbers.
pub compare-names : {C : Type 0} (n k : ℕ) → (n < k → C) → (n ≡ k → C) → (k < n → C) → C
compare-names n k f g h = T-case (ltb n k) (λ t. f (ltb→lt n k t))
    (λ t. T-case (eqb n k) (λ e. g (eqb→eq n k e)) (λ e. h (let p = nltb→le n k t in let q = eqb-differ n k e in omega arith)))
