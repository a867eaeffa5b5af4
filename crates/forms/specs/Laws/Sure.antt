-- Steps that may fail, as a test and what is decoded. Assumes nothing.
use Rattle.std.specs.Prelude.{◌≡◌, refl, List, [], ◌∷◌, Bool, true, false, ◌&&◌, cond, ℕ, zero, suc, ◌+◌, ◌-◌, ◌≤◌, ◌<◌, eqb, leb, length, drop, get_or}
use Rattle.std.proofs.Common.{ap, ap₂, sym, ◌∙◌, arith, add-one, mul_comm, length-drop, get_or-drop, drop-drop, eq-eqb, ne_eqb, le-leb}
use Rattle.std.proofs.Math.Bool.{and-false}
use Rattle.std.proofs.Math.Option.{Option, none, some, some-injective}
use Rattle.std.proofs.Math.Decide.{ℕ_discrete, dec_le}
use Rattle.std.proofs.Math.Dec.{eqb-suc-zero}
use Rattle.std.proofs.lemmas.Bool.{lt-leb}
use Rattle.cedar.specs.Types.{present}
use Rattle.cedar.specs.Table.{ascending}
use Rattle.cedar.specs.Whole.{within}
use Rattle.cedar.specs.Bytes.{◌>>=◌, guard, word, bit, finish}
use Rattle.forms.specs.Parts.{rd, sure}
use Rattle.forms.specs.Rows.{none_left}

-- Two tests that say the same.
pub eqb_same : (a b c d : ℕ) → (a ≡ b → c ≡ d) → (c ≡ d → a ≡ b) → eqb a b ≡ eqb c d
eqb_same a b c d f g = go (ℕ_discrete a b)
  where
    go : Dec (a ≡ b) → eqb a b ≡ eqb c d
    go (yes p) = eq-eqb a b p ∙ sym (eq-eqb c d (f p))
    go (no p) = ne_eqb a b p ∙ sym (ne_eqb c d (λ q. p (g q)))

pub leb-same : (a b c d : ℕ) → (a ≤ b → c ≤ d) → (c ≤ d → a ≤ b) → leb a b ≡ leb c d
leb-same a b c d f g = go (dec_le a b)
  where
    go : Dec (a ≤ b) → leb a b ≡ leb c d
    go (yes p) = le-leb a b p ∙ sym (le-leb c d (f p))
    go (no p) = lt-leb a b (omega arith) ∙ sym (lt-leb c d (let q : c ≤ d → ⊥ = (λ h. p (g h)) in omega arith))

-- A test that another one holds.
pub leb-and : (a b c d e f : ℕ) → (e ≤ f → (a ≤ b) × (c ≤ d)) → (a ≤ b → c ≤ d → e ≤ f) → leb a b && leb c d ≡ leb e f
leb-and a b c d e f g h = go (dec_le a b) (dec_le c d)
  where
    go : Dec (a ≤ b) → Dec (c ≤ d) → leb a b && leb c d ≡ leb e f
    go (yes p) (yes q) = rw (le-leb a b p, le-leb c d q) (sym (le-leb e f (h p q)))
    go (yes p) (no q) = rw (le-leb a b p, lt-leb c d (omega arith)) (sym (lt-leb e f (let z : e ≤ f → ⊥ = (λ x. q (g x).1) in omega arith)))
    go (no p) q = rw (lt-leb a b (omega arith)) (sym (lt-leb e f (let z : e ≤ f → ⊥ = (λ x. p (g x).0) in omega arith)))

-- Room for k bytes of which j are left.
pub leb-eqb : (k n j m : ℕ) → m ≡ j + k → leb k n && eqb (n - k) j ≡ eqb n m
leb-eqb k n j m e = go (dec_le k n)
  where
    go : Dec (k ≤ n) → leb k n && eqb (n - k) j ≡ eqb n m
    go (yes h) = rw (le-leb k n h) (eqb_same (n - k) j n m (λ q. omega arith) (λ q. omega arith))
    go (no h) = rw (lt-leb k n (omega arith)) (sym (ne_eqb n m (λ q. h (omega arith))))

-- A test that the next one implies.
pub leb-under : (a b n : ℕ) (z : Bool) → a ≤ b → leb a n && (leb b n && z) ≡ leb b n && z
leb-under a b n z h = go (dec_le b n)
  where
    go : Dec (b ≤ n) → leb a n && (leb b n && z) ≡ leb b n && z
    go (yes q) = rw (le-leb a n (omega arith)) refl
    go (no q) = rw (lt-leb b n (omega arith), and-false (leb a n)) refl

-- A reader that answers x just where the test b says yes.
pub record Sure {A : Type 0} (o : Option A) (b : Bool) (x : A) : Type 0 where
  pub is : o ≡ sure b x

module _ {A : Type 0} where
  pub sure-same : {o : Option A} {b c : Bool} {x y : A} → Sure o b x → b ≡ c → x ≡ y → Sure o c y
  sure-same {o} {b} {c} {x} {y} s p q = record { is = s.is ∙ ap₂ (λ (d : Bool) (z : A). sure d z) p q }

  pub sure-present : {o : Option A} {b : Bool} {x : A} → Sure o b x → present o ≡ b
  sure-present {o} {b} {x} s = ap (λ (z : Option A). present z) s.is ∙ go b
    where
      go : (d : Bool) → present (sure d x) ≡ d
      go true = refl
      go false = refl

  pub sure-yes : {o : Option A} {b : Bool} {x : A} → Sure o b x → b ≡ true → o ≡ some x
  sure-yes {o} {b} {x} s h = s.is ∙ go b h
    where
      go : (d : Bool) → d ≡ true → sure d x ≡ some x
      go true h = refl
      go false h = absurd (let z : ◌≡◌ {A = ℕ} 0 1 = cc in omega arith)

  pub sure-some : {o : Option A} {b : Bool} {x y : A} → Sure o b x → o ≡ some y → (b ≡ true) × (x ≡ y)
  sure-some {o} {b} {x} {y} s e = go b (sym s.is ∙ e)
    where
      go : (d : Bool) → sure d x ≡ some y → (d ≡ true) × (x ≡ y)
      go true h = (refl, some-injective _ _ h)
      go false h = absurd (let z : ◌≡◌ {A = ℕ} 0 1 = cc in omega arith)

  pub sure-some-of : (x : A) → Sure (some x) true x
  sure-some-of x = record { is = refl }

  pub sure-none : (x : A) → Sure none false x
  sure-none x = record { is = refl }

-- A step after another, where the first one is sure of its answer.
module _ {A B : Type 0} where
  pub bind_to : {o : Option A} {b : Bool} {a : A} (f : A → Option B) {c : Bool} {x : B} → Sure o b a → (b ≡ true → Sure (f a) c x) → Sure (o >>= f) (b && c) x
  bind_to {o} {b} {a} f {c} {x} e h = record { is = ap (λ (z : Option A). z >>= f) e.is ∙ go b h }
    where
      go : (d : Bool) → (d ≡ true → Sure (f a) c x) → (sure d a >>= f) ≡ sure (d && c) x
      go true k = (k refl).is
      go false k = refl

  pub map-to : {o : Option A} {b : Bool} {a : A} (f : A → B) → Sure o b a → Sure (o >>= λ y. some (f y)) b (f a)
  map-to {o} {b} {a} f e = record { is = ap (λ (z : Option A). z >>= λ y. some (f y)) e.is ∙ go b }
    where
      go : (d : Bool) → (sure d a >>= λ y. some (f y)) ≡ sure d (f a)
      go true = refl
      go false = refl

pub guard-to : (b : Bool) → Sure (guard b) b tt
guard-to true = record { is = refl }
guard-to false = record { is = refl }

pub finish-to : {A : Type 0} (a : A) (l : List ℕ) → Sure (finish a l) (none_left l) a
finish-to a [] = record { is = refl }
finish-to a (x ∷ l) = record { is = rw (eqb-suc-zero (length l)) refl }

pub word-to : (l : List ℕ) → Sure (word l) (leb 2 (length l)) (rd l 0, drop 2 l)
word-to [] = record { is = refl }
word-to (a ∷ []) = record { is = refl }
word-to (a ∷ b ∷ l) = record { is = rw (le-leb 2 (suc (suc (length l))) (omega arith), mul_comm b 256) refl }

pub bit-to : (l : List ℕ) → Sure (bit l) (leb 1 (length l) && leb (get_or l 0 0) 1) (eqb (get_or l 0 0) 1, drop 1 l)
bit-to [] = record { is = refl }
bit-to (zero ∷ l) = record { is = rw (le-leb 1 (suc (length l)) (omega arith)) refl }
bit-to (suc zero ∷ l) = record { is = rw (le-leb 1 (suc (length l)) (omega arith)) refl }
bit-to (suc (suc n) ∷ l) = record { is = rw (le-leb 1 (suc (length l)) (omega arith), lt-leb (suc (suc n)) 1 (omega arith)) refl }

pub ascending-to : (low n : ℕ) → Sure (ascending low n) (leb low n) (n + 1)
ascending-to low n = record { is = rw (add-one n) refl }

-- Reading where something was dropped.
pub rd-drop : (n : ℕ) (l : List ℕ) (i : ℕ) → rd (drop n l) i ≡ rd l (n + i)
rd-drop n l i = let e : n + (i + 1) ≡ n + i + 1 = omega arith in rw (get_or-drop n l i 0, get_or-drop n l (i + 1) 0, e) refl

pub word_at : (l : List ℕ) (n : ℕ) → Sure (word (drop n l)) (leb (n + 2) (length l)) (rd l n, drop (n + 2) l)
word_at l n =
    let e : n + 0 ≡ n = omega arith in
    sure-same (word-to (drop n l)) (rw (length-drop n l) (leb-same 2 (length l - n) (n + 2) (length l) (λ h. omega arith) (λ h. omega arith)))
    (rw (rd-drop n l 0, e, drop-drop 2 n l) refl)

pub bit_at : (l : List ℕ) (n : ℕ) → Sure (bit (drop n l)) (leb (n + 1) (length l) && leb (get_or l n 0) 1) (eqb (get_or l n 0) 1, drop (n + 1) l)
bit_at l n =
    let e : n + 0 ≡ n = omega arith in
    sure-same (bit-to (drop n l))
    (rw (length-drop n l, get_or-drop n l 0 0, e)
    (ap (λ (z : Bool). z && leb (get_or l n 0) 1) (leb-same 1 (length l - n) (n + 1) (length l) (λ h. omega arith) (λ h. omega arith))))
    (rw (get_or-drop n l 0 0, e, drop-drop 1 n l) refl)

-- A form of at most so many bytes.
module _ {A : Type 0} (most : ℕ) (p : List ℕ → Option A) (b : List ℕ) {w : Bool} {x : A} (t : Sure (p b) w x) where
  pub within-to : Sure (within most p b) (leb (length b) most && w) x
  within-to = go (leb (length b) most)
    where
      go : (z : Bool) → Sure (cond z (p b) none) (z && w) x
      go true = t
      go false = record { is = refl }

  pub within-over : most < length b → false ≡ present (within most p b)
  within-over h = sym (sure-present within-to ∙ rw (lt-leb (length b) most h) refl)

  pub within-yes : length b ≤ most → (r : Bool) → r ≡ w → r ≡ present (within most p b)
  within-yes h r e = e ∙ sym (sure-present within-to ∙ rw (le-leb (length b) most h) refl)
