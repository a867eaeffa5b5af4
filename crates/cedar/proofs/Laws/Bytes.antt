-- Laws of the steps that read bytes: what each one that succeeds took off the front, and that it takes off what was written there.
use Rattle.std.specs.Prelude.{ℕ, zero, suc, ◌+◌, ◌*◌, ◌/◌, ◌%◌, ◌<◌, List, [], ◌∷◌, ◌++◌, Bool, true, false, ◌≡◌, refl, ◌↔◌, T, leb, length, take, drop}
use Rattle.std.proofs.Math.Nat.{mod-add-div'}
use Rattle.std.proofs.Common.{arith, sym, ap, ap₂, ◌∙◌, subst, leb→le, le→leb}
use Rattle.std.proofs.Math.Option.{Option, none, some, some-injective}
use Rattle.cedar.specs.Laws.Shape.{Ascend}
use Rattle.cedar.specs.Bytes.{u16, flag, enc_names, ◌>>=◌, guard, byte, word, bit, finish, parse_names, Bytes}
use Rattle.cedar.proofs.Laws.Tests.{none-some}

-- p reads just the good trees, each from its own bytes.
pub record Reads {A : Type 0} (write : A → List ℕ) (Good : A → Type 0) (p : List ℕ → Option A) : Type 0 where
  pub into : (b : List ℕ) (a : A) → Bytes b → p b ≡ some a → (write a ≡ b) × Good a
  pub back : (a : A) → Good a → p (write a) ≡ some a

-- A step that succeeded, and what followed.
pub bind-some : {A B C : Type 0} (o : Option A) (f : A → Option B) {t : B} → (o >>= f) ≡ some t → ((a : A) → o ≡ some a → f a ≡ some t → C) → C
bind-some none f e k = none-some e
bind-some (some a) f e k = k a refl e

-- After a step that succeeds comes the next.
pub bind-at : {A B : Type 0} {o : Option A} {a : A} (f : A → Option B) → o ≡ some a → (o >>= f) ≡ f a
bind-at f e = ap (λ x. x >>= f) e

-- A reader whose result is seen as another tree, and back.
pub reads-map : {A B : Type 0} (f : A → B) (g : B → A) {write : A → List ℕ} {write' : B → List ℕ} {Good : A → Type 0} {Good' : B → Type 0}
    {p : List ℕ → Option A}
    → ((b : B) → f (g b) ≡ b) → ((a : A) → write' (f a) ≡ write a) → ((a : A) → Good a → Good' (f a)) → ((b : B) → Good' b → Good (g b))
    → Reads write Good p → Reads write' Good' (λ b. p b >>= λ a. some (f a))
reads-map {A} {B} f g {write} {write'} {Good} {Good'} {p} inverse same good good' r = record { into = into; back = back }
  where
    into : (b : List ℕ) (y : B) → Bytes b → (p b >>= λ a. some (f a)) ≡ some y → (write' y ≡ b) × Good' y
    into b y h q = bind-some (p b) _ q λ a ea q₁.
        let (w, o) = r.into b a h ea in
        subst (λ (z : B). (write' z ≡ b) × Good' z) (some-injective _ _ q₁) (same a ∙ w, good a o)

    back : (y : B) → Good' y → (p (write' y) >>= λ a. some (f a)) ≡ some y
    back y o = bind-at (λ a. some (f a)) (ap p (ap write' (sym (inverse y)) ∙ same (g y)) ∙ r.back (g y) (good' y o)) ∙ ap (λ (z : B). some z) (inverse y)

module _ {A : Type 0} {write : A → List ℕ} {Good : A → Type 0} {p : List ℕ → Option A} (r : Reads write Good p) where
  -- On bytes, what is read is the tree that is written so.
  pub reads-iff : (b : List ℕ) (a : A) → Bytes b → (p b ≡ some a) ↔ ((write a ≡ b) × Good a)
  reads-iff b a h = (r.into b a h, λ w. ap p (sym w.0) ∙ r.back a w.1)

  -- Equal bytes, equal trees.
  pub reads-injective : (a c : A) → Good a → Good c → write a ≡ write c → a ≡ c
  reads-injective a c g h e = some-injective _ _ (sym (r.back a g) ∙ ap p e ∙ r.back c h)

-- Some bytes off the front are bytes.
pub Bytes-take : (n : ℕ) (l : List ℕ) → Bytes l → Bytes (take n l)
Bytes-take zero l h = tt
Bytes-take (suc n) [] h = tt
Bytes-take (suc n) (x ∷ l) h = (h.0, Bytes-take n l h.1)

-- What is left after some bytes is bytes.
pub Bytes-drop : (n : ℕ) (l : List ℕ) → Bytes l → Bytes (drop n l)
Bytes-drop zero l h = h
Bytes-drop (suc n) [] h = tt
Bytes-drop (suc n) (x ∷ l) h = Bytes-drop n l h.1

-- Bytes before bytes are bytes.
pub Bytes-append : (a b : List ℕ) → Bytes a → Bytes b → Bytes (a ++ b)
Bytes-append [] b h k = k
Bytes-append (x ∷ a) b h k = (h.0, Bytes-append a b h.1 k)

-- The first part of bytes is bytes.
pub Bytes-left : (a b : List ℕ) → Bytes (a ++ b) → Bytes a
Bytes-left [] b h = tt
Bytes-left (x ∷ a) b h = (h.0, Bytes-left a b h.1)

-- The last part of bytes is bytes.
pub Bytes-right : (a b : List ℕ) → Bytes (a ++ b) → Bytes b
Bytes-right [] b h = h
Bytes-right (x ∷ a) b h = Bytes-right a b h.1

-- A flag is a byte.
pub flag-byte : (b : Bool) → flag b < 256
flag-byte true = omega arith
flag-byte false = omega arith

-- A number below 65,536 is written as two bytes.
pub u16-bytes : (n : ℕ) → n < 65536 → Bytes (u16 n)
u16-bytes n h = (omega arith, (omega arith, tt))

-- A guard that was passed.
pub guard-some : (b : Bool) (u : Unit {0}) → guard b ≡ some u → T b
guard-some true u e = tt
guard-some false u e = none-some e

-- A guard that passes.
pub guard-yes : {A : Type 0} (b : Bool) (f : Unit {0} → Option A) → T b → (guard b >>= f) ≡ f tt
guard-yes true f h = refl
guard-yes false f h = absurd h

-- No byte was over.
pub finish-some : {A : Type 0} (a : A) (b : List ℕ) {t : A} → finish a b ≡ some t → (a ≡ t) × (b ≡ [])
finish-some a [] e = (cc, refl)
finish-some a (x ∷ l) e = none-some e

-- A byte that was read stood in front.
pub byte-some : (b : List ℕ) (x : ℕ × List ℕ) → Bytes b → byte b ≡ some x → (x.0 ∷ x.1 ≡ b) × Bytes x.1
byte-some [] x h e = none-some e
byte-some (a ∷ l) x h e = subst (λ (y : ℕ × List ℕ). (◌≡◌ {A = List ℕ} (y.0 ∷ y.1) (a ∷ l)) × Bytes y.1) (some-injective _ _ e) (refl, h.1)

-- A u16 that was read stood in front.
pub word_some : (b : List ℕ) (x : ℕ × List ℕ) → Bytes b → word b ≡ some x → (u16 x.0 ++ x.1 ≡ b) × Bytes x.1
word_some [] x h e = none-some e
word_some (a ∷ []) x h e = none-some e
word_some (a ∷ c ∷ l) x h e =
    subst (λ (y : ℕ × List ℕ). (u16 y.0 ++ y.1 ≡ a ∷ c ∷ l) × Bytes y.1) (some-injective _ _ e) (
      ap₂ {C = List ℕ} (λ i j. i ∷ j ∷ l) low high,
      h.1.1,
    )
  where
    low : (a + c * 256) % 256 ≡ a
    low = omega arith

    high : (a + c * 256) / 256 ≡ c
    high = omega arith

-- A u16 is read back.
pub word-u16 : (n : ℕ) (l : List ℕ) → word (u16 n ++ l) ≡ some (n, l)
word-u16 n l = ap (λ (k : ℕ). some (k, l)) (mod-add-div' n 256)

-- A flag that was read stood in front.
pub bit-some : (b : List ℕ) (x : Bool × List ℕ) → Bytes b → bit b ≡ some x → (flag x.0 ∷ x.1 ≡ b) × Bytes x.1
bit-some [] x h e = none-some e
bit-some (zero ∷ l) x h e =
    subst (λ (y : Bool × List ℕ). (◌≡◌ {A = List ℕ} (flag y.0 ∷ y.1) (0 ∷ l)) × Bytes y.1) (some-injective _ _ e) (refl, h.1)
bit-some (suc zero ∷ l) x h e =
    subst (λ (y : Bool × List ℕ). (◌≡◌ {A = List ℕ} (flag y.0 ∷ y.1) (1 ∷ l)) × Bytes y.1) (some-injective _ _ e) (refl, h.1)
bit-some (suc (suc n) ∷ l) x h e = none-some e

-- A flag is read back.
pub bit-flag : (r : Bool) (l : List ℕ) → bit (flag r ∷ l) ≡ some (r, l)
bit-flag true l = refl
bit-flag false l = refl

-- Names that were read ascend, and stood there.
pub parse_names-some : (c low : ℕ) (b ns : List ℕ) → Bytes b → parse_names c low b ≡ some ns → (enc_names ns ≡ b) × Ascend low ns × (length ns ≡ c)
parse_names-some zero low b ns h e =
    let p = finish-some _ b e in subst (λ (y : List ℕ). (enc_names y ≡ b) × Ascend low y × (length y ≡ 0)) p.0 (sym p.1, tt, refl)
parse_names-some (suc c) low b ns h e =
    bind-some (word b) _ e λ w ew e₁.
    bind-some (guard (leb low w.0)) _ e₁ λ g eg e₂.
    bind-some (parse_names c (suc w.0) w.1) _ e₂ λ ks ek e₃.
    let (s, hw) = word_some b w h ew in
    let (i₁, i₂, i₃) = parse_names-some c (suc w.0) w.1 ks hw ek in
    subst (λ (y : List ℕ). (enc_names y ≡ b) × Ascend low y × (length y ≡ suc c)) (some-injective _ _ e₃)
    (ap (λ (l : List ℕ). u16 w.0 ++ l) i₁ ∙ s, (leb→le low w.0 (guard-some (leb low w.0) g eg), i₂), ap suc i₃)

-- Ascending names are read back.
pub parse_names-enc : (low : ℕ) (ns : List ℕ) → Ascend low ns → parse_names (length ns) low (enc_names ns) ≡ some ns
parse_names-enc low [] h = refl
parse_names-enc low (n ∷ ns) h =
    rw mod-add-div' (guard-yes (leb low n) _ (le→leb low n h.0) ∙ ap (λ (o : Option (List ℕ)). o >>= λ ks. some (n ∷ ks)) (parse_names-enc (suc n) ns h.1))
