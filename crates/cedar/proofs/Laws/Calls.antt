-- What the answer of a call says: each question was answered, and the result is the definition's.
use Rattle.std.specs.Prelude.{ℕ, min, ◌≤◌, List, Bool, true, ◌≡◌, refl, T, length}
use Rattle.std.proofs.Common.{arith, sym, ap, ◌∙◌, subst, leb→le}
use Rattle.std.proofs.Math.Option.{Option, none, some}
use Rattle.cedar.specs.Types.{Mode, Ty, Value, Schema}
use Rattle.cedar.specs.TypeForm.{enc}
use Rattle.cedar.specs.Limits.{Limits, allowed}
use Rattle.cedar.specs.Whole.{whole_type, whole_value, whole_schema}
use Rattle.cedar.specs.Result.{Result, ok, err, answer_too_long, bad_text, bad_limits}
use Rattle.cedar.specs.Outcome.{Outcome, refused, said, nothing, measured, typed, attribute, named}
use Rattle.cedar.specs.Text.{textual}
use Rattle.cedar.specs.Disjoint.{disjoint}
use Rattle.cedar.specs.Bound.{bound}
use Rattle.cedar.specs.Attribute.{own_attr, lookup, may_have}
use Rattle.cedar.specs.Conformance.{Verdict, holds, fails, fails_inside, unknown, Counts, conforms}
use Rattle.cedar.specs.Conforms.{Conforms}
use Rattle.cedar.specs.Calls.{ask, mode_of, answer_fits, step_fits, answer, write_type, write_attribute, of_verdict, disjoint_call, bound_call, lookup_call}
use Rattle.cedar.specs.Calls.{own_attribute_call, may_have_call}
use Rattle.cedar.specs.Bytes.{guard}
use Rattle.cedar.proofs.Laws.Bytes.{guard-some}
use Rattle.cedar.proofs.Laws.Tests.{T→true, maybe-case}

-- An outcome that is no refusal.
abbrev pub Answer : Outcome → Type 0
Answer (refused n) = ⊥
Answer (said b) = Unit {0}
Answer nothing = Unit {0}
Answer (measured n l) = Unit {0}
Answer (typed t) = Unit {0}
Answer (attribute r t) = Unit {0}
Answer (named ns) = Unit {0}

no_answer : {C : Type 0} {n : ℕ} (r : Outcome) → Answer r → refused n ≡ r → C
no_answer r h e = absurd (subst Answer (sym e) h)

-- A question before an answer was answered.
pub ask-case : {A C : Type 0} (n : ℕ) (o : Option A) (k : A → Outcome) (r : Outcome) → Answer r → ask n o k ≡ r → ((x : A) → o ≡ some x → k x ≡ r → C) → C
ask-case n o k r h e g = maybe-case o e (λ i p. no_answer r h p) g

-- A test before an answer was passed.
guard-case : {C : Type 0} (n : ℕ) (b : Bool) (o r : Outcome) → Answer r → ask n (guard b) (λ _. o) ≡ r → (b ≡ true → o ≡ r → C) → C
guard-case n b o r h e k = ask-case n (guard b) (λ _. o) r h e λ u g p. k (T→true b (guard-some b u g)) p

-- A call that answered was asked under limits that are allowed.
pub allowed-case : {C : Type 0} (lim : Limits) (o r : Outcome) → Answer r → ask bad_limits (guard (allowed lim)) (λ _. o) ≡ r →
    (allowed lim ≡ true → o ≡ r → C) → C
allowed-case lim o r h e k = guard-case bad_limits (allowed lim) o r h e k

-- An answer's bytes were within the limit on a form's length.
pub answer-case : {C : Type 0} (lim : Limits) (room : ℕ) (w : List ℕ) (o r : Outcome) → Answer r → answer lim room w o ≡ r →
    (length w ≤ lim.bytes → o ≡ r → C) → C
answer-case lim room w o r h e k =
    guard-case answer_too_long (answer_fits lim room w) o r h e λ g p.
    k (let t = leb→le (length w) (min room lim.bytes) (subst T (sym g) tt) in omega arith) p

typed-inj : {t u : Ty} → typed t ≡ typed u → t ≡ u
typed-inj e = cc

said-inj : {a b : Bool} → said a ≡ said b → a ≡ b
said-inj e = cc

attribute-inj : {r s : Bool} {t u : Ty} → attribute r t ≡ attribute s u → ◌≡◌ {A = Bool × Ty} (r, t) (s, u)
attribute-inj e = cc

nothing-attribute : {C : Type 0} {r : Bool} {t : Ty} → nothing ≡ attribute r t → C
nothing-attribute e = absurd (let z : ◌≡◌ {A = ℕ} 0 1 = cc in omega arith)

write_type-case : {C : Type 0} (lim : Limits) (room : ℕ) (r : Result Ty) {z : Ty} → write_type lim room r ≡ typed z →
    (r ≡ ok z → length (enc z) ≤ lim.bytes → C) → C
write_type-case lim room (ok t) {z} e k = answer-case lim room (enc t) (typed t) (typed z) tt e λ l p.
    let q = typed-inj p in k (ap (λ (x : Ty). ok x) q) (subst (λ (x : Ty). length (enc x) ≤ lim.bytes) q l)
write_type-case lim room (err n) {z} e k = no_answer (typed z) tt e

write_attribute-case : {C : Type 0} (lim : Limits) (room : ℕ) (o : Result (Option (Bool × Ty))) {r : Bool} {z : Ty} → write_attribute lim room o ≡ attribute r z →
    (o ≡ ok (some (r, z)) → length (enc z) ≤ lim.bytes → C) → C
write_attribute-case lim room (ok none) e k = nothing-attribute e
write_attribute-case lim room (ok (some y)) {r} {z} e k = answer-case lim room (enc y.1) (attribute y.0 y.1) (attribute r z) tt e λ l p.
    let q = attribute-inj p in k (ap (λ (x : Bool × Ty). ok (some x)) q) (subst (λ (x : Bool × Ty). length (enc x.1) ≤ lim.bytes) q l)
write_attribute-case lim room (err n) {r} {z} e k = no_answer (attribute r z) tt e

-- A verdict that is a yes.
verdict-said : (d : Verdict) → of_verdict d ≡ said true → d ≡ holds
verdict-said holds e = refl
verdict-said fails e = absurd (let z : ◌≡◌ {A = ℕ} 0 1 = cc in omega arith)
verdict-said fails_inside e = absurd (let z : ◌≡◌ {A = ℕ} 0 1 = cc in omega arith)
verdict-said unknown e = no_answer (said true) tt e

module _ {C : Type 0} (lim : Limits) where
  -- A bound call that wrote a type.
  pub bound_call-typed : (mode : ℕ) (schema t₀ t₁ : List ℕ) (room : ℕ) (z : Ty) → bound_call lim mode schema t₀ t₁ room ≡ typed z
      → ((m : Mode) (a b : Ty) → whole_type lim t₀ ≡ some a → whole_type lim t₁ ≡ some b → bound m a b ≡ ok z → length (enc z) ≤ lim.bytes → C) → C
  bound_call-typed mode schema t₀ t₁ room z e k =
      allowed-case lim _ (typed z) tt e λ _ e₀.
      ask-case _ (mode_of mode) _ (typed z) tt e₀ λ m em e₁.
      ask-case _ (whole_schema lim schema) _ (typed z) tt e₁ λ s es e₂.
      ask-case _ (whole_type lim t₀) _ (typed z) tt e₂ λ a ea e₃.
      ask-case _ (whole_type lim t₁) _ (typed z) tt e₃ λ b eb e₄.
      write_type-case lim room (bound m a b) e₄ (k m a b ea eb)

  -- A yes or no of disjoint.
  pub disjoint_call-said : (t₀ t₁ : List ℕ) (r : Bool) → disjoint_call lim t₀ t₁ ≡ said r →
      ((a b : Ty) → whole_type lim t₀ ≡ some a → whole_type lim t₁ ≡ some b → disjoint a b ≡ r → C) → C
  disjoint_call-said t₀ t₁ r e k =
      allowed-case lim _ (said r) tt e λ _ e₀.
      ask-case _ (whole_type lim t₀) _ (said r) tt e₀ λ a ea e₁.
      ask-case _ (whole_type lim t₁) _ (said r) tt e₁ λ b eb e₂.
      k a b ea eb (said-inj e₂)

  -- An attribute that lookup found.
  pub lookup_call-found : (schema : List ℕ) (a : ℕ) (t : List ℕ) (room work : ℕ) (r : Bool) (z : Ty) → lookup_call lim schema a t room work ≡ attribute r z
      → ((s : Schema) (u : Ty) → whole_schema lim schema ≡ some s → whole_type lim t ≡ some u → lookup (step_fits lim work) s a u ≡ ok (some (r, z)) →
      length (enc z) ≤ lim.bytes → C) → C
  lookup_call-found schema a t room work r z e k =
      allowed-case lim _ (attribute r z) tt e λ _ e₀.
      ask-case _ (whole_schema lim schema) _ (attribute r z) tt e₀ λ s es e₁.
      ask-case _ (whole_type lim t) _ (attribute r z) tt e₁ λ u eu e₂.
      write_attribute-case lim room (lookup (step_fits lim work) s a u) e₂ (k s u es eu)

  -- An attribute that lookup's second entry found.
  pub own_attribute_call-found : (schema : List ℕ) (a : ℕ) (t : List ℕ) (r : Bool) (z : Ty) → own_attribute_call lim schema a t ≡ attribute r z →
      ((u : Ty) → whole_type lim t ≡ some u → own_attr a u ≡ some (r, z) → C) → C
  own_attribute_call-found schema a t r z e k =
      allowed-case lim _ (attribute r z) tt e λ _ e₀.
      ask-case _ (whole_schema lim schema) _ (attribute r z) tt e₀ λ s es e₁.
      ask-case _ (whole_type lim t) _ (attribute r z) tt e₁ λ u eu e₂.
      maybe-case (own_attr a u) e₂ (λ i p. nothing-attribute p) λ y ey p. k u eu (ey ∙ ap (λ (x : Bool × Ty). some x) (attribute-inj p))

  -- A yes or no of may-have.
  pub may_have_call-said : (schema : List ℕ) (a : ℕ) (t : List ℕ) (r : Bool) → may_have_call lim schema a t ≡ said r
      → ((s : Schema) (u : Ty) → whole_schema lim schema ≡ some s → whole_type lim t ≡ some u → may_have s a u ≡ r → C) → C
  may_have_call-said schema a t r e k =
      allowed-case lim _ (said r) tt e λ _ e₀.
      ask-case _ (whole_schema lim schema) _ (said r) tt e₀ λ s es e₁.
      ask-case _ (whole_type lim t) _ (said r) tt e₁ λ u eu e₂.
      k s u es eu (said-inj e₂)

  -- What conforms is whole and of good text, and the walk's verdict is yes.
  pub conforms-case : (c : Counts) (schema t v : List ℕ) → Conforms lim c schema t v
      → ((s : Schema) (a : Ty) (x : Value) → whole_schema lim schema ≡ some s → whole_type lim t ≡ some a → whole_value lim v ≡ some x → textual x ≡ true →
      conforms c s a x ≡ holds → C) → C
  conforms-case c schema t v e k =
      allowed-case lim _ (said true) tt e λ _ e₀.
      ask-case _ (whole_schema lim schema) _ (said true) tt e₀ λ s es e₁.
      ask-case _ (whole_type lim t) _ (said true) tt e₁ λ a ea e₂.
      ask-case _ (whole_value lim v) _ (said true) tt e₂ λ x ex e₃.
      guard-case bad_text (textual x) _ (said true) tt e₃ λ g e₄.
      k s a x es ea ex g (verdict-said (conforms c s a x) e₄)

-- What conforms does so under limits that are allowed.
pub conforms-allowed : (lim : Limits) (c : Counts) (schema t v : List ℕ) → Conforms lim c schema t v → allowed lim ≡ true
conforms-allowed lim c schema t v e = allowed-case lim _ (said true) tt e λ h _. h

-- What is whole and of good text, with a verdict of yes, conforms.
pub conforms-yes : (lim : Limits) (c : Counts) (schema t v : List ℕ) (s : Schema) (a : Ty) (x : Value)
    → allowed lim ≡ true → whole_schema lim schema ≡ some s → whole_type lim t ≡ some a → whole_value lim v ≡ some x → textual x ≡ true →
    conforms c s a x ≡ holds → Conforms lim c schema t v
conforms-yes lim c schema t v s a x y es ea ex g h = rw (y, es, ea, ex, g, h)
