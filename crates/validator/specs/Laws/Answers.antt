-- From the entries' contracts to the theorem on sequences of bounds: what a caller sees is what the theorem's run, `LooksUp`,
-- disjoint's yes, may-have's no and `Conforms` speak of. Assumes nothing.
use Rattle.std.specs.Prelude.{ℕ, ◌<◌, List, Bool, true, false, ◌≡◌, refl, ◌↔◌, length, take}
use Rattle.std.proofs.Common.{arith, sym, ap, ap₂, ◌∙◌, inl, inr}
use Rattle.std.proofs.Math.Option.{Option, none, some}
use Rattle.std.proofs.Math.Seq.{take-append_seam}
use Rattle.std.specs.Borrow.{Bor}
use Rattle.cedar.specs.Types.{Ty, Schema, maybe}
use Rattle.cedar.specs.TypeForm.{enc}
use Rattle.cedar.specs.Levels.{depth}
use Rattle.cedar.specs.Bytes.{guard}
use Rattle.cedar.specs.Limits.{Limits, allowed}
use Rattle.cedar.specs.Whole.{whole_schema, whole_type}
use Rattle.cedar.specs.Result.{bad_limits, bad_schema, bad_first, Result, ok, err}
use Rattle.cedar.specs.Attribute.{own_attr}
use Rattle.cedar.specs.Conformance.{Counts}
use Rattle.cedar.specs.Conforms.{Conforms}
use Rattle.cedar.specs.Outcome.{Outcome, refused, said, nothing, measured, typed, attribute, named, bytes_of, levels_of, result_after}
use Rattle.cedar.specs.Calls.{ask, measure_type_call, disjoint_call, bound_call, lookup_call, own_attribute_call, may_have_call, conforms_by}
use Rattle.cedar.specs.Sequence.{written, LooksUp}
use Rattle.cedar.proofs.Laws.TypeForm.{depth_pos}
use Rattle.cedar.proofs.Laws.Levels.{Told}
use Rattle.validator.specs.Answers.{answer_of, Answered, AnsweredIn}
use Rattle.validator.specs.Handed.{told_of, Handed}
use Rattle.validator.specs.declared.answers.Answer.{Answer}
use Rattle.validator.specs.declared.answers.Answer.TheVariants.{Yes, No, Nothing, Measured, Typed, Attribute, Named}

-- What a caller copies, by the answer that it sees: after `Typed n d` the first n bytes of its buffer, else nothing.
abbrev pub copies : Result Answer → List ℕ → Option (List ℕ)
copies (err n) after = none
copies (ok Yes) after = none
copies (ok No) after = none
copies (ok Nothing) after = none
copies (ok (Measured n d)) after = none
copies (ok (Typed n d)) after = some (take n after)
copies (ok (Attribute r n d)) after = none
copies (ok (Named n)) after = none

apart : {C : Type 0} → ◌≡◌ {A = ℕ} 0 1 → C
apart e = absurd (omega arith)

-- What a call wrote is what the caller copies.
written-copies : (o : Outcome) (before after : List ℕ) (r : Result Answer) → Answered o before after r → written o ≡ copies r after
written-copies (refused n) before after r h = sym (ap (λ (z : Result Answer). copies z after) h.answer)
written-copies (said true) before after r h = sym (ap (λ (z : Result Answer). copies z after) h.answer)
written-copies (said false) before after r h = sym (ap (λ (z : Result Answer). copies z after) h.answer)
written-copies nothing before after r h = sym (ap (λ (z : Result Answer). copies z after) h.answer)
written-copies (measured n l) before after r h = sym (ap (λ (z : Result Answer). copies z after) h.answer)
written-copies (typed t) before after r h =
    sym (ap (λ (z : Result Answer). copies z after) h.answer ∙ ap (λ (l : List ℕ). some (take (length (enc t)) l)) h.result ∙
    ap (λ (l : List ℕ). some l) (take-append_seam (enc t) _))
written-copies (attribute q t) before after r h = sym (ap (λ (z : Result Answer). copies z after) h.answer)
written-copies (named ns) before after r h = sym (ap (λ (z : Result Answer). copies z after) h.answer)

module _ (lim : Limits) (mode : ℕ) (schema t₀ t₁ before after : List ℕ) (r : Result Answer)
    (h : Answered (bound_call lim mode schema t₀ t₁ (length before)) before after r) where
  -- Bound: what the theorem's run copies is what the caller copies:
  pub bound-copies : written (bound_call lim mode schema t₀ t₁ (length before)) ≡ copies r after
  bound-copies = written-copies (bound_call lim mode schema t₀ t₁ (length before)) before after r h

  -- after `Typed n d`, the first n bytes of the buffer;
  pub bound-typed : (n d : ℕ) → r ≡ ok (Typed n d) → written (bound_call lim mode schema t₀ t₁ (length before)) ≡ some (take n after)
  bound-typed n d e = bound-copies ∙ ap (λ (z : Result Answer). copies z after) e

  -- after a refusal, nothing.
  pub bound-refused : (n : ℕ) → r ≡ err n → written (bound_call lim mode schema t₀ t₁ (length before)) ≡ none
  bound-refused n e = bound-copies ∙ ap (λ (z : Result Answer). copies z after) e

-- `Attribute q n d` is an attribute of that flag, its type's length and levels.
attribute-seen : {C : Type 0} (o : Outcome) (q : Bool) (n d : ℕ) → answer_of o ≡ ok (Attribute q n d) →
    ((y : Ty) → o ≡ attribute q y → length (enc y) ≡ n → depth y ≡ d → C) → C
attribute-seen (refused m) q n d e k = apart (cc)
attribute-seen (said true) q n d e k = apart (cc)
attribute-seen (said false) q n d e k = apart (cc)
attribute-seen nothing q n d e k = apart (cc)
attribute-seen (measured m l) q n d e k = apart (cc)
attribute-seen (typed t) q n d e k = apart (cc)
attribute-seen (attribute p t) q n d e k = k t (cc) (cc) (cc)
attribute-seen (named ns) q n d e k = apart (cc)

-- `Typed n d` is a type's length and levels.
typed-seen : {C : Type 0} (o : Outcome) (n d : ℕ) → answer_of o ≡ ok (Typed n d) → ((y : Ty) → o ≡ typed y → length (enc y) ≡ n → depth y ≡ d → C) → C
typed-seen (refused m) n d e k = apart (cc)
typed-seen (said true) n d e k = apart (cc)
typed-seen (said false) n d e k = apart (cc)
typed-seen nothing n d e k = apart (cc)
typed-seen (measured m l) n d e k = apart (cc)
typed-seen (typed t) n d e k = k t refl (cc) (cc)
typed-seen (attribute p t) n d e k = apart (cc)
typed-seen (named ns) n d e k = apart (cc)

-- What stands in the buffer of a call that wrote a type: measuring it tells what the call told.
front-measured : (lim : Limits) (o : Outcome) (y : Ty) → bytes_of o ≡ enc y → levels_of o ≡ depth y → Told lim o → (before after : List ℕ) →
    after ≡ result_after o before → (n d : ℕ) → length (enc y) ≡ n → depth y ≡ d → measure_type_call lim (take n after) ≡ measured n d
front-measured lim o y b l told before after f n d p q =
    let w : take n after ≡ bytes_of o = rw (f, ← p, ← b) (take-append_seam (bytes_of o) _) in
    ap (measure_type_call lim) w ∙ told (omega (arith, l, depth_pos y)) ∙ ap₂ measured (ap length b ∙ p) (l ∙ q)

module _ (lim : Limits) (o : Outcome) (told : Told lim o) (before after : List ℕ) (r : Result Answer) (h : Answered o before after r) where
  -- After `Typed n d`, measuring the first n bytes of the buffer tells n and d;
  pub typed-measured : (n d : ℕ) → r ≡ ok (Typed n d) → measure_type_call lim (take n after) ≡ measured n d
  typed-measured n d e =
      typed-seen o n d (sym h.answer ∙ e) λ y p i j. front-measured lim o y (ap bytes_of p) (ap levels_of p) told before after h.result n d i j

  -- so it does after `Attribute q n d`.
  pub attribute-measured : (q : Bool) (n d : ℕ) → r ≡ ok (Attribute q n d) → measure_type_call lim (take n after) ≡ measured n d
  attribute-measured q n d e =
      attribute-seen o q n d (sym h.answer ∙ e) λ y p i j. front-measured lim o y (ap bytes_of p) (ap levels_of p) told before after h.result n d i j

-- Lookup: after `Attribute q n d`, the first n bytes of the buffer are the form of a type that is looked up, with the flag q.
pub lookup-finds : (lim : Limits) (schema : List ℕ) (a : ℕ) (t before after work work_after : List ℕ) (r : Result Answer) (q : Bool) (n d : ℕ)
    → AnsweredIn (lookup_call lim schema a t (length before) (length work)) before after work work_after r → r ≡ ok (Attribute q n d)
    → (y : Ty) × LooksUp lim schema a t q y × (enc y ≡ take n after)
lookup-finds lim schema a t before after work work_after r q n d h e =
    attribute-seen (lookup_call lim schema a t (length before) (length work)) q n d (sym h.answer ∙ e) λ y p l _.
    let f : after ≡ result_after (attribute q y) before = h.result ∙ ap (λ (o : Outcome). result_after o before) p in (
      y,
      inl (length before, length work, p),
      sym (ap (take n) f ∙ ap (λ (m : ℕ). take m (result_after (attribute q y) before)) (sym l) ∙ take-append_seam (enc y) _),
    )

-- The letter that is told beside a part.
abbrev letter : Bool → ℕ
letter true = 114
letter false = 111

no-letter : {C : Type 0} (q : Bool) (n : ℕ) → letter q ≡ n → n < 111 → C
no-letter true n e l = absurd (omega arith)
no-letter false n e l = absurd (omega arith)

letter-flag : (q b : Bool) (t : Ty) → letter q ≡ told_of (attribute b t) → b ≡ q
letter-flag true true t e = refl
letter-flag true false t e = absurd (omega arith)
letter-flag false true t e = absurd (omega arith)
letter-flag false false t e = refl

-- The second entry's outcome, by its questions' answers.
abbrev owned : Option (Unit {0}) → Option Schema → Option Ty → (Ty → Option (Bool × Ty)) → Outcome
owned l p o f = ask bad_limits l (λ _. ask bad_schema p (λ s. ask bad_first o (λ u. maybe nothing (λ y. attribute y.0 y.1) (f u))))

-- It refuses with 20, 2 or 3 alone, so a letter is an attribute's.
letter-seen : (l : Option (Unit {0})) (p : Option Schema) (o : Option Ty) (f : Ty → Option (Bool × Ty)) (q : Bool) → letter q ≡ told_of (owned l p o f) →
    (y : Ty) × (owned l p o f ≡ attribute q y)
letter-seen none p o f q e = no-letter q 20 e (omega arith)
letter-seen (some _) none o f q e = no-letter q 2 e (omega arith)
letter-seen (some _) (some s) none f q e = no-letter q 3 e (omega arith)
letter-seen (some _) (some s) (some u) f q e = go (f u) e
  where
    go : (x : Option (Bool × Ty)) → letter q ≡ told_of (maybe nothing (λ y. attribute y.0 y.1) x) →
        (y : Ty) × (maybe nothing (λ y. attribute y.0 y.1) x ≡ attribute q y)
    go none h = no-letter q 0 h (omega arith)
    go (some (b, t)) h = (t, ap (λ (z : Bool). attribute z t) (letter-flag q b t h))

module _ (lim : Limits) (schema : List ℕ) (a : ℕ) (t : List ℕ) (place : Option (ℕ × ℕ)) (own part : Bor (List ℕ)) (told : ℕ)
    (h : Handed (own_attribute_call lim schema a t) place own part told) where
  part-finds : (q : Bool) → told ≡ letter q → (y : Ty) × LooksUp lim schema a t q y × (enc y ≡ part.now)
  part-finds q e =
      let (y, p) = letter-seen (guard (allowed lim)) (whole_schema lim schema) (whole_type lim t) (own_attr a) q (sym e ∙ h.which) in
      (y, inr p, sym (h.handed ∙ ap bytes_of p))

  -- Lookup's second entry: a part told as r (114) is the form of a type that is looked up as required,
  pub part-required : told ≡ 114 → (y : Ty) × LooksUp lim schema a t true y × (enc y ≡ part.now)
  part-required e = part-finds true e

  -- and one told as o (111), as optional.
  pub part-optional : told ≡ 111 → (y : Ty) × LooksUp lim schema a t false y × (enc y ≡ part.now)
  part-optional e = part-finds false e

yes-said : (o : Outcome) → answer_of o ≡ ok Yes → o ≡ said true
yes-said (refused m) e = apart (cc)
yes-said (said true) e = refl
yes-said (said false) e = apart (cc)
yes-said nothing e = apart (cc)
yes-said (measured m l) e = apart (cc)
yes-said (typed t) e = apart (cc)
yes-said (attribute p t) e = apart (cc)
yes-said (named ns) e = apart (cc)

no-said : (o : Outcome) → answer_of o ≡ ok No → o ≡ said false
no-said (refused m) e = apart (cc)
no-said (said true) e = apart (cc)
no-said (said false) e = refl
no-said nothing e = apart (cc)
no-said (measured m l) e = apart (cc)
no-said (typed t) e = apart (cc)
no-said (attribute p t) e = apart (cc)
no-said (named ns) e = apart (cc)

-- Disjoint: Yes is its yes.
pub disjoint-yes : (lim : Limits) (t₀ t₁ : List ℕ) (r : Result Answer) → r ≡ answer_of (disjoint_call lim t₀ t₁) → (r ≡ ok Yes) ↔ (disjoint_call lim t₀ t₁ ≡ said true)
disjoint-yes lim t₀ t₁ r h = ((λ e. yes-said (disjoint_call lim t₀ t₁) (sym h ∙ e)), (λ e. h ∙ ap answer_of e))

-- May-have: No is its no.
pub may-have-no : (lim : Limits) (schema : List ℕ) (a : ℕ) (t : List ℕ) (r : Result Answer) → r ≡ answer_of (may_have_call lim schema a t) →
    (r ≡ ok No) ↔ (may_have_call lim schema a t ≡ said false)
may-have-no lim schema a t r h = ((λ e. no-said (may_have_call lim schema a t) (sym h ∙ e)), (λ e. h ∙ ap answer_of e))

-- Conformance, by either rule on counts: Yes is conforming.
pub conforms-said : (rule : Counts) (lim : Limits) (schema t v : List ℕ) (r : Result Answer) → r ≡ answer_of (conforms_by rule lim schema t v) →
    (r ≡ ok Yes) ↔ Conforms lim rule schema t v
conforms-said rule lim schema t v r h = ((λ e. yes-said (conforms_by rule lim schema t v) (sym h ∙ e)), (λ c. h ∙ ap answer_of c))
