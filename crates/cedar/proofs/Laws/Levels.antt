-- What calls tell of levels: a bound no more than the deeper of its two types, a fold no more than the deepest of its list, a lookup no
-- more than the deepest of the bodies that it joined; and measuring what a call wrote tells what the call told.
use Rattle.std.specs.Prelude.{ℕ, ◌≤◌, max, List, [], ◌∷◌, Bool, true, false, ◌≡◌, T, length}
use native.Mathlib.Omega.{arith}
use Rattle.std.proofs.Math.Path.{refl, subst}
use Rattle.std.proofs.Common.{ap, sym, leb→le}
use Rattle.std.proofs.Math.Option.{Option, none, some, some-injective}
use Rattle.cedar.specs.Types.{Ty, atom, never, rec, act, ent, Entity, Action, Attrs, Schema, is_action, maybe}
use Rattle.cedar.specs.Bytes.{Bytes, ◌>>=◌, guard}
use Rattle.cedar.specs.TypeForm.{enc}
use Rattle.cedar.specs.Levels.{depth, deepest}
use Rattle.cedar.specs.Limits.{Limits, allowed}
use Rattle.cedar.specs.Whole.{whole_type, whole_value, whole_list, whole_schema}
use Rattle.cedar.specs.Result.{Result, ok, err, answer_too_long}
use Rattle.cedar.specs.Outcome.{Outcome, refused, nothing, measured, typed, attribute, bytes_of, levels_of}
use Rattle.cedar.specs.Bound.{bound}
use Rattle.cedar.specs.Fold.{fold_types}
use Rattle.cedar.specs.Attribute.{entity_of, lookup, joined_bodies}
use Rattle.cedar.specs.Conversion.{convert}
use Rattle.cedar.specs.Literal.{action_of, literal}
use Rattle.cedar.specs.Conformance.{as_uid}
use Rattle.cedar.specs.Calls.{ask, mode_of, answer_fits, step_fits, write_type, write_attribute, measure_type_call, bound_call, fold_call, lookup_call, convert_call}
use Rattle.cedar.specs.Calls.{literal_call}
use Rattle.cedar.specs.Laws.Shape.{Ordered, WF}
use Rattle.cedar.proofs.Laws.Tests.{cond-case, maybe-case, none-some}
use Rattle.cedar.proofs.Laws.ListForm.{Each}
use Rattle.cedar.proofs.Laws.SchemaForm.{entity_in-good, action_in-good}
use Rattle.cedar.proofs.Laws.Whole.{TypeWithin, whole_type-reads, whole_list-reads, whole_schema-reads}
use Rattle.cedar.proofs.Laws.Join.{bound-depth, bound-WF}
use Rattle.cedar.proofs.Laws.Lookup.{lookup-WF}
use Rattle.cedar.proofs.Laws.Depth.{fold-depth, fold-WF, lookup-depth, convert-depth, convert-WF}
use Rattle.cedar.proofs.Laws.Limits.{allowed-levels}

-- The levels that an outcome tells are at most so many: after a question, after that of the limits, of what is written.
module _ (most : ℕ) where
  ask-levels : {A : Type 0} (n : ℕ) (o : Option A) (k : A → Outcome) → ((x : A) → o ≡ some x → levels_of (k x) ≤ most) → levels_of (ask n o k) ≤ most
  ask-levels n none k h = omega arith
  ask-levels n (some x) k h = h x refl

  guard-levels : (n : ℕ) (b : Bool) (o : Outcome) → (b ≡ true → levels_of o ≤ most) → levels_of (ask n (guard b) (λ _. o)) ≤ most
  guard-levels n true o h = h refl
  guard-levels n false o h = omega arith

  module _ (lim : Limits) (room : ℕ) where
    type-levels : (r : Result Ty) → ((c : Ty) → r ≡ ok c → depth c ≤ most) → levels_of (write_type lim room r) ≤ most
    type-levels (ok c) h = guard-levels answer_too_long (answer_fits lim room (enc c)) (typed c) λ _. h c refl
    type-levels (err n) h = omega arith

    attribute-levels : (r : Result (Option (Bool × Ty))) → ((y : Bool × Ty) → r ≡ ok (some y) → depth y.1 ≤ most) → levels_of (write_attribute lim room r) ≤ most
    attribute-levels (ok none) h = omega arith
    attribute-levels (ok (some y)) h = guard-levels answer_too_long (answer_fits lim room (enc y.1)) (attribute y.0 y.1) λ _. h y refl
    attribute-levels (err n) h = omega arith

module _ (lim : Limits) where
  -- What measuring a whole type tells.
  pub measures : (t : List ℕ) (a : Ty) → allowed lim ≡ true → whole_type lim t ≡ some a → measure_type_call lim t ≡ measured (length (enc a)) (depth a)
  measures t a fair e = rw (fair, e) refl

  -- A bound never has more levels than the deeper of its two types, in every mode.
  pub bound-levels : (mode : ℕ) (schema t₀ t₁ : List ℕ) (room : ℕ) →
      levels_of (bound_call lim mode schema t₀ t₁ room) ≤ max (levels_of (measure_type_call lim t₀)) (levels_of (measure_type_call lim t₁))
  bound-levels mode schema t₀ t₁ room =
      guard-levels _ _ (allowed lim) _ λ fair.
      ask-levels _ _ (mode_of mode) _ λ m em.
      ask-levels _ _ (whole_schema lim schema) _ λ s es.
      ask-levels _ _ (whole_type lim t₀) _ λ a ea.
      ask-levels _ _ (whole_type lim t₁) _ λ b eb.
      type-levels _ lim room (bound m a b) λ c ec.
      let h = bound-depth m a b c ec in
      let p = ap levels_of (measures t₀ a fair ea) in
      let q = ap levels_of (measures t₁ b fair eb) in
      omega arith

  -- A fold has no more levels than the deepest type of its list; that of nothing has one.
  pub fold-levels : (mode : ℕ) (schema list : List ℕ) (room work : ℕ) →
      levels_of (fold_call lim mode schema list room work) ≤ max 1 (maybe 0 deepest (whole_list lim list))
  unfolding depth
  fold-levels mode schema list room work =
      guard-levels _ _ (allowed lim) _ λ fair.
      ask-levels _ _ (mode_of mode) _ λ m em.
      ask-levels _ _ (whole_schema lim schema) _ λ s es.
      ask-levels _ _ (whole_list lim list) _ λ ts et.
      type-levels _ lim room (fold_types (step_fits lim work) m ts) λ c ec.
      rw et (fold-depth (step_fits lim work) m ts (atom never) c ec)

  -- A lookup has no more levels than the deepest of the bodies that it joined.
  pub lookup-levels : (schema : List ℕ) (a : ℕ) (t : List ℕ) (room work : ℕ) → levels_of (lookup_call lim schema a t room work) ≤
      maybe 0 (λ s. maybe 0 (λ u. deepest (joined_bodies s a u)) (whole_type lim t)) (whole_schema lim schema)
  lookup-levels schema a t room work =
      guard-levels _ _ (allowed lim) _ λ fair.
      ask-levels _ _ (whole_schema lim schema) _ λ s es.
      ask-levels _ _ (whole_type lim t) _ λ u eu.
      attribute-levels _ lim room (lookup (step_fits lim work) s a u) λ y ey.
      rw (es, eu) (lookup-depth (step_fits lim work) s a u y ey)

  -- A core type has no more levels than its type.
  pub convert-levels : (t : List ℕ) (room : ℕ) → levels_of (convert_call lim t room) ≤ levels_of (measure_type_call lim t)
  convert-levels t room =
      guard-levels _ _ (allowed lim) _ λ fair.
      ask-levels _ _ (whole_type lim t) _ λ a ea.
      ask-levels _ _ (convert a) _ λ c ec.
      guard-levels _ _ (answer_fits lim room (enc c)) _ λ _.
      let h = convert-depth a c ec in
      let p = ap levels_of (measures t a fair ea) in
      omega arith

-- An action's literal has as many levels as the body that lists its attributes.
pub literal-body : (k : ℕ) (xs : Attrs) → depth (act k xs) ≡ depth (rec false xs)
unfolding depth
literal-body k xs = refl

-- Measuring what was written tells what was told; said of an outcome that tells levels.
abbrev pub Told : Limits → Outcome → Type 0
Told lim o = 1 ≤ levels_of o → measure_type_call lim (bytes_of o) ≡ measured (length (bytes_of o)) (levels_of o)

module _ (lim : Limits) where
  untold : (o : Outcome) → levels_of o ≡ 0 → Told lim o
  untold o e h = absurd (omega arith)

  ask-told : {A : Type 0} (n : ℕ) (o : Option A) (k : A → Outcome) → ((x : A) → o ≡ some x → Told lim (k x)) → Told lim (ask n o k)
  ask-told n none k h = untold (refused n) refl
  ask-told n (some x) k h = h x refl

  guard_told : (n : ℕ) (b : Bool) (o : Outcome) → (b ≡ true → Told lim o) → Told lim (ask n (guard b) (λ _. o))
  guard_told n true o h = h refl
  guard_told n false o h = untold (refused n) refl

  module _ (fair : allowed lim ≡ true) (room : ℕ) where
    small : (t : Ty) → answer_fits lim room (enc t) ≡ true → length (enc t) ≤ lim.bytes
    small t e = let h = leb→le (length (enc t)) _ (subst T (sym e) tt) in omega arith

    again : (t : Ty) → WF lim.levels t → answer_fits lim room (enc t) ≡ true → measure_type_call lim (enc t) ≡ measured (length (enc t)) (depth t)
    again t w e = measures lim (enc t) t fair ((whole_type-reads lim).back t (w, small t e))

    type-told : (r : Result Ty) → ((c : Ty) → r ≡ ok c → WF lim.levels c) → Told lim (write_type lim room r)
    type-told (ok c) h = guard_told answer_too_long (answer_fits lim room (enc c)) (typed c) λ e _. again c (h c refl) e
    type-told (err n) h = untold (refused n) refl

    attribute-told : (r : Result (Option (Bool × Ty))) → ((y : Bool × Ty) → r ≡ ok (some y) → WF lim.levels y.1) → Told lim (write_attribute lim room r)
    attribute-told (ok none) h = untold nothing refl
    attribute-told (ok (some y)) h =
        guard_told answer_too_long (answer_fits lim room (enc y.1)) (attribute y.0 y.1) λ e _. again y.1 (h y refl) e
    attribute-told (err n) h = untold (refused n) refl

  -- A type of one level is in order within any limits.
  lone : allowed lim ≡ true → (t : Ty) → depth t ≡ 1 → Ordered t → WF lim.levels t
  lone fair t e o = (let h = (allowed-levels lim fair).0 in omega arith, o)

  type-WF : (t : List ℕ) (a : Ty) → Bytes t → whole_type lim t ≡ some a → WF lim.levels a
  type-WF t a h e = ((whole_type-reads lim).into t a h e).1.0

  -- Measuring a bound tells what its call told;
  pub bound-told : (mode : ℕ) (schema t₀ t₁ : List ℕ) (room : ℕ) → Bytes t₀ → Bytes t₁ → Told lim (bound_call lim mode schema t₀ t₁ room)
  bound-told mode schema t₀ t₁ room h₀ h₁ =
      guard_told _ (allowed lim) _ λ fair.
      ask-told _ (mode_of mode) _ λ m em.
      ask-told _ (whole_schema lim schema) _ λ s es.
      ask-told _ (whole_type lim t₀) _ λ a ea.
      ask-told _ (whole_type lim t₁) _ λ b eb.
      type-told fair room (bound m a b) λ c ec. bound-WF lim.levels m a b c (type-WF t₀ a h₀ ea) (type-WF t₁ b h₁ eb) ec

  each-WF : (ts : List Ty) → Each (TypeWithin lim) ts → Each (WF lim.levels) ts
  each-WF [] h = tt
  each-WF (t ∷ ts) h = (h.0.0, each-WF ts h.1)

  -- a fold;
  pub fold-told : (mode : ℕ) (schema list : List ℕ) (room work : ℕ) → Bytes list → Told lim (fold_call lim mode schema list room work)
  unfolding depth Ordered
  fold-told mode schema list room work h =
      guard_told _ (allowed lim) _ λ fair.
      ask-told _ (mode_of mode) _ λ m em.
      ask-told _ (whole_schema lim schema) _ λ s es.
      ask-told _ (whole_list lim list) _ λ ts et.
      type-told fair room (fold_types (step_fits lim work) m ts) λ c ec.
      fold-WF lim.levels (step_fits lim work) m ts (atom never) c (lone fair (atom never) refl tt)
      (each-WF ts ((whole_list-reads lim).into list ts h et).1.0.0) ec

  module _ (schema : List ℕ) (h : Bytes schema) (s : Schema) (es : whole_schema lim schema ≡ some s) where
    entity-WF : (n : ℕ) (e : Entity) → entity_of s n ≡ some e → WF lim.levels (rec e.is_open e.attrs)
    entity-WF n e ee = (entity_in-good (TypeWithin lim) s.entities 0 n e ((whole_schema-reads lim).into schema s h es).1.0.entities ee).1.0

    action-WF : (k i : ℕ) (a : Action) → action_of s k i ≡ some a → WF lim.levels (rec false a.attrs)
    action-WF k i a ea = (action_in-good (TypeWithin lim) s.actions (0, 0) k i a ((whole_schema-reads lim).into schema s h es).1.0.actions ea).0

    literal-WF : allowed lim ≡ true → (k i : ℕ) (t : Ty) → literal s k i ≡ some t → WF lim.levels t
    unfolding depth Ordered
    literal-WF fair k i t e = cond-case (is_action k) e
        (λ y p. maybe-case (action_of s k i) p (λ _ q. none-some q) λ a ea q.
        subst (WF lim.levels) (some-injective _ _ q) (action-WF k i a ea))
        (λ y p. maybe-case (entity_of s k) p (λ _ q. none-some q) λ d ed q.
        subst (WF lim.levels) (some-injective _ _ q) (lone fair (ent (k ∷ [])) refl (omega arith, (omega arith, tt))))

  -- a lookup;
  pub lookup-told : (schema : List ℕ) (a : ℕ) (t : List ℕ) (room work : ℕ) → Bytes schema → Bytes t → Told lim (lookup_call lim schema a t room work)
  lookup-told schema a t room work hs ht =
      guard_told _ (allowed lim) _ λ fair.
      ask-told _ (whole_schema lim schema) _ λ s es.
      ask-told _ (whole_type lim t) _ λ u eu.
      attribute-told fair room (lookup (step_fits lim work) s a u) λ y ey.
      lookup-WF lim.levels s (entity-WF schema hs s es) (step_fits lim work) a u y (type-WF t u ht eu) ey

  -- a core type;
  pub convert-told : (t : List ℕ) (room : ℕ) → Bytes t → Told lim (convert_call lim t room)
  convert-told t room h =
      guard_told _ (allowed lim) _ λ fair.
      ask-told _ (whole_type lim t) _ λ a ea.
      ask-told _ (convert a) _ λ c ec.
      guard_told _ (answer_fits lim room (enc c)) _ λ e _. again fair room c (convert-WF lim.levels a c (type-WF t a h ea) ec) e

  -- a literal.
  pub literal-told : (schema v : List ℕ) (room : ℕ) → Bytes schema → Told lim (literal_call lim schema v room)
  literal-told schema v room h =
      guard_told _ (allowed lim) _ λ fair.
      ask-told _ (whole_schema lim schema) _ λ s es.
      ask-told _ (whole_value lim v >>= as_uid) _ λ u eu.
      go fair s es (literal s u.0 u.1) (literal-WF schema h s es fair u.0 u.1)
    where
      go : allowed lim ≡ true → (s : Schema) → whole_schema lim schema ≡ some s → (o : Option Ty) → ((t : Ty) → o ≡ some t → WF lim.levels t) →
          Told lim (maybe nothing (λ t. write_type lim room (ok t)) o)
      go fair s es none w = untold nothing refl
      go fair s es (some t) w = guard_told answer_too_long (answer_fits lim room (enc t)) (typed t) λ e _. again fair room t (w t refl) e
