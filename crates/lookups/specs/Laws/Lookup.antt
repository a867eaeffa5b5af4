-- The fold of an attribute over entity types, and the lookup of any type. Assumes nothing.
use Rattle.std.specs.Prelude.{ℕ, ◌-◌, ◌≤◌, ◌<◌, List, ◌∷◌, ◌++◌, Bool, true, ◌&&◌, ◌≡◌, refl, length, take, drop, Option as Maybe, Some, None, Result as RustResult, Ok, Err, ◌+◌}
use Rattle.std.specs.declared.slice.ChunksExact.{ChunksExact}
use Rattle.std.proofs.Common.{arith, ap, sym, subst, ◌∙◌}
use Rattle.std.proofs.Math.Option.{Option, none, some}
use Rattle.std.proofs.lemmas.List.{take-append-drop}
use Rattle.cedar.specs.Types.{permissive, Ty, Schema as Said}
use Rattle.cedar.specs.Bytes.{Bytes}
use Rattle.cedar.specs.Limits.{Limits, most_bytes}
use Rattle.cedar.specs.Result.{Result, ok, err}
use Rattle.cedar.specs.Bound.{bound}
use Rattle.cedar.specs.Outcome.{over}
use Rattle.cedar.specs.Attribute.{attr_of, own_attr, fold_attr, lookup_names, lookup}
use Rattle.cedar.specs.Calls.{step_fits}
use Rattle.forms.specs.Parts.{part, rest, rd, kind}
use Rattle.forms.specs.TypeBytes.{whole, dec}
use Rattle.forms.specs.Laws.Bytes.{Bytes-part, enc-dec}
use Rattle.forms.specs.Laws.Views.{see, seen-set, seen-record, seen-entity, seen-action, seen-extension, seen-atom}
use Rattle.forms.specs.Names.{names_in}
use Rattle.schemas.specs.Schema.{said_by}
use Rattle.forms.specs.Laws.NamesIn.{names-of-entity, names-front, names-over, NamesLeft, names-end, name-first}
use Rattle.schemas.specs.declared.schema.Schema.{Schema}
use Rattle.attributes.specs.declared.own_attribute.Attribute.{Attribute}
use Rattle.attributes.specs.declared.entity_attribute.EntityAttribute.{EntityAttribute}
use Rattle.attributes.specs.declared.entity_attribute.EntityAttribute.TheVariants.{Found, Absent, Missing}
use Rattle.attributes.specs.EntityAttribute.{AttributeIn}
use Rattle.forms.specs.declared.refusals.Refusal.{Refusal}
use Rattle.folds.specs.declared.steps.NoStep.{NoStep}
use Rattle.folds.specs.declared.steps.NoStep.TheVariants.{Unbounded, TooLong}
use Rattle.folds.specs.Steps.{Held, Stepped}
use Rattle.lookups.specs.declared.lookup_attribute_type.Looked.{Looked}
use Rattle.lookups.specs.Lookup.{below, Shown, LookedUp}
use Rattle.writing.specs.Laws.Writing.{over-front}
use Rattle.cedar.specs.TypeForm.{enc}
use Rattle.forms.specs.Laws.Parts.{length_part}

-- A part of a schema that was copied to the front of `last`.
pub held-copy : (lim : Limits) → lim.bytes ≤ most_bytes → (b last xs : List ℕ) (s e : ℕ) → s ≤ e → e ≤ length b → e ≤ s + lim.bytes →
    lim.bytes ≤ length last → length xs ≡ length last →
    whole (lim.levels - 1) (part s e b) ≡ true → enc (dec (lim.levels - 1) (part s e b)) ≡ part s e b → xs ≡ over (part s e b) last →
    (part 0 (e - s) xs ≡ part s e b) × Held (below lim) (e - s) xs
held-copy lim most b last xs s e h g k r l w x f =
    let p = over-front (part s e b) last xs (e - s) f (sym (length_part s e b g)) in (
      p,
      record {
        most = most;
        room = omega (arith, l, r);
        fits = omega arith;
        good = ap (whole (lim.levels - 1)) p ∙ w;
        exact = ap (λ (z : List ℕ). enc (dec (lim.levels - 1) z)) p ∙ x ∙ sym p;
      },
    )

-- A form that was copied to the front of `last`.
module _ (lim : Limits) (x : Attribute) (v : Shown lim x) (last xs : List ℕ) (f : xs ≡ over x.form.now last) where
  pub kept-form : part 0 (length x.form.now) xs ≡ x.form.now
  kept-form = over-front x.form.now last xs (length x.form.now) f refl

  pub kept-held : lim.bytes ≤ most_bytes → Bytes xs → lim.bytes ≤ length last → length xs ≡ length last → Held (below lim) (length x.form.now) xs
  kept-held most bytes room l =
      record {
        most = most;
        room = omega (arith, room, l);
        fits = v.few;
        good = ap (whole (lim.levels - 1)) kept-form ∙ v.good;
        exact =
            let own : Bytes x.form.now = rw kept-form at (Bytes-part 0 (length x.form.now) xs bytes) in
            rw kept-form (enc-dec (lim.levels - 1) x.form.now own v.good);
      }

-- An attribute that is not found is none.
pub attribute-none : (s : Schema) (k a : ℕ) (x : EntityAttribute) → AttributeIn s k a x → ((y : Attribute) → x ≡ Found y → ⊥) → attr_of (said_by s) a k ≡ none
attribute-none s k a (Found y) p h = absurd (h y refl)
attribute-none s k a (Absent o) p h = p.0
attribute-none s k a Missing p h = rw p refl

-- The loop of the fold: `all` is what it is to end with.
pub record Folding (lim : Limits) (work : ℕ) (s : Said) (a : ℕ) (all : Result (Option (Bool × Ty))) (x : Looked) (last : List ℕ) (left : ChunksExact ℕ)
    : Type 0 where
  pub held : Held (below lim) x.bytes last
  pub ahead : NamesLeft all (fold_attr (step_fits lim work) s a (x.required, dec (lim.levels - 1) (part 0 x.bytes last))) left

module _ {lim : Limits} {work : ℕ} {s : Said} {a : ℕ} {all : Result (Option (Bool × Ty))} {x : Looked} {last : List ℕ} {left : ChunksExact ℕ}
    (i : Folding lim work s a all x last left) where
  pub folding-end : length left.rest.now < left.size → LookedUp lim all last (Ok (Some x))
  folding-end h = (names-end i.ahead h, i.held)

  module _ (pair b : List ℕ) (cut : left.rest.now ≡ pair ++ b) (size : length pair ≡ left.size) (k : ℕ) (e : k ≡ rd pair 0) where
    first-is : all ≡ fold_attr (step_fits lim work) s a (x.required, dec (lim.levels - 1) (part 0 x.bytes last)) (k ∷ names_in b)
    first-is = name-first i.ahead pair b cut size ∙ rw e refl

    pub folding-lacks : attr_of s a k ≡ none → all ≡ ok none
    folding-lacks f = first-is ∙ rw f refl

    module _ (y : Bool) (t : List ℕ) (f : attr_of s a k ≡ some (y, dec (lim.levels - 1) t)) (last' : List ℕ) where
      abbrev stepped : RustResult ℕ NoStep → Type 0
      stepped r = Stepped (below lim) (bound permissive (dec (lim.levels - 1) (part 0 x.bytes last)) (dec (lim.levels - 1) t)) work last' r

      pub folding-unbounded : (r : Refusal) → stepped (Err (Unbounded r)) → all ≡ ok none
      folding-unbounded r d = first-is ∙ rw (f, d) refl

      pub folding-too-long : stepped (Err TooLong) → all ≡ err 9
      folding-too-long d = first-is ∙ rw (f, d.1.0, d.1.1) refl

      pub folding-next : (m : ℕ) → stepped (Ok m) → (next : ChunksExact ℕ) → next.size ≡ left.size → next.rest.now ≡ b →
          (z : Looked) → z.bytes ≡ m → z.required ≡ x.required && y → Folding lim work s a all z last' next
      folding-next m d next p q z zm zq =
          record {
            held = rw zm d.2;
            ahead = record { size = p ∙ i.ahead.size; same = first-is ∙ rw (f, d.0, d.1, zm, zq, q) refl };
          }

-- The first of an entity's types.
pub types-cut : (ns p o : List ℕ) → p ≡ take 2 ns → o ≡ drop 2 ns → ns ≡ p ++ o
types-cut ns p o e f = rw (e, f) (sym (take-append-drop 2 ns))

module _ (fits : Ty → Bool) (s : Said) (a : ℕ) (ns : List ℕ) where
  pub types-none : length ns < 2 → lookup_names fits s a (names_in ns) ≡ ok none
  types-none h = ap (lookup_names fits s a) (names-over ns h)

  module _ (pair others : List ℕ) (cut : ns ≡ pair ++ others) (size : length pair ≡ 2) (k : ℕ) (e : k ≡ rd pair 0) where
    first-names : names_in ns ≡ k ∷ names_in others
    first-names = ap names_in cut ∙ names-front pair others size ∙ rw e refl

    pub types-lack : attr_of s a k ≡ none → lookup_names fits s a (names_in ns) ≡ ok none
    types-lack f = ap (lookup_names fits s a) first-names ∙ rw f refl

    pub types-fold : (y : Bool) (t : Ty) → attr_of s a k ≡ some (y, t) → fold_attr fits s a (y, t) (names_in others) ≡ lookup_names fits s a (names_in ns)
    types-fold y t f = sym (ap (lookup_names fits s a) first-names ∙ rw f refl)

-- Any type by its first byte.
module _ (fits : Ty → Bool) (s : Said) (a l : ℕ) (b : List ℕ) (w : whole l b ≡ true) where
  pub entity-lookup : kind b ≡ 10 → lookup_names fits s a (names_in (rest 3 b)) ≡ lookup fits s a (dec l b)
  entity-lookup k = rw (names-of-entity l b w k) refl

  pub other-lookup : (kind b ≡ 10 → ⊥) → ok (own_attr a (dec l b)) ≡ lookup fits s a (dec l b)
  other-lookup n = elim (see l b w) [
    | seen-set k v ↦ rw v.is refl
    | seen-record k v ↦ rw v.is refl
    | seen-entity k v ↦ absurd (n k)
    | seen-action k v ↦ rw v.is refl
    | seen-extension k v ↦ rw v.is refl
    | seen-atom v ↦ rw v.is refl
  ]

  -- A record's or action's attribute.
  module _ (n : kind b ≡ 10 → ⊥) where
    pub own-none : own_attr a (dec l b) ≡ none → lookup fits s a (dec l b) ≡ ok none
    own-none f = sym (other-lookup n) ∙ ap ok f

    pub own-found : (lim : Limits) (x : Looked) (t : List ℕ) → own_attr a (dec l b) ≡ some (x.required, dec (lim.levels - 1) t) → (last : List ℕ) →
        (part 0 x.bytes last ≡ t) × Held (below lim) x.bytes last → LookedUp lim (lookup fits s a (dec l b)) last (Ok (Some x))
    own-found lim x t f last h =
        (sym (other-lookup n) ∙ ap ok (f ∙ ap (λ (z : List ℕ). some (x.required, dec (lim.levels - 1) z)) (sym h.0)), h.1)

-- A lookup by its cases.
module _ (lim : Limits) (o : Result (Option (Bool × Ty))) (last : List ℕ) (z : Maybe Looked) (h : LookedUp lim o last (Ok z)) where
  pub looked-none : z ≡ None → o ≡ ok none
  looked-none e = subst (λ (y : Maybe Looked). LookedUp lim o last (Ok y)) e h

  pub looked-some : (x : Looked) → z ≡ Some x → o ≡ ok (some (x.required, dec (lim.levels - 1) (part 0 x.bytes last)))
  looked-some x e = (subst (λ (y : Maybe Looked). LookedUp lim o last (Ok y)) e h).0
