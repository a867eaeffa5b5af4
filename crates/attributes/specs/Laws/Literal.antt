-- The type of a uid: what the finders say, and its form. Assumes nothing.
use Rattle.std.specs.Prelude.{ℕ, ◌+◌, ◌≤◌, List, ◌∷◌, ◌++◌, Bool, true, false, ◌≡◌, refl, length, drop, Option as Maybe, Some, option_map}
use Rattle.std.specs.Borrow.{Bor}
use Rattle.std.proofs.Common.{arith, ap, sym, subst, ◌∙◌, length-append}
use Rattle.std.proofs.Math.Option.{none, some}
use Rattle.cedar.specs.Types.{rec, is_action}
use Rattle.cedar.specs.Bytes.{Bytes, u16}
use Rattle.cedar.specs.Levels.{depth}
use Rattle.cedar.specs.TypeForm.{enc}
use Rattle.cedar.specs.Outcome.{over}
use Rattle.cedar.specs.Limits.{Limits}
use Rattle.cedar.specs.Attribute.{entity_of}
use Rattle.cedar.specs.Literal.{literal, action_of}
use Rattle.cedar.proofs.Laws.Limits.{allowed-bytes}
use Rattle.forms.specs.Parts.{rest}
use Rattle.forms.specs.Laws.Parts.{rest-is, length_rest}
use Rattle.forms.specs.Laws.Bytes.{enc-dec}
use Rattle.forms.specs.declared.rows.Row.{Row}
use Rattle.schemas.specs.Entries.{entry_at, row_bytes, open_at, body_attrs}
use Rattle.schemas.specs.Schema.{limits_in, said_by}
use Rattle.schemas.specs.Laws.Finders.{BodyAt, EntityAt, ActionAt}
use Rattle.schemas.specs.declared.entries.Key.TheVariants.{Uid}
use Rattle.schemas.specs.declared.schema.Schema.{Schema}
use Rattle.writing.specs.Laws.Writing.{back, over-at, room_at}
use Rattle.attributes.specs.declared.euid_literal.Literal.{Literal}
use Rattle.attributes.specs.declared.euid_literal.Literal.TheVariants.{Action, Entity}
use Rattle.attributes.specs.Literal.{literal_type, literal_form, literal_length, literal_levels, Laid, Standing, BytesIn, LiteralAt}
use Rattle.forms.specs.TypeBytes.{dec}

-- What is said of the type of the uid k, i wherever an action's body stands: LiteralAt but for its place.
pub record LiteralOf (s : Schema) (k i : ℕ) (x : Literal) : Type 0 where
  pub is : literal (said_by s) k i ≡ some (literal_type (limits_in s) k x)
  pub stands : Standing (limits_in s) x
  pub laid : Laid x
  pub bytes : Bytes s.bytes.now → BytesIn x

pub literal-of : {s : Schema} {k i : ℕ} {x : Literal} → LiteralAt s k i x → LiteralOf s k i x
literal-of h = record { is = h.is; stands = h.stands; laid = h.laid; bytes = h.bytes }

-- By the finders' answers.
module _ (s : Schema) (k i : ℕ) (y : Bool) (q : y ≡ is_action k) where
  pub literal-action : (c : Bor (List ℕ)) → y ≡ true → ActionAt (limits_in s) s.bytes.now k i c.now → LiteralOf s k i (Action c)
  literal-action c h a =
      let most = (allowed-bytes (limits_in s) s.sectioned.fair).1 in
      record { is = rw (← q, h, a.is) refl; stands = a.body; laid = (omega (arith, a.body.view.some), omega (arith, a.body.few, most)); bytes = a.bytes }

  -- The same of the body of the schema's first entry.
  pub literal-action-there : (o : Maybe Row) → option_map row_bytes o ≡ entry_at 6 (Uid k i) s.sections.actions s.bytes.now → (r : Row) → o ≡ Some r →
      y ≡ true → ActionAt (limits_in s) s.bytes.now k i r.body.now → LiteralAt s k i (Action r.body)
  literal-action-there o p r e h a =
      let x = literal-action r.body h a in
      record {
        there = ap (option_map (λ (x : List ℕ × List ℕ). x.1)) (sym p ∙ ap (option_map row_bytes) e);
        is = x.is;
        stands = x.stands;
        laid = x.laid;
        bytes = x.bytes;
      }

  pub literal-no-action : y ≡ true → action_of (said_by s) k i ≡ none → literal (said_by s) k i ≡ none
  literal-no-action h n = rw (← q, h, n) refl

  pub literal-entity : {c : List ℕ} → y ≡ false → EntityAt (limits_in s) s.bytes.now k c → LiteralAt s k i Entity
  literal-entity h a = record { there = tt; is = rw (← q, h, a.is) refl; stands = tt; laid = tt; bytes = λ _. tt }

  pub literal-no-entity : y ≡ false → entity_of (said_by s) k ≡ none → literal (said_by s) k i ≡ none
  literal-no-entity h n = rw (← q, h, n) refl

-- The bytes of the form are those of the type.
body-form : (lim : Limits) (c : List ℕ) → Bytes c → BodyAt lim c → enc (rec (open_at c) (body_attrs lim c)) ≡ c
body-form lim c bytes v = ap enc (sym v.view.is) ∙ enc-dec lim.levels c bytes v.good

pub literal-form : (lim : Limits) (k : ℕ) (x : Literal) → BytesIn x → Standing lim x → enc (literal_type lim k x) ≡ literal_form k x
unfolding enc
literal-form lim k (Action c) bytes v =
    ap (λ (z : List ℕ). 11 ∷ u16 k ++ z) (sym (rest-is 2 c.now ∙ ap (drop 2) (sym (body-form lim c.now bytes v))))
literal-form lim k Entity bytes v = refl

-- An action's type has as many levels as its body.
pub literal-levels : (lim : Limits) (k : ℕ) (x : Literal) → depth (literal_type lim k x) ≡ literal_levels lim x
unfolding depth
literal-levels lim k (Action c) = refl
literal-levels lim k Entity = refl

-- An answer by its cases.
module _ (x : Literal) (c : Bor (List ℕ)) (h : x ≡ Action c) where
  pub laid-body : Laid x → Laid (Action c)
  laid-body p = subst Laid h p

  module _ (lim : Limits) (p : Standing lim x) where
    pub standing-body : BodyAt lim c.now
    standing-body = subst (λ (y : Literal). Standing lim y) h p

    pub body-levels : depth (dec lim.levels c.now) ≡ literal_levels lim x
    body-levels = ap depth standing-body.view.is ∙ sym (ap (literal_levels lim) h)

  -- An action's form: the body behind its open byte, behind the action's name.
  module _ (v : Laid x) (o : List ℕ) (l : literal_length x ≤ length o) where
    pub action-room : length c.now + 1 ≤ length o
    action-room = rw (ap literal_length h) at l

    -- The body has the four bytes of an empty record form.
    pub action-least : (length c.now + 1 ≤ length o) × (4 ≤ length c.now)
    action-least = (action-room, (laid-body v).0)

    pub copy-room : (k : ℕ) (xs : List ℕ) → xs ≡ over (11 ∷ u16 k) o → (3 ≤ length xs) × (length (rest 2 c.now) ≤ length (rest 3 xs))
    copy-room k xs f =
        let r = action-least in
        let q = room_at o (11 ∷ u16 k) xs 3 f refl (omega (arith, r.0, r.1)) in
        (q.0, omega (arith, r.0, r.1, q.1, length_rest 2 c.now))

    pub action-written : (k : ℕ) (xs ys : List ℕ) → xs ≡ over (11 ∷ u16 k) o → ys ≡ over (rest 2 c.now) (rest 3 xs) →
        back 3 xs ys ≡ over (literal_form k x) o
    action-written k xs ys f g =
        let b = laid-body v in
        over-at o (11 ∷ u16 k) (rest 2 c.now) xs ys 3 f refl g (omega (arith, action-room, length_rest 2 c.now, b.0)) ∙ rw h refl

pub entity-written : (k : ℕ) (x : Literal) → x ≡ Entity → (o xs : List ℕ) → xs ≡ over (10 ∷ u16 1 ++ u16 k) o → xs ≡ over (literal_form k x) o
unfolding enc
entity-written k x h o xs q = q ∙ rw h refl

-- How long the form is.
pub literal-sized : (k : ℕ) (x : Literal) → Laid x → length (literal_form k x) ≡ literal_length x
unfolding enc
literal-sized k (Action c) v = omega (arith, length-append (u16 k) (rest 2 c.now), length_rest 2 c.now, v.0)
literal-sized k Entity v = refl
