-- The type of a uid, as it is found in a schema. Assumes nothing: these are definitions.
use Rattle.std.specs.Prelude.{ℕ, ◌+◌, ◌≤◌, List, [], ◌∷◌, ◌++◌, ◌≡◌, length, Option as Maybe, Some, None, option_map}
use Rattle.std.proofs.Math.Option.{none, some}
use Rattle.cedar.specs.Types.{Ty, rec, act, ent}
use Rattle.cedar.specs.Levels.{depth}
use Rattle.cedar.specs.Bytes.{Bytes, u16}
use Rattle.cedar.specs.TypeForm.{action_code, enc}
use Rattle.cedar.specs.Limits.{Limits, most_bytes}
use Rattle.cedar.specs.Literal.{literal}
use Rattle.forms.specs.Parts.{rest}
use Rattle.schemas.specs.Entries.{entry_at, open_at, body_attrs}
use Rattle.schemas.specs.Schema.{limits_in, said_by}
use Rattle.schemas.specs.Laws.Finders.{BodyAt}
use Rattle.schemas.specs.declared.entries.Key.TheVariants.{Uid}
use Rattle.schemas.specs.declared.schema.Schema.{Schema}
use Rattle.attributes.specs.declared.euid_literal.Literal.{Literal}
use Rattle.attributes.specs.declared.euid_literal.Literal.TheVariants.{Action, Entity}

-- The type that is found, of the uid's entity type k.
abbrev pub literal_type : Limits → ℕ → Literal → Ty
literal_type lim k (Action c) = act k (body_attrs lim c.now)
literal_type lim k Entity = ent (k ∷ [])

-- Its form: an action has its name where its body, a record form, has its open byte.
abbrev pub literal_form : ℕ → Literal → List ℕ
literal_form k (Action c) = action_code ∷ u16 k ++ rest 2 c.now
literal_form k Entity = enc (ent (k ∷ []))

-- How many bytes that form takes.
abbrev pub literal_length : Literal → ℕ
literal_length (Action c) = length c.now + 1
literal_length Entity = 5

-- How many levels the type has.
abbrev pub literal_levels : Limits → Literal → ℕ
literal_levels lim (Action c) = depth (rec (open_at c.now) (body_attrs lim c.now))
literal_levels lim Entity = 1

-- An action's body is no shorter than an empty record form and no longer than a form may be.
abbrev pub Laid : Literal → Type 0
Laid (Action c) = (4 ≤ length c.now) × (length c.now ≤ most_bytes)
Laid Entity = Unit {0}

-- It is a whole record form within the limits.
abbrev pub Standing : Limits → Literal → Type 0
Standing lim (Action c) = BodyAt lim c.now
Standing lim Entity = Unit {0}

-- The bytes of an action's body.
abbrev pub BytesIn : Literal → Type 0
BytesIn (Action c) = Bytes c.now
BytesIn Entity = Unit {0}

-- An action's body is that of the schema's first entry of the uid.
abbrev pub BodyThere : Schema → ℕ → ℕ → Literal → Type 0
BodyThere s k i (Action c) = option_map (λ y. y.1) (entry_at 6 (Uid k i) s.sections.actions s.bytes.now) ≡ Some c.now
BodyThere s k i Entity = Unit {0}

-- The type of the uid k, i.
pub record LiteralAt (s : Schema) (k i : ℕ) (x : Literal) : Type 0 where
  pub there : BodyThere s k i x
  pub is : literal (said_by s) k i ≡ some (literal_type (limits_in s) k x)
  pub stands : Standing (limits_in s) x
  pub laid : Laid x
  pub bytes : Bytes s.bytes.now → BytesIn x

-- That type, or the schema has no such uid.
abbrev pub LiteralIn : Schema → ℕ → ℕ → Maybe Literal → Type 0
LiteralIn s k i (Some x) = LiteralAt s k i x
LiteralIn s k i None = literal (said_by s) k i ≡ none
