-- What is found of an entity type in a schema's bytes. Assumes nothing: these are definitions.
use Rattle.std.specs.Prelude.{ℕ, ◌+◌, ◌*◌, ◌-◌, ◌≤◌, List, [], true, ◌≡◌, length, Option as Maybe, Some, None, option_map}
use Rattle.std.proofs.Math.Option.{none, some}
use Rattle.cedar.specs.Types.{maybe, names}
use Rattle.cedar.specs.Attribute.{entity_of, attr_of, may_have_type}
use Rattle.forms.specs.Parts.{part, rest}
use Rattle.forms.specs.Search.{Laid}
use Rattle.forms.specs.TypeBytes.{whole, dec, names_by}
use Rattle.forms.specs.declared.rows.Rows.{Rows}
use Rattle.schemas.specs.Entries.{entry_at}
use Rattle.schemas.specs.Schema.{limits_in, said_by}
use Rattle.schemas.specs.declared.entries.Key.TheVariants.{Name}
use Rattle.schemas.specs.declared.schema.Schema.{Schema}
use Rattle.attributes.specs.Place.{end_of}
use Rattle.attributes.specs.declared.own_attribute.Attribute.{Attribute}
use Rattle.attributes.specs.declared.entity_attribute.EntityAttribute.{EntityAttribute}
use Rattle.attributes.specs.declared.entity_attribute.EntityAttribute.TheVariants.{Found, Absent, Missing}

-- The body of the schema's first entry of the entity type k.
abbrev pub body_in : Schema → ℕ → Maybe (List ℕ)
body_in s k = option_map (λ y. y.1) (entry_at 5 (Name k) s.sections.entities s.bytes.now)

-- The attribute a of the entity type k: a whole form, no longer than one may be, at its place in the type's body, of its type, with its flag.
pub record HasAttribute (s : Schema) (k a : ℕ) (x : Attribute) : Type 0 where
  pub there : option_map (part x.start (end_of x)) (body_in s k) ≡ Some x.form.now
  pub few : length x.form.now ≤ (limits_in s).bytes
  pub good : whole ((limits_in s).levels - 1) x.form.now ≡ true
  pub is : attr_of (said_by s) a k ≡ some (x.required, dec ((limits_in s).levels - 1) x.form.now)
  pub may : may_have_type (said_by s) a k ≡ true

-- The entity type k has the attribute a; or it is absent, and the type may have it just where its body is open; or there is no such type.
abbrev pub AttributeIn : Schema → ℕ → ℕ → EntityAttribute → Type 0
AttributeIn s k a (Found x) = HasAttribute s k a x
AttributeIn s k a (Absent o) = (attr_of (said_by s) a k ≡ none) × (may_have_type (said_by s) a k ≡ o)
AttributeIn s k a Missing = entity_of (said_by s) k ≡ none

-- Rows with the names of the entity type k, no more than a form has room for: the entries and the bodies behind the count in the type's body.
pub record HasRows (s : Schema) (k : ℕ) (x : Rows 5) : Type 0 where
  pub there : option_map (part 4 (4 + 5 * x.left)) (body_in s k) ≡ Some x.entries.now
  pub behind : option_map (rest (4 + 5 * x.left)) (body_in s k) ≡ Some x.bodies.now
  pub laid : Laid 5 x.left x.entries.now x.bodies.now
  pub few : 5 * x.left ≤ (limits_in s).bytes
  pub is : maybe [] (λ e. names e.attrs) (entity_of (said_by s) k) ≡ names_by 5 x.left x.entries.now

-- The entity type k has the rows, or there is no such type.
abbrev pub RowsIn : Schema → ℕ → Maybe (Rows 5) → Type 0
RowsIn s k (Some x) = HasRows s k x
RowsIn s k None = entity_of (said_by s) k ≡ none
