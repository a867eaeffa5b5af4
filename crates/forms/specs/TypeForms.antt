-- Type forms that are whole, and what they are made of. Assumes nothing: these are definitions.
use Rattle.std.specs.Prelude.{ℕ, ◌+◌, ◌<◌, ◌≤◌, List, length, Option, Some, None, ◌≡◌}
use Rattle.std.proofs.Math.Option.{none, some}
use Rattle.std.specs.Borrow.{Bor}
use Rattle.cedar.specs.Limits.{Limits}
use Rattle.cedar.specs.Whole.{whole_type}
use Rattle.cedar.specs.Types.{Atom, Ty, Attrs, atom, set, rec, act, ent, ext, nil, attr, find, as_set}
use Rattle.cedar.specs.TypeForm.{one, kind_of}
use Rattle.forms.specs.Kinds.{kind_number}
use Rattle.forms.specs.Names.{names_in, Ascending}
use Rattle.forms.specs.TypeBytes.{dec, dec_a}
use Rattle.forms.specs.declared.kinds.Kind.{Kind}
use Rattle.forms.specs.declared.type_forms.TypeForm.{TypeForm}
use Rattle.forms.specs.declared.type_forms.AttributeForms.{AttributeForms}
use Rattle.forms.specs.declared.type_forms.AttributeForm.{AttributeForm}
use Rattle.forms.specs.declared.type_forms.Shape.{Shape}
use Rattle.forms.specs.declared.type_forms.Shape.TheVariants as shape

-- The type that a form says.
abbrev pub type_of : TypeForm → Ty
type_of t = dec t.levels t.bytes.now

-- The bytes are a whole type form within limits, the one that is handed out; or they are none.
abbrev pub TypeWithin : Limits → Bor (List ℕ) → Option TypeForm → Type 0
TypeWithin lim b (Some t) = (t.bytes ≡ b) × (t.levels ≡ lim.levels) × (length b.now ≤ lim.bytes) × (whole_type lim b.now ≡ some (type_of t))
TypeWithin lim b None = whole_type lim b.now ≡ none

-- The attributes that are left of a list.
abbrev pub listed : AttributeForms → Attrs
listed xs = dec_a (dec xs.levels) xs.rows.left xs.rows.entries.now xs.rows.bodies.now

-- A type that is nothing but its kind.
pub record IsPlain (t : Ty) (k : Kind) : Type 0 where
  pub which : Atom
  pub kind : kind_of (kind_number k) ≡ one which
  pub is : t ≡ atom which

-- A form says the type that is made of these parts; parts are a level below it.
abbrev pub Shaped : TypeForm → Shape → Type 0
Shaped t (shape.Plain k) = IsPlain (type_of t) k
Shaped t (shape.Set x) = (type_of t ≡ set (type_of x)) × (x.levels + 1 ≡ t.levels)
Shaped t (shape.Record o xs) = (type_of t ≡ rec o (listed xs)) × (xs.levels + 1 ≡ t.levels) × (xs.rows.left < 65536)
Shaped t (shape.Entity ns) = (type_of t ≡ ent (names_in ns.now)) × Ascending ns.now
Shaped t (shape.Action n xs) = (type_of t ≡ act n (listed xs)) × (xs.levels + 1 ≡ t.levels) × (xs.rows.left < 65536) × (n < 65536)
Shaped t (shape.Extension n) = (type_of t ≡ ext n) × (n < 65536)

-- The type of a set's elements, a level below it; or the type is no set.
abbrev pub ElementOf : TypeForm → Option TypeForm → Type 0
ElementOf t (Some x) = (type_of t ≡ set (type_of x)) × (x.levels + 1 ≡ t.levels)
ElementOf t None = as_set (type_of t) ≡ none

-- The first attribute was taken of a list.
pub record TookFirstAttribute (old new : AttributeForms) (x : AttributeForm) : Type 0 where
  pub all : listed old ≡ attr x.name x.required (type_of x.form) (listed new)
  pub levels : new.levels ≡ old.levels
  pub below : x.form.levels ≡ old.levels
  pub fewer : new.rows.left < old.rows.left
  pub small : x.name < 65536

-- The first attribute, if there is one.
abbrev pub TookAttribute : AttributeForms → AttributeForms → Option AttributeForm → Type 0
TookAttribute old new (Some x) = TookFirstAttribute old new x
TookAttribute old new None = listed old ≡ nil

-- Lower attributes were passed for good: later names are found in what is left.
pub record PassedAttributes (old : AttributeForms) (name : ℕ) (new : AttributeForms) : Type 0 where
  pub later : (k : ℕ) → name ≤ k → find k (listed old) ≡ find k (listed new)
  pub levels : new.levels ≡ old.levels

-- An attribute is the one of a name.
pub record IsAttribute (xs : AttributeForms) (name : ℕ) (x : AttributeForm) : Type 0 where
  pub found : find name (listed xs) ≡ some (x.required, type_of x.form)
  pub named : x.name ≡ name
  pub below : x.form.levels ≡ xs.levels

-- The attribute of a name, or none has it.
abbrev pub AttributeNamed : AttributeForms → ℕ → Option AttributeForm → Type 0
AttributeNamed xs name (Some x) = IsAttribute xs name x
AttributeNamed xs name None = find name (listed xs) ≡ none

-- It was searched, and what is below it passed.
abbrev pub SoughtAttribute : AttributeForms → ℕ → AttributeForms → Option AttributeForm → Type 0
SoughtAttribute old name new r = PassedAttributes old name new × AttributeNamed old name r
