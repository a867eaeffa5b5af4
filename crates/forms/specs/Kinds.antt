-- The kinds' numbers: the first byte of a form. Assumes nothing: these are definitions.
use Rattle.std.specs.Prelude.{ℕ, ◌<◌, ◌≡◌, Result, MatchResult}
use Rattle.forms.specs.declared.kinds.Kind.{Kind}
use Rattle.forms.specs.declared.kinds.Kind.TheVariants as kind
use Rattle.forms.specs.declared.kinds.ValueKind.{ValueKind}
use Rattle.forms.specs.declared.kinds.ValueKind.TheVariants as value_kind
use Rattle.forms.specs.declared.kinds.EntityKind.{EntityKind}
use Rattle.forms.specs.declared.kinds.EntityKind.TheVariants as entity_kind
use Rattle.forms.specs.declared.kinds.ArgumentKind.{ArgumentKind}
use Rattle.forms.specs.declared.kinds.ArgumentKind.TheVariants as argument_kind
use Rattle.forms.specs.declared.kinds.UnknownKind.{UnknownKind}

-- Kinds of types: 0 to 12.
abbrev pub last_kind : ℕ
last_kind = 12

abbrev pub kind_number : Kind → ℕ
kind_number kind.Never = 0
kind_number kind.True = 1
kind_number kind.False = 2
kind_number kind.Bool = 3
kind_number kind.Long = 4
kind_number kind.String = 5
kind_number kind.AnySet = 6
kind_number kind.Set = 7
kind_number kind.Record = 8
kind_number kind.AnyEntity = 9
kind_number kind.Entity = 10
kind_number kind.Action = 11
kind_number kind.Extension = 12

-- The kind of this number, or none has it.
abbrev pub IsKind : ℕ → Result Kind UnknownKind → Type 0
IsKind number r = MatchResult r (λ k. kind_number k ≡ number) (λ e. last_kind < number)

-- Kinds of values: 0 to 7.
abbrev pub last_value_kind : ℕ
last_value_kind = 7

abbrev pub value_kind_number : ValueKind → ℕ
value_kind_number value_kind.False = 0
value_kind_number value_kind.True = 1
value_kind_number value_kind.Long = 2
value_kind_number value_kind.String = 3
value_kind_number value_kind.Uid = 4
value_kind_number value_kind.Set = 5
value_kind_number value_kind.Record = 6
value_kind_number value_kind.Call = 7

-- The kind of this number, or none has it.
abbrev pub IsValueKind : ℕ → Result ValueKind UnknownKind → Type 0
IsValueKind number r = MatchResult r (λ k. value_kind_number k ≡ number) (λ e. last_value_kind < number)

-- Kinds of entity types: 0 and 1.
abbrev pub last_entity_kind : ℕ
last_entity_kind = 1

abbrev pub entity_kind_number : EntityKind → ℕ
entity_kind_number entity_kind.Standard = 0
entity_kind_number entity_kind.Enumerated = 1

-- The kind of this number, or none has it.
abbrev pub IsEntityKind : ℕ → Result EntityKind UnknownKind → Type 0
IsEntityKind number r = MatchResult r (λ k. entity_kind_number k ≡ number) (λ e. last_entity_kind < number)

-- Kinds of arguments: 1 to 4.
abbrev pub last_argument_kind : ℕ
last_argument_kind = 4

abbrev pub argument_kind_number : ArgumentKind → ℕ
argument_kind_number argument_kind.Bool = 1
argument_kind_number argument_kind.Long = 2
argument_kind_number argument_kind.String = 3
argument_kind_number argument_kind.Extension = 4

-- The kind of this number, or none has it.
abbrev pub IsArgumentKind : ℕ → Result ArgumentKind UnknownKind → Type 0
IsArgumentKind number r = MatchResult r (λ k. argument_kind_number k ≡ number) (λ e. 0 < number → last_argument_kind < number)
