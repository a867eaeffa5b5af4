-- Where an attribute stands in a form. Assumes nothing: these are definitions.
use Rattle.std.specs.Prelude.{ℕ, ◌+◌, ◌≤◌, List, Bool, true, ◌≡◌, length, Option as Maybe, Some, None}
use Rattle.std.proofs.Math.Option.{Option, none, some}
use Rattle.cedar.specs.Types.{Ty}
use Rattle.forms.specs.Parts.{part}
use Rattle.forms.specs.TypeBytes.{whole, dec}
use Rattle.attributes.specs.declared.own_attribute.Attribute.{Attribute}

-- Where an attribute's form ends.
abbrev pub end_of : Attribute → ℕ
end_of x = x.start + length x.form.now

-- The attribute o stands at the place in b: a whole form, of its type, with its flag.
pub record Stands (l : ℕ) (b : List ℕ) (o : Option (Bool × Ty)) (x : Attribute) : Type 0 where
  pub inside : end_of x ≤ length b
  pub there : x.form.now ≡ part x.start (end_of x) b
  pub good : whole l x.form.now ≡ true
  pub is : o ≡ some (x.required, dec l x.form.now)

-- The attribute stands at the place, or there is none.
abbrev pub Placed : ℕ → List ℕ → Option (Bool × Ty) → Maybe Attribute → Type 0
Placed l b o (Some x) = Stands l b o x
Placed l b o None = o ≡ none

-- Where a place starts and ends.
abbrev pub span_of : Maybe Attribute → Option (ℕ × ℕ)
span_of (Some x) = some (x.start, end_of x)
span_of None = none
