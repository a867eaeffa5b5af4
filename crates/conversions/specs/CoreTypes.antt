-- The conversion to a core type, with its refusal. Assumes nothing: these are definitions.
use Rattle.std.specs.Prelude.{ℕ, zero, suc, cond, eqb, ◌+◌, ◌≡◌}
use Rattle.std.proofs.Math.Option.{none}
use Rattle.cedar.specs.Types.{true', false', bool, Ty, Attrs, set, as_set}
use Rattle.cedar.specs.TypeForm.{atom_code}
use Rattle.cedar.specs.Conversion.{convert, convert_attrs}
use Rattle.cedar.specs.Result.{Result, not_convertible}
use Rattle.forms.specs.TypeForms.{type_of}
use Rattle.forms.specs.declared.type_forms.TypeForm.{TypeForm}
use Rattle.writing.specs.FormLengths.{or_refuse}

-- The core type, or 8.
unfoldable pub core : Ty → Result Ty
core t = or_refuse not_convertible (convert t)

-- The same for an attribute list.
unfoldable pub core_attrs : Attrs → Result Attrs
core_attrs xs = or_refuse not_convertible (convert_attrs xs)

-- The kind of an atom's core type: True and False become Bool.
abbrev pub bool_or : ℕ → ℕ
bool_or k = cond (eqb k (atom_code true')) (atom_code bool) (cond (eqb k (atom_code false')) (atom_code bool) k)

-- A type in so many sets.
abbrev pub in_sets : ℕ → Ty → Ty
in_sets zero t = t
in_sets (suc n) t = set (in_sets n t)

-- A type begins with n sets, and x is what is below them.
pub record PastSets (a x : TypeForm) (n : ℕ) : Type 0 where
  pub made : type_of a ≡ in_sets n (type_of x)
  pub levels : x.levels + n ≡ a.levels
  pub apart : as_set (type_of x) ≡ none
