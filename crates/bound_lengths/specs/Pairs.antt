-- Attribute lists and their bound, attribute by attribute. Assumes nothing: these are definitions.
use Rattle.std.specs.Prelude.{ℕ, ◌≤◌, ◌≡◌, Option as Maybe, Some, None, Bool, true, ◌&&◌, ◌||◌, cond, eqb, length, get_or, ◌<◌, List}
use Rattle.std.proofs.Math.Option.{Option, none, some}
use Rattle.cedar.specs.Types.{Mode, is_permissive, eq_flag, Ty, Attrs}
use Rattle.cedar.specs.TypeForm.{enc}
use Rattle.cedar.specs.Result.{Result, ok, err, attribute_qualifier, record_width}
use Rattle.cedar.specs.Bound.{same_names}
use Rattle.cedar.specs.Laws.DirectBound.{direct, direct_attrs}
use Rattle.forms.specs.TypeBytes.{whole, dec, Sound}
use Rattle.forms.specs.TypeForms.{type_of}
use Rattle.forms.specs.declared.rows.Row.{Row}
use Rattle.forms.specs.declared.type_forms.AttributeForm.{AttributeForm}
use Rattle.writing.specs.FormLengths.{cap}
use Rattle.forms.specs.Parts.{rd}

-- The bound of two attribute lists, with the names that the mode allows.
abbrev pub joined_attrs : Mode → Attrs → Attrs → Result Attrs
joined_attrs m xs ys = same_names m xs ys (direct_attrs m xs ys)

-- What an attribute of the first list comes to: kept with a flag and a type, dropped, or refused.
abbrev pub joined_to : Mode → Bool → Bool → Result Ty → Result (Option (Bool × Ty))
joined_to m r s (ok c) = cond (is_permissive m || eq_flag r s) (ok (some (r && s, c))) (err attribute_qualifier)
joined_to m r s (err e) = cond (is_permissive m) (ok none) (err e)

-- The same, with what the second list has under its name.
abbrev pub joined : Mode → Bool → Ty → Option (Bool × Ty) → Result (Option (Bool × Ty))
joined m r t none = cond (is_permissive m) (ok none) (err record_width)
joined m r t (some y) = joined_to m r y.0 (direct m t y.1)

-- How long its type's form is, where it is kept.
abbrev pub pair_length_of : Result (Option (Bool × Ty)) → Result (Maybe ℕ)
pair_length_of (ok none) = ok None
pair_length_of (ok (some y)) = ok (Some (cap (length (enc y.1))))
pair_length_of (err e) = err e

-- A row whose body is a whole type.
pub record WholeRow (l : ℕ) (r : Row) : Type 0 where
  pub sized : 5 ≤ length r.head.now
  pub body : whole l r.body.now ≡ true

-- Whether a row's attribute is required.
abbrev pub row_flag : Row → Bool
row_flag r = eqb (get_or r.head.now 2 0) 1

-- The attribute of a row, if there is one.
abbrev pub attribute_in : ℕ → Maybe Row → Option (Bool × Ty)
attribute_in l (Some r) = some (row_flag r, dec l r.body.now)
attribute_in l None = none

-- What the attribute of a row comes to, with that of another.
abbrev pub joined_row : Mode → ℕ → Row → Maybe Row → Result (Option (Bool × Ty))
joined_row m l r o = joined m (row_flag r) (dec l r.body.now) (attribute_in l o)

-- What an attribute comes to, with that of its name in another list.
abbrev pub joined_form : Mode → AttributeForm → Maybe AttributeForm → Result (Option (Bool × Ty))
joined_form m x (Some y) = joined m x.required (type_of x.form) (some (y.required, type_of y.form))
joined_form m x None = joined m x.required (type_of x.form) none

-- What is left of a list, with no name below a name.
pub record Front (l m name : ℕ) (fs cs : List ℕ) : Type 0 where
  pub low : ℕ
  pub sound : Sound l m low fs cs
  pub above : 0 < m → name ≤ rd fs 0
