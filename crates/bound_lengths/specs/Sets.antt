-- Sets, by the length of their elements' bound, and the sets that two types begin with. Assumes nothing: these are definitions.
use Rattle.std.specs.Prelude.{ℕ, zero, suc, ◌+◌, ◌≡◌, cond}
use Rattle.std.proofs.Math.Option.{none}
use Rattle.cedar.specs.Types.{Mode, is_loose, Ty, set, as_set}
use Rattle.cedar.specs.Result.{Result, ok, err}
use Rattle.cedar.specs.Bound.{join_set}
use Rattle.cedar.specs.Laws.DirectBound.{direct}
use Rattle.forms.specs.TypeForms.{type_of}
use Rattle.forms.specs.declared.type_forms.TypeForm.{TypeForm}
use Rattle.writing.specs.FormLengths.{plus}

-- One byte more; loose, where the elements have no bound, one byte.
abbrev pub set_length : Mode → Result ℕ → Result ℕ
set_length m (ok x) = plus 1 (ok x)
set_length m (err e) = cond (is_loose m) (ok 1) (err e)

-- What comes of n sets around, where `f` is what comes of one.
abbrev pub around : {A : Type 0} → ℕ → (A → A) → A → A
around zero f x = x
around (suc n) f x = around n f (f x)

abbrev pub NotBothSets : TypeForm → TypeForm → Type 0
NotBothSets a b = (u : Ty) → type_of a ≡ set u → as_set (type_of b) ≡ none

-- Types a and b have n sets around x and y, which are not both sets.
pub record PastSets (a b x y : TypeForm) (n : ℕ) : Type 0 where
  pub joined : (m : Mode) → direct m (type_of a) (type_of b) ≡ around n (join_set m) (direct m (type_of x) (type_of y))
  pub below : x.levels + n ≡ a.levels
  pub bare : NotBothSets x y
