-- Types without the sets that they begin with. Assumes nothing: these are definitions.
use Rattle.std.specs.Prelude.{◌≤◌, ◌≡◌}
use Rattle.std.proofs.Math.Option.{none}
use Rattle.cedar.specs.Types.{Mode, Ty, set, as_set}
use Rattle.cedar.specs.Subtype.{sub}
use Rattle.cedar.specs.Consistency.{plain, consistent}
use Rattle.forms.specs.TypeForms.{type_of}
use Rattle.forms.specs.declared.type_forms.TypeForm.{TypeForm}

-- What is left of a and b, x and y, compares as they do, and is not a set under a set.
pub record PastSets (a b x y : TypeForm) : Type 0 where
  pub same : (m : Mode) → sub m (type_of x) (type_of y) ≡ sub m (type_of a) (type_of b)
  pub meets : consistent (type_of x) (type_of y) ≡ consistent (type_of a) (type_of b)
  pub below : y.levels ≤ b.levels
  pub apart : {u : Ty} → type_of y ≡ set u → as_set (type_of x) ≡ none

-- What is left of a, x, is plain as it is, and no set.
pub record PastOwnSets (a x : TypeForm) : Type 0 where
  pub same : plain (type_of x) ≡ plain (type_of a)
  pub below : x.levels ≤ a.levels
  pub apart : as_set (type_of x) ≡ none
