-- What is written of the bound of two attribute lists. Assumes nothing: these are definitions.
use Rattle.std.specs.Prelude.{ℕ, List, Bool, true, false, ◌≡◌, Option as Maybe, Some, None, IfSome, length, []}
use Rattle.std.proofs.Math.Option.{Option, none, some}
use Rattle.cedar.specs.Types.{Mode, is_loose, Ty, Attrs}
use Rattle.cedar.specs.TypeForm.{count, enc}
use Rattle.cedar.specs.Result.{Result, ok, err}
use Rattle.forms.specs.declared.rows.Row.{Row}
use Rattle.forms.specs.declared.type_forms.TypeForm.{TypeForm}
use Rattle.bound_lengths.specs.Pairs.{joined_row}
use Rattle.bound_lengths.specs.Sets.{NotBothSets}

-- How many attributes a joined list has; none where there is no list.
abbrev pub count_of : Result Attrs → ℕ
count_of (ok cs) = count cs
count_of (err e) = 0

-- The body of an attribute that is kept.
abbrev pub pair_form : Option (Bool × Ty) → List ℕ
pair_form none = []
pair_form (some y) = enc y.1

-- Whether there is a result.
abbrev pub is_ok : {A : Type 0} → Result A → Bool
is_ok (ok a) = true
is_ok (err e) = false

-- Unless loose, these are not both sets.
abbrev pub Bare : Mode → TypeForm → TypeForm → Type 0
Bare m a b = is_loose m ≡ false → NotBothSets a b

-- The length of these bytes, where it is known.
abbrev pub KnownLength : Maybe ℕ → List ℕ → Type 0
KnownLength o w = IfSome o (λ n. n ≡ length w)

-- Whether an attribute is kept.
abbrev pub is_kept : Result (Option (Bool × Ty)) → Bool
is_kept (ok none) = false
is_kept (ok (some y)) = true
is_kept (err e) = false

-- The attribute with which that of a row is kept, if it is.
abbrev pub KeptWith : Mode → ℕ → Row → Maybe Row → Maybe Row → Type 0
KeptWith m l r o (Some x) = (o ≡ Some x) × (is_kept (joined_row m l r o) ≡ true)
KeptWith m l r o None = is_kept (joined_row m l r o) ≡ false
