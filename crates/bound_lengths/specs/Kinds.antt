-- Bounds by kinds alone. Assumes nothing: these are definitions.
use Rattle.std.specs.Prelude.{ℕ, Bool, ◌&&◌, cond, eqb, leb, Result as RustResult, Ok, Err}
use Rattle.cedar.specs.Types.{Mode, is_permissive, bool, anyset, anyent, Ty, atom}
use Rattle.cedar.specs.Result.{Result, ok, err, entity_type, entity_record, no_bound}
use Rattle.forms.specs.Codes.{code}
use Rattle.forms.specs.Kinds.{kind_number}
use Rattle.forms.specs.Refusals.{number_of}
use Rattle.forms.specs.declared.kinds.Kind.{Kind}
use Rattle.forms.specs.declared.refusals.Refusal.{Refusal}

-- A kind is from low to high.
abbrev pub is_in : ℕ → ℕ → ℕ → Bool
is_in low high k = leb low k && leb k high

-- Both are from low to high.
abbrev pub both_in : ℕ → ℕ → ℕ → ℕ → Bool
both_in low high j k = is_in low high j && is_in low high k

-- The bound of two types of unlike kinds, neither of them Never.
abbrev pub unlike : Mode → ℕ → ℕ → Result Ty
unlike m j k =
    cond (both_in 1 3 j k) (ok (atom bool))
    (cond (both_in 6 7 j k) (ok (atom anyset))
    (cond (both_in 9 11 j k) (cond (is_permissive m) (ok (atom anyent)) (err entity_type))
    (cond (both_in 8 11 j k) (err entity_record) (err no_bound))))

-- The bound of two types of which no part is joined: with Never it is the other.
abbrev pub partless : Mode → Ty → Ty → Result Ty
partless m u v = cond (eqb (code u) 0) (ok v) (cond (eqb (code v) 0) (ok u) (unlike m (code u) (code v)))

-- A bound of kinds: its kind's number.
abbrev pub joined_of : Result Ty → Result ℕ
joined_of (ok t) = ok (code t)
joined_of (err e) = err e

-- What the code answers, with the kind's number and the refusal's.
abbrev pub seen_kind : RustResult Kind Refusal → Result ℕ
seen_kind (Ok k) = ok (kind_number k)
seen_kind (Err e) = err (number_of e)
