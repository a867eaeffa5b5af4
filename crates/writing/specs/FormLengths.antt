-- What the passes answer: how long a form is or why there is none, and then its bytes. Assumes nothing: these are definitions.
use Rattle.std.specs.Prelude.{ℕ, suc, ◌+◌, ◌≤◌, min, List, [], ◌++◌, ◌≡◌, length, Result as RustResult, Ok, Err}
use Rattle.std.proofs.Math.Option.{Option}
use Rattle.cedar.specs.Types.{Attrs, maybe}
use Rattle.cedar.specs.TypeForm.{entries, bodies}
use Rattle.cedar.specs.Limits.{most_bytes}
use Rattle.cedar.specs.Result.{Result, ok, err}
use Rattle.forms.specs.Refusals.{number_of}
use Rattle.forms.specs.declared.refusals.Refusal.{Refusal}

-- What the code answers, with its refusal's number.
abbrev pub seen : {A : Type 0} → RustResult A Refusal → Result A
seen (Ok a) = ok a
seen (Err e) = err (number_of e)

-- A length, or one byte more than the largest form that any limits allow.
abbrev pub cap : ℕ → ℕ
cap n = min n (suc most_bytes)

-- So many bytes more.
abbrev pub plus : ℕ → Result ℕ → Result ℕ
plus n (ok x) = ok (cap (x + n))
plus n (err e) = err e

-- The bytes of a table of attributes.
abbrev pub table : Attrs → List ℕ
table xs = entries xs ++ bodies xs

-- How long a result is, by what is written of it.
abbrev pub form_length_of : {A : Type 0} → (A → List ℕ) → Result A → Result ℕ
form_length_of w (ok a) = ok (cap (length (w a)))
form_length_of w (err e) = err e

-- What is written of a result.
abbrev pub form_of : {A : Type 0} → (A → List ℕ) → Result A → List ℕ
form_of w (ok a) = w a
form_of w (err e) = []

-- There is a result, within the largest form that any limits allow and a buffer.
pub record Ready {A : Type 0} (w : A → List ℕ) (r : Result A) (o : List ℕ) : Type 0 where
  pub result : A
  pub is : r ≡ ok result
  pub small : length (w result) ≤ most_bytes
  pub room : length (w result) ≤ length o

-- An answer, or a refusal of this number.
abbrev pub or_refuse : {A : Type 0} → ℕ → Option A → Result A
or_refuse n o = maybe (err n) (λ a. ok a) o
