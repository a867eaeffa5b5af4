-- What a call comes to: a refusal or an answer, its bytes, and the result buffer after it.
use Rattle.std.specs.Prelude.{ℕ, List, [], ◌++◌, Bool, length, drop}
use Rattle.cedar.specs.Types.{Ty}
use Rattle.cedar.specs.Bytes.{enc_names}
use Rattle.cedar.specs.TypeForm.{enc}
use Rattle.cedar.specs.Levels.{depth}

-- A refusal's number; yes or no; none; a form's length and levels; a type; an attribute, required?, with its type; a name list.
pub data Outcome : Type 0 where
  refused : ℕ → Outcome
  said : Bool → Outcome
  nothing : Outcome
  measured : ℕ → ℕ → Outcome
  typed : Ty → Outcome
  attribute : Bool → Ty → Outcome
  named : List ℕ → Outcome

-- The bytes of an answer; a refusal, yes, no, none and what is measured have none.
abbrev pub bytes_of : Outcome → List ℕ
bytes_of (refused n) = []
bytes_of (said b) = []
bytes_of nothing = []
bytes_of (measured n l) = []
bytes_of (typed t) = enc t
bytes_of (attribute r t) = enc t
bytes_of (named ns) = enc_names ns

-- The levels of what was measured or written; 0 of all else: a name list has none.
abbrev pub levels_of : Outcome → ℕ
levels_of (refused n) = 0
levels_of (said b) = 0
levels_of nothing = 0
levels_of (measured n l) = l
levels_of (typed t) = depth t
levels_of (attribute r t) = depth t
levels_of (named ns) = 0

-- A buffer with w over its first bytes.
abbrev pub over : List ℕ → List ℕ → List ℕ
over w before = w ++ drop (length w) before

-- The result buffer after a call: an answer fills its first bytes and no others, all else leaves it untouched.
abbrev pub result_after : Outcome → List ℕ → List ℕ
result_after o before = over (bytes_of o) before
