-- Where the body of an attribute stands in the form of its record or action: from its first byte up to the byte behind it.
use Rattle.std.specs.Prelude.{ℕ, ◌+◌, ◌*◌, List, cond, eqb, length}
use Rattle.std.proofs.Math.Option.{Option, none, some}
use Rattle.cedar.specs.Types.{Ty, atom, set, rec, act, ent, ext, Attrs, nil, attr}
use Rattle.cedar.specs.Bytes.{◌>>=◌}
use Rattle.cedar.specs.TypeForm.{count, enc, entry_width}
use Rattle.cedar.specs.Limits.{Limits}
use Rattle.cedar.specs.Whole.{whole_type}

-- The bytes before the entries of a record: its kind, its open byte, the count.
abbrev pub record_head : ℕ
record_head = 4

-- Those of an action: its kind, its entity type, the count.
abbrev pub action_head : ℕ
action_head = 5

-- The place of a's body, where the first body starts at `at`: behind the bodies of the attributes before a.
abbrev pub body_from : ℕ → ℕ → Attrs → Option (ℕ × ℕ)
body_from at a nil = none
body_from at a (attr n r t xs) = cond (eqb a n) (some (at, at + length (enc t))) (body_from (at + length (enc t)) a xs)

-- The place of a's body in the form of a type; only records and actions have one.
abbrev pub body_place : ℕ → Ty → Option (ℕ × ℕ)
body_place a (atom k) = none
body_place a (set t) = none
body_place a (rec o xs) = body_from (record_head + entry_width * count xs) a xs
body_place a (act n xs) = body_from (action_head + entry_width * count xs) a xs
body_place a (ent ns) = none
body_place a (ext n) = none

-- The same in any bytes: only a whole type form has one.
abbrev pub body_in : Limits → ℕ → List ℕ → Option (ℕ × ℕ)
body_in lim a b = do
  t ← whole_type lim b
  body_place a t
