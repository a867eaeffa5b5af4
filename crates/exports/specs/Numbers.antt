-- One number for each answer: its kind in the low byte, and above it a refusal's number, or a length and above that the levels. Assumes
-- nothing: these are definitions.
use Rattle.std.specs.Prelude.{ℕ, zero, suc, ◌+◌, ◌*◌, ◌/◌, ◌%◌, ◌≤◌, List, true, false, cond, ◌≡◌, length, replicate, Option as Maybe, Some, None}
use Rattle.cedar.specs.Limits.{most_bytes}
use Rattle.cedar.specs.Result.{Result, ok, err}
use Rattle.cedar.specs.Outcome.{Outcome, result_after}
use Rattle.validator.specs.Answers.{answer_of}
use Rattle.validator.specs.declared.answers.Answer.{Answer}
use Rattle.validator.specs.declared.answers.Answer.TheVariants.{Yes, No, Nothing, Measured, Typed, Attribute, Named}
use Rattle.validator.specs.declared.own_attribute_type.OwnPart.{OwnPart}
use Rattle.exports.specs.Steps.{kind_step, packed_step}

-- A length, and levels above it.
abbrev pub sizes : ℕ → ℕ → ℕ
sizes n l = n + packed_step * l

-- Kinds 0 to 6 and 9: refused, yes, no, none, wrote, optional attribute, required attribute, measured. A name list was written too, and has
-- no levels.
abbrev pub answer_number : Result Answer → ℕ
answer_number (err n) = kind_step * n
answer_number (ok Yes) = 1
answer_number (ok No) = 2
answer_number (ok Nothing) = 3
answer_number (ok (Measured n l)) = 9 + kind_step * sizes n l
answer_number (ok (Typed n l)) = 4 + kind_step * sizes n l
answer_number (ok (Attribute false n l)) = 5 + kind_step * sizes n l
answer_number (ok (Attribute true n l)) = 6 + kind_step * sizes n l
answer_number (ok (Named n)) = 4 + kind_step * sizes n 0

-- What was written: a type has levels, a name list has none.
abbrev pub wrote_with : ℕ → ℕ → Answer
wrote_with n zero = Named n
wrote_with n (suc l) = Typed n (suc l)

-- The answer of a kind and what stands above it.
abbrev pub answer_with : ℕ → ℕ → Result Answer
answer_with zero v = err v
answer_with (suc zero) v = ok Yes
answer_with (suc (suc zero)) v = ok No
answer_with (suc (suc (suc zero))) v = ok Nothing
answer_with (suc (suc (suc (suc zero)))) v = ok (wrote_with (v % packed_step) (v / packed_step))
answer_with (suc (suc (suc (suc (suc zero))))) v = ok (Attribute false (v % packed_step) (v / packed_step))
answer_with (suc (suc (suc (suc (suc (suc zero)))))) v = ok (Attribute true (v % packed_step) (v / packed_step))
answer_with (suc (suc (suc (suc (suc (suc (suc k))))))) v = ok (Measured (v % packed_step) (v / packed_step))

-- The answer that a number says.
abbrev pub read_answer : ℕ → Result Answer
read_answer x = answer_with (x % kind_step) (x / kind_step)

-- An answer that tells no more bytes than a form has under any limits, and no more levels than bytes; a type that is written has one.
abbrev pub Brief : Result Answer → Type 0
Brief (err n) = Unit {0}
Brief (ok Yes) = Unit {0}
Brief (ok No) = Unit {0}
Brief (ok Nothing) = Unit {0}
Brief (ok (Measured n l)) = (n ≤ most_bytes) × (l ≤ n)
Brief (ok (Typed n l)) = (n ≤ most_bytes) × (l ≤ n) × (1 ≤ l)
Brief (ok (Attribute q n l)) = (n ≤ most_bytes) × (l ≤ n)
Brief (ok (Named n)) = n ≤ most_bytes

-- A call that writes: its number, and the result buffer after it.
pub record Numbered (o : Outcome) (before after : List ℕ) (r : ℕ) : Type 0 where
  pub number : r ≡ answer_number (answer_of o)
  pub result : after ≡ result_after o before

-- A call that also takes a workspace, which is all zero after.
pub record NumberedIn (o : Outcome) (before after work work_after : List ℕ) (r : ℕ) : Type 0 where
  pub number : r ≡ answer_number (answer_of o)
  pub result : after ≡ result_after o before
  pub cleared : work_after ≡ replicate (length work) 0

-- A part of the caller's form: kind 7 if it is an optional attribute, 8 if required; above it the part's start, and 65,536 times its end.
abbrev pub part_number : Result (Maybe OwnPart) → ℕ
part_number (err n) = kind_step * n
part_number (ok None) = 3
part_number (ok (Some x)) = cond x.required 8 7 + kind_step * (x.start + packed_step * x.end)

-- The part of a kind and what stands above it.
abbrev pub part_with : ℕ → ℕ → Result (Maybe OwnPart)
part_with zero v = err v
part_with (suc zero) v = ok None
part_with (suc (suc zero)) v = ok None
part_with (suc (suc (suc zero))) v = ok None
part_with (suc (suc (suc (suc zero)))) v = ok None
part_with (suc (suc (suc (suc (suc zero))))) v = ok None
part_with (suc (suc (suc (suc (suc (suc zero)))))) v = ok None
part_with (suc (suc (suc (suc (suc (suc (suc zero))))))) v = ok (Some (record { start = v % packed_step; end = v / packed_step; required = false }))
part_with (suc (suc (suc (suc (suc (suc (suc (suc k)))))))) v = ok (Some (record { start = v % packed_step; end = v / packed_step; required = true }))

-- The part that a number says.
abbrev pub read_part : ℕ → Result (Maybe OwnPart)
read_part x = part_with (x % kind_step) (x / kind_step)

-- A part within the length of a form under any limits.
abbrev pub Narrow : Result (Maybe OwnPart) → Type 0
Narrow (err n) = Unit {0}
Narrow (ok None) = Unit {0}
Narrow (ok (Some x)) = (x.start ≤ most_bytes) × (x.end ≤ most_bytes)
