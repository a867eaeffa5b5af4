-- An answer, or the number of a refusal; the numbers of 01, named once.
use Rattle.std.specs.Prelude.{ℕ}

-- `Result`, with a refusal's number for the error.
pub data Result (A : Type 0) : Type 0 where
  ok : A → Result A
  err : ℕ → Result A

-- The answer put to use; a refusal stays.
abbrev pub bind : {A B : Type 0} → Result A → (A → Result B) → Result B
bind (ok a) f = f a
bind (err e) f = err e

-- The mode is known?
abbrev pub bad_mode : ℕ
bad_mode = 1

-- The schema is whole?
abbrev pub bad_schema : ℕ
bad_schema = 2

-- The first type, or the list, is whole?
abbrev pub bad_first : ℕ
bad_first = 3

-- The second type is whole?
abbrev pub bad_second : ℕ
bad_second = 4

-- The value is whole (for a literal: also a uid)?
abbrev pub bad_value : ℕ
bad_value = 5

-- Consistency's second type is plain throughout?
abbrev pub not_plain : ℕ
not_plain = 6

-- Each function that the conformance walk reaches stands in the schema?
abbrev pub unknown_function : ℕ
unknown_function = 7

-- Conversion can express every part?
abbrev pub not_convertible : ℕ
not_convertible = 8

-- A step's bound is within half the workspace and the limit on a form's length?
abbrev pub step_too_long : ℕ
step_too_long = 9

-- The answer is within the result buffer and the limit on a form's length?
abbrev pub answer_too_long : ℕ
answer_too_long = 10

-- `LubHelp::AttributeQualifier`.
abbrev pub attribute_qualifier : ℕ
attribute_qualifier = 11

-- `LubHelp::RecordWidth`.
abbrev pub record_width : ℕ
record_width = 12

-- `LubHelp::EntityType`.
abbrev pub entity_type : ℕ
entity_type = 13

-- `LubHelp::EntityRecord`.
abbrev pub entity_record : ℕ
entity_record = 14

-- `LubHelp::None`.
abbrev pub no_bound : ℕ
no_bound = 15

-- The job is whole?
abbrev pub bad_job : ℕ
bad_job = 16

-- Every string of the value is text?
abbrev pub bad_text : ℕ
bad_text = 17

-- The limits are within their ranges?
abbrev pub bad_limits : ℕ
bad_limits = 20
