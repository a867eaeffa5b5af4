-- The refusals' numbers. Assumes nothing: these are definitions.
use Rattle.std.specs.Prelude.{ℕ}
use Rattle.cedar.specs.Result.{bad_mode, bad_schema, bad_first, bad_second, bad_value, not_plain, unknown_function, not_convertible, step_too_long}
use Rattle.cedar.specs.Result.{answer_too_long, attribute_qualifier, record_width, entity_type, entity_record, no_bound, bad_job, bad_text, bad_limits}
use Rattle.forms.specs.declared.refusals.Refusal.{Refusal}
use Rattle.forms.specs.declared.refusals.Refusal.TheVariants.{Mode, Schema, First, Second, Value, NotPlain, Function, Conversion, Workspace, Answer}
use Rattle.forms.specs.declared.refusals.Refusal.TheVariants.{AttributeQualifier, RecordWidth, EntityType, EntityRecord, NoBound, Job, Text, Limits}

-- The number of each.
abbrev pub number_of : Refusal → ℕ
number_of Mode = bad_mode
number_of Schema = bad_schema
number_of First = bad_first
number_of Second = bad_second
number_of Value = bad_value
number_of NotPlain = not_plain
number_of Function = unknown_function
number_of Conversion = not_convertible
number_of Workspace = step_too_long
number_of Answer = answer_too_long
number_of AttributeQualifier = attribute_qualifier
number_of RecordWidth = record_width
number_of EntityType = entity_type
number_of EntityRecord = entity_record
number_of NoBound = no_bound
number_of Job = bad_job
number_of Text = bad_text
number_of Limits = bad_limits
