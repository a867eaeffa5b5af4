use Rattle.schemas.specs.Schema.{limits_in}
use Rattle.validator.specs.Laws.Conformance.{conforms-no-type, conforms-no-value, conforms-no-text, conforms-said}
use Rattle.validator.specs.Laws.Values.{value-missing, value_there, value-whole}
use Rattle.validator.specs.Laws.Schemas.{schema-there}
use Rattle.validator.specs.Laws.Questions.{type-missing, type-there, type-whole}
use Rattle.conformance.specs.declared.verdicts.Verdict.TheVariants.{Holds, Fails, FailsInside, Unknown}
use Rattle.conformance.specs.Counts.{counts_of}
use Rattle.schemas.specs.SchemaBytes.{dec_s}
use Rattle.forms.specs.ValueBytes.{dec_v}
use Rattle.forms.specs.TypeBytes.{dec}
use Rattle.validator.proofs.typecheck_restricted_expr.conforms_under.Goals as goal

pub returns-then-not-whole_type : goal.returns-then-not-whole_type
returns-then-not-whole_type c =
    let z = c.whole_type in
    let s = c.args in
    conforms-no-type (counts_of s.counts) (limits_in s.schema.now) c.args.schema.now.sectioned.fair s.schema.now.bytes.now s.t.now s.v.now (dec_s (limits_in s.schema.now)
    s.schema.now.bytes.now)
    (schema-there s.schema.now) (type-missing (limits_in s.schema.now) s.t.now z.result z.ensures c.if-not-whole_type.true-raw)

pub returns-then-not-whole_value : goal.returns-then-not-whole_value
returns-then-not-whole_value c =
    let w = c.whole_value in
    let z = c.whole_type in
    let s = c.args in
    conforms-no-value (counts_of s.counts) (limits_in s.schema.now) c.args.schema.now.sectioned.fair s.schema.now.bytes.now s.t.now s.v.now (dec_s (limits_in s.schema.now)
    s.schema.now.bytes.now)
    (schema-there s.schema.now) (dec s.schema.now.sections.limits.levels s.t.now)
    (type-there (limits_in s.schema.now) s.t.now z.result z.ensures c.if-not-whole_type.false-raw) (value-missing (limits_in s.schema.now)
    s.v.now w.result w.ensures c.if-not-whole_value.true-raw)

pub is_textual-requires : goal.is_textual-requires
is_textual-requires c =
    let w = c.whole_value in
    let s = c.args in
    value-whole (limits_in s.schema.now) s.v.now w.result w.ensures c.if-not-whole_value.false-raw

pub returns-then-not-is_textual : goal.returns-then-not-is_textual
returns-then-not-is_textual c =
    let x = c.is_textual in
    let w = c.whole_value in
    let z = c.whole_type in
    let s = c.args in
    conforms-no-text (counts_of s.counts) (limits_in s.schema.now) c.args.schema.now.sectioned.fair s.schema.now.bytes.now s.t.now s.v.now
    (dec_s (limits_in s.schema.now) s.schema.now.bytes.now) (schema-there s.schema.now) (dec s.schema.now.sections.limits.levels s.t.now)
    (type-there (limits_in s.schema.now) s.t.now z.result z.ensures c.if-not-whole_type.false-raw) (dec_v s.schema.now.sections.limits.levels s.v.now)
    (value_there (limits_in s.schema.now) s.v.now w.result w.ensures c.if-not-whole_value.false-raw) x.result x.ensures c.if-not-is_textual.true-raw

pub conforms-said-requires : goal.conforms-said-requires
conforms-said-requires c =
    let w = c.whole_value in
    let z = c.whole_type in
    let s = c.args in record { t_whole = type-whole (limits_in s.schema.now) s.t.now z.result z.ensures c.if-not-whole_type.false-raw; v_whole = value-whole (limits_in s.schema.now) s.v.now w.result w.ensures c.if-not-whole_value.false-raw }

pub returns-in-Holds : goal.returns-in-Holds
returns-in-Holds c =
    let s = c.args in
    conforms-said (counts_of s.counts) (limits_in s.schema.now) c.args.schema.now.sectioned.fair s.schema.now.bytes.now s.t.now s.v.now
    (dec_s (limits_in s.schema.now) s.schema.now.bytes.now) (schema-there s.schema.now) (dec s.schema.now.sections.limits.levels s.t.now)
    (type-there (limits_in s.schema.now) s.t.now c.whole_type.result c.whole_type.ensures c.if-not-whole_type.false-raw)
    (dec_v s.schema.now.sections.limits.levels s.v.now)
    (value_there (limits_in s.schema.now) s.v.now c.whole_value.result c.whole_value.ensures c.if-not-whole_value.false-raw)
    c.is_textual.result c.is_textual.ensures c.if-not-is_textual.false-raw c.conforms-said.result c.conforms-said.ensures Holds c.in-Holds.is

pub returns-in-Fails : goal.returns-in-Fails
returns-in-Fails c =
    let s = c.args in
    conforms-said (counts_of s.counts) (limits_in s.schema.now) c.args.schema.now.sectioned.fair s.schema.now.bytes.now s.t.now s.v.now
    (dec_s (limits_in s.schema.now) s.schema.now.bytes.now) (schema-there s.schema.now) (dec s.schema.now.sections.limits.levels s.t.now)
    (type-there (limits_in s.schema.now) s.t.now c.whole_type.result c.whole_type.ensures c.if-not-whole_type.false-raw)
    (dec_v s.schema.now.sections.limits.levels s.v.now)
    (value_there (limits_in s.schema.now) s.v.now c.whole_value.result c.whole_value.ensures c.if-not-whole_value.false-raw)
    c.is_textual.result c.is_textual.ensures c.if-not-is_textual.false-raw c.conforms-said.result c.conforms-said.ensures Fails c.in-Fails.is

pub returns-in-FailsInside : goal.returns-in-FailsInside
returns-in-FailsInside c =
    let s = c.args in
    conforms-said (counts_of s.counts) (limits_in s.schema.now) c.args.schema.now.sectioned.fair s.schema.now.bytes.now s.t.now s.v.now
    (dec_s (limits_in s.schema.now) s.schema.now.bytes.now) (schema-there s.schema.now) (dec s.schema.now.sections.limits.levels s.t.now)
    (type-there (limits_in s.schema.now) s.t.now c.whole_type.result c.whole_type.ensures c.if-not-whole_type.false-raw)
    (dec_v s.schema.now.sections.limits.levels s.v.now)
    (value_there (limits_in s.schema.now) s.v.now c.whole_value.result c.whole_value.ensures c.if-not-whole_value.false-raw)
    c.is_textual.result c.is_textual.ensures c.if-not-is_textual.false-raw c.conforms-said.result c.conforms-said.ensures FailsInside c.in-FailsInside.is

pub returns-in-Unknown : goal.returns-in-Unknown
returns-in-Unknown c =
    let s = c.args in
    conforms-said (counts_of s.counts) (limits_in s.schema.now) c.args.schema.now.sectioned.fair s.schema.now.bytes.now s.t.now s.v.now
    (dec_s (limits_in s.schema.now) s.schema.now.bytes.now) (schema-there s.schema.now) (dec s.schema.now.sections.limits.levels s.t.now)
    (type-there (limits_in s.schema.now) s.t.now c.whole_type.result c.whole_type.ensures c.if-not-whole_type.false-raw)
    (dec_v s.schema.now.sections.limits.levels s.v.now)
    (value_there (limits_in s.schema.now) s.v.now c.whole_value.result c.whole_value.ensures c.if-not-whole_value.false-raw)
    c.is_textual.result c.is_textual.ensures c.if-not-is_textual.false-raw c.conforms-said.result c.conforms-said.ensures Unknown c.in-Unknown.is
