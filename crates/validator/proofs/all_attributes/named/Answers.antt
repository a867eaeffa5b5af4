use Rattle.schemas.specs.Schema.{limits_in}
use lib.ListN.{length}
use Rattle.validator.specs.Laws.Questions.{type-missing, type-there, type-whole, type-few}
use Rattle.validator.specs.Laws.Schemas.{schema-there}
use Rattle.validator.specs.Laws.Names.{names-no-type, names-too-long, names-over, names-write}
use Rattle.validator.proofs.all_attributes.named.Goals as goal

pub returns-then-not-whole_type : goal.returns-then-not-whole_type
returns-then-not-whole_type c =
    let args = c.args in
    let by-checked-there = schema-there args.schema.now in
    let by-type-missing = type-missing (limits_in args.schema.now) args.t.now c.whole_type.result
    c.whole_type.ensures c.if-not-whole_type.true-raw in
    names-no-type (limits_in args.schema.now) c.args.schema.now.sectioned.fair args.schema.now.bytes.now args.t.now args.out.now (length
    args.work.now) _ by-checked-there by-type-missing

pub all_names-requires : goal.all_names-requires
all_names-requires c =
    let args = c.args in record {
      asked = record {
        good = type-whole (limits_in args.schema.now) args.t.now c.whole_type.result c.whole_type.ensures
            c.if-not-whole_type.false-raw;
        few = type-few (limits_in args.schema.now) args.t.now c.whole_type.result c.whole_type.ensures
            c.if-not-whole_type.false-raw;
        room = c.requires.last_room;
      };
      kept_room = c.requires.kept_room;
    }

pub returns-in_default : goal.returns-in_default
returns-in_default c =
    let args = c.args in
    let by-checked-there = schema-there args.schema.now in
    let by-type-there = type-there (limits_in args.schema.now) args.t.now c.whole_type.result c.whole_type.ensures
    c.if-not-whole_type.false-raw in
    names-too-long (limits_in args.schema.now) c.args.schema.now.sectioned.fair args.schema.now.bytes.now args.t.now args.out.now (length
    args.work.now) _ by-checked-there _ by-type-there _
    c.all_names.new.kept c.all_names.result c.all_names.ensures _ c.in_default.is

pub returns-then-not-answer_fits : goal.returns-then-not-answer_fits
returns-then-not-answer_fits c =
    let args = c.args in
    let by-checked-there = schema-there args.schema.now in
    let by-type-there = type-there (limits_in args.schema.now) args.t.now c.whole_type.result c.whole_type.ensures
    c.if-not-whole_type.false-raw in
    names-over (limits_in args.schema.now) c.args.schema.now.sectioned.fair args.schema.now.bytes.now args.t.now args.out.now (length
    args.work.now) _ by-checked-there _ by-type-there _
    c.all_names.new.kept c.all_names.result c.all_names.ensures c.in-Ok.n c.in-Ok.is
    c.answer_fits.result c.answer_fits.ensures c.if-not-answer_fits.true-raw

pub returns : goal.returns
returns c =
    let args = c.args in
    let by-checked-there = schema-there args.schema.now in
    let by-type-there = type-there (limits_in args.schema.now) args.t.now c.whole_type.result c.whole_type.ensures
    c.if-not-whole_type.false-raw in
    names-write (limits_in args.schema.now) c.args.schema.now.sectioned.fair args.schema.now.bytes.now args.t.now args.out.now (length
    args.work.now) _ by-checked-there _ by-type-there _
    c.all_names.new.kept c.all_names.result c.all_names.ensures c.in-Ok.n c.in-Ok.is
    c.answer_fits.result c.answer_fits.ensures c.if-not-answer_fits.false-raw c.copy.new.out c.copy.ensures
