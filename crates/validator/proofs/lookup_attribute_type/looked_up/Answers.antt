use Rattle.std.proofs.Common.{ap, ◌∙◌}
use Rattle.std.specs.Prelude.{Ok}
use Rattle.schemas.specs.Schema.{limits_in}
use Rattle.validator.specs.Laws.Lookup.{lookup-no-type, lookup-nothing, lookup-too-long, lookup-over, lookup-writes}
use native.Mathlib.Omega.{arith}
use lib.ListN.{length}
use Rattle.validator.specs.Laws.Questions.{type-missing, type-there, type-whole, type-few}
use Rattle.validator.specs.Laws.Schemas.{schema-there}
use Rattle.validator.proofs.lookup_attribute_type.looked_up.Goals as goal

pub returns-then-not-whole_type : goal.returns-then-not-whole_type
returns-then-not-whole_type c =
    let args = c.args in
    let by-checked-there = schema-there args.schema.now in
    let by-type-missing = type-missing (limits_in args.schema.now) args.t.now c.whole_type.result
    c.whole_type.ensures c.if-not-whole_type.true-raw in
    lookup-no-type (limits_in args.schema.now) c.args.schema.now.sectioned.fair args.schema.now.bytes.now args.attr args.t.now args.out.now (length
    args.work.now) _ by-checked-there by-type-missing

pub look_up-requires : goal.look_up-requires
look_up-requires c =
    let args = c.args in
    record {
      good = type-whole (limits_in args.schema.now) args.t.now c.whole_type.result c.whole_type.ensures c.if-not-whole_type.false-raw;
      few = type-few (limits_in args.schema.now) args.t.now c.whole_type.result c.whole_type.ensures c.if-not-whole_type.false-raw;
      room = c.requires.last_room;
    }

pub returns-then-not-answer_fits : goal.returns-then-not-answer_fits
returns-then-not-answer_fits c =
    let args = c.args in
    let by-checked-there = schema-there args.schema.now in
    let by-type-there = type-there (limits_in args.schema.now) args.t.now c.whole_type.result c.whole_type.ensures
    c.if-not-whole_type.false-raw in
    lookup-over (limits_in args.schema.now) c.args.schema.now.sectioned.fair args.schema.now.bytes.now args.attr args.t.now args.out.now (length
    args.work.now) _ by-checked-there _ by-type-there
    c.look_up.new.last c.look_up.result c.look_up.ensures c.in-Some.found (c.in-Ok.is ∙ ap Ok c.in-Some.is) (omega (arith, c.look_up.auto.last, c.requires.last_room))
    c.answer_fits.result
    c.answer_fits.ensures c.if-not-answer_fits.true-raw

pub returns : goal.returns
returns c =
    let args = c.args in
    let by-checked-there = schema-there args.schema.now in
    let by-type-there = type-there (limits_in args.schema.now) args.t.now c.whole_type.result c.whole_type.ensures
    c.if-not-whole_type.false-raw in
    lookup-writes (limits_in args.schema.now) c.args.schema.now.sectioned.fair args.schema.now.bytes.now args.attr args.t.now args.out.now (length
    args.work.now) _ by-checked-there _ by-type-there
    c.look_up.new.last c.look_up.result c.look_up.ensures c.in-Some.found (c.in-Ok.is ∙ ap Ok c.in-Some.is) (omega (arith, c.look_up.auto.last, c.requires.last_room))
    c.answer_fits.result
    c.answer_fits.ensures c.if-not-answer_fits.false-raw c.copy.new.out c.copy.ensures
    c.type_levels.result c.type_levels.ensures

pub returns-in_default-looked : goal.returns-in_default-looked
returns-in_default-looked c =
    let args = c.args in
    let by-checked-there = schema-there args.schema.now in
    let by-type-there = type-there (limits_in args.schema.now) args.t.now c.whole_type.result c.whole_type.ensures
    c.if-not-whole_type.false-raw in
    lookup-nothing (limits_in args.schema.now) c.args.schema.now.sectioned.fair args.schema.now.bytes.now args.attr args.t.now args.out.now (length
    args.work.now) _ by-checked-there _ by-type-there
    c.look_up.new.last c.look_up.result c.look_up.ensures (c.in-Ok.is ∙ ap Ok c.in_default-looked.is)

pub returns-in_default : goal.returns-in_default
returns-in_default c =
    let args = c.args in
    let by-checked-there = schema-there args.schema.now in
    let by-type-there = type-there (limits_in args.schema.now) args.t.now c.whole_type.result c.whole_type.ensures
    c.if-not-whole_type.false-raw in
    lookup-too-long (limits_in args.schema.now) c.args.schema.now.sectioned.fair args.schema.now.bytes.now args.attr args.t.now args.out.now (length
    args.work.now) _ by-checked-there _ by-type-there
    c.look_up.new.last c.look_up.result c.look_up.ensures _ c.in_default.is
