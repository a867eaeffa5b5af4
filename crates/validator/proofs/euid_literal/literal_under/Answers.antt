use Rattle.schemas.specs.Schema.{limits_in}
use native.Mathlib.Omega.{arith}
use Rattle.validator.specs.Laws.Schemas.{schema-there}
use Rattle.validator.specs.Laws.Uids.{uid-missing, uid-there, uid-read}
use Rattle.validator.specs.Laws.Literal.{literal-no-uid, literal-nothing, literal-over, literal-writes}
use Rattle.validator.proofs.euid_literal.literal_under.Goals as goal

pub returns-then-not-whole_uid : goal.returns-then-not-whole_uid
returns-then-not-whole_uid c =
    let args = c.args in
    let by-checked-there = schema-there args.schema.now in
    let by-uid-missing = uid-missing (limits_in args.schema.now) args.v.now c.whole_uid.result c.whole_uid.ensures
    c.if-not-whole_uid.true-raw in
    literal-no-uid (limits_in args.schema.now) c.args.schema.now.sectioned.fair args.schema.now.bytes.now args.v.now args.out.now by-checked-there by-uid-missing

pub u16_at-entity-requires : goal.u16_at-entity-requires
u16_at-entity-requires c =
    omega (
      arith,
      (uid-there (limits_in c.args.schema.now) c.args.v.now c.whole_uid.result c.whole_uid.ensures
          c.if-not-whole_uid.false-raw).0,
    )

pub u16_at-requires : goal.u16_at-requires
u16_at-requires c =
    omega (
      arith,
      (uid-there (limits_in c.args.schema.now) c.args.v.now c.whole_uid.result c.whole_uid.ensures
          c.if-not-whole_uid.false-raw).0,
    )

pub returns-in_default : goal.returns-in_default
returns-in_default c =
    let args = c.args in
    let uid = uid-read (limits_in args.schema.now) args.v.now c.whole_uid.result c.whole_uid.ensures c.if-not-whole_uid.false-raw
    c.u16_at-entity.result c.u16_at.result c.u16_at-entity.ensures.0 c.u16_at.ensures.0 in
    let there = schema-there args.schema.now in
    literal-nothing (limits_in args.schema.now) c.args.schema.now.sectioned.fair args.schema.now.bytes.now args.v.now args.out.now there c.u16_at-entity.result c.u16_at.result uid
    c.in_default.ensures

pub returns-then-not-answer_fits : goal.returns-then-not-answer_fits
returns-then-not-answer_fits c =
    let args = c.args in
    let uid = uid-read (limits_in args.schema.now) args.v.now c.whole_uid.result c.whole_uid.ensures c.if-not-whole_uid.false-raw
    c.u16_at-entity.result c.u16_at.result c.u16_at-entity.ensures.0 c.u16_at.ensures.0 in
    let there = schema-there args.schema.now in
    let x = c.in-Some.ensures in
    let bytes = x.bytes c.requires in
    literal-over (limits_in args.schema.now) c.args.schema.now.sectioned.fair args.schema.now.bytes.now args.v.now args.out.now there c.u16_at-entity.result c.u16_at.result uid
    c.in-Some.found x.is x.stands x.laid bytes c.length-n.result c.length-n.ensures c.answer_fits.result c.answer_fits.ensures
    c.if-not-answer_fits.true-raw

pub returns : goal.returns
returns c =
    let args = c.args in
    let uid = uid-read (limits_in args.schema.now) args.v.now c.whole_uid.result c.whole_uid.ensures c.if-not-whole_uid.false-raw
    c.u16_at-entity.result c.u16_at.result c.u16_at-entity.ensures.0 c.u16_at.ensures.0 in
    let there = schema-there args.schema.now in
    let x = c.in-Some.ensures in
    let bytes = x.bytes c.requires in
    literal-writes (limits_in args.schema.now) c.args.schema.now.sectioned.fair args.schema.now.bytes.now args.v.now args.out.now there c.u16_at-entity.result c.u16_at.result uid
    c.in-Some.found x.is x.stands x.laid bytes c.length-n.result c.length-n.ensures c.answer_fits.result c.answer_fits.ensures
    c.if-not-answer_fits.false-raw c.write.new.out c.write.ensures c.levels.result c.levels.ensures
