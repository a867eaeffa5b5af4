use Rattle.schemas.specs.Schema.{limits_in}
use Rattle.attributes.specs.Laws.Place.{placed_at, place_none}
use Rattle.validator.specs.Laws.Schemas.{schema-there}
use Rattle.validator.specs.Laws.Handed.{part-no-type, part-nothing, part_at}
use Rattle.validator.proofs.own_attribute_type.own_part_under.Goals as goal

pub returns-in_default : goal.returns-in_default
returns-in_default c =
    let args = c.args in
    part-no-type (limits_in args.schema.now) args.schema.now.sectioned.fair args.schema.now.bytes.now args.attr args.t.now _ (schema-there args.schema.now)
    c.in_default.ensures

pub returns-in_default-own_attribute : goal.returns-in_default-own_attribute
returns-in_default-own_attribute c =
    let args = c.args in
    let lacks = place_none _ _ _ c.own_attribute.result c.own_attribute.ensures.placed c.in_default-own_attribute.is in
    part-nothing (limits_in args.schema.now) args.schema.now.sectioned.fair args.schema.now.bytes.now args.attr args.t.now _ (schema-there args.schema.now) _
    c.in-Some.ensures.3 lacks

pub returns : goal.returns
returns c =
    let args = c.args in
    let placed = placed_at c.own_attribute.result c.own_attribute.ensures.placed c.in-Some-own_attribute.part c.in-Some-own_attribute.is in
    part_at (limits_in args.schema.now) args.schema.now.sectioned.fair args.schema.now.bytes.now args.attr args.t.now _ (schema-there args.schema.now) _
    c.in-Some.ensures.3 _ c.own_attribute.result c.in-Some-own_attribute.part placed.is c.in-Some-own_attribute.is c.own_attribute.ensures.spanned
