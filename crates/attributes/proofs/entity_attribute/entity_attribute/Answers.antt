use Rattle.std.proofs.Common.{arith}
use Rattle.schemas.specs.Laws.Finders.{entity-at, entity-not}
use Rattle.attributes.specs.Laws.EntityAttribute.{body-there, entity-lacks, entity-has-there}
use Rattle.attributes.proofs.entity_attribute.entity_attribute.Goals as goal

pub returns-in_default : goal.returns-in_default
returns-in_default c = entity-not c.args.schema.now.sectioned c.args.entity c.find_entity.result c.find_entity.ensures c.in_default.is

pub invariant_of-body : goal.invariant_of-body
invariant_of-body c =
    let entry = entity-at c.args.schema.now.sectioned c.args.entity c.find_entity.result c.find_entity.ensures c.in-Some.row c.in-Some.is in
    record { whole = entry.body.good }

pub bounds-row-1 : goal.bounds-row-1
bounds-row-1 c =
    let entry = entity-at c.args.schema.now.sectioned c.args.entity c.find_entity.result c.find_entity.ensures c.in-Some.row c.in-Some.is in
    omega (arith, entry.body.view.some)

pub returns-in-Some-own_attribute : goal.returns-in-Some-own_attribute
returns-in-Some-own_attribute c =
    let entry = entity-at c.args.schema.now.sectioned c.args.entity c.find_entity.result c.find_entity.ensures c.in-Some.row c.in-Some.is in
    let body = body-there c.args.schema.now c.args.entity c.find_entity.result c.find_entity.ensures c.in-Some.row c.in-Some.is in
    entity-has-there c.args.schema.now entry c.args.name c.own_attribute.result c.own_attribute.ensures.placed body c.in-Some-own_attribute.attribute c.in-Some-own_attribute.is

pub returns-in-None : goal.returns-in-None
returns-in-None c =
    let entry = entity-at c.args.schema.now.sectioned c.args.entity c.find_entity.result c.find_entity.ensures c.in-Some.row c.in-Some.is in
    entity-lacks c.args.schema.now entry c.args.name c.own_attribute.result c.own_attribute.ensures.placed c.in-None.is
