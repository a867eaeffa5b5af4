use Rattle.std.proofs.Common.{arith}
use Rattle.schemas.specs.Laws.Finders.{entity-at, entity-not}
use Rattle.attributes.specs.Laws.EntityAttribute.{body-there, rows-there}
use Rattle.attributes.proofs.entity_attribute.entity_attributes.Goals as goal

pub returns-in_err-row : goal.returns-in_err-row
returns-in_err-row c =
    rw c.from_residual.ensures
    (entity-not c.args.schema.now.sectioned c.args.entity c.find_entity.result c.find_entity.ensures c.in_err-row.was)

pub at-requires : goal.at-requires
at-requires c =
    let entry = entity-at c.args.schema.now.sectioned c.args.entity c.find_entity.result c.find_entity.ensures c.in_ok-row.row c.in_ok-row.was in
    (omega arith, entry.body.view.fit)

pub returns : goal.returns
returns c =
    let entry = entity-at c.args.schema.now.sectioned c.args.entity c.find_entity.result c.find_entity.ensures c.in_ok-row.row c.in_ok-row.was in
    let body = body-there c.args.schema.now c.args.entity c.find_entity.result c.find_entity.ensures c.in_ok-row.row c.in_ok-row.was in
    rows-there c.args.schema.now entry body c.at.result c.at.ensures.left c.at.ensures.entries c.at.ensures.bodies
