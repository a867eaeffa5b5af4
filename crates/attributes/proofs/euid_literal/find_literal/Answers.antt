use Rattle.schemas.specs.Laws.Finders.{entity-at, entity-not, action-at, action-not}
use Rattle.attributes.specs.Laws.Literal.{literal-action-there, literal-no-action, literal-entity, literal-no-entity}
use Rattle.attributes.proofs.euid_literal.find_literal.Goals as goal

pub returns-in_err-action : goal.returns-in_err-action
returns-in_err-action c =
    let s = c.args.schema.now in
    let lacks = action-not s.sectioned c.args.entity c.args.id c.find_action.result c.find_action.ensures c.in_err-action.was in
    rw c.from_residual.ensures
    (literal-no-action s c.args.entity c.args.id c.is_action.result c.is_action.ensures c.if-is_action.true lacks)

pub returns-then-is_action : goal.returns-then-is_action
returns-then-is_action c =
    let s = c.args.schema.now in
    let has = action-at s.sectioned c.args.entity c.args.id c.find_action.result c.find_action.ensures c.in_ok-action.action c.in_ok-action.was in
    literal-action-there s c.args.entity c.args.id c.is_action.result c.is_action.ensures c.find_action.result c.find_action.ensures
    c.in_ok-action.action c.in_ok-action.was c.if-is_action.true has

pub returns-in_err-find_entity : goal.returns-in_err-find_entity
returns-in_err-find_entity c =
    let s = c.args.schema.now in
    let lacks = entity-not s.sectioned c.args.entity c.find_entity.result c.find_entity.ensures c.in_err-find_entity.was in
    rw c.from_residual-in_err-find_entity.ensures
    (literal-no-entity s c.args.entity c.args.id c.is_action.result c.is_action.ensures c.if-is_action.false lacks)

pub returns : goal.returns
returns c =
    let s = c.args.schema.now in
    let has = entity-at s.sectioned c.args.entity c.find_entity.result c.find_entity.ensures _ c.in_ok-find_entity.was in
    literal-entity s c.args.entity c.args.id c.is_action.result c.is_action.ensures c.if-is_action.false has
