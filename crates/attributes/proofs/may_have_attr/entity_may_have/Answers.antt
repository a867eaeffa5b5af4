use Rattle.std.proofs.Common.{refl}
use Rattle.schemas.specs.Schema.{said_by}
use Rattle.attributes.specs.Laws.MayHave.{none-may-have, one-may-have, next-may-have}
use Rattle.attributes.proofs.may_have_attr.entity_may_have.Goals as goal

pub returns-then-entity_type_may_have : goal.returns-then-entity_type_may_have
returns-then-entity_type_may_have c =
    let s = c.in-Some.ensures.steps in
    let may = c.entity_type_may_have in
    one-may-have (said_by c.args.schema.now) c.args.name c.loop-entity.invariant _ _ s.1.0 s.1.1 may.result c.u16_at.result c.u16_at.ensures.0
    may.ensures c.if-entity_type_may_have.true

pub loop-entity-preserved : goal.loop-entity-preserved
loop-entity-preserved c =
    let s = c.in-Some.ensures.steps in
    let may = c.entity_type_may_have in
    next-may-have (said_by c.args.schema.now) c.args.name c.loop-entity.invariant _ _ s.1.0 s.1.1 may.result c.u16_at.result c.u16_at.ensures.0
    may.ensures c.if-entity_type_may_have.false c.next.new.self s.0 refl

pub returns : goal.returns
returns c = none-may-have (said_by c.args.schema.now) c.args.name c.loop-entity.invariant c.in-None.ensures.steps.1.0
