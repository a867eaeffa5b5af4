use Rattle.attributes.specs.Laws.Literal.{action-written, entity-written}
use Rattle.attributes.proofs.euid_literal.Literal.write.Goals as goal

pub returns-in-Action : goal.returns-in-Action
returns-in-Action c =
    action-written c.args.self c.in-Action.body c.in-Action.is c.requires.laid c.args.out.now c.requires.in_bounds c.args.entity
    c.put_kind.new.out c.copy.new.out c.put_kind.ensures c.copy.ensures

pub returns-in-Entity : goal.returns-in-Entity
returns-in-Entity c =
    entity-written c.args.entity c.args.self c.in-Entity.is c.args.out.now c.put_entity.new.out c.put_entity.ensures
