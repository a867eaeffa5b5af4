use Rattle.std.proofs.Common.{arith, get_or}
use Rattle.schemas.specs.Laws.Bodies.{enumerated}
use Rattle.schemas.proofs.kinds.SectionKind.body_within.Goals as goal

pub bounds-e-2 : goal.bounds-e-2
bounds-e-2 c = omega (arith, rw c.in-Entities.is at c.requires)

pub returns-in-Actions : goal.returns-in-Actions
returns-in-Actions c = rw c.in-Actions.is c.body_within-in-Actions.ensures

pub returns-in-Functions : goal.returns-in-Functions
returns-in-Functions c = rw c.in-Functions.is c.arguments_within.ensures

pub returns-in-Entities : goal.returns-in-Entities
returns-in-Entities c =
    let closed = enumerated (get_or c.args.e.now 2 0) c.try_from.result c.try_from.ensures c.eq.result c.eq.ensures in
    rw c.in-Entities.is (rw closed at c.body_within.ensures)
