use native.Mathlib.Omega.{arith}
use Rattle.schemas.proofs.kinds.SectionKind.follows.Goals as goal

pub entity_follows-requires : goal.entity_follows-requires
entity_follows-requires c = omega (arith, rw c.in-Entities.is at c.requires)

pub action_follows-requires : goal.action_follows-requires
action_follows-requires c = omega (arith, rw c.in-Actions.is at c.requires)

pub function_follows-requires : goal.function_follows-requires
function_follows-requires c = omega (arith, rw c.in-Functions.is at c.requires)

pub returns-in-Entities : goal.returns-in-Entities
returns-in-Entities c = rw c.in-Entities.is c.entity_follows.ensures

pub returns-in-Actions : goal.returns-in-Actions
returns-in-Actions c = rw c.in-Actions.is c.action_follows.ensures

pub returns-in-Functions : goal.returns-in-Functions
returns-in-Functions c = rw c.in-Functions.is c.function_follows.ensures
