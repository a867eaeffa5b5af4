use native.Mathlib.Omega.{arith}
use Prim.Native.Nat.{ℕ, ◌+◌}
use mathlib.Core.Path.{ap, ap₂}
use Rattle.schemas.specs.Laws.Walks.{at_least}
use Rattle.schemas.proofs.kinds.SectionKind.next.Goals as goal

pub u16_at-name-requires : goal.u16_at-name-requires
u16_at-name-requires c = omega (arith, c.requires, at_least c.args.self)

pub u16_at-requires : goal.u16_at-requires
u16_at-requires c = omega (arith, rw c.in-Actions.is at c.requires)

pub returns-in-Entities : goal.returns-in-Entities
returns-in-Entities c = rw c.in-Entities.is (ap (λ (n : ℕ). n + 1) c.u16_at-name.ensures.0)

pub returns-in-Actions : goal.returns-in-Actions
returns-in-Actions c = rw c.in-Actions.is (ap₂ (λ (i j : ℕ). (i, j + 1)) c.u16_at-name.ensures.0 c.u16_at.ensures.0)

pub returns-in-Functions : goal.returns-in-Functions
returns-in-Functions c = rw c.in-Functions.is (ap (λ (n : ℕ). n + 1) c.u16_at-name.ensures.0)
