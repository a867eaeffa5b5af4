use mathlib.Core.Path.{refl}
use Rattle.schemas.proofs.sections.section_at.Goals as goal

pub returns-in-Entities : goal.returns-in-Entities
returns-in-Entities c = rw (c.in-Entities.is, c.u16_at-m.ensures.0) refl

pub returns-in-Actions : goal.returns-in-Actions
returns-in-Actions c = rw (c.in-Actions.is, c.u16_at-m.ensures.0, c.u16_at-n.ensures.0) refl

pub returns-in-Functions : goal.returns-in-Functions
returns-in-Functions c = rw (c.in-Functions.is, c.u16_at-m.ensures.0, c.u16_at-n.ensures.0, c.u16_at.ensures.0) refl
