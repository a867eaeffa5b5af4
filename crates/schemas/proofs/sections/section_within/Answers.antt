use Rattle.std.proofs.Common.{subst}
use Rattle.schemas.specs.declared.kinds.SectionKind.{SectionKind}
use Rattle.schemas.specs.SchemaBytes.{row_of, Inside}
use Rattle.schemas.proofs.sections.section_within.Goals as goal

pub rows_within-requires-clause-inside : goal.rows_within-requires-clause-inside
rows_within-requires-clause-inside c =
    subst (λ (k : SectionKind). Inside (row_of k).width c.args.x c.args.s.now) c.in-Entities.is c.requires

pub rows_within-requires-in-Actions-clause-inside : goal.rows_within-requires-in-Actions-clause-inside
rows_within-requires-in-Actions-clause-inside c =
    subst (λ (k : SectionKind). Inside (row_of k).width c.args.x c.args.s.now) c.in-Actions.is c.requires

pub rows_within-requires-in-Functions-clause-inside : goal.rows_within-requires-in-Functions-clause-inside
rows_within-requires-in-Functions-clause-inside c =
    subst (λ (k : SectionKind). Inside (row_of k).width c.args.x c.args.s.now) c.in-Functions.is c.requires
