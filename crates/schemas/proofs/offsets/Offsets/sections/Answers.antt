use Rattle.schemas.proofs.Laws.Offsets.{again-room, again-whole}
use Rattle.schemas.proofs.offsets.Offsets.sections.Goals as goal

pub section_at-requires : goal.section_at-requires
section_at-requires c = again-room c.args.limits c.args.s.now c.args.self c.requires

pub section_at-requires-2 : goal.section_at-requires-2
section_at-requires-2 c = again-room c.args.limits c.args.s.now c.args.self c.requires

pub section_at-requires-3 : goal.section_at-requires-3
section_at-requires-3 c = again-room c.args.limits c.args.s.now c.args.self c.requires

pub returns : goal.returns
returns c =
    again-whole c.args.limits c.args.s.now c.args.self c.requires c.section_at.result c.section_at-2.result
    c.section_at-3.result c.section_at.ensures c.section_at-2.ensures c.section_at-3.ensures
