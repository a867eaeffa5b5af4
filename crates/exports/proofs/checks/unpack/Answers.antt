use Rattle.exports.specs.Laws.Checks.{unpack-none, unpack-room, unpack-whole}
use Rattle.exports.proofs.checks.unpack.Goals as goal

pub returns-then-actions-eq0 : goal.returns-then-actions-eq0
returns-then-actions-eq0 c = unpack-none c.args.schema.now c.args.number c.requires c.if-actions-eq0.true

pub entries_end-requires : goal.entries_end-requires
entries_end-requires c = unpack-room c.args.schema.now c.args.number c.requires c.if-actions-eq0.false

pub returns : goal.returns
returns c =
    unpack-whole c.args.schema.now c.args.number c.requires c.if-actions-eq0.false c.entries_end.result c.entries_end.ensures
