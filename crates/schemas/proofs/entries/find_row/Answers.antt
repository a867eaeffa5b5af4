use Rattle.std.proofs.Common.{arith}
use Rattle.schemas.specs.Laws.Entries.{laid-inside, find-start, find-head, find-here, find-again, find-end}
use Rattle.schemas.proofs.entries.find_row.Goals as goal

pub rows-rows-requires : goal.rows-rows-requires
rows-rows-requires g c = (omega arith, laid-inside c.requires.laid)

pub loop-row-init : goal.loop-row-init
loop-row-init g c =
    let rows = c.rows-rows.ensures in
    find-start c.args.key c.requires.wide c.requires.laid rows.left rows.entries rows.bodies

pub next-requires : goal.next-requires
next-requires g c = (omega arith, c.loop-row.invariant.laid)

pub has_key-requires : goal.has_key-requires
has_key-requires g c = find-head c.loop-row.invariant c.in-Some.ensures c.requires.wide

pub returns-then-has_key : goal.returns-then-has_key
returns-then-has_key g c =
    find-here c.loop-row.invariant c.in-Some.ensures c.requires.wide c.has_key.result c.has_key.ensures c.if-has_key.true

pub loop-row-preserved : goal.loop-row-preserved
loop-row-preserved g c =
    find-again c.loop-row.invariant c.in-Some.ensures c.requires.wide c.has_key.result c.has_key.ensures c.if-has_key.false

pub returns : goal.returns
returns g c = find-end c.loop-row.invariant c.in_default.ensures.none
