use Rattle.writing.specs.Laws.Writing.{written-room}
use Rattle.jobs.specs.Laws.Lines.{field_room, field_told}
use native.Mathlib.Omega.{arith}
use Rattle.jobs.proofs.lines.put_field.Goals as goal

pub put_decimal-at-requires : goal.put_decimal-at-requires
put_decimal-at-requires c = omega (arith, field_room c.args.n c.args.out.now c.requires)

pub put_one-requires : goal.put_one-requires
put_one-requires c =
    let put-decimal = c.put_decimal-at in
    let room = field_room c.args.n c.args.out.now c.requires in
    omega (arith, written-room put-decimal.ensures (omega arith))

pub returns : goal.returns
returns c =
    let put_one = c.put_one in
    let put-decimal = c.put_decimal-at in
    field_told c.args.n c.args.out.now c.requires put-decimal.ensures put_one.ensures
