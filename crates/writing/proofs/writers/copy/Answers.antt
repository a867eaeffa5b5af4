use Rattle.std.proofs.Common.{arith, refl}
use Rattle.writing.specs.Laws.Writing.{copy_more, copy-length, copy-end}
use Rattle.writing.proofs.writers.copy.Goals as goal

pub loop-i-init : goal.loop-i-init
loop-i-init c = (omega arith, refl, refl)

pub bounds-out-i : goal.bounds-out-i
bounds-out-i c =
    let loop = c.loop-i in
    omega (arith, copy-length c.args.src.now c.args.out.now loop.out loop.i loop.invariant.2 loop.invariant.0 c.requires)

pub loop-i-preserved : goal.loop-i-preserved
loop-i-preserved c =
    let loop = c.loop-i in
    (omega arith, loop.invariant.1, copy_more c.args.src.now c.args.out.now loop.out loop.i loop.invariant.2 (omega arith) c.requires)

pub returns : goal.returns
returns c =
    let loop = c.loop-i in
    copy-end c.args.src.now c.args.out.now loop.out loop.i loop.invariant.2 loop.invariant.0 (omega arith)
