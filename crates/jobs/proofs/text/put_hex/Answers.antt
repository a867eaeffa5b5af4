use Rattle.std.proofs.Common.{refl}
use Rattle.writing.specs.Laws.Writing.{writing_more}
use Rattle.jobs.specs.Laws.Text.{hex-from}
use Rattle.jobs.proofs.text.put_hex.Goals as goal

pub loop-x-preserved : goal.loop-x-preserved
loop-x-preserved c =
    writing_more c.loop-x.invariant _ _ _ _ (hex-from c.args.b.now c.loop-x.x-index _ c.loop-x-test.true refl) c.put_byte.ensures
