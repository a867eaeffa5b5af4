use Rattle.bounds.specs.Laws.TypedSets.{kinds-start, kinds-more, kinds-end}
use Rattle.std.proofs.Common.{arith}
use Rattle.bounds.proofs.untyped_sets.put_sets.Goals as goal

pub loop-at-init : goal.loop-at-init
loop-at-init c = record { within = omega arith; writing = kinds-start c.args.sets c.args.out.now c.requires }

pub loop-at-preserved : goal.loop-at-preserved
loop-at-preserved c =
    record {
      within = omega (arith, c.loop-at-test.true);
      writing = kinds-more c.args.sets c.loop-at.at c.loop-at.invariant.writing c.loop-at-test.true c.put_first.new.out c.put_first.ensures;
    }

pub returns : goal.returns
returns c = kinds-end c.args.sets c.loop-at.at c.loop-at.invariant.writing c.loop-at-test.false c.loop-at.invariant.within
