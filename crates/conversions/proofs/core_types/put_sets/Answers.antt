use Rattle.conversions.specs.Laws.CoreTypes.{down-again, down-front, down-put}
use Rattle.conversions.proofs.core_types.put_sets.Goals as goal

pub put_first-requires : goal.put_first-requires
put_first-requires c = down-front c.loop-element.invariant.0 c.in-Some.element c.in-Some.ensures c.requires c.loop-element.invariant.1

pub loop-element-preserved : goal.loop-element-preserved
loop-element-preserved c =
    let so_far = c.loop-element.invariant in (
      down-again so_far.0 c.in-Some.element c.in-Some.ensures,
      down-put so_far.0 c.in-Some.element c.in-Some.ensures c.requires so_far.1 c.put_first.new.out c.put_first.ensures,
    )
