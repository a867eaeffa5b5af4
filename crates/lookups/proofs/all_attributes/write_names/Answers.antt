use Rattle.std.proofs.Common.{arith}
use Rattle.forms.specs.Laws.Parts.{length_rest}
use Rattle.lookups.specs.Laws.Names.{naming-start, naming-room, naming-more, naming-end}
use Rattle.lookups.proofs.all_attributes.write_names.Goals as goal

pub loop-row-init : goal.loop-row-init
loop-row-init c = naming-start c.args.attributes c.args.kept.now c.requires

pub put_name-requires : goal.put_name-requires
put_name-requires c =
    let room = naming-room c.loop-row.invariant c.next.new.self c.in-Some.ensures in
    (omega (arith, length_rest c.loop-row.bytes c.loop-row.kept), c.name.ensures.1)

pub loop-row-preserved : goal.loop-row-preserved
loop-row-preserved c =
    naming-more c.loop-row.invariant c.next.new.self c.in-Some.ensures c.name.result c.name.ensures.0 c.put_name.new.out c.put_name.ensures

pub returns : goal.returns
returns c = naming-end c.loop-row.invariant c.in_default.ensures.none
