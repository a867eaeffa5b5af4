use Rattle.std.proofs.Common.{refl}
use Rattle.bounds.specs.Laws.Unions.{name-more}
use Rattle.bounds.proofs.unions.write_union.Goals as goal

pub loop-name-preserved : goal.loop-name-preserved
loop-name-preserved c = record {
  left = c.in-Some.ensures.left;
  right = c.in-Some.ensures.right;
  writing = name-more c.loop-name.invariant.writing c.in-Some.ensures.is c.in-Some.name c.put_name.new.out refl c.put_name.ensures;
}
