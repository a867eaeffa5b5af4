use Rattle.std.proofs.Common.{◌∷◌, refl}
use Rattle.cedar.specs.Bytes.{u16}
use Rattle.writing.specs.Laws.Writing.{over-at}
use Rattle.writing.proofs.writers.put_entity.Goals as goal

pub returns : goal.returns
returns c =
    over-at c.args.out.now (10 ∷ u16 1) (u16 c.args.name) c.put_kind.new.out c.put_name.new.out 3 c.put_kind.ensures refl c.put_name.ensures c.requires.0
