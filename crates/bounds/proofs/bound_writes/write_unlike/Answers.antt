use Rattle.std.proofs.Common.{refl}
use Rattle.forms.specs.Kinds.{kind_number}
use Rattle.forms.specs.Modes.{as_mode}
use Rattle.bounds.specs.Laws.BoundWrites.{unlike-room, unlike-written}
use Rattle.bounds.proofs.bound_writes.write_unlike.Goals as goal

pub put_first-requires : goal.put_first-requires
put_first-requires c =
    unlike-room (as_mode c.args.mode) (kind_number c.args.j) (kind_number c.args.k) c.requires _ c.in-Ok.ensures _ refl

pub returns : goal.returns
returns c =
    unlike-written (as_mode c.args.mode) (kind_number c.args.j) (kind_number c.args.k) c.requires _ c.in-Ok.ensures _ refl _ c.put_first.ensures
