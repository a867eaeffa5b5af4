use Rattle.std.proofs.Common.{arith}
use Rattle.relations.specs.Laws.Disjoint.{name-room, named-action}
use Rattle.relations.proofs.are_types_disjoint.type_names.Goals as goal

pub slice_bounds-result-end : goal.slice_bounds-result-end
slice_bounds-result-end c = omega (arith, name-room c.args.t c.in-Action.ensures.0)

pub returns-in-Action-clause-some : goal.returns-in-Action-clause-some
returns-in-Action-clause-some c = named-action c.args.t c.in-Action.ensures.0
