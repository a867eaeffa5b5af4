use Prim.Native.Nat.{◌+◌}
use Rattle.std.specs.Prelude.{◌≡◌}
use Rattle.cedar.specs.Consistency.{consistent_attrs}
use Rattle.forms.specs.TypeForms.{listed}
use Rattle.relations.specs.Laws.Meeting.{Meeting}
use Rattle.relations.proofs.is_consistent_with.+attributes_consistent_is_consistent_with.Given as goal

abbrev pub decreases-attributes_consistent : goal.decreases-attributes_consistent
decreases-attributes_consistent l = l.core.levels + l.core.levels + l.core.levels + l.core.levels + 2

abbrev pub decreases-record_consistent : goal.decreases-record_consistent
decreases-record_consistent l = l.core.levels + l.core.levels + l.core.levels + l.core.levels + 3

abbrev pub decreases-is_consistent_with : goal.decreases-is_consistent_with
decreases-is_consistent_with l = l.t1.levels + l.t1.levels + l.t1.levels + l.t1.levels + 1

abbrev pub decreases-parts_consistent : goal.decreases-parts_consistent
decreases-parts_consistent l = l.t1.levels + l.t1.levels + l.t1.levels + l.t1.levels

abbrev pub invariant-attributes_consistent-loop-attribute : goal.invariant-attributes_consistent-loop-attribute
invariant-attributes_consistent-loop-attribute l =
    (l.core.levels ≡ l.fn.core.levels)
    × Meeting l.is_open (consistent_attrs l.is_open (listed l.fn.attributes) (listed l.fn.core)) l.attributes l.core

abbrev pub decreases-attributes_consistent-loop-attribute : goal.decreases-attributes_consistent-loop-attribute
decreases-attributes_consistent-loop-attribute l = l.core.rows.left
