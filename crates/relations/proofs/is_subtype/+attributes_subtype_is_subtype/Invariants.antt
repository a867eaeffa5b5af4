use Prim.Native.Nat.{◌+◌}
use Rattle.std.specs.Prelude.{◌≡◌}
use Rattle.cedar.specs.Subtype.{sub_attrs}
use Rattle.forms.specs.Modes.{as_mode}
use Rattle.forms.specs.TypeForms.{listed}
use Rattle.relations.specs.Laws.Walks.{Under}
use Rattle.relations.proofs.is_subtype.+attributes_subtype_is_subtype.Given as goal

abbrev pub decreases-attributes_subtype : goal.decreases-attributes_subtype
decreases-attributes_subtype l = l.upper.levels + l.upper.levels + l.upper.levels + l.upper.levels + 2

abbrev pub decreases-record_subtype : goal.decreases-record_subtype
decreases-record_subtype l = l.upper.levels + l.upper.levels + l.upper.levels + l.upper.levels + 3

abbrev pub decreases-is_subtype : goal.decreases-is_subtype
decreases-is_subtype l = l.t1.levels + l.t1.levels + l.t1.levels + l.t1.levels + 1

abbrev pub decreases-parts_subtype : goal.decreases-parts_subtype
decreases-parts_subtype l = l.t1.levels + l.t1.levels + l.t1.levels + l.t1.levels

abbrev pub invariant-attributes_subtype-loop-attribute : goal.invariant-attributes_subtype-loop-attribute
invariant-attributes_subtype-loop-attribute l =
    (l.upper.levels ≡ l.fn.upper.levels)
    × Under (as_mode l.mode) (sub_attrs (as_mode l.mode) (listed l.fn.lower) (listed l.fn.upper)) l.lower l.upper

abbrev pub decreases-attributes_subtype-loop-attribute : goal.decreases-attributes_subtype-loop-attribute
decreases-attributes_subtype-loop-attribute l = l.upper.rows.left
