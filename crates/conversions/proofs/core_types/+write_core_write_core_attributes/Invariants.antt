use Prim.Native.Nat.{◌+◌}
use Rattle.std.specs.Prelude.{◌≡◌}
use Rattle.forms.specs.TypeForms.{listed}
use Rattle.writing.specs.Laws.Laying.{Laying}
use Rattle.conversions.specs.CoreTypes.{core_attrs}
use Rattle.conversions.proofs.core_types.+write_core_write_core_attributes.Given as goal

abbrev pub decreases-write_core : goal.decreases-write_core
decreases-write_core l = l.t.levels + l.t.levels + l.t.levels + 1

abbrev pub decreases-write_below : goal.decreases-write_below
decreases-write_below l = l.t.levels + l.t.levels + l.t.levels

abbrev pub decreases-write_core_attributes : goal.decreases-write_core_attributes
decreases-write_core_attributes l = l.attributes.levels + l.attributes.levels + l.attributes.levels + 2

abbrev pub invariant-write_core_attributes-loop-attribute : goal.invariant-write_core_attributes-loop-attribute
invariant-write_core_attributes-loop-attribute l =
    (l.attributes.levels ≡ l.fn.attributes.levels)
    × Laying (core_attrs (listed l.fn.attributes)) (core_attrs (listed l.attributes)) l.initial.out l.at l.pos l.out

abbrev pub decreases-write_core_attributes-loop-attribute : goal.decreases-write_core_attributes-loop-attribute
decreases-write_core_attributes-loop-attribute l = l.attributes.rows.left
