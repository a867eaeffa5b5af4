use Prim.Native.Nat.{◌+◌}
use Rattle.std.specs.Prelude.{◌≡◌}
use Rattle.forms.specs.TypeForms.{listed}
use Rattle.writing.specs.Laws.FormLengths.{Summing}
use Rattle.conversions.specs.CoreTypes.{core_attrs}
use Rattle.conversions.proofs.core_types.+core_attributes_length_core_length.Given as goal

abbrev pub decreases-core_attributes_length : goal.decreases-core_attributes_length
decreases-core_attributes_length l = l.attributes.levels + l.attributes.levels + l.attributes.levels + 2

abbrev pub decreases-core_length : goal.decreases-core_length
decreases-core_length l = l.t.levels + l.t.levels + l.t.levels + 1

abbrev pub decreases-below_length : goal.decreases-below_length
decreases-below_length l = l.t.levels + l.t.levels + l.t.levels

abbrev pub invariant-core_attributes_length-loop-attribute : goal.invariant-core_attributes_length-loop-attribute
invariant-core_attributes_length-loop-attribute l =
    (l.attributes.levels ≡ l.fn.attributes.levels) × Summing (core_attrs (listed l.fn.attributes)) (core_attrs (listed l.attributes)) l.sum

abbrev pub decreases-core_attributes_length-loop-attribute : goal.decreases-core_attributes_length-loop-attribute
decreases-core_attributes_length-loop-attribute l = l.attributes.rows.left
