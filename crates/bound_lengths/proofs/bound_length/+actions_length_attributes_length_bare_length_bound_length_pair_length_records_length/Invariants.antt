use Prim.Native.Nat.{◌+◌}
use Rattle.std.specs.Prelude.{◌≡◌}
use Rattle.cedar.specs.Laws.DirectBound.{direct_attrs}
use Rattle.forms.specs.Modes.{as_mode}
use Rattle.forms.specs.TypeForms.{listed}
use Rattle.writing.specs.Laws.FormLengths.{Summing}
use Rattle.bound_lengths.specs.Pairs.{joined_attrs}
use Rattle.bound_lengths.proofs.bound_length.+actions_length_attributes_length_bare_length_bound_length_pair_length_records_length.Given as goal

abbrev pub decreases-actions_length : goal.decreases-actions_length
decreases-actions_length l = l.a.levels + l.a.levels + l.a.levels + l.a.levels + l.a.levels + 4

abbrev pub decreases-attributes_length : goal.decreases-attributes_length
decreases-attributes_length l = l.attributes.levels + l.attributes.levels + l.attributes.levels + l.attributes.levels + l.attributes.levels + 3

abbrev pub decreases-bare_length : goal.decreases-bare_length
decreases-bare_length l = l.a.levels + l.a.levels + l.a.levels + l.a.levels + l.a.levels

abbrev pub decreases-bound_length : goal.decreases-bound_length
decreases-bound_length l = l.a.levels + l.a.levels + l.a.levels + l.a.levels + l.a.levels + 1

abbrev pub decreases-pair_length : goal.decreases-pair_length
decreases-pair_length l = l.attribute.form.levels + l.attribute.form.levels + l.attribute.form.levels + l.attribute.form.levels + l.attribute.form.levels + 2

abbrev pub decreases-records_length : goal.decreases-records_length
decreases-records_length l = l.a.levels + l.a.levels + l.a.levels + l.a.levels + l.a.levels + 4

abbrev pub invariant-attributes_length-loop-attribute : goal.invariant-attributes_length-loop-attribute
invariant-attributes_length-loop-attribute l =
    (l.attributes.levels ≡ l.fn.attributes.levels)
    × Summing (joined_attrs (as_mode l.mode) (listed l.fn.attributes) (listed l.fn.others)) (direct_attrs (as_mode l.mode) (listed l.attributes) (listed l.others)) l.sum

abbrev pub decreases-attributes_length-loop-attribute : goal.decreases-attributes_length-loop-attribute
decreases-attributes_length-loop-attribute l = l.attributes.rows.left
