use Prim.Native.Nat.{◌+◌}
use Rattle.std.specs.Prelude.{◌≡◌}
use Rattle.cedar.specs.Consistency.{plain_attrs}
use Rattle.forms.specs.TypeForms.{listed}
use Rattle.relations.proofs.is_plain.+attributes_plain_is_plain.Given as goal

abbrev pub decreases-attributes_plain : goal.decreases-attributes_plain
decreases-attributes_plain l = l.attributes.levels + l.attributes.levels + 1

abbrev pub decreases-is_plain : goal.decreases-is_plain
decreases-is_plain l = l.t.levels + l.t.levels

abbrev pub invariant-attributes_plain-loop-attribute : goal.invariant-attributes_plain-loop-attribute
invariant-attributes_plain-loop-attribute l =
    (l.attributes.levels ≡ l.fn.attributes.levels) × (plain_attrs (listed l.fn.attributes) ≡ plain_attrs (listed l.attributes))

abbrev pub decreases-attributes_plain-loop-attribute : goal.decreases-attributes_plain-loop-attribute
decreases-attributes_plain-loop-attribute l = l.attributes.rows.left
