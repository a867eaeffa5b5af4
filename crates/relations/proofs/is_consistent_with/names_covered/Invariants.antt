use Rattle.std.specs.Prelude.{◌≡◌, false}
use Rattle.cedar.specs.Consistency.{covered_names}
use Rattle.forms.specs.TypeForms.{listed}
use Rattle.relations.proofs.is_consistent_with.names_covered.Given as goal

abbrev pub invariant-loop-attribute : goal.invariant-loop-attribute
invariant-loop-attribute l = covered_names (listed l.fn.attributes) false (listed l.fn.core) ≡ covered_names (listed l.attributes) false (listed l.core)

abbrev pub decreases-loop-attribute : goal.decreases-loop-attribute
decreases-loop-attribute l = l.attributes.rows.left
