use Rattle.std.specs.Prelude.{◌≡◌}
use Rattle.forms.specs.Modes.{as_mode}
use Rattle.writing.specs.FormLengths.{seen}
use Rattle.bound_lengths.specs.Sets.{around, set_length}
use Rattle.bound_lengths.proofs.sets.sets_length.Given as goal

abbrev pub invariant-loop-left : goal.invariant-loop-left
invariant-loop-left l = around l.left (set_length (as_mode l.mode)) (seen l.length) ≡ around l.fn.sets (set_length (as_mode l.mode)) (seen l.fn.element)

abbrev pub decreases-loop-left : goal.decreases-loop-left
decreases-loop-left l = l.left
