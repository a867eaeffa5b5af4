use Prim.Native.Nat.{◌+◌, ◌*◌}
use Rattle.cedar.specs.Text.{textual_values}
use Rattle.strings.specs.Bodies.{bodies_at}
use Rattle.strings.specs.Laws.Bodies.{BodiesAhead}
use Rattle.strings.proofs.values.+bodies_are_textual_body_is_textual_strings_are_text.Given as goal

abbrev pub decreases-bodies_are_textual : goal.decreases-bodies_are_textual
decreases-bodies_are_textual l = 3 * l.levels + 2

abbrev pub decreases-body_is_textual : goal.decreases-body_is_textual
decreases-body_is_textual l = 3 * l.levels + 1

abbrev pub decreases-strings_are_text : goal.decreases-strings_are_text
decreases-strings_are_text l = 3 * l.levels

abbrev pub invariant-bodies_are_textual-loop-left : goal.invariant-bodies_are_textual-loop-left
invariant-bodies_are_textual-loop-left l = BodiesAhead l.levels l.width (textual_values (bodies_at l.levels l.width l.at l.v)) l.left l.e l.b

abbrev pub decreases-bodies_are_textual-loop-left : goal.decreases-bodies_are_textual-loop-left
decreases-bodies_are_textual-loop-left l = l.left
