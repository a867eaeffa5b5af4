use Rattle.cedar.specs.Laws.DirectBound.{direct}
use Rattle.forms.specs.TypeForms.{type_of}
use Rattle.forms.specs.Modes.{as_mode}
use Rattle.bounds.specs.Laws.UntypedSets.{length-tells}
use Rattle.bounds.proofs.untyped_sets.is_untyped.Goals as goal

pub returns-in-Some : goal.returns-in-Some
returns-in-Some c =
    let args = c.args in
    let elements = direct (as_mode args.mode) (type_of args.x) (type_of args.y) in
    length-tells (as_mode args.mode) elements c.requires.bounded c.in-Some.n (rw c.in-Some.is at c.requires.known_length)
