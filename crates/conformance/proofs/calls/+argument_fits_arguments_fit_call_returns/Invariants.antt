use Rattle.schemas.specs.Schema.{said_by}
use Rattle.schemas.specs.SchemaBytes.{args_of}
use Rattle.cedar.specs.Conformance.{of_arguments}
use Rattle.conformance.specs.Walks.{arguments_of}
use Rattle.conformance.specs.Counts.{counts_of}
use Rattle.conformance.specs.Laws.Arguments.{ArgumentsAhead}
use Prim.Native.Nat.{◌+◌, ◌*◌}
use Rattle.conformance.proofs.calls.+argument_fits_arguments_fit_call_returns.Given as goal

abbrev pub decreases-argument_fits : goal.decreases-argument_fits
decreases-argument_fits l = 3 * l.levels + 1

abbrev pub decreases-arguments_fit : goal.decreases-arguments_fit
decreases-arguments_fit l = 3 * l.levels + 2

abbrev pub decreases-call_returns : goal.decreases-call_returns
decreases-call_returns l = 3 * l.levels + 3

abbrev pub invariant-arguments_fit-loop-argument : goal.invariant-arguments_fit-loop-argument
invariant-arguments_fit-loop-argument l = ArgumentsAhead l.levels (counts_of l.under.counts) (said_by l.under.schema) (of_arguments (counts_of l.under.counts) (said_by l.under.schema)
    (arguments_of l.levels l.v) (args_of l.asked)) l.arguments.left l.arguments.entries.now l.arguments.bodies.now l.left

abbrev pub decreases-arguments_fit-loop-argument : goal.decreases-arguments_fit-loop-argument
decreases-arguments_fit-loop-argument l = l.arguments.left
