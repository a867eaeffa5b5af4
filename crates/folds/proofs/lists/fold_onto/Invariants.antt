use Rattle.std.proofs.Common.{◌≡◌, length}
use Rattle.cedar.specs.Calls.{step_fits}
use Rattle.cedar.specs.Fold.{fold_from}
use Rattle.forms.specs.Limits.{as_limits}
use Rattle.forms.specs.ListBytes.{dec_ts}
use Rattle.forms.specs.Modes.{as_mode}
use Rattle.forms.specs.Parts.{part}
use Rattle.forms.specs.TypeBytes.{dec}
use Rattle.folds.specs.Laws.Lists.{Folding}
use Rattle.folds.proofs.lists.fold_onto.Given as goal

abbrev pub invariant-loop-row : goal.invariant-loop-row
invariant-loop-row l =
    Folding (as_limits l.limits) (length l.initial.work) (as_mode l.mode)
    (fold_from (step_fits (as_limits l.limits) (length l.initial.work)) (as_mode l.mode) (dec l.limits.levels (part 0 l.len l.initial.last))
    (dec_ts l.limits.levels l.fn.types.left l.fn.types.entries.now l.fn.types.bodies.now))
    l.to l.last l.types.left l.types.entries.now l.types.bodies.now × (length l.work ≡ length l.initial.work) × (length l.last ≡ length l.initial.last)

abbrev pub decreases-loop-row : goal.decreases-loop-row
decreases-loop-row l = l.types.left
