use Rattle.std.proofs.Common.{sym, ◌∙◌}
use Rattle.forms.specs.Modes.{as_mode}
use Rattle.writing.specs.FormLengths.{seen}
use Rattle.bound_lengths.specs.Sets.{set_length}
use Rattle.bound_lengths.specs.Laws.PastSets.{around-less, around-none}
use Rattle.bound_lengths.proofs.sets.sets_length.Goals as goal

pub loop-left-preserved : goal.loop-left-preserved
loop-left-preserved c =
    around-less (set_length (as_mode c.args.mode)) c.loop-left.left (seen c.loop-left.length) (seen c.set_length-length.result) c.loop-left-test.true
    c.set_length-length.ensures
    ∙ c.loop-left.invariant

pub returns : goal.returns
returns c =
    sym (around-none (set_length (as_mode c.args.mode)) c.loop-left.left (seen c.loop-left.length) c.loop-left-test.false) ∙ c.loop-left.invariant
