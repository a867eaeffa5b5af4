use Rattle.writing.specs.FormLengths.{seen}
use Rattle.forms.specs.Limits.{as_limits}
use Rattle.exports.specs.Laws.Brief.{brief, subtype-short}
use Rattle.exports.proofs.checked_calls.tirncheav_is_subtype_checked.Goals as goal

pub answer_number-requires : goal.answer_number-requires
answer_number-requires c =
    let args = c.args in
    brief (seen c.is_subtype_checked.result) (subtype-short (as_limits c.check_again.result.limits) c.check_again.result.bytes.now args.mode args.t0.now
    args.t1.now) c.is_subtype_checked.ensures
