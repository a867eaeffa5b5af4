use Rattle.writing.specs.FormLengths.{seen}
use Rattle.forms.specs.Limits.{as_limits}
use lib.ListN.{length}
use Rattle.exports.specs.Laws.Brief.{brief, fold-short}
use Rattle.exports.proofs.checked_calls.tirncheav_reduce_to_least_upper_bound_checked.Goals as goal

pub answer_number-requires : goal.answer_number-requires
answer_number-requires c =
    let args = c.args in
    let reduce-to-least-upper-bound-checked-2 = c.reduce_to_least_upper_bound_checked in
    let by-fold-short = fold-short (as_limits c.check_again.result.limits) c.check_again.result.bytes.now args.mode args.list.now (length
    args.out.now) (length args.work.now) in
    brief (seen reduce-to-least-upper-bound-checked-2.result) by-fold-short reduce-to-least-upper-bound-checked-2.ensures.answer
