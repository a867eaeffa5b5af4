use Rattle.writing.specs.FormLengths.{seen}
use Rattle.forms.specs.Limits.{as_limits}
use lib.ListN.{length}
use Rattle.exports.specs.Laws.Brief.{brief, bound-short}
use Rattle.exports.proofs.checked_calls.tirncheav_least_upper_bound_checked.Goals as goal

pub answer_number-requires : goal.answer_number-requires
answer_number-requires c =
    let args = c.args in
    let least-upper-bound-checked-2 = c.least_upper_bound_checked in
    let by-bound-short = bound-short (as_limits c.check_again.result.limits) c.check_again.result.bytes.now args.mode args.t0.now args.t1.now
    (length args.out.now) in
    brief (seen least-upper-bound-checked-2.result) by-bound-short least-upper-bound-checked-2.ensures.answer
