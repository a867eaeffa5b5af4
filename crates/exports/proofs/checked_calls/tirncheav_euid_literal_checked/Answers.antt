use Rattle.writing.specs.FormLengths.{seen}
use Rattle.forms.specs.Limits.{as_limits}
use lib.ListN.{length}
use Rattle.exports.specs.Laws.Brief.{brief, literal-short}
use Rattle.exports.proofs.checked_calls.tirncheav_euid_literal_checked.Goals as goal

pub answer_number-requires : goal.answer_number-requires
answer_number-requires c =
    let args = c.args in
    let euid-literal-checked-2 = c.euid_literal_checked in
    brief (seen euid-literal-checked-2.result) (literal-short (as_limits c.check_again.result.limits) c.check_again.result.bytes.now args.v.now (length
    args.out.now))
    euid-literal-checked-2.ensures.answer
