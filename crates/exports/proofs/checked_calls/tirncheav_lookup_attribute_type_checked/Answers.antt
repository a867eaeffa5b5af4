use Rattle.writing.specs.FormLengths.{seen}
use Rattle.forms.specs.Limits.{as_limits}
use lib.ListN.{length}
use Rattle.exports.specs.Laws.Brief.{brief, lookup-short}
use Rattle.exports.proofs.checked_calls.tirncheav_lookup_attribute_type_checked.Goals as goal

pub answer_number-requires : goal.answer_number-requires
answer_number-requires c =
    let args = c.args in
    let lookup-attribute-type-checked-2 = c.lookup_attribute_type_checked in
    let by-lookup-short = lookup-short (as_limits c.check_again.result.limits) c.check_again.result.bytes.now args.attr args.t.now (length
    args.out.now) (length args.work.now) in
    brief (seen lookup-attribute-type-checked-2.result) by-lookup-short lookup-attribute-type-checked-2.ensures.answer
