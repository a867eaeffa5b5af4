use Rattle.writing.specs.FormLengths.{seen}
use Rattle.exports.specs.Checks.{within}
use lib.ListN.{length}
use Rattle.exports.specs.Laws.Brief.{brief, lookup-short}
use Rattle.exports.proofs.calls.tirncheav_lookup_attribute_type.Goals as goal

pub answer_number-requires : goal.answer_number-requires
answer_number-requires c =
    let args = c.args in
    let lookup-attribute-type-2 = c.lookup_attribute_type in
    let by-lookup-short = lookup-short (within args.levels args.bytes) args.schema.now args.attr args.t.now (length args.out.now)
    (length args.work.now) in
    brief (seen lookup-attribute-type-2.result) by-lookup-short lookup-attribute-type-2.ensures.answer
