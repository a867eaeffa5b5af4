use Rattle.writing.specs.FormLengths.{seen}
use Rattle.exports.specs.Checks.{within}
use lib.ListN.{length}
use Rattle.exports.specs.Laws.Brief.{brief, fold-short}
use Rattle.exports.proofs.calls.tirncheav_reduce_to_least_upper_bound.Goals as goal

pub answer_number-requires : goal.answer_number-requires
answer_number-requires c =
    let args = c.args in
    let reduce-to-least-upper-bound-2 = c.reduce_to_least_upper_bound in
    let by-fold-short = fold-short (within args.levels args.bytes) args.schema.now args.mode args.list.now (length args.out.now)
    (length args.work.now) in
    brief (seen reduce-to-least-upper-bound-2.result) by-fold-short reduce-to-least-upper-bound-2.ensures.answer
