use Rattle.writing.specs.FormLengths.{seen}
use Rattle.exports.specs.Checks.{within}
use lib.ListN.{length}
use Rattle.exports.specs.Laws.Brief.{brief, bound-short}
use Rattle.exports.proofs.calls.tirncheav_least_upper_bound.Goals as goal

pub answer_number-requires : goal.answer_number-requires
answer_number-requires c =
    let args = c.args in
    let by-bound-short = bound-short (within args.levels args.bytes) args.schema.now args.mode args.t0.now args.t1.now (length
    args.out.now) in
    brief (seen c.least_upper_bound.result) by-bound-short c.least_upper_bound.ensures.answer
