use Rattle.writing.specs.FormLengths.{seen}
use Rattle.exports.specs.Checks.{within}
use lib.ListN.{length}
use Rattle.exports.specs.Laws.Brief.{brief, literal-short}
use Rattle.exports.proofs.calls.tirncheav_euid_literal.Goals as goal

pub answer_number-requires : goal.answer_number-requires
answer_number-requires c =
    let args = c.args in
    brief (seen c.euid_literal.result) (literal-short (within args.levels args.bytes) args.schema.now args.v.now (length
    args.out.now))
    c.euid_literal.ensures.answer
