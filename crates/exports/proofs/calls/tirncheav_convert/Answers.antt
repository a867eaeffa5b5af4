use Rattle.writing.specs.FormLengths.{seen}
use Rattle.exports.specs.Checks.{within}
use lib.ListN.{length}
use Rattle.exports.specs.Laws.Brief.{brief, convert-short}
use Rattle.exports.proofs.calls.tirncheav_convert.Goals as goal

pub answer_number-requires : goal.answer_number-requires
answer_number-requires c =
    brief (seen c.convert.result) (convert-short (within c.args.levels c.args.bytes) c.args.t.now (length
    c.args.out.now)) c.convert.ensures.answer
