use Rattle.writing.specs.FormLengths.{seen}
use native.Mathlib.Omega.{arith}
use Rattle.forms.specs.Laws.Bytes.{Bytes-index}
use Rattle.exports.specs.Checks.{within}
use Rattle.exports.specs.Laws.Brief.{brief, measure-type-short}
use Rattle.exports.proofs.calls.tirncheav_measure_type.Goals as goal

pub answer_number-requires : goal.answer_number-requires
answer_number-requires c =
    let args = c.args in
    let bytes = Bytes-index args.t.now (λ i. omega (arith, c.type_inv.t i)) in
    brief (seen c.measure_type.result) (measure-type-short (within args.levels args.bytes) args.t.now bytes) c.measure_type.ensures
