use Rattle.writing.specs.FormLengths.{seen}
use native.Mathlib.Omega.{arith}
use Rattle.forms.specs.Laws.Bytes.{Bytes-index}
use Rattle.exports.specs.Checks.{within}
use Rattle.exports.specs.Laws.Brief.{brief, measure-value-short}
use Rattle.exports.proofs.calls.tirncheav_measure_value.Goals as goal

pub answer_number-requires : goal.answer_number-requires
answer_number-requires c =
    let args = c.args in
    let bytes = Bytes-index args.v.now (λ i. omega (arith, c.type_inv.v i)) in
    brief (seen c.measure_value.result) (measure-value-short (within args.levels args.bytes) args.v.now bytes) c.measure_value.ensures
