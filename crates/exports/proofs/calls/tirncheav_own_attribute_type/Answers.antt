use Rattle.writing.specs.FormLengths.{seen}
use Rattle.exports.specs.Checks.{within}
use native.Mathlib.Omega.{arith}
use Rattle.exports.proofs.Laws.Numbers.{narrow}
use Rattle.exports.proofs.calls.tirncheav_own_attribute_type.Goals as goal

pub part_number-requires : goal.part_number-requires
part_number-requires c =
    let args = c.args in
    narrow (within args.levels args.bytes) args.schema.now args.attr args.t (λ i. omega (arith, c.type_inv.t i))
    (seen c.own_attribute_part.result)
    c.own_attribute_part.ensures
