use Rattle.writing.specs.FormLengths.{seen}
use Rattle.forms.specs.Limits.{as_limits}
use native.Mathlib.Omega.{arith}
use Rattle.exports.proofs.Laws.Numbers.{narrow}
use Rattle.exports.proofs.checked_calls.tirncheav_own_attribute_type_checked.Goals as goal

pub part_number-requires : goal.part_number-requires
part_number-requires c =
    let args = c.args in
    narrow (as_limits c.check_again.result.limits) c.check_again.result.bytes.now args.attr args.t (λ i. omega
    (arith, c.type_inv.t i)) (seen c.own_attribute_part_checked.result)
    c.own_attribute_part_checked.ensures
