use Rattle.std.specs.Prelude.{ℕ}
use Rattle.std.proofs.Common.{sym, ap, ◌∙◌}
use Rattle.forms.specs.declared.limits.Limits.{Limits}
use Rattle.exports.specs.Checks.{check_number, limits_in}
use Rattle.exports.specs.Laws.Checks.{check-kept}
use Rattle.entries.proofs.checked_calls.kept.Goals as goal

pub returns : goal.returns
returns c =
    let schema = c.args.schema.now in
    let came = c.tirncheav_check_schema.ensures in
    let limits : Limits = record { levels = 16; bytes = 4096 } in
    came ∙ check-kept limits schema ∙ ap (λ (n : ℕ). check_number (limits_in n) schema) (sym came)
