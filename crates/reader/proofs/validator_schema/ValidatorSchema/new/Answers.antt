use Rattle.std.specs.Prelude.{ℕ, List}
use Rattle.std.specs.Borrow.{Bor}
use mathlib.Core.Path.{ap, ◌∙◌}
use Rattle.forms.specs.declared.limits.Limits.{Limits}
use Rattle.schemas.specs.SchemaBytes.{checked}
use Rattle.schemas.specs.Offsets.{offsets_of}
use Rattle.reader.proofs.validator_schema.ValidatorSchema.new.Goals as goal

pub invariant_of-result : goal.invariant_of-result
invariant_of-result c =
    let limits = ap (λ (l : Limits). offsets_of (checked l c.new.result.bytes.now)) c.new.ensures.1 in
    let block = ap (λ (b : Bor (List ℕ)). offsets_of (checked c.args.limits b.now)) c.new.ensures.0 in
    record { own_check = c.offsets-offsets.ensures ∙ limits ∙ block }
