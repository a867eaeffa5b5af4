use Rattle.std.proofs.Common.{arith}
use Rattle.cedar.proofs.Laws.Limits.{allowed-bytes}
use Rattle.forms.specs.Laws.Bytes.{Bytes-index}
use Rattle.schemas.specs.Schema.{limits_in}
use Rattle.lookups.specs.Laws.Lookup.{kept-held}
use Rattle.lookups.proofs.lookup_attribute_type.keep.Goals as goal

pub returns-clause-held : goal.returns-clause-held
returns-clause-held c =
    let lim = limits_in c.args.schema.now in
    kept-held lim c.args.attribute c.requires.shown c.args.last.now c.copy.new.out c.copy.ensures
    (allowed-bytes lim c.args.schema.now.sectioned.fair).1 (Bytes-index c.copy.new.out (λ i. omega (arith, c.type_inv.last i)))
    c.requires.room c.copy.auto.out
