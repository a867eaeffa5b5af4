use Rattle.std.proofs.Common.{List, ℕ, length, subst}
use Rattle.cedar.specs.Calls.{step_fits}
use Rattle.cedar.specs.Result.{Result}
use Rattle.schemas.specs.Schema.{limits_in}
use Rattle.attributes.specs.Laws.EntityAttribute.{rows-of}
use Rattle.lookups.specs.Names.{NamedBy}
use Rattle.lookups.specs.Laws.Lookup.{types-cut}
use Rattle.lookups.specs.Laws.Names.{no-types, no-entry, rows-keep}
use Rattle.lookups.proofs.all_attributes.entity_names.Goals as goal

pub returns-in_default : goal.returns-in_default
returns-in_default c = no-types c.args.schema.now _ c.args.types.now c.args.kept.now c.in_default.ensures.cases

pub returns-in_default-entity_attributes : goal.returns-in_default-entity_attributes
returns-in_default-entity_attributes c =
    let cut = c.in-Some.ensures.cases in
    no-entry c.args.schema.now _ c.args.types.now c.args.kept.now c.in-Some.first.now _ (types-cut _ _ _ cut.1 cut.2) cut.3
    c.u16_at.result c.u16_at.ensures.0 c.in_default-entity_attributes.ensures

pub returns : goal.returns
returns c =
    let cut = c.in-Some.ensures.cases in
    let keep = rows-keep c.args.schema.now (step_fits (limits_in c.args.schema.now) (length c.args.work.now)) c.args.types.now c.args.kept.now
    c.in-Some.first.now _ (types-cut _ _ _ cut.1 cut.2) cut.3 c.u16_at.result c.u16_at.ensures.0
    c.in-Some-entity_attributes.attributes (rows-of c.in-Some-entity_attributes.ensures) in
    subst (λ (o : Result (List ℕ)). NamedBy o c.args.kept.now c.kept_names.new.kept c.kept_names.result) keep c.kept_names.ensures
