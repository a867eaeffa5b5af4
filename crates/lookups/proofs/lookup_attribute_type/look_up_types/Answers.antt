use Rattle.std.proofs.Common.{ap₂, subst, ◌∙◌, length, List, Bool, ℕ, ◌-◌}
use Rattle.std.proofs.Math.Option.{Option}
use Rattle.cedar.specs.Types.{Ty}
use Rattle.cedar.specs.Result.{Result}
use Rattle.cedar.specs.Attribute.{fold_attr}
use Rattle.forms.specs.TypeBytes.{dec}
use Rattle.forms.specs.Names.{names_in}
use Rattle.schemas.specs.Schema.{limits_in, said_by}
use Rattle.cedar.specs.Calls.{step_fits}
use Rattle.lookups.specs.Lookup.{LookedUp}
use Rattle.lookups.specs.Laws.Lookup.{attribute-none, types-cut, types-none, types-lack, types-fold}
use Rattle.lookups.proofs.lookup_attribute_type.look_up_types.Goals as goal

pub returns-in_default : goal.returns-in_default
returns-in_default c = types-none _ (said_by c.args.schema.now) c.args.name c.args.types.now c.in_default.ensures.cases

pub returns-in_default-entity_attribute : goal.returns-in_default-entity_attribute
returns-in_default-entity_attribute c =
    let cut = c.in-Some.ensures.cases in
    let lacks = attribute-none c.args.schema.now c.u16_at.result c.args.name c.entity_attribute.result c.entity_attribute.ensures c.in_default-entity_attribute.not-Found in
    types-lack _ (said_by c.args.schema.now) c.args.name c.args.types.now c.in-Some.first.now c.in-Some.others.now (types-cut _ _ _ cut.1 cut.2) cut.3 c.u16_at.result c.u16_at.ensures.0 lacks

pub returns : goal.returns
returns c =
    let s = said_by c.args.schema.now in
    let lim = limits_in c.args.schema.now in
    let fits = step_fits lim (length c.args.work.now) in
    let cut = c.in-Some.ensures.cases in
    let x = c.in-Found.attribute in
    let kept = c.keep-found.ensures in
    subst (λ (o : Result (Option (Bool × Ty))). LookedUp lim o c.fold_attribute.new.last c.fold_attribute.result)
    (ap₂ (λ (q : Bool) (z : List ℕ). fold_attr fits s c.args.name (q, dec (lim.levels - 1) z) (names_in c.in-Some.others.now)) kept.required kept.form
    ∙ types-fold fits s c.args.name c.args.types.now c.in-Some.first.now c.in-Some.others.now (types-cut _ _ _ cut.1 cut.2) cut.3 c.u16_at.result
    c.u16_at.ensures.0 x.required _ c.in-Found.ensures.is)
    c.fold_attribute.ensures
