use Rattle.std.proofs.Common.{◌≡◌, Bool, arith, sym, subst, ◌∙◌}
use Rattle.std.proofs.Math.Option.{Option}
use Rattle.cedar.specs.Types.{Ty}
use Rattle.cedar.specs.Result.{Result}
use Rattle.forms.specs.Parts.{kind}
use Rattle.forms.specs.declared.kinds.Kind.TheVariants.{Entity}
use Rattle.forms.specs.Laws.Kinds.{whole-kind, kind-same}
use Rattle.forms.specs.Laws.Views.{is-entity}
use Rattle.schemas.specs.Schema.{limits_in, said_by}
use Rattle.attributes.specs.Laws.Place.{place_none}
use Rattle.lookups.specs.Lookup.{LookedUp}
use Rattle.lookups.specs.Laws.Lookup.{entity-lookup, own-none}
use Rattle.lookups.proofs.lookup_attribute_type.look_up.Goals as goal

pub of-requires : goal.of-requires
of-requires c = whole-kind _ c.args.t.now c.requires.good

pub slice_bounds-look_up_types-count : goal.slice_bounds-look_up_types-count
slice_bounds-look_up_types-count c = omega (arith, (is-entity _ c.args.t.now c.requires.good (sym c.in-Entity.ensures)).some)

pub slice_bounds-look_up_types-start : goal.slice_bounds-look_up_types-start
slice_bounds-look_up_types-start c = slice_bounds-look_up_types-count c

pub returns-in-Entity : goal.returns-in-Entity
returns-in-Entity c =
    let lim = limits_in c.args.schema.now in
    subst (λ (o : Result (Option (Bool × Ty))). LookedUp lim o c.look_up_types.new.last c.look_up_types.result)
    (entity-lookup _ (said_by c.args.schema.now) c.args.name lim.levels c.args.t.now c.requires.good (sym c.in-Entity.ensures))
    c.look_up_types.ensures

pub returns-in_default-own_attribute : goal.returns-in_default-own_attribute
returns-in_default-own_attribute c =
    let lim = limits_in c.args.schema.now in
    let other = λ (e : kind c.args.t.now ≡ 10). c.in_default.not-Entity (kind-same c.of.result Entity (c.of.ensures ∙ e)) in
    own-none _ (said_by c.args.schema.now) c.args.name lim.levels c.args.t.now c.requires.good other
    (place_none _ c.args.t.now _ c.own_attribute.result c.own_attribute.ensures.placed c.in_default-own_attribute.is)
