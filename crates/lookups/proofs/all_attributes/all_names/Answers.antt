use Rattle.std.proofs.Common.{◌≡◌, List, ℕ, length, arith, sym, subst, ◌∙◌}
use Rattle.cedar.specs.Calls.{step_fits}
use Rattle.cedar.specs.Result.{Result}
use Rattle.forms.specs.Parts.{kind}
use Rattle.forms.specs.Kinds.{kind_number}
use Rattle.forms.specs.declared.kinds.Kind.{Kind}
use Rattle.forms.specs.declared.kinds.Kind.TheVariants.{Entity, Record, Action}
use Rattle.forms.specs.Laws.Kinds.{whole-kind, kind-same}
use Rattle.forms.specs.Laws.Views.{is-entity, is-record, is-action}
use Rattle.schemas.specs.Schema.{limits_in, said_by}
use Rattle.lookups.specs.Names.{NamedBy}
use Rattle.lookups.specs.Laws.Names.{entity-all, record-all, action-all, record-entered, action-entered, other-all}
use Rattle.lookups.proofs.all_attributes.all_names.Goals as goal

pub of-requires : goal.of-requires
of-requires c = whole-kind _ c.args.t.now c.requires.asked.good

pub slice_bounds-entity_names-count : goal.slice_bounds-entity_names-count
slice_bounds-entity_names-count c = omega (arith, (is-entity _ c.args.t.now c.requires.asked.good (sym c.in-Entity.ensures)).some)

pub slice_bounds-entity_names-start : goal.slice_bounds-entity_names-start
slice_bounds-entity_names-start c = slice_bounds-entity_names-count c

pub returns-in-Entity : goal.returns-in-Entity
returns-in-Entity c =
    let s = c.args.schema.now in
    let all = entity-all (step_fits (limits_in s) (length c.args.work.now)) (said_by s) _ c.args.t.now c.requires.asked.good c.args.kept.now (sym c.in-Entity.ensures) in
    subst (λ (o : Result (List ℕ)). NamedBy o c.args.kept.now c.entity_names.new.kept c.entity_names.result) all c.entity_names.ensures

pub at-requires : goal.at-requires
at-requires c = (omega arith, (is-record _ c.args.t.now c.requires.asked.good (sym c.in-Record.ensures)).fit)

pub write_names-requires : goal.write_names-requires
write_names-requires c =
    let s = c.args.schema.now in
    let rows = c.at.ensures in
    record-entered (step_fits (limits_in s) (length c.args.work.now)) (said_by s) _ c.args.t.now c.requires.asked.good c.args.kept.now c.at.result
    (omega (arith, c.requires.asked.few, c.requires.kept_room.0)) c.requires.kept_room.1 (sym c.in-Record.ensures) rows.left rows.entries rows.bodies

pub returns-in-Record : goal.returns-in-Record
returns-in-Record c =
    let s = c.args.schema.now in
    let rows = c.at.ensures in
    record-all (step_fits (limits_in s) (length c.args.work.now)) (said_by s) _ c.args.t.now c.requires.asked.good c.args.kept.now c.at.result
    (sym c.in-Record.ensures) rows.left rows.entries c.write_names.new.kept c.write_names.result c.write_names.ensures

pub at-requires-in-Action : goal.at-requires-in-Action
at-requires-in-Action c = (omega arith, (is-action _ c.args.t.now c.requires.asked.good (sym c.in-Action.ensures)).fit)

pub write_names-requires-in-Action : goal.write_names-requires-in-Action
write_names-requires-in-Action c =
    let s = c.args.schema.now in
    let rows = c.at-in-Action.ensures in
    action-entered (step_fits (limits_in s) (length c.args.work.now)) (said_by s) _ c.args.t.now c.requires.asked.good c.args.kept.now c.at-in-Action.result
    (omega (arith, c.requires.asked.few, c.requires.kept_room.0)) c.requires.kept_room.1 (sym c.in-Action.ensures) rows.left rows.entries rows.bodies

pub returns-in-Action : goal.returns-in-Action
returns-in-Action c =
    let s = c.args.schema.now in
    let rows = c.at-in-Action.ensures in
    action-all (step_fits (limits_in s) (length c.args.work.now)) (said_by s) _ c.args.t.now c.requires.asked.good c.args.kept.now c.at-in-Action.result
    (sym c.in-Action.ensures) rows.left rows.entries c.write_names-in-Action.new.kept c.write_names-in-Action.result c.write_names-in-Action.ensures

pub returns-in_default : goal.returns-in_default
returns-in_default c =
    let s = c.args.schema.now in
    let other = λ (k : Kind) (no : c.of.result ≡ k → ⊥) (e : kind c.args.t.now ≡ kind_number k). no (kind-same c.of.result k (c.of.ensures ∙ e)) in
    other-all (step_fits (limits_in s) (length c.args.work.now)) (said_by s) _ c.args.t.now c.requires.asked.good c.args.kept.now
    (other Entity c.in_default.not-Entity) (other Record c.in_default.not-Record) (other Action c.in_default.not-Action)
