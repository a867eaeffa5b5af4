use Rattle.std.proofs.Common.{◌≡◌, length}
use Rattle.cedar.specs.Attribute.{lookup_names}
use Rattle.cedar.specs.Calls.{step_fits}
use Rattle.cedar.specs.Result.{err}
use Rattle.forms.specs.Names.{names_in}
use Rattle.schemas.specs.Schema.{limits_in, said_by}
use Rattle.lookups.specs.Laws.Lookup.{looked-none, looked-some}
use Rattle.lookups.specs.Laws.Names.{named-err, keeping-end, keeping-too-long, keeping-drops, keeping-keeps}
use Rattle.lookups.proofs.all_attributes.kept_names.Goals as goal

pub returns-in_err-look_up_types : goal.returns-in_err-look_up_types
returns-in_err-look_up_types c =
    let s = c.args.schema.now in
    let lim = limits_in s in
    let told = lookup_names (step_fits lim (length c.loop-row.work)) (said_by s) c.name-name.result (names_in c.args.types.now) in
    let long : told ≡ err 9 = c.in_err-look_up_types.ensures in
    named-err _ c.args.kept.now c.loop-row.kept c.from_residual.result c.from_residual.ensures.0
    (keeping-too-long c.loop-row.invariant c.next.new.self c.in-Some.ensures c.name-name.result c.name-name.ensures.0
    (rw c.loop-row.auto.work at long))

pub loop-row-preserved-in_default-2 : goal.loop-row-preserved-in_default-2
loop-row-preserved-in_default-2 c =
    let s = c.args.schema.now in
    let lim = limits_in s in
    let told = lookup_names (step_fits lim (length c.loop-row.work)) (said_by s) c.name-name.result (names_in c.args.types.now) in
    let lacks = looked-none lim told c.look_up_types.new.last c.in_ok-look_up_types.field-0 c.in_ok-look_up_types.ensures c.in_default-2.is in
    keeping-drops c.loop-row.invariant c.next.new.self c.in-Some.ensures c.name-name.result c.name-name.ensures.0
    (rw c.loop-row.auto.work at lacks)

pub loop-row-preserved : goal.loop-row-preserved
loop-row-preserved c =
    let s = c.args.schema.now in
    let lim = limits_in s in
    let told = lookup_names (step_fits lim (length c.loop-row.work)) (said_by s) c.name-name.result (names_in c.args.types.now) in
    let has = looked-some lim told c.look_up_types.new.last c.in_ok-look_up_types.field-0 c.in_ok-look_up_types.ensures c.in-Some-2.field-0 c.in-Some-2.is in
    keeping-keeps c.loop-row.invariant c.next.new.self c.in-Some.ensures c.name-name.result c.name-name.ensures.0 _
    (rw c.loop-row.auto.work at has) c.put_name.new.out c.put_name.ensures

pub returns : goal.returns
returns c = keeping-end c.loop-row.invariant c.in_default.ensures.none
