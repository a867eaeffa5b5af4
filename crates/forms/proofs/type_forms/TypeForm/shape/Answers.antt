use Rattle.std.proofs.Common.{arith, sym, lit<}
use Rattle.forms.specs.Laws.Kinds.{whole-kind}
use Rattle.forms.specs.Laws.AttributeRows.{record-rows, action-rows}
use Rattle.forms.specs.Laws.TypeForms.{as_set, as_record, as_entity, as_action, as_extension, entity-names, plain-form}
use Rattle.forms.proofs.type_forms.TypeForm.shape.Goals as goal

pub of-requires : goal.of-requires
of-requires c = whole-kind c.args.self.levels c.args.self.bytes.now c.args.self.whole

pub overflow_sub-result : goal.overflow_sub-result
overflow_sub-result c = omega (arith, (as_set c.args.self (sym c.in-Set.ensures)).deep)

pub invariant_of-result : goal.invariant_of-result
invariant_of-result c = record { whole = (as_set c.args.self (sym c.in-Set.ensures)).good }

pub at-requires : goal.at-requires
at-requires c = (lit< tt, (as_record c.args.self (sym c.in-Record.ensures)).fit)

pub overflow_sub-attributes : goal.overflow_sub-attributes
overflow_sub-attributes c = omega (arith, (as_record c.args.self (sym c.in-Record.ensures)).deep)

pub bounds-b-1 : goal.bounds-b-1
bounds-b-1 c = omega (arith, (as_record c.args.self (sym c.in-Record.ensures)).some)

pub invariant_of-attributes : goal.invariant_of-attributes
invariant_of-attributes c =
    let t = c.args.self in
    record { sound = (record-rows t.levels t.bytes.now t.whole c.at.result (sym c.in-Record.ensures) c.at.ensures.left c.at.ensures.entries c.at.ensures.bodies).0 }

pub slice_bounds-result-count-in-Entity : goal.slice_bounds-result-count-in-Entity
slice_bounds-result-count-in-Entity c = omega (arith, (as_entity c.args.self (sym c.in-Entity.ensures)).some)

pub slice_bounds-result-start-in-Entity : goal.slice_bounds-result-start-in-Entity
slice_bounds-result-start-in-Entity c = omega (arith, (as_entity c.args.self (sym c.in-Entity.ensures)).some)

pub at-requires-in-Action : goal.at-requires-in-Action
at-requires-in-Action c = (lit< tt, (as_action c.args.self (sym c.in-Action.ensures)).fit)

pub overflow_sub-attributes-in-Action : goal.overflow_sub-attributes-in-Action
overflow_sub-attributes-in-Action c = omega (arith, (as_action c.args.self (sym c.in-Action.ensures)).deep)

pub u16_at-requires : goal.u16_at-requires
u16_at-requires c = omega (arith, (as_action c.args.self (sym c.in-Action.ensures)).some)

pub invariant_of-attributes-in-Action : goal.invariant_of-attributes-in-Action
invariant_of-attributes-in-Action c =
    let t = c.args.self in
    let rows = c.at-in-Action in
    record { sound = (action-rows t.levels t.bytes.now t.whole rows.result (sym c.in-Action.ensures) rows.ensures.left rows.ensures.entries rows.ensures.bodies).0 }

pub u16_at-requires-in-Extension : goal.u16_at-requires-in-Extension
u16_at-requires-in-Extension c = omega (arith, (as_extension c.args.self (sym c.in-Extension.ensures)).sized)

pub returns-in-Set : goal.returns-in-Set
returns-in-Set c = let here = as_set c.args.self (sym c.in-Set.ensures) in (here.is, omega (arith, here.deep))

pub returns-in-Record : goal.returns-in-Record
returns-in-Record c =
    let t = c.args.self in
    let here = as_record t (sym c.in-Record.ensures) in
    ((record-rows t.levels t.bytes.now t.whole c.at.result (sym c.in-Record.ensures) c.at.ensures.left c.at.ensures.entries c.at.ensures.bodies).1, omega (arith, here.deep), c.at.ensures.few)

pub returns-in-Entity : goal.returns-in-Entity
returns-in-Entity c = entity-names c.args.self (sym c.in-Entity.ensures)

pub returns-in-Action : goal.returns-in-Action
returns-in-Action c =
    let t = c.args.self in
    let here = as_action t (sym c.in-Action.ensures) in
    let rows = c.at-in-Action in
    let said = (action-rows t.levels t.bytes.now t.whole rows.result (sym c.in-Action.ensures) rows.ensures.left rows.ensures.entries rows.ensures.bodies).1 in
    (rw c.u16_at.ensures.0 said, omega (arith, here.deep), rows.ensures.few, c.u16_at.ensures.1)

pub returns-in-Extension : goal.returns-in-Extension
returns-in-Extension c = (rw c.u16_at-in-Extension.ensures.0 (as_extension c.args.self (sym c.in-Extension.ensures)).is, c.u16_at-in-Extension.ensures.1)

pub returns-in_default : goal.returns-in_default
returns-in_default c =
    let d = c.in_default in
    plain-form c.args.self c.of.result c.of.ensures d.not-Set d.not-Record d.not-Entity d.not-Action d.not-Extension
