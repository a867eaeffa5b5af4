use Rattle.std.proofs.Common.{arith, sym, refl, ◌∙◌}
use Rattle.writing.specs.Laws.Laying.{behind-front, behind-ready, behind-written}
use Rattle.forms.specs.Laws.TypeForms.{listed-count}
use Rattle.conversions.specs.Laws.CoreTypes.{record-cut, one_name, action-core, entity-room, entity-written, extension-room, extension-written}
use Rattle.conversions.specs.Laws.CoreTypes.{atom-room, atom-written, core-laying, core-end, core-ready, core-entry, core-small, core-more, past-ready, past-written, set-not}
use Rattle.conversions.proofs.core_types.+write_core_write_core_attributes.Goals as goal

pub write_below-put_first-requires : goal.write_below-put_first-requires
write_below-put_first-requires t c = atom-room _ c.in-Plain.ensures c.requires.ready

pub write_below-put_record-requires : goal.write_below-put_record-requires
write_below-put_record-requires t c =
    (behind-front (record-cut _ c.in-Record.ensures.0 (sym (listed-count c.in-Record.attributes))) c.requires.ready, c.in-Record.ensures.2)

pub write_below-write_core_attributes-requires : goal.write_below-write_core_attributes-requires
write_below-write_core_attributes-requires t c =
    let cut = record-cut _ c.in-Record.ensures.0 (sym (listed-count c.in-Record.attributes)) in
    (omega (arith, c.decreases, c.in-Record.ensures.1), behind-ready cut c.requires.ready c.put_record.new.out 4 c.put_record.ensures refl)

pub write_below-u16_at-requires : goal.write_below-u16_at-requires
write_below-u16_at-requires t c = omega (arith, (one_name _ c.requires.ready _ c.in-Entity.ensures.0 c.in-Entity.ensures.1).0)

pub write_below-put_entity-requires : goal.write_below-put_entity-requires
write_below-put_entity-requires t c =
    (entity-room _ c.requires.ready (one_name _ c.requires.ready _ c.in-Entity.ensures.0 c.in-Entity.ensures.1).1, c.u16_at.ensures.1)

pub write_below-put_entity-requires-in-Action : goal.write_below-put_entity-requires-in-Action
write_below-put_entity-requires-in-Action t c = (entity-room _ c.requires.ready (action-core _ c.in-Action.ensures.0), c.in-Action.ensures.3)

pub write_below-put_kind-requires : goal.write_below-put_kind-requires
write_below-put_kind-requires t c = (extension-room _ c.requires.ready c.in-Extension.ensures.0, c.in-Extension.ensures.1)

pub write_below-returns-in-Plain : goal.write_below-returns-in-Plain
write_below-returns-in-Plain t c = atom-written _ c.in-Plain.ensures c.requires.ready _ c.put_first.new.out c.bool_or.ensures c.put_first.ensures

pub write_below-returns-in-Record : goal.write_below-returns-in-Record
write_below-returns-in-Record t c =
    let cut = record-cut _ c.in-Record.ensures.0 (sym (listed-count c.in-Record.attributes)) in
    let wrote = c.write_core_attributes in
    behind-written cut c.requires.ready c.put_record.new.out 4 c.put_record.ensures refl wrote.new.out wrote.result wrote.ensures

pub write_below-returns-in-Entity : goal.write_below-returns-in-Entity
write_below-returns-in-Entity t c =
    let one = one_name _ c.requires.ready _ c.in-Entity.ensures.0 c.in-Entity.ensures.1 in
    entity-written _ c.requires.ready c.u16_at.result c.put_entity.new.out one.1 c.u16_at.ensures.0 c.put_entity.ensures

pub write_below-returns-in-Action : goal.write_below-returns-in-Action
write_below-returns-in-Action t c =
    entity-written _ c.requires.ready _ c.put_entity-in-Action.new.out (action-core _ c.in-Action.ensures.0) refl c.put_entity-in-Action.ensures

pub write_below-returns-in-Extension : goal.write_below-returns-in-Extension
write_below-returns-in-Extension t c = extension-written _ c.requires.ready c.put_kind.new.out c.in-Extension.ensures.0 c.put_kind.ensures

pub write_core_attributes-loop-attribute-init : goal.write_core_attributes-loop-attribute-init
write_core_attributes-loop-attribute-init t c = (refl, core-laying _ _ (sym (listed-count c.args.attributes)) c.requires)

pub write_core_attributes-write_core-n-requires : goal.write_core_attributes-write_core-n-requires
write_core_attributes-write_core-n-requires t c =
    let here = c.in-Some.ensures in
    (omega (arith, c.decreases, here.below, c.loop-attribute.invariant.0), core-ready here c.loop-attribute.invariant.1)

pub write_core_attributes-put_attribute-requires : goal.write_core_attributes-put_attribute-requires
write_core_attributes-put_attribute-requires t c =
    let here = c.in-Some.ensures in
    let wrote = c.write_core-n in (
      core-entry here c.loop-attribute.invariant.1 wrote.new.out wrote.result wrote.ensures,
      (here.small, omega (arith, core-small here c.loop-attribute.invariant.1 wrote.new.out wrote.result wrote.ensures)),
    )

pub write_core_attributes-loop-attribute-preserved : goal.write_core_attributes-loop-attribute-preserved
write_core_attributes-loop-attribute-preserved t c =
    let here = c.in-Some.ensures in
    let wrote = c.write_core-n in (
      here.levels ∙ c.loop-attribute.invariant.0,
      core-more here c.loop-attribute.invariant.1 wrote.new.out wrote.result wrote.ensures c.put_attribute.new.out c.put_attribute.ensures,
    )

pub write_core_attributes-returns : goal.write_core_attributes-returns
write_core_attributes-returns t c = core-end c.loop-attribute.invariant.1 c.in_default.ensures

pub write_below-returns-in-Set : goal.write_below-returns-in-Set
write_below-returns-in-Set t c = set-not c.requires.no_set c.in-Set.ensures.0

pub write_core-write_below-requires : goal.write_core-write_below-requires
write_core-write_below-requires t c = (
  omega (arith, c.decreases, c.put_sets-sets.ensures.under.levels),
  (c.put_sets-sets.ensures.under.apart, past-ready c.put_sets-sets.ensures.under c.requires c.put_sets-sets.ensures.written),
)

pub write_core-returns : goal.write_core-returns
write_core-returns t c =
    past-written c.put_sets-sets.ensures.under c.requires c.put_sets-sets.ensures.written c.write_below.new.out c.write_below.result c.write_below.ensures
