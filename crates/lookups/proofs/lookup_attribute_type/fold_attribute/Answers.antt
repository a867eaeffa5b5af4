use Rattle.std.proofs.Common.{Bool, ◌&&◌, refl, ap, sym, ◌∙◌}
use Rattle.lookups.specs.Laws.Lookup.{attribute-none, folding-end, folding-lacks, folding-unbounded, folding-too-long, folding-next}
use Rattle.lookups.proofs.lookup_attribute_type.fold_attribute.Goals as goal
use Rattle.lookups.proofs.lookup_attribute_type.fold_attribute.Goals.{then-found, else-found}

pub returns-in_default : goal.returns-in_default
returns-in_default c =
    let s = c.in-Some.ensures.steps in
    folding-lacks c.loop-entity.invariant _ _ s.1.0 s.1.1 c.u16_at.result c.u16_at.ensures.0
    (attribute-none c.args.schema.now c.u16_at.result c.args.name c.entity_attribute.result c.entity_attribute.ensures c.in_default.not-Found)

pub returns-in-Err-Unbounded : goal.returns-in-Err-Unbounded
returns-in-Err-Unbounded c =
    let s = c.in-Some.ensures.steps in
    folding-unbounded c.loop-entity.invariant _ _ s.1.0 s.1.1 c.u16_at.result c.u16_at.ensures.0 c.in-Found.attribute.required
    c.in-Found.attribute.form.now c.in-Found.ensures.is c.join_step.new.last c.in-Err-Unbounded.field-0-0
    (rw c.in-Err-Unbounded.field-0-is at c.in-Err-Unbounded.ensures)

pub returns-in-Err-TooLong : goal.returns-in-Err-TooLong
returns-in-Err-TooLong c =
    let s = c.in-Some.ensures.steps in
    folding-too-long c.loop-entity.invariant _ _ s.1.0 s.1.1 c.u16_at.result c.u16_at.ensures.0 c.in-Found.attribute.required
    c.in-Found.attribute.form.now c.in-Found.ensures.is c.join_step.new.last
    (rw c.loop-entity.auto.work at (rw c.in-Err-TooLong.field-0-is at c.in-Err-TooLong.ensures))

pub loop-entity-preserved : goal.loop-entity-preserved
loop-entity-preserved c =
    let s = c.in-Some.ensures.steps in
    folding-next c.loop-entity.invariant _ _ s.1.0 s.1.1 c.u16_at.result c.u16_at.ensures.0 c.in-Found.attribute.required
    c.in-Found.attribute.form.now c.in-Found.ensures.is c.join_step.new.last c.in-Ok.n (rw c.loop-entity.auto.work at c.in-Ok.ensures)
    c.next.new.self s.0 refl _ refl
    (elim c.if-found.branch [
      | then-found w ↦ w.found-is ∙ sym (ap (λ (b : Bool). b && c.in-Found.attribute.required) w.if-found.true)
      | else-found w ↦ w.found-is ∙ w.if-found.false ∙ sym (ap (λ (b : Bool). b && c.in-Found.attribute.required) w.if-found.false)
    ])

pub returns : goal.returns
returns c = folding-end c.loop-entity.invariant c.in-None.ensures.steps.1.0
