use Rattle.std.proofs.Common.{sym, ◌∙◌, ap, arith, eqb-true}
use Rattle.std.proofs.lemmas.Bool.{eqb-false}
use Rattle.relations.specs.Laws.Names.{walk_start, walk-second, subset-skip, subset-end, subset-over, subset-past, subset-both, first-name}
use Rattle.relations.proofs.names.names_subset.Goals as goal
use Rattle.relations.proofs.names.names_subset.Goals.{then-x-y-2, else-x-y-2}

pub loop-a-init : goal.loop-a-init
loop-a-init c = walk_start c.requires.first_up c.requires.second_up

pub returns-then-is_empty : goal.returns-then-is_empty
returns-then-is_empty c =
    subset-over c.loop-a.invariant (eqb-false _ 0 (sym c.loop-a-test.ensures)) (eqb-true _ 0 (sym c.if-is_empty.ensures))

pub u16_at-x-requires : goal.u16_at-x-requires
u16_at-x-requires c = omega (arith, (first-name c.loop-a.invariant.first (eqb-false _ 0 (sym c.loop-a-test.ensures))).some)

pub u16_at-y-requires : goal.u16_at-y-requires
u16_at-y-requires c = omega (arith, (first-name c.loop-a.invariant.second (eqb-false _ 0 (sym c.if-is_empty.ensures))).some)

pub returns-then-x-y : goal.returns-then-x-y
returns-then-x-y c =
    subset-past c.loop-a.invariant (eqb-false _ 0 (sym c.loop-a-test.ensures)) (eqb-false _ 0 (sym c.if-is_empty.ensures))
    (omega (arith, c.if-x-y.true, c.u16_at-x.ensures.0, c.u16_at-y.ensures.0))

pub loop-a-preserved : goal.loop-a-preserved
loop-a-preserved c =
    let p = eqb-false _ 0 (sym c.loop-a-test.ensures) in
    let q = eqb-false _ 0 (sym c.if-is_empty.ensures) in
    elim c.if-x-y-2.branch [
      | then-x-y-2 w ↦ rw (ap (λ z. z.now) w.a-is)
          (subset-both c.loop-a.invariant p q (sym c.u16_at-x.ensures.0 ∙ w.if-x-y-2.true ∙ c.u16_at-y.ensures.0))
      | else-x-y-2 w ↦ rw (ap (λ z. z.now) w.a-is)
          (walk-second c.loop-a.invariant p q subset-skip (omega (arith, c.if-x-y.false, w.if-x-y-2.false, c.u16_at-x.ensures.0, c.u16_at-y.ensures.0)))
    ]

pub returns : goal.returns
returns c = subset-end c.loop-a.invariant (eqb-true _ 0 (sym c.loop-a-test.ensures))
