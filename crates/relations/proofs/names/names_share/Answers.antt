use Rattle.std.proofs.Common.{sym, ◌∙◌, arith, eqb-true, refl}
use Rattle.std.proofs.lemmas.Bool.{eqb-false}
use Rattle.relations.specs.Laws.Names.{walk_start, walk-second, shares-skip, share-end, share-over, share-hit, share-past, first-name}
use Rattle.relations.proofs.names.names_share.Goals as goal

pub returns-then-is_empty : goal.returns-then-is_empty
returns-then-is_empty c = share-over (walk_start c.requires.first_up c.requires.second_up) (eqb-true _ 0 (sym c.is_empty.ensures ∙ c.if-is_empty.true))

pub search-init : goal.search-init
search-init c = (walk_start c.requires.first_up c.requires.second_up, (refl, eqb-false _ 0 (sym c.is_empty.ensures ∙ c.if-is_empty.false)))

pub u16_at-x-requires : goal.u16_at-x-requires
u16_at-x-requires c = omega (arith, (first-name c.search.invariant.0.first (eqb-false _ 0 (sym c.search-test.ensures))).some)

pub loop-b-init : goal.loop-b-init
loop-b-init c = c.search.invariant

pub u16_at-requires : goal.u16_at-requires
u16_at-requires c = omega (arith, (first-name c.loop-b.invariant.0.second c.loop-b.invariant.1.1).some)

pub slice_bounds-b-start : goal.slice_bounds-b-start
slice_bounds-b-start c = omega (arith, (first-name c.loop-b.invariant.0.second c.loop-b.invariant.1.1).some)

pub slice_bounds-b-count : goal.slice_bounds-b-count
slice_bounds-b-count c = omega (arith, (first-name c.loop-b.invariant.0.second c.loop-b.invariant.1.1).some)

pub loop-b-preserved : goal.loop-b-preserved
loop-b-preserved c = (
  walk-second c.loop-b.invariant.0 (eqb-false _ 0 (sym c.search-test.ensures)) c.loop-b.invariant.1.1 shares-skip
      (omega (arith, c.loop-b-test.true, c.u16_at-x.ensures.0, c.u16_at.ensures.0)),
  (c.loop-b.invariant.1.0, eqb-false _ 0 (sym c.is_empty-in-loop-b.ensures ∙ c.if-is_empty-2.false)),
)

pub returns-then-is_empty-2 : goal.returns-then-is_empty-2
returns-then-is_empty-2 c =
    let i = c.loop-b.invariant in
    i.1.0 ∙
    share-over (walk-second i.0 (eqb-false _ 0 (sym c.search-test.ensures)) i.1.1 shares-skip
    (omega (arith, c.loop-b-test.true, c.u16_at-x.ensures.0, c.u16_at.ensures.0)))
    (eqb-true _ 0 (sym c.is_empty-in-loop-b.ensures ∙ c.if-is_empty-2.true))

pub u16_at-requires-in-search : goal.u16_at-requires-in-search
u16_at-requires-in-search c = omega (arith, (first-name c.loop-b.invariant.0.second c.loop-b.invariant.1.1).some)

pub search-preserved : goal.search-preserved
search-preserved c = (
  share-past c.loop-b.invariant.0 (eqb-false _ 0 (sym c.search-test.ensures)) c.loop-b.invariant.1.1
      (omega (arith, c.loop-b-test.false, c.if-u16_at-x.false, c.u16_at-x.ensures.0, c.u16_at.ensures.0, c.u16_at-in-search.ensures.0)),
  c.loop-b.invariant.1,
)

pub returns-after-search : goal.returns-after-search
returns-after-search c = c.search.invariant.1.0 ∙ share-end c.search.invariant.0 (eqb-true _ 0 (sym c.search-test.ensures))

pub returns-then-u16_at-x : goal.returns-then-u16_at-x
returns-then-u16_at-x c =
    share-hit c.loop-b.invariant.0 (eqb-false _ 0 (sym c.search-test.ensures)) c.loop-b.invariant.1.1
    (sym c.u16_at-x.ensures.0 ∙ sym c.if-u16_at-x.true ∙ c.u16_at-in-search.ensures.0)
