use Rattle.std.proofs.Common.{◌∙◌, ap, sym, refl, arith, inl, inr}
use Rattle.std.proofs.Math.Bool.{true}
use Rattle.std.specs.Prelude.{ℕ, ◌+◌, leb, length}
use borrow.Author.Tests.{lt-leb, le-leb}
use Rattle.forms.specs.Kinds.{value_kind_number}
use Rattle.forms.specs.Parts.{rd}
use Rattle.forms.specs.ValueBytes.{member_row, pair_row, whole_v}
use Rattle.forms.specs.Laws.RowsWithin.{within-short, within-unfit, within-body, within-again, within-rows, within-start}
use Rattle.forms.specs.Laws.Rows.{rows_end}
use Rattle.forms.specs.Laws.Values.{empty, not_empty, value_none, value-empty, value-by, string-short, string-open, unknown-no-value}
use Rattle.forms.specs.Laws.ValueTwin.{member-local, pair-local}
use Rattle.forms.proofs.values.+members_within_pairs_within_value_within.Goals as goal

pub members_within-loop-ahead-init : goal.members_within-loop-ahead-init
members_within-loop-ahead-init t c = within-start member_row (λ _. whole_v c.args.levels) tt c.args.at c.args.v.now refl c.in-Some.ensures

pub members_within-returns-in_default-take : goal.members_within-returns-in_default-take
members_within-returns-in_default-take t c =
    within-short c.loop-ahead.invariant c.loop-ahead-test.true c.in_default-take.ensures ∙ sym (within-rows member_row (λ _. whole_v c.args.levels) tt c.args.at c.args.v.now refl c.in-Some.ensures)

pub members_within-returns-then-not-value_within : goal.members_within-returns-then-not-value_within
members_within-returns-then-not-value_within t c =
    within-body c.loop-ahead.invariant member-local c.in-Some-take.ensures.0 c.value_within.result c.value_within.ensures c.if-not-value_within.true
    ∙ sym (within-rows member_row (λ _. whole_v c.args.levels) tt c.args.at c.args.v.now refl c.in-Some.ensures)

pub members_within-loop-ahead-preserved : goal.members_within-loop-ahead-preserved
members_within-loop-ahead-preserved t c =
    within-again c.loop-ahead.invariant member-local c.in-Some-take.ensures.0 true refl refl c.in-Some-take.ensures.1 c.value_within.result c.value_within.ensures
    c.if-not-value_within.false tt refl

pub members_within-returns : goal.members_within-returns
members_within-returns t c = rows_end c.loop-ahead.invariant c.loop-ahead-test.false c.is_empty.result c.is_empty.ensures ∙ sym (within-rows member_row (λ _. whole_v c.args.levels) tt c.args.at c.args.v.now refl c.in-Some.ensures)

pub pairs_within-loop-ahead-init : goal.pairs_within-loop-ahead-init
pairs_within-loop-ahead-init t c = within-start pair_row (λ _. whole_v c.args.levels) 0 1 c.args.v.now refl c.in-Some.ensures

pub pairs_within-returns-in_default-take : goal.pairs_within-returns-in_default-take
pairs_within-returns-in_default-take t c =
    within-short c.loop-ahead.invariant c.loop-ahead-test.true c.in_default-take.ensures ∙ sym (within-rows pair_row (λ _. whole_v c.args.levels) 0 1 c.args.v.now refl c.in-Some.ensures)

pub pairs_within-returns-then-name-low : goal.pairs_within-returns-then-name-low
pairs_within-returns-then-name-low t c =
    let low = c.loop-ahead.low in
    let name = rd c.in-Some-take.pair.head.now 0 in
    within-unfit c.loop-ahead.invariant pair-local c.in-Some-take.ensures.0 (leb low name) refl (lt-leb low name (omega (arith, c.name.ensures.0, c.if-name-low.true)))
    ∙ sym (within-rows pair_row (λ _. whole_v c.args.levels) 0 1 c.args.v.now refl c.in-Some.ensures)

pub pairs_within-returns-then-not-value_within : goal.pairs_within-returns-then-not-value_within
pairs_within-returns-then-not-value_within t c =
    within-body c.loop-ahead.invariant pair-local c.in-Some-take.ensures.0 c.value_within.result c.value_within.ensures c.if-not-value_within.true
    ∙ sym (within-rows pair_row (λ _. whole_v c.args.levels) 0 1 c.args.v.now refl c.in-Some.ensures)

pub pairs_within-loop-ahead-preserved : goal.pairs_within-loop-ahead-preserved
pairs_within-loop-ahead-preserved t c =
    let low = c.loop-ahead.low in
    let name = rd c.in-Some-take.pair.head.now 0 in
    within-again c.loop-ahead.invariant pair-local c.in-Some-take.ensures.0 (leb low name) refl (le-leb low name (omega (arith, c.name.ensures.0, c.if-name-low.false)))
    c.in-Some-take.ensures.1 c.value_within.result c.value_within.ensures c.if-not-value_within.false (c.name-low.result + 1) (ap (λ (j : ℕ). j + 1) c.name-low.ensures.0)

pub pairs_within-returns : goal.pairs_within-returns
pairs_within-returns t c = rows_end c.loop-ahead.invariant c.loop-ahead-test.false c.is_empty.result c.is_empty.ensures ∙ sym (within-rows pair_row (λ _. whole_v c.args.levels) 0 1 c.args.v.now refl c.in-Some.ensures)

pub value_within-returns-then-levels-eq0 : goal.value_within-returns-then-levels-eq0
value_within-returns-then-levels-eq0 t c = value_none c.args.levels c.args.v.now c.if-levels-eq0.true

pub value_within-returns-then-is_empty : goal.value_within-returns-then-is_empty
value_within-returns-then-is_empty t c = value-empty c.args.levels c.args.v.now c.if-levels-eq0.false (empty c.args.v.now c.is_empty.result c.is_empty.ensures c.if-is_empty.true)

pub value_within-returns-in_default : goal.value_within-returns-in_default
value_within-returns-in_default t c =
    let some = not_empty c.args.v.now c.is_empty.result c.is_empty.ensures c.if-is_empty.false in
    unknown-no-value c.args.levels c.args.v.now c.if-levels-eq0.false some c.in_default.ensures

pub value_within-returns-in-False : goal.value_within-returns-in-False
value_within-returns-in-False t c =
    let some = not_empty c.args.v.now c.is_empty.result c.is_empty.ensures c.if-is_empty.false in
    elim c.in-False.is [
      | inl e ↦ sym (value-by c.args.levels c.args.v.now c.if-levels-eq0.false some 0 (sym c.in-Ok.ensures ∙ ap value_kind_number e))
      | inr e ↦ sym (value-by c.args.levels c.args.v.now c.if-levels-eq0.false some 1 (sym c.in-Ok.ensures ∙ ap value_kind_number e))
    ]

pub value_within-returns-in-Long : goal.value_within-returns-in-Long
value_within-returns-in-Long t c =
    let some = not_empty c.args.v.now c.is_empty.result c.is_empty.ensures c.if-is_empty.false in
    sym (value-by c.args.levels c.args.v.now c.if-levels-eq0.false some 2 (sym c.in-Ok.ensures ∙ ap value_kind_number c.in-Long.is))

pub value_within-returns-then-v-ge-STRING : goal.value_within-returns-then-v-ge-STRING
value_within-returns-then-v-ge-STRING t c =
    let some = not_empty c.args.v.now c.is_empty.result c.is_empty.ensures c.if-is_empty.false in
    string-open c.args.levels c.args.v.now c.if-levels-eq0.false some (sym c.in-Ok.ensures ∙ ap value_kind_number c.in-String.is) c.if-v-ge-STRING.true c.u16_at.result c.u16_at.ensures.0

pub value_within-returns-else-v-ge-STRING : goal.value_within-returns-else-v-ge-STRING
value_within-returns-else-v-ge-STRING t c =
    let some = not_empty c.args.v.now c.is_empty.result c.is_empty.ensures c.if-is_empty.false in
    lt-leb 3 (length c.args.v.now) (omega (arith, c.if-v-ge-STRING.false))
    ∙ string-short c.args.levels c.args.v.now c.if-levels-eq0.false some (sym c.in-Ok.ensures ∙ ap value_kind_number c.in-String.is) (omega (arith, c.if-v-ge-STRING.false))

pub value_within-returns-in-Uid : goal.value_within-returns-in-Uid
value_within-returns-in-Uid t c =
    let some = not_empty c.args.v.now c.is_empty.result c.is_empty.ensures c.if-is_empty.false in
    sym (value-by c.args.levels c.args.v.now c.if-levels-eq0.false some 4 (sym c.in-Ok.ensures ∙ ap value_kind_number c.in-Uid.is))

pub value_within-returns-in-Set : goal.value_within-returns-in-Set
value_within-returns-in-Set t c =
    let some = not_empty c.args.v.now c.is_empty.result c.is_empty.ensures c.if-is_empty.false in
    c.members_within.ensures ∙ sym (value-by c.args.levels c.args.v.now c.if-levels-eq0.false some 5 (sym c.in-Ok.ensures ∙ ap value_kind_number c.in-Set.is))

pub value_within-returns-in-Record : goal.value_within-returns-in-Record
value_within-returns-in-Record t c =
    let some = not_empty c.args.v.now c.is_empty.result c.is_empty.ensures c.if-is_empty.false in
    c.pairs_within.ensures ∙ sym (value-by c.args.levels c.args.v.now c.if-levels-eq0.false some 6 (sym c.in-Ok.ensures ∙ ap value_kind_number c.in-Record.is))

pub value_within-returns-in-Call : goal.value_within-returns-in-Call
value_within-returns-in-Call t c =
    let some = not_empty c.args.v.now c.is_empty.result c.is_empty.ensures c.if-is_empty.false in
    c.members_within-in-Call.ensures ∙ sym (value-by c.args.levels c.args.v.now c.if-levels-eq0.false some 7 (sym c.in-Ok.ensures ∙ ap value_kind_number c.in-Call.is))
