use Rattle.std.proofs.Common.{◌≡◌, ◌∙◌, ap, sym, refl, arith}
use Rattle.std.specs.Prelude.{ℕ, ◌+◌}
use Rattle.forms.specs.Kinds.{kind_number}
use Rattle.forms.specs.Parts.{kind}
use Rattle.forms.specs.TypeBytes.{attr_row, whole}
use Rattle.forms.specs.declared.kinds.Kind.{Kind}
use Rattle.forms.specs.declared.kinds.Kind.TheVariants as is_kind
use Rattle.forms.specs.Laws.Kinds.{kind-differs, kind-most}
use Rattle.forms.specs.Laws.RowsWithin.{within-short, within-unfit, within-body, within-again, within-rows, within-start}
use Rattle.forms.specs.Laws.Rows.{rows_end}
use Rattle.forms.specs.Laws.TypeTwin.{attr-local}
use Rattle.forms.specs.Laws.Types.{sets-start, sets-again, whole-none, whole-empty, whole_by, record-short, record-flag, record-open}
use Rattle.forms.specs.Laws.Types.{unknown-not, atom-open}
use Rattle.forms.proofs.types.+attributes_within_type_within.Goals as goal

pub attributes_within-loop-ahead-init : goal.attributes_within-loop-ahead-init
attributes_within-loop-ahead-init t c = within-start attr_row (λ _. whole c.args.levels) 0 c.args.at c.args.t.now refl c.in-Some.ensures

pub attributes_within-returns-in_default-take : goal.attributes_within-returns-in_default-take
attributes_within-returns-in_default-take t c =
    within-short c.loop-ahead.invariant c.loop-ahead-test.true c.in_default-take.ensures ∙ sym (within-rows attr_row (λ _. whole c.args.levels) 0 c.args.at c.args.t.now refl c.in-Some.ensures)

pub attributes_within-returns-then-not-attribute_follows : goal.attributes_within-returns-then-not-attribute_follows
attributes_within-returns-then-not-attribute_follows t c =
    within-unfit c.loop-ahead.invariant attr-local c.in-Some-take.ensures.0 c.attribute_follows.result c.attribute_follows.ensures
    c.if-not-attribute_follows.true ∙ sym (within-rows attr_row (λ _. whole c.args.levels) 0 c.args.at c.args.t.now refl c.in-Some.ensures)

pub attributes_within-returns-then-not-type_within : goal.attributes_within-returns-then-not-type_within
attributes_within-returns-then-not-type_within t c =
    within-body c.loop-ahead.invariant attr-local c.in-Some-take.ensures.0 c.type_within.result c.type_within.ensures c.if-not-type_within.true
    ∙ sym (within-rows attr_row (λ _. whole c.args.levels) 0 c.args.at c.args.t.now refl c.in-Some.ensures)

pub attributes_within-loop-ahead-preserved : goal.attributes_within-loop-ahead-preserved
attributes_within-loop-ahead-preserved t c =
    within-again c.loop-ahead.invariant attr-local c.in-Some-take.ensures.0 c.attribute_follows.result c.attribute_follows.ensures
    c.if-not-attribute_follows.false c.in-Some-take.ensures.1 c.type_within.result c.type_within.ensures c.if-not-type_within.false
    (c.name-low.result + 1) (ap (λ (j : ℕ). j + 1) c.name-low.ensures.0)

pub attributes_within-returns : goal.attributes_within-returns
attributes_within-returns t c = rows_end c.loop-ahead.invariant c.loop-ahead-test.false c.is_empty.result c.is_empty.ensures ∙ sym (within-rows attr_row (λ _. whole c.args.levels) 0 c.args.at c.args.t.now refl c.in-Some.ensures)

pub type_within-loop-left-init : goal.type_within-loop-left-init
type_within-loop-left-init t c =
    let args = c.args in
    sets-start args.levels args.t.now

pub type_within-returns-then-left-eq0 : goal.type_within-returns-then-left-eq0
type_within-returns-then-left-eq0 t c = whole-none c.loop-left.left c.loop-left.b.now c.if-left-eq0.true ∙ sym c.loop-left.invariant.same

pub type_within-returns-then-b-eq0 : goal.type_within-returns-then-b-eq0
type_within-returns-then-b-eq0 t c =
    let loop = c.loop-left in
    whole-empty loop.left loop.b.now c.if-left-eq0.false c.if-b-eq0.true ∙ sym loop.invariant.same

pub type_within-loop-left-preserved : goal.type_within-loop-left-preserved
type_within-loop-left-preserved t c =
    let if2 = c.if-b-eq0 in
    let if1 = c.if-left-eq0 in
    let loop = c.loop-left in
    sets-again loop.invariant if1.false if2.false c.if-b.false

pub type_within-attributes_within-requires : goal.type_within-attributes_within-requires
type_within-attributes_within-requires t c =
    let loop = c.loop-left in
    omega (arith, loop.invariant.few)

pub type_within-returns-in_default : goal.type_within-returns-in_default
type_within-returns-in_default t c =
    let loop = c.loop-left in
    unknown-not loop.left loop.b.now c.if-left-eq0.false c.if-b-eq0.false c.in_default.ensures ∙ sym loop.invariant.same

pub type_within-returns-in-Entity : goal.type_within-returns-in-Entity
type_within-returns-in-Entity t c =
    let loop = c.loop-left in
    c.entity_within.ensures ∙ sym (loop.invariant.same ∙ whole_by loop.left loop.b.now c.if-left-eq0.false c.if-b-eq0.false 10 (sym c.in-Ok.ensures ∙ ap kind_number c.in-Entity.is))

pub type_within-returns-in-Action : goal.type_within-returns-in-Action
type_within-returns-in-Action t c =
    let loop = c.loop-left in
    c.attributes_within-in-Action.ensures ∙ sym (loop.invariant.same ∙ whole_by loop.left loop.b.now c.if-left-eq0.false c.if-b-eq0.false 11 (sym c.in-Ok.ensures ∙ ap kind_number c.in-Action.is))

pub type_within-returns-in-Extension : goal.type_within-returns-in-Extension
type_within-returns-in-Extension t c =
    let loop = c.loop-left in
    sym (loop.invariant.same ∙ whole_by loop.left loop.b.now c.if-left-eq0.false c.if-b-eq0.false 12 (sym c.in-Ok.ensures ∙ ap kind_number c.in-Extension.is))

pub type_within-returns-then-b-lt-RECORD_COUNT : goal.type_within-returns-then-b-lt-RECORD_COUNT
type_within-returns-then-b-lt-RECORD_COUNT t c =
    let loop = c.loop-left in
    record-short loop.left loop.b.now c.if-left-eq0.false c.if-b-eq0.false (sym c.in-Ok.ensures ∙ ap kind_number c.in-Record.is) c.if-b-lt-RECORD_COUNT.true
    ∙ sym loop.invariant.same

pub type_within-returns-then-b-gt-OPEN : goal.type_within-returns-then-b-gt-OPEN
type_within-returns-then-b-gt-OPEN t c =
    let loop = c.loop-left in
    record-flag loop.left loop.b.now c.if-left-eq0.false c.if-b-eq0.false (sym c.in-Ok.ensures ∙ ap kind_number c.in-Record.is) c.if-b-gt-OPEN.true ∙ sym loop.invariant.same

pub type_within-returns-else-b-gt-OPEN : goal.type_within-returns-else-b-gt-OPEN
type_within-returns-else-b-gt-OPEN t c =
    let loop = c.loop-left in
    let table = record-open loop.left loop.b.now c.if-left-eq0.false c.if-b-eq0.false (sym c.in-Ok.ensures ∙ ap kind_number c.in-Record.is) c.if-b-lt-RECORD_COUNT.false c.if-b-gt-OPEN.false in
    c.attributes_within.ensures ∙ sym (loop.invariant.same ∙ table)

pub type_within-returns-in_default-kind : goal.type_within-returns-in_default-kind
type_within-returns-in_default-kind t c =
    let loop = c.loop-left in
    let d = c.in_default-kind in
    let differs : (k : Kind) → (c.in-Ok.kind ≡ k → ⊥) → kind loop.b.now ≡ kind_number k → ⊥ =
    λ k h e. kind-differs c.in-Ok.kind k h (c.in-Ok.ensures ∙ e) in
    atom-open loop.left loop.b.now c.if-left-eq0.false c.if-b-eq0.false c.if-b.true (differs is_kind.Record d.not-Record)
    (differs is_kind.Entity d.not-Entity) (differs is_kind.Action d.not-Action) (differs is_kind.Extension d.not-Extension)
    (omega (arith, c.in-Ok.ensures, kind-most c.in-Ok.kind)) ∙ sym loop.invariant.same
