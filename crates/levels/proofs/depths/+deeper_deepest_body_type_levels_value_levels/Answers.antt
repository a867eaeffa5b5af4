use mathlib.Core.Path.{ap, sym, ◌∙◌}
use Prim.Native.Nat.{suc, ◌-◌}
use native.Mathlib.Omega.{arith}
use Rattle.forms.specs.ValueBytes.{pair_row, whole_v}
use Rattle.forms.specs.Laws.Parts.{rest_0}
use Rattle.forms.specs.Laws.Bytes.{Bytes-index}
use Rattle.forms.specs.Laws.Bodies.{table-bodies}
use Rattle.forms.specs.Laws.Ahead.{ahead-room, ahead-inside, ahead-body}
use Rattle.std.proofs.Common.{◌≡◌}
use Rattle.forms.specs.Kinds.{kind_number, value_kind_number}
use Rattle.forms.specs.Parts.{kind}
use Rattle.forms.specs.declared.kinds.Kind.{Kind}
use Rattle.forms.specs.declared.kinds.Kind.TheVariants as is_kind
use Rattle.forms.specs.declared.kinds.ValueKind.{ValueKind}
use Rattle.forms.specs.declared.kinds.ValueKind.TheVariants as is_value
use Rattle.forms.specs.Laws.Kinds.{whole-kind, kind-differs, value-kind-differs}
use Rattle.forms.specs.Laws.Views.{not-empty, whole-level, is_set}
use Rattle.forms.specs.Laws.Values.{value-level, value-first, value_as, value-kind}
use Rattle.levels.specs.declared.depths.Form.TheVariants.{Types as types, Values as values}
use Rattle.levels.specs.Deepest.{deepest_at}
use Rattle.levels.specs.Laws.Deepest.{levels-bounds, bodies-none, bodies-start, bodies-left, bodies-end, bodies-passed, bodies-again}
use Rattle.levels.specs.Laws.Deepest.{sets-again, sets_end}
use Rattle.levels.specs.Laws.Deepest.{record-levels, action-levels, lone-levels, record-bodies, action-bodies}
use Rattle.levels.specs.Laws.Deepest.{set-value-levels, record-value-levels, call-levels, lone-value-levels}
use Rattle.levels.proofs.depths.+deeper_deepest_body_type_levels_value_levels.Goals as goal
use Rattle.levels.proofs.depths.+deeper_deepest_body_type_levels_value_levels.Goals.{deepest_body-then-most-len, deepest_body-else-most-len}

pub deepest_body-returns-then-n-eq0 : goal.deepest_body-returns-then-n-eq0
deepest_body-returns-then-n-eq0 t c =
    let count = c.u16_at-n in
    let args = c.args in
    bodies-none args.form args.levels args.width args.at args.t.now c.requires.t_table count.result count.ensures.0 c.if-n-eq0.true

pub deepest_body-loop-left-init : goal.deepest_body-loop-left-init
deepest_body-loop-left-init t c =
    let if1 = c.if-n-eq0 in
    let count = c.u16_at-n in
    let args = c.args in
    bodies-start args.form args.levels args.width args.at args.t.now c.requires.t_table count.result count.ensures.0 (Bytes-index args.t.now (λ i. (c.type_inv.t i).fits)) count.ensures.1 if1.false

pub deepest_body-u16_at-len-requires : goal.deepest_body-u16_at-len-requires
deepest_body-u16_at-len-requires t c =
    let loop = c.loop-left in
    omega (arith, ahead-room loop.invariant.rows (bodies-left loop.invariant c.loop-left-test.true))

pub deepest_body-slice_bounds-deeper-end : goal.deepest_body-slice_bounds-deeper-end
deepest_body-slice_bounds-deeper-end t c =
    let size = c.u16_at-len in
    let loop = c.loop-left in
    omega (arith, ahead-inside loop.invariant.rows (bodies-left loop.invariant c.loop-left-test.true) size.result size.ensures.0)

pub deepest_body-deeper-most-requires : goal.deepest_body-deeper-most-requires
deepest_body-deeper-most-requires t c =
    let size = c.u16_at-len in
    let loop = c.loop-left in
    (omega arith, ahead-body loop.invariant.rows (bodies-left loop.invariant c.loop-left-test.true) size.result size.ensures.0)

pub deepest_body-slice_bounds-e-count-in-loop-left : goal.deepest_body-slice_bounds-e-count-in-loop-left
deepest_body-slice_bounds-e-count-in-loop-left t c =
    let loop = c.loop-left in
    omega (arith, ahead-room loop.invariant.rows (bodies-left loop.invariant c.loop-left-test.true))

pub deepest_body-slice_bounds-e-start-in-loop-left : goal.deepest_body-slice_bounds-e-start-in-loop-left
deepest_body-slice_bounds-e-start-in-loop-left t c =
    let loop = c.loop-left in
    omega (arith, ahead-room loop.invariant.rows (bodies-left loop.invariant c.loop-left-test.true))

pub deepest_body-overflow_sub-left : goal.deepest_body-overflow_sub-left
deepest_body-overflow_sub-left t c =
    let loop = c.loop-left in
    omega (arith, bodies-left loop.invariant c.loop-left-test.true)

pub deepest_body-loop-left-smaller : goal.deepest_body-loop-left-smaller
deepest_body-loop-left-smaller t c =
    let loop = c.loop-left in
    omega (arith, bodies-left loop.invariant c.loop-left-test.true)

pub deepest_body-loop-left-preserved : goal.deepest_body-loop-left-preserved
deepest_body-loop-left-preserved t c =
    let if2 = c.if-most-len in
    let size = c.u16_at-len in
    let loop = c.loop-left in
    let some = bodies-left loop.invariant c.loop-left-test.true in
    bodies-again loop.invariant some size.result size.ensures.0 size.ensures.1 if2.most (elim if2.branch [
      | deepest_body-then-most-len w ↦ w.most-is ∙ w.deeper-most.ensures
      | deepest_body-else-most-len w ↦ w.most-is ∙ bodies-passed loop.invariant some size.result size.ensures.0 (omega (arith, w.if-most-len.false))
    ])

pub deepest_body-returns : goal.deepest_body-returns
deepest_body-returns t c = bodies-end c.loop-left.invariant (omega arith)

pub type_levels-bounds-b-0 : goal.type_levels-bounds-b-0
type_levels-bounds-b-0 t c =
    let loop = c.loop-b in
    omega (arith, not-empty loop.left loop.b.now loop.invariant.good)

pub type_levels-overflow_sub-left : goal.type_levels-overflow_sub-left
type_levels-overflow_sub-left t c =
    let loop = c.loop-b in
    omega (arith, (is_set loop.left loop.b.now loop.invariant.good c.loop-b-test.true).deep)

pub type_levels-loop-b-smaller : goal.type_levels-loop-b-smaller
type_levels-loop-b-smaller t c =
    let loop = c.loop-b in
    omega (arith, (is_set loop.left loop.b.now loop.invariant.good c.loop-b-test.true).deep)

pub type_levels-loop-b-preserved : goal.type_levels-loop-b-preserved
type_levels-loop-b-preserved t c =
    let loop = c.loop-b in
    sets-again loop.invariant c.loop-b-test.true

pub type_levels-overflow_add-above : goal.type_levels-overflow_add-above
type_levels-overflow_add-above t c =
    let loop = c.loop-b in
    omega (arith, loop.invariant.few, whole-level loop.left loop.b.now loop.invariant.good)

pub type_levels-overflow_sub-below : goal.type_levels-overflow_sub-below
type_levels-overflow_sub-below t c =
    let loop = c.loop-b in
    omega (arith, whole-level loop.left loop.b.now loop.invariant.good)

pub type_levels-of-requires : goal.type_levels-of-requires
type_levels-of-requires t c =
    let loop = c.loop-b in
    whole-kind loop.left loop.b.now loop.invariant.good

pub type_levels-deepest_body-requires : goal.type_levels-deepest_body-requires
type_levels-deepest_body-requires t c =
    let loop = c.loop-b in
    (omega (arith, loop.invariant.few, whole-level loop.left loop.b.now loop.invariant.good), (omega arith, record-bodies loop.left loop.b.now loop.invariant.good (sym c.in-Record.ensures)))

pub type_levels-overflow_add-result : goal.type_levels-overflow_add-result
type_levels-overflow_add-result t c =
    let walk = c.deepest_body in
    let loop = c.loop-b in
    let args = c.args in
    let sum = sets_end loop.invariant walk.result (record-levels loop.left loop.b.now loop.invariant.good (sym c.in-Record.ensures) ∙ ap suc (sym walk.ensures)) in
    let most = levels-bounds types args.levels args.t.now (Bytes-index args.t.now (λ i. (c.type_inv.t i).fits)) c.requires in
    omega (arith, sum, most.0)

pub type_levels-deepest_body-requires-in-Action : goal.type_levels-deepest_body-requires-in-Action
type_levels-deepest_body-requires-in-Action t c =
    let loop = c.loop-b in
    (omega (arith, loop.invariant.few, whole-level loop.left loop.b.now loop.invariant.good), (omega arith, action-bodies loop.left loop.b.now loop.invariant.good (sym c.in-Action.ensures)))

pub type_levels-overflow_add-result-in-Action : goal.type_levels-overflow_add-result-in-Action
type_levels-overflow_add-result-in-Action t c =
    let walk = c.deepest_body-in-Action in
    let loop = c.loop-b in
    let args = c.args in
    let sum = sets_end loop.invariant walk.result (action-levels loop.left loop.b.now loop.invariant.good (sym c.in-Action.ensures) ∙ ap suc (sym walk.ensures)) in
    let most = levels-bounds types args.levels args.t.now (Bytes-index args.t.now (λ i. (c.type_inv.t i).fits)) c.requires in
    omega (arith, sum, most.0)

pub type_levels-returns-in-Record : goal.type_levels-returns-in-Record
type_levels-returns-in-Record t c =
    let walk = c.deepest_body in
    let loop = c.loop-b in
    let sum = sets_end loop.invariant walk.result (record-levels loop.left loop.b.now loop.invariant.good (sym c.in-Record.ensures) ∙ ap suc (sym walk.ensures)) in
    sum

pub type_levels-returns-in-Action : goal.type_levels-returns-in-Action
type_levels-returns-in-Action t c =
    let walk = c.deepest_body-in-Action in
    let loop = c.loop-b in
    let sum = sets_end loop.invariant walk.result (action-levels loop.left loop.b.now loop.invariant.good (sym c.in-Action.ensures) ∙ ap suc (sym walk.ensures)) in
    sum

pub type_levels-returns-in_default : goal.type_levels-returns-in_default
type_levels-returns-in_default t c =
    let loop = c.loop-b in
    let differs : (k : Kind) → (c.of.result ≡ k → ⊥) → kind loop.b.now ≡ kind_number k → ⊥ =
    λ k h e. kind-differs c.of.result k h (c.of.ensures ∙ e) in
    let lone = lone-levels loop.left loop.b.now loop.invariant.good c.loop-b-test.false (differs is_kind.Record c.in_default.not-Record)
    (differs is_kind.Action c.in_default.not-Action) in
    omega (arith, sets_end loop.invariant 0 lone)

pub value_levels-overflow_sub-below : goal.value_levels-overflow_sub-below
value_levels-overflow_sub-below t c =
    let args = c.args in
    omega (arith, value-level args.levels args.v.now c.requires)

pub value_levels-of-requires : goal.value_levels-of-requires
value_levels-of-requires t c =
    let args = c.args in
    (value-first args.levels args.v.now c.requires, omega (arith, value-kind args.levels args.v.now c.requires))

pub value_levels-deepest_body-requires : goal.value_levels-deepest_body-requires
value_levels-deepest_body-requires t c =
    let args = c.args in
    let whole = value_as args.levels args.v.now c.requires 5 (sym c.in-Set.ensures) in
    (omega (arith, value-level args.levels args.v.now c.requires), (omega arith, rw (rest_0 args.v.now) (whole)))

pub value_levels-overflow_add-result : goal.value_levels-overflow_add-result
value_levels-overflow_add-result t c =
    let walk = c.deepest_body in
    let args = c.args in
    let below = walk.ensures ∙ ap (deepest_at values (args.levels - 1) 2 1) (rest_0 args.v.now) in
    let sum = set-value-levels args.levels args.v.now c.requires (sym c.in-Set.ensures) in
    let most = levels-bounds values args.levels args.v.now (Bytes-index args.v.now (λ i. (c.type_inv.v i).fits)) c.requires in
    omega (arith, below, sum, most.0)

pub value_levels-deepest_body-requires-in-Record : goal.value_levels-deepest_body-requires-in-Record
value_levels-deepest_body-requires-in-Record t c =
    let args = c.args in
    let whole = value_as args.levels args.v.now c.requires 6 (sym c.in-Record.ensures) in
    (omega (arith, value-level args.levels args.v.now c.requires), (omega arith, rw (rest_0 args.v.now) (table-bodies pair_row (whole_v (args.levels - 1)) 0 1 args.v.now whole)))

pub value_levels-overflow_add-result-in-Record : goal.value_levels-overflow_add-result-in-Record
value_levels-overflow_add-result-in-Record t c =
    let walk = c.deepest_body-in-Record in
    let args = c.args in
    let below = walk.ensures ∙ ap (deepest_at values (args.levels - 1) 4 1) (rest_0 args.v.now) in
    let sum = record-value-levels args.levels args.v.now c.requires (sym c.in-Record.ensures) in
    let most = levels-bounds values args.levels args.v.now (Bytes-index args.v.now (λ i. (c.type_inv.v i).fits)) c.requires in
    omega (arith, below, sum, most.0)

pub value_levels-deepest_body-requires-in-Call : goal.value_levels-deepest_body-requires-in-Call
value_levels-deepest_body-requires-in-Call t c =
    let args = c.args in
    let whole = value_as args.levels args.v.now c.requires 7 (sym c.in-Call.ensures) in
    (omega (arith, value-level args.levels args.v.now c.requires), (omega arith, rw (rest_0 args.v.now) (whole)))

pub value_levels-overflow_add-result-in-Call : goal.value_levels-overflow_add-result-in-Call
value_levels-overflow_add-result-in-Call t c =
    let walk = c.deepest_body-in-Call in
    let args = c.args in
    let below = walk.ensures ∙ ap (deepest_at values (args.levels - 1) 2 3) (rest_0 args.v.now) in
    let sum = call-levels args.levels args.v.now c.requires (sym c.in-Call.ensures) in
    let most = levels-bounds values args.levels args.v.now (Bytes-index args.v.now (λ i. (c.type_inv.v i).fits)) c.requires in
    omega (arith, below, sum, most.0)

pub value_levels-returns-in-Set : goal.value_levels-returns-in-Set
value_levels-returns-in-Set t c =
    let walk = c.deepest_body in
    let args = c.args in
    let below = walk.ensures ∙ ap (deepest_at values (args.levels - 1) 2 1) (rest_0 args.v.now) in
    let sum = set-value-levels args.levels args.v.now c.requires (sym c.in-Set.ensures) in
    omega (arith, below, sum)

pub value_levels-returns-in-Record : goal.value_levels-returns-in-Record
value_levels-returns-in-Record t c =
    let walk = c.deepest_body-in-Record in
    let args = c.args in
    let below = walk.ensures ∙ ap (deepest_at values (args.levels - 1) 4 1) (rest_0 args.v.now) in
    let sum = record-value-levels args.levels args.v.now c.requires (sym c.in-Record.ensures) in
    omega (arith, below, sum)

pub value_levels-returns-in-Call : goal.value_levels-returns-in-Call
value_levels-returns-in-Call t c =
    let walk = c.deepest_body-in-Call in
    let args = c.args in
    let below = walk.ensures ∙ ap (deepest_at values (args.levels - 1) 2 3) (rest_0 args.v.now) in
    let sum = call-levels args.levels args.v.now c.requires (sym c.in-Call.ensures) in
    omega (arith, below, sum)

pub value_levels-returns-in_default : goal.value_levels-returns-in_default
value_levels-returns-in_default t c =
    let args = c.args in
    let differs : (k : ValueKind) → (c.of.result ≡ k → ⊥) → kind args.v.now ≡ value_kind_number k → ⊥ =
    λ k h e. value-kind-differs c.of.result k h (c.of.ensures ∙ e) in
    sym (lone-value-levels args.levels args.v.now c.requires (differs is_value.Set c.in_default.not-Set) (differs is_value.Record c.in_default.not-Record)
    (differs is_value.Call c.in_default.not-Call))
