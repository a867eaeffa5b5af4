use mathlib.Core.Path.{◌≡◌, ap, sym, ◌∙◌}
use mathlib.Core.List.{List}
use Prim.Native.Nat.{◌-◌}
use native.Mathlib.Omega.{arith}
use Rattle.cedar.specs.Text.{textual_values}
use Rattle.forms.specs.Rows.{body_row}
use Rattle.forms.specs.ValueBytes.{pair_row, whole_v}
use Rattle.forms.specs.Laws.Parts.{rest_0}
use Rattle.forms.specs.Laws.Bodies.{table-bodies}
use Rattle.forms.specs.Laws.Ahead.{table-count, table-entries, ahead-room, ahead-inside, ahead-body}
use Rattle.forms.specs.Kinds.{value_kind_number}
use Rattle.forms.specs.Parts.{kind}
use Rattle.forms.specs.declared.kinds.ValueKind.{ValueKind}
use Rattle.forms.specs.declared.kinds.ValueKind.TheVariants as is_value
use Rattle.forms.specs.Laws.Kinds.{value-kind-differs}
use Rattle.forms.specs.Laws.Values.{value-level, value-first, value_as, value-kind}
use Rattle.strings.specs.Bodies.{bodies_at}
use Rattle.strings.specs.Laws.Bodies.{bodies-start, bodies-end, bodies-stop, bodies-again}
use Rattle.strings.specs.Laws.Bodies.{string-room, textual-string, textual-set, textual-record, textual-call, textual-other}
use Rattle.strings.specs.Laws.Plain.{plain-bodies}
use Prim.Native.Nat.{ℕ}
use Rattle.strings.proofs.values.+bodies_are_textual_body_is_textual_strings_are_text.Goals as goal

pub bodies_are_textual-u16_at-n-requires : goal.bodies_are_textual-u16_at-n-requires
bodies_are_textual-u16_at-n-requires t c =
    omega (arith, table-count (body_row c.args.width) (λ _. whole_v c.args.levels) tt c.args.at c.args.v.now c.requires.v_table)

pub bodies_are_textual-overflow_mul-end : goal.bodies_are_textual-overflow_mul-end
bodies_are_textual-overflow_mul-end t c =
    let u16-at = c.u16_at-n in
    omega (arith, table-entries (body_row c.args.width) (λ _. whole_v c.args.levels) tt c.args.at c.args.v.now c.requires.v_table u16-at.result u16-at.ensures.0)

pub bodies_are_textual-overflow_add-end : goal.bodies_are_textual-overflow_add-end
bodies_are_textual-overflow_add-end t c =
    let u16-at = c.u16_at-n in
    omega (arith, table-entries (body_row c.args.width) (λ _. whole_v c.args.levels) tt c.args.at c.args.v.now c.requires.v_table u16-at.result u16-at.ensures.0)

pub bodies_are_textual-slice_bounds-e-count : goal.bodies_are_textual-slice_bounds-e-count
bodies_are_textual-slice_bounds-e-count t c =
    let u16-at = c.u16_at-n in
    omega (arith, table-entries (body_row c.args.width) (λ _. whole_v c.args.levels) tt c.args.at c.args.v.now c.requires.v_table u16-at.result u16-at.ensures.0)

pub bodies_are_textual-slice_bounds-e-start : goal.bodies_are_textual-slice_bounds-e-start
bodies_are_textual-slice_bounds-e-start t c =
    let u16-at = c.u16_at-n in
    omega (arith, table-entries (body_row c.args.width) (λ _. whole_v c.args.levels) tt c.args.at c.args.v.now c.requires.v_table u16-at.result u16-at.ensures.0)

pub bodies_are_textual-slice_bounds-e-end : goal.bodies_are_textual-slice_bounds-e-end
bodies_are_textual-slice_bounds-e-end t c =
    let u16-at = c.u16_at-n in
    omega (arith, table-entries (body_row c.args.width) (λ _. whole_v c.args.levels) tt c.args.at c.args.v.now c.requires.v_table u16-at.result u16-at.ensures.0)

pub bodies_are_textual-slice_bounds-b-count : goal.bodies_are_textual-slice_bounds-b-count
bodies_are_textual-slice_bounds-b-count t c =
    let u16-at = c.u16_at-n in
    omega (arith, table-entries (body_row c.args.width) (λ _. whole_v c.args.levels) tt c.args.at c.args.v.now c.requires.v_table u16-at.result u16-at.ensures.0)

pub bodies_are_textual-slice_bounds-b-start : goal.bodies_are_textual-slice_bounds-b-start
bodies_are_textual-slice_bounds-b-start t c =
    let u16-at = c.u16_at-n in
    omega (arith, table-entries (body_row c.args.width) (λ _. whole_v c.args.levels) tt c.args.at c.args.v.now c.requires.v_table u16-at.result u16-at.ensures.0)

pub bodies_are_textual-returns-then-plain : goal.bodies_are_textual-returns-then-plain
bodies_are_textual-returns-then-plain t c =
    let u16-at = c.u16_at-n in
    plain-bodies c.args.levels c.args.width c.args.at c.args.v.now u16-at.result u16-at.ensures.0
    (c.plain.ensures c.if-plain.true)

pub bodies_are_textual-loop-left-init : goal.bodies_are_textual-loop-left-init
bodies_are_textual-loop-left-init t c =
    let u16-at = c.u16_at-n in
    bodies-start c.args.levels c.args.width c.args.at c.args.v.now c.requires.v_table u16-at.result u16-at.ensures.0

pub bodies_are_textual-u16_at-len-requires : goal.bodies_are_textual-u16_at-len-requires
bodies_are_textual-u16_at-len-requires t c = omega (arith, ahead-room c.loop-left.invariant.rows c.loop-left-test.true)

pub bodies_are_textual-slice_bounds-body_is_textual-end : goal.bodies_are_textual-slice_bounds-body_is_textual-end
bodies_are_textual-slice_bounds-body_is_textual-end t c =
    let loop = c.loop-left in
    omega (arith, ahead-inside loop.invariant.rows c.loop-left-test.true c.u16_at-len.result c.u16_at-len.ensures.0)

pub bodies_are_textual-body_is_textual-requires : goal.bodies_are_textual-body_is_textual-requires
bodies_are_textual-body_is_textual-requires t c =
    let u16-at2 = c.u16_at-len in
    let loop-test = c.loop-left-test in
    let loop = c.loop-left in
    (omega arith, ahead-body loop.invariant.rows loop-test.true u16-at2.result u16-at2.ensures.0)

pub bodies_are_textual-returns-then-not-body_is_textual : goal.bodies_are_textual-returns-then-not-body_is_textual
bodies_are_textual-returns-then-not-body_is_textual t c =
    let f = c.body_is_textual in
    let u16-at2 = c.u16_at-len in
    let loop-test = c.loop-left-test in
    let loop = c.loop-left in
    bodies-stop loop.invariant loop-test.true u16-at2.result u16-at2.ensures.0 f.result f.ensures c.if-not-body_is_textual.true-raw

pub bodies_are_textual-slice_bounds-e-count-in-loop-left : goal.bodies_are_textual-slice_bounds-e-count-in-loop-left
bodies_are_textual-slice_bounds-e-count-in-loop-left t c =
    let loop-test = c.loop-left-test in
    let loop = c.loop-left in
    omega (arith, ahead-room loop.invariant.rows loop-test.true)

pub bodies_are_textual-slice_bounds-e-start-in-loop-left : goal.bodies_are_textual-slice_bounds-e-start-in-loop-left
bodies_are_textual-slice_bounds-e-start-in-loop-left t c =
    let loop-test = c.loop-left-test in
    let loop = c.loop-left in
    omega (arith, ahead-room loop.invariant.rows loop-test.true)

pub bodies_are_textual-slice_bounds-b-count-in-loop-left : goal.bodies_are_textual-slice_bounds-b-count-in-loop-left
bodies_are_textual-slice_bounds-b-count-in-loop-left t c =
    let u16-at2 = c.u16_at-len in
    let loop-test = c.loop-left-test in
    let loop = c.loop-left in
    omega (arith, ahead-inside loop.invariant.rows loop-test.true u16-at2.result u16-at2.ensures.0)

pub bodies_are_textual-slice_bounds-b-start-in-loop-left : goal.bodies_are_textual-slice_bounds-b-start-in-loop-left
bodies_are_textual-slice_bounds-b-start-in-loop-left t c =
    let u16-at2 = c.u16_at-len in
    let loop-test = c.loop-left-test in
    let loop = c.loop-left in
    omega (arith, ahead-inside loop.invariant.rows loop-test.true u16-at2.result u16-at2.ensures.0)

pub bodies_are_textual-loop-left-preserved : goal.bodies_are_textual-loop-left-preserved
bodies_are_textual-loop-left-preserved t c =
    let if3 = c.if-not-body_is_textual in
    let f = c.body_is_textual in
    let u16-at2 = c.u16_at-len in
    let loop-test = c.loop-left-test in
    let loop = c.loop-left in
    bodies-again loop.invariant loop-test.true u16-at2.result u16-at2.ensures.0 f.result f.ensures if3.false-raw

pub bodies_are_textual-returns : goal.bodies_are_textual-returns
bodies_are_textual-returns t c = bodies-end c.loop-left.invariant (omega arith)

pub body_is_textual-of-requires : goal.body_is_textual-of-requires
body_is_textual-of-requires t c =
    (value-first c.args.levels c.args.v.now c.requires, omega (arith, value-kind c.args.levels c.args.v.now c.requires))

pub body_is_textual-returns-in_default : goal.body_is_textual-returns-in_default
body_is_textual-returns-in_default t c =
    let d = c.in_default in
    let differs : (k : ValueKind) → (c.of.result ≡ k → ⊥) → kind c.args.v.now ≡ value_kind_number k → ⊥ =
    λ k h e. value-kind-differs c.of.result k h (c.of.ensures ∙ e) in
    textual-other c.args.levels c.args.v.now c.requires (differs is_value.String d.not-String) (differs is_value.Set d.not-Set)
    (differs is_value.Record d.not-Record) (differs is_value.Call d.not-Call)

pub body_is_textual-strings_are_text-requires : goal.body_is_textual-strings_are_text-requires
body_is_textual-strings_are_text-requires t c = (omega arith, c.requires)

pub body_is_textual-returns-in-String : goal.body_is_textual-returns-in-String
body_is_textual-returns-in-String t c = c.strings_are_text.ensures

pub strings_are_text-of-requires : goal.strings_are_text-of-requires
strings_are_text-of-requires t c =
    (value-first c.args.levels c.args.v.now c.requires, omega (arith, value-kind c.args.levels c.args.v.now c.requires))

pub strings_are_text-slice_bounds-is_text-count : goal.strings_are_text-slice_bounds-is_text-count
strings_are_text-slice_bounds-is_text-count t c = omega (arith, string-room c.args.levels c.args.v.now c.requires (sym c.in-String.ensures))

pub strings_are_text-slice_bounds-is_text-start : goal.strings_are_text-slice_bounds-is_text-start
strings_are_text-slice_bounds-is_text-start t c = omega (arith, string-room c.args.levels c.args.v.now c.requires (sym c.in-String.ensures))

pub strings_are_text-overflow_sub-levels : goal.strings_are_text-overflow_sub-levels
strings_are_text-overflow_sub-levels t c = omega (arith, value-level c.args.levels c.args.v.now c.requires)

pub strings_are_text-bodies_are_textual-requires : goal.strings_are_text-bodies_are_textual-requires
strings_are_text-bodies_are_textual-requires t c =
    let whole = value_as c.args.levels c.args.v.now c.requires 5 (sym c.in-Set.ensures) in
    (omega (arith, value-level c.args.levels c.args.v.now c.requires), (omega arith, rw (rest_0 c.args.v.now) (whole)))

pub strings_are_text-overflow_sub-levels-in-Record : goal.strings_are_text-overflow_sub-levels-in-Record
strings_are_text-overflow_sub-levels-in-Record t c = omega (arith, value-level c.args.levels c.args.v.now c.requires)

pub strings_are_text-bodies_are_textual-requires-in-Record : goal.strings_are_text-bodies_are_textual-requires-in-Record
strings_are_text-bodies_are_textual-requires-in-Record t c =
    let whole = value_as c.args.levels c.args.v.now c.requires 6 (sym c.in-Record.ensures) in
    (omega (arith, value-level c.args.levels c.args.v.now c.requires), (omega arith, rw (rest_0 c.args.v.now) (table-bodies pair_row (whole_v (c.args.levels - 1)) 0 1 c.args.v.now whole)))

pub strings_are_text-overflow_sub-levels-in-Call : goal.strings_are_text-overflow_sub-levels-in-Call
strings_are_text-overflow_sub-levels-in-Call t c = omega (arith, value-level c.args.levels c.args.v.now c.requires)

pub strings_are_text-bodies_are_textual-requires-in-Call : goal.strings_are_text-bodies_are_textual-requires-in-Call
strings_are_text-bodies_are_textual-requires-in-Call t c =
    let whole = value_as c.args.levels c.args.v.now c.requires 7 (sym c.in-Call.ensures) in
    (omega (arith, value-level c.args.levels c.args.v.now c.requires), (omega arith, rw (rest_0 c.args.v.now) (whole)))

pub strings_are_text-returns-in-String : goal.strings_are_text-returns-in-String
strings_are_text-returns-in-String t c = c.is_text.ensures ∙ textual-string c.args.levels c.args.v.now c.requires (sym c.in-String.ensures)

pub strings_are_text-returns-in-Set : goal.strings_are_text-returns-in-Set
strings_are_text-returns-in-Set t c =
    c.bodies_are_textual.ensures ∙ ap (λ (b : List ℕ). textual_values (bodies_at (c.args.levels - 1) 2 1 b)) (rest_0 c.args.v.now) ∙
    textual-set c.args.levels c.args.v.now c.requires (sym c.in-Set.ensures)

pub strings_are_text-returns-in-Record : goal.strings_are_text-returns-in-Record
strings_are_text-returns-in-Record t c =
    c.bodies_are_textual-in-Record.ensures ∙ ap (λ (b : List ℕ). textual_values (bodies_at (c.args.levels - 1) 4 1 b)) (rest_0 c.args.v.now) ∙
    textual-record c.args.levels c.args.v.now c.requires (sym c.in-Record.ensures)

pub strings_are_text-returns-in-Call : goal.strings_are_text-returns-in-Call
strings_are_text-returns-in-Call t c =
    c.bodies_are_textual-in-Call.ensures ∙ ap (λ (b : List ℕ). textual_values (bodies_at (c.args.levels - 1) 2 3 b)) (rest_0 c.args.v.now) ∙
    textual-call c.args.levels c.args.v.now c.requires (sym c.in-Call.ensures)

pub strings_are_text-returns-in_default : goal.strings_are_text-returns-in_default
strings_are_text-returns-in_default t c =
    let others = c.in_default in
    let differs : (k : ValueKind) → (c.of.result ≡ k → ⊥) → kind c.args.v.now ≡ value_kind_number k → ⊥ =
    λ k h e. value-kind-differs c.of.result k h (c.of.ensures ∙ e) in
    textual-other c.args.levels c.args.v.now c.requires (differs is_value.String others.not-String) (differs is_value.Set others.not-Set)
    (differs is_value.Record others.not-Record) (differs is_value.Call others.not-Call)
