use Rattle.std.proofs.Common.{◌≡◌, ◌&&◌, ap, refl, sym, ◌∙◌, arith, lit<}
use Rattle.cedar.specs.Types.{strict}
use Rattle.forms.specs.Modes.{as_mode}
use Rattle.forms.specs.declared.kinds.Kind.TheVariants as kinds
use Rattle.forms.specs.Laws.Attributes.{laid}
use Rattle.forms.specs.Laws.Kinds.{whole-kind}
use Rattle.forms.specs.Laws.Parts.{length_rest, rest_0}
use Rattle.forms.specs.Laws.Tables.{split}
use Rattle.forms.specs.Laws.Views.{is_set, is-record, is-entity, is-action}
use Rattle.writing.specs.Laws.Laying.{behind-front, behind-ready, behind-written}
use Rattle.bound_lengths.specs.Pairs.{row_flag}
use Rattle.bound_lengths.specs.Laws.Bounds.{record-tabled, action-tabled}
use Rattle.bound_lengths.specs.Laws.Kinds.{eq-kind, not-kind, key, key-too, same-kind, other-kind, not-key}
use Rattle.bound_lengths.specs.Laws.Pairs.{walk-whole, walk-other}
use Rattle.bounds.specs.Laws.BoundWrites.{kept-few, given, second-copied, first-copied, unlike-forms, entities-union, entities-copied}
use Rattle.bounds.specs.Joins.{is_ok}
use Rattle.bounds.specs.Laws.TypedSets.{typed-room, set-untyped, typed-whole, typed-known, typed-ready, typed-written}
use Rattle.bounds.specs.Laws.BoundWrites.{others-copied, records-known, records-cut, actions-unlike, actions-strict, actions-cut, actions-front}
use Rattle.bounds.specs.Laws.BoundWrites.{actions-many}
use Rattle.bounds.specs.Laws.Joining.{joining-start, joining-end, joining-known, joining-none, joining-ready, joining-room}
use Rattle.bounds.specs.Laws.Joining.{joining-small, joining-some}
use Rattle.bounds.proofs.bound_writes.+write_action_write_attributes_write_bound_write_record_write_set.Goals as goal
use Rattle.bounds.proofs.bound_writes.+write_action_write_attributes_write_bound_write_record_write_set.Goals.{write_attributes-then-is_required, write_attributes-else-is_required}

pub write_action-slice_bounds-copy-end : goal.write_action-slice_bounds-copy-end
write_action-slice_bounds-copy-end t c = omega (arith, (is-action c.args.levels c.args.a.now c.requires.a_whole.0 c.requires.a_whole.1).some)

pub write_action-copy-requires : goal.write_action-copy-requires
write_action-copy-requires t c =
    let same = c.requires.a_whole.1 ∙ sym c.requires.b_whole.1 in
    let args = c.args in
    let g = given strict args.levels args.a.now args.b.now c.requires.a_whole.0 c.requires.b_whole.0
    (λ i. (c.type_inv.a i).fits) (λ i. (c.type_inv.b i).fits)
    c.requires.ready in
    let cut = actions-cut g same c.requires.a_whole.1 _ _ refl refl c.requires.same_name in
    behind-front cut g.ready

pub write_action-slice_bounds-y-count : goal.write_action-slice_bounds-y-count
write_action-slice_bounds-y-count t c = omega (arith, (is-action c.args.levels c.args.b.now c.requires.b_whole.0 c.requires.b_whole.1).some)

pub write_action-slice_bounds-y-start : goal.write_action-slice_bounds-y-start
write_action-slice_bounds-y-start t c = omega (arith, (is-action c.args.levels c.args.b.now c.requires.b_whole.0 c.requires.b_whole.1).some)

pub write_action-overflow_sub-levels : goal.write_action-overflow_sub-levels
write_action-overflow_sub-levels t c = omega (arith, (is-action c.args.levels c.args.a.now c.requires.a_whole.0 c.requires.a_whole.1).deep)

pub write_action-write_attributes-requires : goal.write_action-write_attributes-requires
write_action-write_attributes-requires t c =
    let same = c.requires.a_whole.1 ∙ sym c.requires.b_whole.1 in
    let args = c.args in
    let g = given strict args.levels args.a.now args.b.now c.requires.a_whole.0 c.requires.b_whole.0
    (λ i. (c.type_inv.a i).fits) (λ i. (c.type_inv.b i).fits)
    c.requires.ready in
    let cut = actions-cut g same c.requires.a_whole.1 _ _ refl refl c.requires.same_name in
    let put = c.copy in
    let front = actions-front g same c.requires.a_whole.1 _ _ refl refl in
    let ready = behind-ready cut g.ready put.new.out 5 put.ensures front in (
      omega (arith, c.decreases, (is-action args.levels args.a.now c.requires.a_whole.0 c.requires.a_whole.1).deep),
      (
        action-tabled args.levels args.a.now c.requires.a_whole.0 c.requires.a_whole.1,
        (
          action-tabled args.levels args.b.now c.requires.b_whole.0 c.requires.b_whole.1,
          (actions-many g same c.requires.a_whole.1 _ _ refl refl ready c.u16_at-n.result c.u16_at-n.ensures.0, ready),
        ),
      ),
    )

pub write_action-returns : goal.write_action-returns
write_action-returns t c =
    let same = c.requires.a_whole.1 ∙ sym c.requires.b_whole.1 in
    let args = c.args in
    let g = given strict args.levels args.a.now args.b.now c.requires.a_whole.0 c.requires.b_whole.0
    (λ i. (c.type_inv.a i).fits) (λ i. (c.type_inv.b i).fits)
    c.requires.ready in
    let cut = actions-cut g same c.requires.a_whole.1 _ _ refl refl c.requires.same_name in
    let put = c.copy in
    let front = actions-front g same c.requires.a_whole.1 _ _ refl refl in
    let rows = c.write_attributes in
    behind-written cut g.ready put.new.out 5 put.ensures front rows.new.out rows.result rows.ensures

pub write_bound-put_bytes-requires : goal.write_bound-put_bytes-requires
write_bound-put_bytes-requires t c =
    let args = c.args in
    let g = given (as_mode args.mode) args.levels args.a.now args.b.now c.requires.a_whole c.requires.b_whole
    (λ i. (c.type_inv.a i).fits) (λ i. (c.type_inv.b i).fits)
    c.requires.ready in
    (second-copied g (sym c.of-j.ensures ∙ eq-kind c.of-j.result kinds.Never c.if-eq.ensures)).room

pub write_bound-returns-then-eq : goal.write_bound-returns-then-eq
write_bound-returns-then-eq t c =
    let args = c.args in
    let g = given (as_mode args.mode) args.levels args.a.now args.b.now c.requires.a_whole c.requires.b_whole
    (λ i. (c.type_inv.a i).fits) (λ i. (c.type_inv.b i).fits)
    c.requires.ready in
    (second-copied g (sym c.of-j.ensures ∙ eq-kind c.of-j.result kinds.Never c.if-eq.ensures)).written _ _ c.put_bytes.ensures

pub write_bound-put_bytes-requires-then-eq-2 : goal.write_bound-put_bytes-requires-then-eq-2
write_bound-put_bytes-requires-then-eq-2 t c =
    let args = c.args in
    let g = given (as_mode args.mode) args.levels args.a.now args.b.now c.requires.a_whole c.requires.b_whole
    (λ i. (c.type_inv.a i).fits) (λ i. (c.type_inv.b i).fits)
    c.requires.ready in
    (first-copied g (sym c.of-k.ensures ∙ eq-kind c.of-k.result kinds.Never c.if-eq-2.ensures)).room

pub write_bound-returns-then-eq-2 : goal.write_bound-returns-then-eq-2
write_bound-returns-then-eq-2 t c =
    let args = c.args in
    let g = given (as_mode args.mode) args.levels args.a.now args.b.now c.requires.a_whole c.requires.b_whole
    (λ i. (c.type_inv.a i).fits) (λ i. (c.type_inv.b i).fits)
    c.requires.ready in
    (first-copied g (sym c.of-k.ensures ∙ eq-kind c.of-k.result kinds.Never c.if-eq-2.ensures)).written _ _ c.put_bytes-then-eq-2.ensures

pub write_bound-write_unlike-requires : goal.write_bound-write_unlike-requires
write_bound-write_unlike-requires t c =
    let args = c.args in
    let g = given (as_mode args.mode) args.levels args.a.now args.b.now c.requires.a_whole c.requires.b_whole
    (λ i. (c.type_inv.a i).fits) (λ i. (c.type_inv.b i).fits)
    c.requires.ready in
    rw (c.of-j.ensures, c.of-k.ensures) (unlike-forms g (other-kind c.of-j.result c.of-k.result c.of-j.ensures c.of-k.ensures c.if-ne.ensures) (λ e. not-kind c.of-j.result kinds.Never c.if-eq.ensures (c.of-j.ensures ∙ e)) (λ e. not-kind c.of-k.result kinds.Never c.if-eq-2.ensures (c.of-k.ensures ∙ e))).ready

pub write_bound-returns-then-ne : goal.write_bound-returns-then-ne
write_bound-returns-then-ne t c =
    let args = c.args in
    let g = given (as_mode args.mode) args.levels args.a.now args.b.now c.requires.a_whole c.requires.b_whole
    (λ i. (c.type_inv.a i).fits) (λ i. (c.type_inv.b i).fits)
    c.requires.ready in
    (unlike-forms g (other-kind c.of-j.result c.of-k.result c.of-j.ensures c.of-k.ensures c.if-ne.ensures) (λ e. not-kind c.of-j.result kinds.Never c.if-eq.ensures (c.of-j.ensures ∙ e)) (λ e. not-kind c.of-k.result kinds.Never c.if-eq-2.ensures (c.of-k.ensures ∙ e))).written _ _ (rw (c.of-j.ensures, c.of-k.ensures) at c.write_unlike.ensures)

pub write_bound-write_set-requires : goal.write_bound-write_set-requires
write_bound-write_set-requires t c =
    let kind-is = (key kinds.Set c.of-j.ensures c.in-Set.is) in (
      omega (arith, c.decreases, (is_set c.args.levels c.args.a.now c.requires.a_whole kind-is).deep),
      ((c.requires.a_whole, kind-is), ((c.requires.b_whole, sym (same-kind c.of-j.result c.of-k.result c.of-j.ensures c.of-k.ensures c.if-ne.ensures) ∙ kind-is), (c.requires.ready, c.requires.known_length))),
    )

pub write_bound-write_record-requires : goal.write_bound-write_record-requires
write_bound-write_record-requires t c =
    let kind-is = (key kinds.Record c.of-j.ensures c.in-Record.is) in (
      omega (arith, c.decreases, (is-record c.args.levels c.args.a.now c.requires.a_whole kind-is).deep),
      ((c.requires.a_whole, kind-is), ((c.requires.b_whole, sym (same-kind c.of-j.result c.of-k.result c.of-j.ensures c.of-k.ensures c.if-ne.ensures) ∙ kind-is), c.requires.ready)),
    )

pub write_bound-write_entities-requires : goal.write_bound-write_entities-requires
write_bound-write_entities-requires t c =
    let args = c.args in
    let g = given (as_mode args.mode) args.levels args.a.now args.b.now c.requires.a_whole c.requires.b_whole
    (λ i. (c.type_inv.a i).fits) (λ i. (c.type_inv.b i).fits)
    c.requires.ready in
    let same = (same-kind c.of-j.result c.of-k.result c.of-j.ensures c.of-k.ensures c.if-ne.ensures) in
    let kind-is = (key kinds.Entity c.of-j.ensures c.in-Entity.is) in
    let first = is-entity args.levels args.a.now c.requires.a_whole kind-is in
    let second = is-entity args.levels args.b.now c.requires.b_whole (sym same ∙ kind-is) in
    let by-entities-union = entities-union g same kind-is (sym c.is_permissive.ensures ∙ c.if-is_permissive.true) in
    record {
      a_len = rw rest_0 (first.sized, first.up);
      b_len = rw rest_0 (second.sized, second.up);
      ready = rw (rest_0 args.a.now, rest_0 args.b.now) by-entities-union.ready;
    }

pub write_bound-returns-then-is_permissive : goal.write_bound-returns-then-is_permissive
write_bound-returns-then-is_permissive t c =
    let args = c.args in
    let g = given (as_mode args.mode) args.levels args.a.now args.b.now c.requires.a_whole c.requires.b_whole
    (λ i. (c.type_inv.a i).fits) (λ i. (c.type_inv.b i).fits)
    c.requires.ready in
    let same = (same-kind c.of-j.result c.of-k.result c.of-j.ensures c.of-k.ensures c.if-ne.ensures) in
    (entities-union g same (key kinds.Entity c.of-j.ensures c.in-Entity.is) (sym c.is_permissive.ensures ∙ c.if-is_permissive.true)).written _ _
    (rw (rest_0 args.a.now, rest_0 args.b.now) at c.write_entities.ensures)

pub write_bound-put_bytes-requires-in-Entity : goal.write_bound-put_bytes-requires-in-Entity
write_bound-put_bytes-requires-in-Entity t c =
    let args = c.args in
    let g = given (as_mode args.mode) args.levels args.a.now args.b.now c.requires.a_whole c.requires.b_whole
    (λ i. (c.type_inv.a i).fits) (λ i. (c.type_inv.b i).fits)
    c.requires.ready in
    let same = (same-kind c.of-j.result c.of-k.result c.of-j.ensures c.of-k.ensures c.if-ne.ensures) in
    (entities-copied g same (key kinds.Entity c.of-j.ensures c.in-Entity.is) (sym c.is_permissive.ensures ∙ c.if-is_permissive.false)).room

pub write_bound-u16_at-requires : goal.write_bound-u16_at-requires
write_bound-u16_at-requires t c = omega (arith, (is-action c.args.levels c.args.a.now c.requires.a_whole (key kinds.Action c.of-j.ensures c.in-Action.is)).some)

pub write_bound-u16_at-requires-in-Action : goal.write_bound-u16_at-requires-in-Action
write_bound-u16_at-requires-in-Action t c =
    omega (arith, (is-action c.args.levels c.args.b.now c.requires.b_whole (key-too c.of-j.result c.of-k.result kinds.Action c.of-k.ensures c.if-ne.ensures c.in-Action.is)).some)

pub write_bound-write_unlike-requires-then-u16_at : goal.write_bound-write_unlike-requires-then-u16_at
write_bound-write_unlike-requires-then-u16_at t c =
    let args = c.args in
    let g = given (as_mode args.mode) args.levels args.a.now args.b.now c.requires.a_whole c.requires.b_whole
    (λ i. (c.type_inv.a i).fits) (λ i. (c.type_inv.b i).fits)
    c.requires.ready in
    let same = (same-kind c.of-j.result c.of-k.result c.of-j.ensures c.of-k.ensures c.if-ne.ensures) in
    let n = c.u16_at in
    let i = c.u16_at-in-Action in
    rw (c.of-j.ensures, c.of-k.ensures) (actions-unlike g same (key kinds.Action c.of-j.ensures c.in-Action.is) n.result i.result n.ensures.0 i.ensures.0 c.if-u16_at.true).ready

pub write_bound-returns-then-u16_at : goal.write_bound-returns-then-u16_at
write_bound-returns-then-u16_at t c =
    let args = c.args in
    let g = given (as_mode args.mode) args.levels args.a.now args.b.now c.requires.a_whole c.requires.b_whole
    (λ i. (c.type_inv.a i).fits) (λ i. (c.type_inv.b i).fits)
    c.requires.ready in
    let same = (same-kind c.of-j.result c.of-k.result c.of-j.ensures c.of-k.ensures c.if-ne.ensures) in
    let n = c.u16_at in
    let i = c.u16_at-in-Action in
    (actions-unlike g same (key kinds.Action c.of-j.ensures c.in-Action.is) n.result i.result n.ensures.0 i.ensures.0 c.if-u16_at.true).written _ _
    (rw (c.of-j.ensures, c.of-k.ensures) at c.write_unlike-then-u16_at.ensures)

pub write_bound-write_action-requires : goal.write_bound-write_action-requires
write_bound-write_action-requires t c =
    let args = c.args in
    let g = given (as_mode args.mode) args.levels args.a.now args.b.now c.requires.a_whole c.requires.b_whole
    (λ i. (c.type_inv.a i).fits) (λ i. (c.type_inv.b i).fits)
    c.requires.ready in
    let same = (same-kind c.of-j.result c.of-k.result c.of-j.ensures c.of-k.ensures c.if-ne.ensures) in
    let n = c.u16_at in
    let i = c.u16_at-in-Action in
    let kind-is = (key kinds.Action c.of-j.ensures c.in-Action.is) in
    let named = c.if-u16_at.false in (
      omega (arith, c.decreases, (is-action args.levels args.a.now c.requires.a_whole kind-is).deep),
      rw (rest_0 args.a.now, rest_0 args.b.now) (
        (c.requires.a_whole, kind-is),
        (
          (c.requires.b_whole, sym same ∙ kind-is),
          (sym n.ensures.0 ∙ named ∙ i.ensures.0, (actions-strict g same kind-is n.result i.result n.ensures.0 i.ensures.0 named).ready),
        ),
      ),
    )

pub write_bound-put_bytes-requires-in_default : goal.write_bound-put_bytes-requires-in_default
write_bound-put_bytes-requires-in_default t c =
    let args = c.args in
    let g = given (as_mode args.mode) args.levels args.a.now args.b.now c.requires.a_whole c.requires.b_whole
    (λ i. (c.type_inv.a i).fits) (λ i. (c.type_inv.b i).fits)
    c.requires.ready in
    let same = (same-kind c.of-j.result c.of-k.result c.of-j.ensures c.of-k.ensures c.if-ne.ensures) in
    let m = c.in_default in
    (others-copied g same (not-key c.of-j.result kinds.Set c.of-j.ensures m.not-Set) (not-key c.of-j.result kinds.Record c.of-j.ensures m.not-Record) (not-key c.of-j.result kinds.Entity c.of-j.ensures m.not-Entity) (not-key c.of-j.result kinds.Action c.of-j.ensures m.not-Action)).room

pub write_bound-returns-else-is_permissive : goal.write_bound-returns-else-is_permissive
write_bound-returns-else-is_permissive t c =
    let args = c.args in
    let g = given (as_mode args.mode) args.levels args.a.now args.b.now c.requires.a_whole c.requires.b_whole
    (λ i. (c.type_inv.a i).fits) (λ i. (c.type_inv.b i).fits)
    c.requires.ready in
    let same = (same-kind c.of-j.result c.of-k.result c.of-j.ensures c.of-k.ensures c.if-ne.ensures) in
    (entities-copied g same (key kinds.Entity c.of-j.ensures c.in-Entity.is) (sym c.is_permissive.ensures ∙ c.if-is_permissive.false)).written _ _
    c.put_bytes-in-Entity.ensures

pub write_bound-returns-else-u16_at : goal.write_bound-returns-else-u16_at
write_bound-returns-else-u16_at t c =
    let args = c.args in
    let g = given (as_mode args.mode) args.levels args.a.now args.b.now c.requires.a_whole c.requires.b_whole
    (λ i. (c.type_inv.a i).fits) (λ i. (c.type_inv.b i).fits)
    c.requires.ready in
    let same = (same-kind c.of-j.result c.of-k.result c.of-j.ensures c.of-k.ensures c.if-ne.ensures) in
    let n = c.u16_at in
    let i = c.u16_at-in-Action in
    (actions-strict g same (key kinds.Action c.of-j.ensures c.in-Action.is) n.result i.result n.ensures.0 i.ensures.0 c.if-u16_at.false).written _ _
    (rw (rest_0 args.a.now, rest_0 args.b.now) at c.write_action.ensures)

pub write_bound-returns-in_default : goal.write_bound-returns-in_default
write_bound-returns-in_default t c =
    let args = c.args in
    let g = given (as_mode args.mode) args.levels args.a.now args.b.now c.requires.a_whole c.requires.b_whole
    (λ i. (c.type_inv.a i).fits) (λ i. (c.type_inv.b i).fits)
    c.requires.ready in
    let same = (same-kind c.of-j.result c.of-k.result c.of-j.ensures c.of-k.ensures c.if-ne.ensures) in
    let m = c.in_default in
    (others-copied g same (not-key c.of-j.result kinds.Set c.of-j.ensures m.not-Set) (not-key c.of-j.result kinds.Record c.of-j.ensures m.not-Record) (not-key c.of-j.result kinds.Entity c.of-j.ensures m.not-Entity) (not-key c.of-j.result kinds.Action c.of-j.ensures m.not-Action)).written _ _ c.put_bytes-in_default.ensures

pub write_record-slice_bounds-x-count : goal.write_record-slice_bounds-x-count
write_record-slice_bounds-x-count t c = omega (arith, (is-record c.args.levels c.args.a.now c.requires.a_whole.0 c.requires.a_whole.1).some)

pub write_record-slice_bounds-x-start : goal.write_record-slice_bounds-x-start
write_record-slice_bounds-x-start t c = omega (arith, (is-record c.args.levels c.args.a.now c.requires.a_whole.0 c.requires.a_whole.1).some)

pub write_record-slice_bounds-y-count : goal.write_record-slice_bounds-y-count
write_record-slice_bounds-y-count t c = omega (arith, (is-record c.args.levels c.args.b.now c.requires.b_whole.0 c.requires.b_whole.1).some)

pub write_record-slice_bounds-y-start : goal.write_record-slice_bounds-y-start
write_record-slice_bounds-y-start t c = omega (arith, (is-record c.args.levels c.args.b.now c.requires.b_whole.0 c.requires.b_whole.1).some)

pub write_record-overflow_sub-levels : goal.write_record-overflow_sub-levels
write_record-overflow_sub-levels t c = omega (arith, (is-record c.args.levels c.args.a.now c.requires.a_whole.0 c.requires.a_whole.1).deep)

pub write_record-kept_count-n-requires : goal.write_record-kept_count-n-requires
write_record-kept_count-n-requires t c =
    let same = c.requires.a_whole.1 ∙ sym c.requires.b_whole.1 in
    let args = c.args in
    let g = given (as_mode args.mode) args.levels args.a.now args.b.now c.requires.a_whole.0 c.requires.b_whole.0
    (λ i. (c.type_inv.a i).fits) (λ i. (c.type_inv.b i).fits)
    c.requires.ready in
    record {
      a_tabled = record-tabled args.levels args.a.now c.requires.a_whole.0 c.requires.a_whole.1;
      b_tabled = record-tabled args.levels args.b.now c.requires.b_whole.0 c.requires.b_whole.1;
      joined = records-known g same c.requires.a_whole.1;
    }

pub write_record-bounds-a-1 : goal.write_record-bounds-a-1
write_record-bounds-a-1 t c = omega (arith, (is-record c.args.levels c.args.a.now c.requires.a_whole.0 c.requires.a_whole.1).some)

pub write_record-bounds-b-1 : goal.write_record-bounds-b-1
write_record-bounds-b-1 t c = omega (arith, (is-record c.args.levels c.args.b.now c.requires.b_whole.0 c.requires.b_whole.1).some)

pub write_record-u16_at-requires : goal.write_record-u16_at-requires
write_record-u16_at-requires t c =
    omega (arith, (is-record c.args.levels c.args.a.now c.requires.a_whole.0 c.requires.a_whole.1).some, length_rest 2 c.args.a.now)

pub write_record-u16_at-requires-2 : goal.write_record-u16_at-requires-2
write_record-u16_at-requires-2 t c =
    let args = c.args in
    omega (arith, (is-record args.levels args.b.now c.requires.b_whole.0 c.requires.b_whole.1).some, length_rest 2 args.b.now)

pub write_record-put_record-requires : goal.write_record-put_record-requires
write_record-put_record-requires t c =
    let same = c.requires.a_whole.1 ∙ sym c.requires.b_whole.1 in
    let args = c.args in
    let g = given (as_mode args.mode) args.levels args.a.now args.b.now c.requires.a_whole.0 c.requires.b_whole.0
    (λ i. (c.type_inv.a i).fits) (λ i. (c.type_inv.b i).fits)
    c.requires.ready in
    let kept = c.kept_count-n in
    let cut = records-cut g same c.requires.a_whole.1 kept.result c.u16_at.result c.u16_at-2.result c.is_open-is_open.result
    kept.ensures c.u16_at.ensures.0 c.u16_at-2.ensures.0 c.is_open-is_open.ensures in
    (behind-front cut g.ready, kept-few (behind-ready cut g.ready _ 4 refl refl) kept.result kept.ensures)

pub write_record-overflow_sub-levels-2 : goal.write_record-overflow_sub-levels-2
write_record-overflow_sub-levels-2 t c = omega (arith, (is-record c.args.levels c.args.a.now c.requires.a_whole.0 c.requires.a_whole.1).deep)

pub write_record-write_attributes-requires : goal.write_record-write_attributes-requires
write_record-write_attributes-requires t c =
    let same = c.requires.a_whole.1 ∙ sym c.requires.b_whole.1 in
    let args = c.args in
    let g = given (as_mode args.mode) args.levels args.a.now args.b.now c.requires.a_whole.0 c.requires.b_whole.0
    (λ i. (c.type_inv.a i).fits) (λ i. (c.type_inv.b i).fits)
    c.requires.ready in
    let kept = c.kept_count-n in
    let cut = records-cut g same c.requires.a_whole.1 kept.result c.u16_at.result c.u16_at-2.result c.is_open-is_open.result
    kept.ensures c.u16_at.ensures.0 c.u16_at-2.ensures.0 c.is_open-is_open.ensures in
    let put = c.put_record in (
      omega (arith, c.decreases, (is-record args.levels args.a.now c.requires.a_whole.0 c.requires.a_whole.1).deep),
      (
        record-tabled args.levels args.a.now c.requires.a_whole.0 c.requires.a_whole.1,
        (
          record-tabled args.levels args.b.now c.requires.b_whole.0 c.requires.b_whole.1,
          (kept.ensures, behind-ready cut g.ready put.new.out 4 put.ensures refl),
        ),
      ),
    )

pub write_record-returns : goal.write_record-returns
write_record-returns t c =
    let same = c.requires.a_whole.1 ∙ sym c.requires.b_whole.1 in
    let args = c.args in
    let g = given (as_mode args.mode) args.levels args.a.now args.b.now c.requires.a_whole.0 c.requires.b_whole.0
    (λ i. (c.type_inv.a i).fits) (λ i. (c.type_inv.b i).fits)
    c.requires.ready in
    let kept = c.kept_count-n in
    let cut = records-cut g same c.requires.a_whole.1 kept.result c.u16_at.result c.u16_at-2.result c.is_open-is_open.result
    kept.ensures c.u16_at.ensures.0 c.u16_at-2.ensures.0 c.is_open-is_open.ensures in
    let put = c.put_record in
    let rows = c.write_attributes in
    behind-written cut g.ready put.new.out 4 put.ensures refl rows.new.out rows.result rows.ensures

pub write_set-invariant_of-left : goal.write_set-invariant_of-left
write_set-invariant_of-left t c = record { whole = c.requires.a_whole.0 }

pub write_set-invariant_of-right : goal.write_set-invariant_of-right
write_set-invariant_of-right t c = record { whole = c.requires.b_whole.0 }

pub write_set-past_typed-length-requires : goal.write_set-past_typed-length-requires
write_set-past_typed-length-requires t c = record { bounded = ap is_ok c.requires.ready.is; known_length = c.requires.known_length }

pub write_set-put_first-requires : goal.write_set-put_first-requires
write_set-put_first-requires t c =
    let first = is_set c.args.levels c.args.a.now c.requires.a_whole.0 c.requires.a_whole.1 in
    let second = is_set c.args.levels c.args.b.now c.requires.b_whole.0 c.requires.b_whole.1 in
    (set-untyped c.past_typed-length.ensures c.requires.ready c.if-sets-eq0.true first.is second.is).room

pub write_set-returns-then-sets-eq0 : goal.write_set-returns-then-sets-eq0
write_set-returns-then-sets-eq0 t c =
    let first = is_set c.args.levels c.args.a.now c.requires.a_whole.0 c.requires.a_whole.1 in
    let second = is_set c.args.levels c.args.b.now c.requires.b_whole.0 c.requires.b_whole.1 in
    (set-untyped c.past_typed-length.ensures c.requires.ready c.if-sets-eq0.true first.is second.is).written _ 1
    record { bytes = c.put_first.ensures; many = refl }

pub write_set-put_sets-requires : goal.write_set-put_sets-requires
write_set-put_sets-requires t c = typed-room c.past_typed-length.ensures c.requires.ready

pub write_set-write_bound-requires : goal.write_set-write_bound-requires
write_set-write_bound-requires t c =
    let past = c.past_typed-length.ensures in (
      omega (arith, c.decreases, past.down.below, c.if-sets-eq0.false),
      (
        c.past_typed-length.result.0.whole,
        (
          typed-whole past c.requires.ready refl,
          (typed-ready past c.requires.ready refl c.put_sets.new.out c.put_sets.ensures, typed-known past c.requires.ready refl),
        ),
      ),
    )

pub write_set-returns : goal.write_set-returns
write_set-returns t c =
    typed-written c.past_typed-length.ensures c.requires.ready refl c.put_sets.new.out c.put_sets.ensures c.write_bound.new.out c.write_bound.result
    c.write_bound.ensures

pub write_bound-of-j-requires : goal.write_bound-of-j-requires
write_bound-of-j-requires t c = whole-kind c.args.levels c.args.a.now c.requires.a_whole

pub write_bound-of-k-requires : goal.write_bound-of-k-requires
write_bound-of-k-requires t c = whole-kind c.args.levels c.args.b.now c.requires.b_whole

pub write_attributes-overflow_mul-pos : goal.write_attributes-overflow_mul-pos
write_attributes-overflow_mul-pos t c = omega (arith, kept-few c.requires.ready c.args.n c.requires.n_kept)

pub write_attributes-loop-row-init : goal.write_attributes-loop-row-init
write_attributes-loop-row-init t c =
    let first = split c.at-rows.ensures.left c.at-rows.ensures.entries c.at-rows.ensures.bodies in
    let second = split c.at-others.ensures.left c.at-others.ensures.entries c.at-others.ensures.bodies in
    joining-start c.requires.a_tabled c.requires.b_tabled first second (as_mode c.args.mode) c.args.n c.requires.n_kept c.requires.ready

pub write_attributes-next-requires : goal.write_attributes-next-requires
write_attributes-next-requires t c = (lit< tt, laid c.loop-row.invariant.walk.first)

pub write_attributes-find-requires : goal.write_attributes-find-requires
write_attributes-find-requires t c = (lit< tt, laid c.loop-row.invariant.walk.second)

pub write_attributes-kept_with-requires-clause-row_whole : goal.write_attributes-kept_with-requires-clause-row_whole
write_attributes-kept_with-requires-clause-row_whole t c =
    walk-whole c.loop-row.invariant.walk c.in-Some.ensures c.name-name.ensures.0 c.find.ensures.passed

pub write_attributes-kept_with-requires-clause-other_whole : goal.write_attributes-kept_with-requires-clause-other_whole
write_attributes-kept_with-requires-clause-other_whole t c =
    walk-other c.loop-row.invariant.walk c.in-Some.ensures c.name-name.ensures.0 c.find.ensures.passed c.find.result c.find.ensures.sought

pub write_attributes-kept_with-requires-clause-bounded : goal.write_attributes-kept_with-requires-clause-bounded
write_attributes-kept_with-requires-clause-bounded t c =
    joining-known c.loop-row.invariant c.in-Some.ensures c.name-name.ensures.0 c.find.ensures.passed c.find.result c.find.ensures.sought

pub write_attributes-loop-row-preserved-in_default-kept_with : goal.write_attributes-loop-row-preserved-in_default-kept_with
write_attributes-loop-row-preserved-in_default-kept_with t c =
    joining-none c.loop-row.invariant c.in-Some.ensures c.name-name.ensures.0 c.find.ensures.passed c.find.result c.find.ensures.sought c.in_default-kept_with.ensures

pub write_attributes-is_required-required-requires : goal.write_attributes-is_required-required-requires
write_attributes-is_required-required-requires t c =
    let other-whole = walk-other c.loop-row.invariant.walk c.in-Some.ensures c.name-name.ensures.0 c.find.ensures.passed c.find.result c.find.ensures.sought in
    omega (arith, (other-whole c.in-Some-kept_with.other c.in-Some-kept_with.ensures.0).sized)

pub write_attributes-write_bound-len-requires : goal.write_attributes-write_bound-len-requires
write_attributes-write_bound-len-requires t c =
    let w = c.loop-row.invariant in
    let row-whole = walk-whole w.walk c.in-Some.ensures c.name-name.ensures.0 c.find.ensures.passed in
    let other-whole = walk-other w.walk c.in-Some.ensures c.name-name.ensures.0 c.find.ensures.passed c.find.result c.find.ensures.sought in
    let ready = joining-ready c.loop-row.invariant c.in-Some.ensures c.name-name.ensures.0 c.find.ensures.passed c.find.result c.find.ensures.sought c.in-Some-kept_with.other
    c.in-Some-kept_with.ensures in
    (omega (arith, c.decreases), (row-whole.body, ((other-whole c.in-Some-kept_with.other c.in-Some-kept_with.ensures.0).body, (ready, tt))))

pub write_attributes-put_attribute-requires : goal.write_attributes-put_attribute-requires
write_attributes-put_attribute-requires t c =
    let wrote = c.write_bound-len in
    let room = joining-room c.loop-row.invariant c.in-Some.ensures c.name-name.ensures.0 c.find.ensures.passed c.find.result c.find.ensures.sought c.in-Some-kept_with.other
    c.in-Some-kept_with.ensures wrote.new.out wrote.result wrote.ensures in
    let small = joining-small c.loop-row.invariant c.in-Some.ensures c.name-name.ensures.0 c.find.ensures.passed c.find.result c.find.ensures.sought c.in-Some-kept_with.other
    c.in-Some-kept_with.ensures wrote.new.out wrote.result wrote.ensures in
    (room, (c.name-name.ensures.1, omega (arith, small)))

pub write_attributes-loop-row-preserved : goal.write_attributes-loop-row-preserved
write_attributes-loop-row-preserved t c =
    let wrote = c.write_bound-len in
    let flags : c.if-is_required.required ≡ (row_flag c.in-Some.row && row_flag c.in-Some-kept_with.other) = elim c.if-is_required.branch [
      | write_attributes-then-is_required w ↦ w.required-is ∙ w.is_required-required.ensures ∙ rw (sym c.is_required.ensures ∙ w.if-is_required.true) refl
      | write_attributes-else-is_required w ↦ w.required-is ∙ w.if-is_required.false ∙ rw (sym c.is_required.ensures ∙ w.if-is_required.false) refl
    ] in
    joining-some c.loop-row.invariant c.in-Some.ensures c.name-name.ensures.0 c.find.ensures.passed c.find.result c.find.ensures.sought c.in-Some-kept_with.other
    c.in-Some-kept_with.ensures wrote.new.out wrote.result wrote.ensures c.if-is_required.required c.put_attribute.new.out flags c.put_attribute.ensures

pub write_attributes-returns : goal.write_attributes-returns
write_attributes-returns t c = joining-end c.loop-row.invariant (omega (arith, c.in_default.ensures.none))
