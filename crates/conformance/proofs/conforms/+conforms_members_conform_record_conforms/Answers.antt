use Rattle.conformance.specs.Laws.Records.{record-start, record-end, attributes-laid, pairs-laid, pair-whole, pair-found, pair-absent, attribute-whole, record-stop, record-again}
use Rattle.conformance.specs.Laws.Members.{members-laid, member-whole}
use Rattle.cedar.specs.Conformance.{verdict}
use Rattle.conformance.specs.Laws.Members.{members-end, members-stop, members-again}
use Rattle.conformance.specs.Laws.Conforms.{taken-kind, kind-not, kind-atom-yes, set-members, record-pairs, record-parts, entity-names, uid-length}
use Rattle.conformance.specs.Laws.Conforms.{action-name, extension-call}
use Rattle.forms.specs.Laws.Values.{value-level, value-first, value-kind, value_as}
use Rattle.forms.specs.Laws.Parts.{rest_0}
use Rattle.forms.specs.Laws.Views.{is_set, is-entity, is-action, is-extension}
use Rattle.conformance.specs.Verdicts.{verdict_of}
use mathlib.Core.Bool.{Bool}
use mathlib.Core.Path.{◌≡◌, refl, ap, sym, ◌∙◌}
use Rattle.std.proofs.Common.{ap₂}
use Rattle.forms.specs.Parts.{kind}
use Rattle.forms.specs.Kinds.{kind_number}
use Rattle.forms.specs.declared.kinds.Kind.{Kind}
use Rattle.forms.specs.declared.kinds.Kind.TheVariants.{Set, Record, Entity, Action, Extension}
use Rattle.forms.specs.Laws.Kinds.{whole-kind, kind-same}
use Rattle.conformance.specs.Kinds.{takes}
use native.Mathlib.Omega.{arith}
use Rattle.conformance.proofs.conforms.+conforms_members_conform_record_conforms.Goals as goal
use Rattle.conformance.proofs.conforms.+conforms_members_conform_record_conforms.Goals.{record_conforms-in-Some-find, record_conforms-in-None}

pub conforms-of-kind-requires : goal.conforms-of-kind-requires
conforms-of-kind-requires t c = whole-kind c.args.levels c.args.t.now c.requires.t_whole

pub conforms-of-requires : goal.conforms-of-requires
conforms-of-requires t c =
    let known = value-kind c.args.levels c.args.v.now c.requires.v_whole in
    (value-first c.args.levels c.args.v.now c.requires.v_whole, omega arith)

pub conforms-returns-then-not-takes_kind : goal.conforms-returns-then-not-takes_kind
conforms-returns-then-not-takes_kind t c =
    let q = c.takes_kind in
    let args = c.args in
    kind-not _ _ args.levels args.t.now args.v.now c.requires.t_whole c.requires.v_whole q.result (q.ensures ∙ ap₂ takes c.of-kind.ensures c.of.ensures) c.if-not-takes_kind.true-raw

pub conforms-overflow_sub-levels : goal.conforms-overflow_sub-levels
conforms-overflow_sub-levels t c = omega (arith, value-level c.args.levels c.args.v.now c.requires.v_whole)

pub conforms-members_conform-requires : goal.conforms-members_conform-requires
conforms-members_conform-requires t c =
    let if1 = c.if-not-takes_kind in
    let q = c.takes_kind in
    let args = c.args in
    let by-taken-kind = taken-kind args.t.now args.v.now q.result (q.ensures ∙ ap₂ takes c.of-kind.ensures c.of.ensures) if1.false-raw 7 5 (sym c.in-Set.ensures) refl in
    let by-value-as = value_as args.levels args.v.now c.requires.v_whole 5 by-taken-kind in (
      omega (arith, c.decreases, value-level args.levels args.v.now c.requires.v_whole),
      (((is_set args.levels args.t.now c.requires.t_whole (sym c.in-Set.ensures)).good, rw (rest_0 args.v.now) by-value-as)),
    )

pub conforms-overflow_sub-levels-in-Record : goal.conforms-overflow_sub-levels-in-Record
conforms-overflow_sub-levels-in-Record t c = omega (arith, value-level c.args.levels c.args.v.now c.requires.v_whole)

pub conforms-record_conforms-requires : goal.conforms-record_conforms-requires
conforms-record_conforms-requires t c =
    let if1 = c.if-not-takes_kind in
    let q = c.takes_kind in
    let args = c.args in
    let by-record-parts = record-parts args.levels args.t.now args.v.now c.requires.t_whole c.requires.v_whole (sym c.in-Record.ensures) in
    let by-taken-kind = taken-kind args.t.now args.v.now q.result (q.ensures ∙ ap₂ takes c.of-kind.ensures c.of.ensures) if1.false-raw 8 6 (sym c.in-Record.ensures) refl in
    let by-value-as = value_as args.levels args.v.now c.requires.v_whole 6 by-taken-kind in (
      omega (arith, c.decreases, value-level args.levels args.v.now c.requires.v_whole),
      ((rw (rest_0 args.t.now) by-record-parts, rw (rest_0 args.v.now) by-value-as)),
    )

pub conforms-slice_bounds-stands-count : goal.conforms-slice_bounds-stands-count
conforms-slice_bounds-stands-count t c = omega (arith, (is-entity c.args.levels c.args.t.now c.requires.t_whole (sym c.in-Entity.ensures)).some)

pub conforms-slice_bounds-stands-start : goal.conforms-slice_bounds-stands-start
conforms-slice_bounds-stands-start t c = conforms-slice_bounds-stands-count t c

pub conforms-u16_at-requires : goal.conforms-u16_at-requires
conforms-u16_at-requires t c =
    let if1 = c.if-not-takes_kind in
    let q = c.takes_kind in
    let args = c.args in
    let by-taken-kind = taken-kind args.t.now args.v.now q.result (q.ensures ∙ ap₂ takes c.of-kind.ensures c.of.ensures) if1.false-raw 10 4 (sym c.in-Entity.ensures) refl in
    let by-uid-length = uid-length args.levels args.t.now args.v.now c.requires.t_whole c.requires.v_whole by-taken-kind in
    omega (arith, by-uid-length)

pub conforms-u16_at-requires-in-Action : goal.conforms-u16_at-requires-in-Action
conforms-u16_at-requires-in-Action t c =
    let q = c.takes_kind in
    let args = c.args in
    let by-taken-kind = taken-kind args.t.now args.v.now q.result (q.ensures ∙ ap₂ takes c.of-kind.ensures c.of.ensures) c.if-not-takes_kind.false-raw 11 4 (sym c.in-Action.ensures) refl in
    let by-uid-length = uid-length args.levels args.t.now args.v.now c.requires.t_whole c.requires.v_whole by-taken-kind in
    omega (arith, by-uid-length)

pub conforms-u16_at-requires-in-Action-2 : goal.conforms-u16_at-requires-in-Action-2
conforms-u16_at-requires-in-Action-2 t c = omega (arith, (is-action c.args.levels c.args.t.now c.requires.t_whole (sym c.in-Action.ensures)).some)

pub conforms-u16_at-name-requires : goal.conforms-u16_at-name-requires
conforms-u16_at-name-requires t c = omega (arith, (is-extension c.args.levels c.args.t.now c.requires.t_whole (sym c.in-Extension.ensures)).sized)

pub conforms-overflow_sub-levels-in-Extension : goal.conforms-overflow_sub-levels-in-Extension
conforms-overflow_sub-levels-in-Extension t c = omega (arith, value-level c.args.levels c.args.v.now c.requires.v_whole)

pub conforms-call_returns-requires : goal.conforms-call_returns-requires
conforms-call_returns-requires t c =
    let if1 = c.if-not-takes_kind in
    let q = c.takes_kind in
    let args = c.args in
    let by-taken-kind = taken-kind args.t.now args.v.now q.result (q.ensures ∙ ap₂ takes c.of-kind.ensures c.of.ensures) if1.false-raw 12 7 (sym c.in-Extension.ensures) refl in
    let by-value-as = value_as args.levels args.v.now c.requires.v_whole 7 by-taken-kind in
    rw (rest_0 args.v.now) by-value-as

pub conforms-returns-in-Set : goal.conforms-returns-in-Set
conforms-returns-in-Set t c =
    let if1 = c.if-not-takes_kind in
    let q = c.takes_kind in
    let args = c.args in
    let by-taken-kind = taken-kind args.t.now args.v.now q.result (q.ensures ∙ ap₂ takes c.of-kind.ensures c.of.ensures) if1.false-raw 7 5 (sym c.in-Set.ensures) refl in
    (rw (rest_0 args.v.now) at c.members_conform.ensures) ∙
    set-members _ _ args.levels args.t.now args.v.now c.requires.t_whole c.requires.v_whole (sym c.in-Set.ensures) by-taken-kind

pub conforms-returns-in-Record : goal.conforms-returns-in-Record
conforms-returns-in-Record t c =
    let if1 = c.if-not-takes_kind in
    let q = c.takes_kind in
    let args = c.args in
    let by-taken-kind = taken-kind args.t.now args.v.now q.result (q.ensures ∙ ap₂ takes c.of-kind.ensures c.of.ensures) if1.false-raw 8 6 (sym c.in-Record.ensures) refl in
    (rw (rest_0 args.t.now, rest_0 args.v.now) at c.record_conforms.ensures) ∙
    record-pairs _ _ args.levels args.t.now args.v.now c.requires.t_whole c.requires.v_whole (sym c.in-Record.ensures) by-taken-kind

pub conforms-returns-in-Entity : goal.conforms-returns-in-Entity
conforms-returns-in-Entity t c =
    let if1 = c.if-not-takes_kind in
    let q = c.takes_kind in
    let args = c.args in
    let by-taken-kind = taken-kind args.t.now args.v.now q.result (q.ensures ∙ ap₂ takes c.of-kind.ensures c.of.ensures) if1.false-raw 10 4 (sym c.in-Entity.ensures) refl in
    c.tested.ensures ∙ ap (λ (b : Bool). verdict_of (verdict b)) c.stands.ensures ∙
    entity-names _ _ args.levels args.t.now args.v.now c.requires.t_whole c.requires.v_whole (sym c.in-Entity.ensures) by-taken-kind c.u16_at.result
    c.u16_at.ensures.0

pub conforms-returns-in-Action : goal.conforms-returns-in-Action
conforms-returns-in-Action t c =
    let u16-at4 = c.u16_at-in-Action-2 in
    let u16-at3 = c.u16_at-in-Action in
    let if1 = c.if-not-takes_kind in
    let q = c.takes_kind in
    let args = c.args in
    let by-taken-kind = taken-kind args.t.now args.v.now q.result (q.ensures ∙ ap₂ takes c.of-kind.ensures c.of.ensures) if1.false-raw 11 4 (sym c.in-Action.ensures) refl in
    c.tested-in-Action.ensures ∙ ap (λ (b : Bool). verdict_of (verdict b)) c.is_action_of.ensures ∙
    action-name _ _ args.levels args.t.now args.v.now c.requires.t_whole c.requires.v_whole (sym c.in-Action.ensures) by-taken-kind u16-at3.result
    u16-at4.result u16-at3.ensures.0 u16-at4.ensures.0

pub conforms-returns-in-Extension : goal.conforms-returns-in-Extension
conforms-returns-in-Extension t c =
    let u16-at5 = c.u16_at-name in
    let if1 = c.if-not-takes_kind in
    let q = c.takes_kind in
    let args = c.args in
    let by-taken-kind = taken-kind args.t.now args.v.now q.result (q.ensures ∙ ap₂ takes c.of-kind.ensures c.of.ensures) if1.false-raw 12 7 (sym c.in-Extension.ensures) refl in
    (rw (rest_0 args.v.now) at c.call_returns.ensures) ∙
    extension-call _ _ args.levels args.t.now args.v.now c.requires.t_whole c.requires.v_whole (sym c.in-Extension.ensures) by-taken-kind u16-at5.result
    u16-at5.ensures.0

pub conforms-returns-in_default : goal.conforms-returns-in_default
conforms-returns-in_default t c =
    let q = c.takes_kind in
    let other = λ (k : Kind) (no : c.of-kind.result ≡ k → ⊥) (e : kind c.args.t.now ≡ kind_number k). no (kind-same c.of-kind.result k (c.of-kind.ensures ∙ e)) in
    let args = c.args in
    kind-atom-yes _ _ args.levels args.t.now args.v.now c.requires.t_whole c.requires.v_whole q.result (q.ensures ∙ ap₂ takes c.of-kind.ensures c.of.ensures) c.if-not-takes_kind.false-raw
    (other Set c.in_default.not-Set) (other Record c.in_default.not-Record) (other Entity c.in_default.not-Entity) (other Action c.in_default.not-Action)
    (other Extension c.in_default.not-Extension)

pub members_conform-next-requires : goal.members_conform-next-requires
members_conform-next-requires t c = (omega arith, members-laid c.loop-member.invariant)

pub members_conform-conforms-said-requires : goal.members_conform-conforms-said-requires
members_conform-conforms-said-requires t c =
    (omega (arith, c.decreases), (c.requires.t_whole, member-whole c.loop-member.invariant c.in-Some.ensures))

pub members_conform-loop-member-preserved : goal.members_conform-loop-member-preserved
members_conform-loop-member-preserved t c =
    members-again c.loop-member.invariant c.in-Some.ensures c.conforms-said.result c.conforms-said.ensures c.in-Holds.is

pub members_conform-returns-in_default-said : goal.members_conform-returns-in_default-said
members_conform-returns-in_default-said t c =
    members-stop c.loop-member.invariant c.in-Some.ensures c.conforms-said.result c.conforms-said.ensures c.in_default-said.not-Holds

pub members_conform-returns : goal.members_conform-returns
members_conform-returns t c = members-end c.loop-member.invariant c.in_default.ensures.none

pub record_conforms-loop-pair-init : goal.record_conforms-loop-pair-init
record_conforms-loop-pair-init t c =
    let attributes = c.at-attributes.ensures in
    let pairs = c.at-pairs.ensures in
    record-start c.args.levels _ _ c.args.t.now c.args.v.now c.requires.t_whole c.requires.v_whole attributes.left attributes.entries attributes.bodies
    pairs.left pairs.entries pairs.bodies _

pub record_conforms-next-requires : goal.record_conforms-next-requires
record_conforms-next-requires t c = (omega arith, pairs-laid c.loop-pair.invariant)

pub record_conforms-find-requires : goal.record_conforms-find-requires
record_conforms-find-requires t c = (omega arith, attributes-laid c.loop-pair.invariant)

pub record_conforms-conforms-said-requires : goal.record_conforms-conforms-said-requires
record_conforms-conforms-said-requires t c =
    let i = c.loop-pair.invariant in
    let row = c.in-Some.ensures in
    let found = c.in-Some-find.ensures in (
      omega (arith, c.decreases),
      (attribute-whole i row c.name.result c.name.ensures.0 found.passed found.sought, pair-whole i row),
    )

pub record_conforms-loop-pair-preserved : goal.record_conforms-loop-pair-preserved
record_conforms-loop-pair-preserved t c =
    record-again c.loop-pair.invariant c.in-Some.ensures c.name.result c.name.ensures.0 c.find.ensures.passed c.match-find.said
    (elim c.match-find.branch [
      | record_conforms-in-Some-find w ↦ w.said-is ∙ w.conforms-said.ensures
          ∙ pair-found c.loop-pair.invariant c.in-Some.ensures c.name.result c.name.ensures.0 c.find.ensures.passed w.in-Some-find.ensures.sought
      | record_conforms-in-None w ↦ w.said-is ∙ w.tested-said.ensures
          ∙ pair-absent c.loop-pair.invariant c.in-Some.ensures c.name.result c.name.ensures.0 c.find.ensures.passed w.in-None.ensures.sought
    ])
    c.in-Holds.is

pub record_conforms-returns-in_default-said : goal.record_conforms-returns-in_default-said
record_conforms-returns-in_default-said t c =
    record-stop c.loop-pair.invariant c.in-Some.ensures c.name.result c.name.ensures.0 c.find.ensures.passed c.match-find.said
    (elim c.match-find.branch [
      | record_conforms-in-Some-find w ↦ w.said-is ∙ w.conforms-said.ensures
          ∙ pair-found c.loop-pair.invariant c.in-Some.ensures c.name.result c.name.ensures.0 c.find.ensures.passed w.in-Some-find.ensures.sought
      | record_conforms-in-None w ↦ w.said-is ∙ w.tested-said.ensures
          ∙ pair-absent c.loop-pair.invariant c.in-Some.ensures c.name.result c.name.ensures.0 c.find.ensures.passed w.in-None.ensures.sought
    ])
    c.in_default-said.not-Holds

pub record_conforms-returns : goal.record_conforms-returns
record_conforms-returns t c =
    c.tested.ensures ∙ ap (λ (b : Bool). verdict_of (verdict b)) (c.has_required.ensures c.args.levels)
    ∙ record-end c.loop-pair.invariant c.in_default.ensures.none
