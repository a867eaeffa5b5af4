use Rattle.std.proofs.Common.{true, false, sym, ◌∙◌, arith, refl, lit<}
use Rattle.forms.specs.Modes.{as_mode}
use Rattle.forms.specs.Laws.Attributes.{laid}
use Rattle.bound_lengths.specs.Laws.Pairs.{walk-whole, walk-other}
use Rattle.bounds.specs.Laws.KeptAttributes.{strict-all, kept-some, counting-end, counting_more}
use Rattle.bounds.proofs.kept_attributes.kept_count.Goals as goal

pub returns-then-not-is_permissive : goal.returns-then-not-is_permissive
returns-then-not-is_permissive c =
    strict-all (as_mode c.args.mode) (sym c.is_permissive.ensures ∙ c.if-not-is_permissive.true) c.args.levels 0 c.args.a.now c.args.b.now
    c.at-rows.result.left c.at-rows.ensures.left c.requires.joined

pub next-requires : goal.next-requires
next-requires c = (lit< tt, laid c.loop-row.invariant.walk.first)

pub find-other-requires : goal.find-other-requires
find-other-requires c = (lit< tt, laid c.loop-row.invariant.walk.second)

pub kept_with-requires-clause-row_whole : goal.kept_with-requires-clause-row_whole
kept_with-requires-clause-row_whole c =
    walk-whole c.loop-row.invariant.walk c.in-Some.ensures c.name.ensures.0 c.find-other.ensures.passed

pub kept_with-requires-clause-other_whole : goal.kept_with-requires-clause-other_whole
kept_with-requires-clause-other_whole c =
    walk-other c.loop-row.invariant.walk c.in-Some.ensures c.name.ensures.0 c.find-other.ensures.passed c.find-other.result c.find-other.ensures.sought

pub loop-row-preserved-then-is_some : goal.loop-row-preserved-then-is_some
loop-row-preserved-then-is_some c =
    let is-kept = kept-some (as_mode c.args.mode) c.args.levels c.in-Some.row c.find-other.result c.kept_with.result c.kept_with.ensures ∙ sym c.is_some.ensures ∙ c.if-is_some.true in
    counting_more c.loop-row.invariant c.in-Some.ensures c.name.ensures.0 c.find-other.ensures.passed c.find-other.result c.find-other.ensures.sought
    true _ is-kept refl

pub loop-row-preserved : goal.loop-row-preserved
loop-row-preserved c =
    let is-kept = kept-some (as_mode c.args.mode) c.args.levels c.in-Some.row c.find-other.result c.kept_with.result c.kept_with.ensures ∙ sym c.is_some.ensures ∙ c.if-is_some.false in
    counting_more c.loop-row.invariant c.in-Some.ensures c.name.ensures.0 c.find-other.ensures.passed c.find-other.result c.find-other.ensures.sought
    false _ is-kept (omega arith)

pub returns : goal.returns
returns c = counting-end c.loop-row.invariant (omega (arith, c.in_default.ensures.none))
