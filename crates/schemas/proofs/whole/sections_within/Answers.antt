use mathlib.Core.Path.{sym, ◌∙◌}
use Rattle.schemas.specs.Laws.Checks.{check-over, check-head, head, ahead, ahead-inside, ahead-broken, past, ahead-over, ahead-whole}
use Rattle.schemas.proofs.whole.sections_within.Goals as goal

pub returns-then-s-gt-BLOCK_BYTES : goal.returns-then-s-gt-BLOCK_BYTES
returns-then-s-gt-BLOCK_BYTES c =
    check-over c.args.limits c.args.s.now c.if-s-gt-BLOCK_BYTES.true

pub returns-then-not-counts_within : goal.returns-then-not-counts_within
returns-then-not-counts_within c =
    check-head c.args.limits c.args.s.now c.counts_within.result c.counts_within.ensures c.if-not-counts_within.true-raw

pub entries_end-requires : goal.entries_end-requires
entries_end-requires c =
    let counted = sym c.counts_within.ensures ∙ c.if-not-counts_within.false in
    (head c.args.s.now counted).some

pub section_at-entities-requires : goal.section_at-entities-requires
section_at-entities-requires c =
    let counted = sym c.counts_within.ensures ∙ c.if-not-counts_within.false in
    let all = ahead c.args.limits c.args.s.now counted c.entries_end.result c.entries_end.ensures in
    all.counts.some

pub section_within-requires : goal.section_within-requires
section_within-requires c =
    let counted = sym c.counts_within.ensures ∙ c.if-not-counts_within.false in
    let all = ahead c.args.limits c.args.s.now counted c.entries_end.result c.entries_end.ensures in
    ahead-inside all c.section_at-entities.result c.section_at-entities.ensures

pub returns-in_err-second : goal.returns-in_err-second
returns-in_err-second c =
    let counted = sym c.counts_within.ensures ∙ c.if-not-counts_within.false in
    let all = ahead c.args.limits c.args.s.now counted c.entries_end.result c.entries_end.ensures in
    c.from_residual.ensures
    ∙ ahead-broken all c.section_at-entities.result c.section_at-entities.ensures c.section_within.result c.section_within.ensures c.in_err-second.was

pub section_at-actions-requires : goal.section_at-actions-requires
section_at-actions-requires c =
    let counted = sym c.counts_within.ensures ∙ c.if-not-counts_within.false in
    let all = ahead c.args.limits c.args.s.now counted c.entries_end.result c.entries_end.ensures in
    let one = past all c.section_at-entities.result c.section_at-entities.ensures c.section_within.result c.section_within.ensures c.in_ok-second.second c.in_ok-second.was in
    one.ahead.counts.some

pub section_within-requires-2 : goal.section_within-requires-2
section_within-requires-2 c =
    let counted = sym c.counts_within.ensures ∙ c.if-not-counts_within.false in
    let all = ahead c.args.limits c.args.s.now counted c.entries_end.result c.entries_end.ensures in
    let one = past all c.section_at-entities.result c.section_at-entities.ensures c.section_within.result c.section_within.ensures c.in_ok-second.second c.in_ok-second.was in
    ahead-inside one.ahead c.section_at-actions.result c.section_at-actions.ensures

pub returns-in_err-third : goal.returns-in_err-third
returns-in_err-third c =
    let counted = sym c.counts_within.ensures ∙ c.if-not-counts_within.false in
    let all = ahead c.args.limits c.args.s.now counted c.entries_end.result c.entries_end.ensures in
    let one = past all c.section_at-entities.result c.section_at-entities.ensures c.section_within.result c.section_within.ensures c.in_ok-second.second c.in_ok-second.was in
    c.from_residual-in_err-third.ensures
    ∙ ahead-broken one.ahead c.section_at-actions.result c.section_at-actions.ensures c.section_within-2.result c.section_within-2.ensures c.in_err-third.was

pub section_at-functions-requires : goal.section_at-functions-requires
section_at-functions-requires c =
    let counted = sym c.counts_within.ensures ∙ c.if-not-counts_within.false in
    let all = ahead c.args.limits c.args.s.now counted c.entries_end.result c.entries_end.ensures in
    let one = past all c.section_at-entities.result c.section_at-entities.ensures c.section_within.result c.section_within.ensures c.in_ok-second.second c.in_ok-second.was in
    let two = past one.ahead c.section_at-actions.result c.section_at-actions.ensures c.section_within-2.result c.section_within-2.ensures c.in_ok-third.third c.in_ok-third.was in
    two.ahead.counts.some

pub section_within-requires-3 : goal.section_within-requires-3
section_within-requires-3 c =
    let counted = sym c.counts_within.ensures ∙ c.if-not-counts_within.false in
    let all = ahead c.args.limits c.args.s.now counted c.entries_end.result c.entries_end.ensures in
    let one = past all c.section_at-entities.result c.section_at-entities.ensures c.section_within.result c.section_within.ensures c.in_ok-second.second c.in_ok-second.was in
    let two = past one.ahead c.section_at-actions.result c.section_at-actions.ensures c.section_within-2.result c.section_within-2.ensures c.in_ok-third.third c.in_ok-third.was in
    ahead-inside two.ahead c.section_at-functions.result c.section_at-functions.ensures

pub returns-in_err-end : goal.returns-in_err-end
returns-in_err-end c =
    let counted = sym c.counts_within.ensures ∙ c.if-not-counts_within.false in
    let all = ahead c.args.limits c.args.s.now counted c.entries_end.result c.entries_end.ensures in
    let one = past all c.section_at-entities.result c.section_at-entities.ensures c.section_within.result c.section_within.ensures c.in_ok-second.second c.in_ok-second.was in
    let two = past one.ahead c.section_at-actions.result c.section_at-actions.ensures c.section_within-2.result c.section_within-2.ensures c.in_ok-third.third c.in_ok-third.was in
    c.from_residual-in_err-end.ensures
    ∙ ahead-broken two.ahead c.section_at-functions.result c.section_at-functions.ensures c.section_within-3.result c.section_within-3.ensures c.in_err-end.was

pub returns-then-end-s : goal.returns-then-end-s
returns-then-end-s c =
    let counted = sym c.counts_within.ensures ∙ c.if-not-counts_within.false in
    let all = ahead c.args.limits c.args.s.now counted c.entries_end.result c.entries_end.ensures in
    let one = past all c.section_at-entities.result c.section_at-entities.ensures c.section_within.result c.section_within.ensures c.in_ok-second.second c.in_ok-second.was in
    let two = past one.ahead c.section_at-actions.result c.section_at-actions.ensures c.section_within-2.result c.section_within-2.ensures c.in_ok-third.third c.in_ok-third.was in
    let three = past two.ahead c.section_at-functions.result c.section_at-functions.ensures c.section_within-3.result c.section_within-3.ensures c.in_ok-end.end c.in_ok-end.was in
    ahead-over three.ahead c.if-end-s.true

pub returns : goal.returns
returns c =
    let counted = sym c.counts_within.ensures ∙ c.if-not-counts_within.false in
    let all = ahead c.args.limits c.args.s.now counted c.entries_end.result c.entries_end.ensures in
    let one = past all c.section_at-entities.result c.section_at-entities.ensures c.section_within.result c.section_within.ensures c.in_ok-second.second c.in_ok-second.was in
    let two = past one.ahead c.section_at-actions.result c.section_at-actions.ensures c.section_within-2.result c.section_within-2.ensures c.in_ok-third.third c.in_ok-third.was in
    let three = past two.ahead c.section_at-functions.result c.section_at-functions.ensures c.section_within-3.result c.section_within-3.ensures c.in_ok-end.end c.in_ok-end.was in
    ahead-whole three.ahead c.if-s-gt-BLOCK_BYTES.false c.if-end-s.false c.entries_end.result c.in_ok-second.second
    c.in_ok-third.third c.entries_end.ensures one.ends two.ends
    c.section_at-entities.result c.section_at-actions.result c.section_at-functions.result
    c.section_at-entities.ensures c.section_at-actions.ensures c.section_at-functions.ensures
