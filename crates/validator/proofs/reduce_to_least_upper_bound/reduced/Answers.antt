use Rattle.forms.specs.Limits.{as_limits}
use Rattle.forms.specs.Laws.Modes.{mode-known}
use Rattle.validator.specs.Laws.Fold.{list-there, list-opened, folds-not, folds-exact, folds-length, folds-over, folds-typed}
use Rattle.validator.specs.Laws.Fold.{fold-schema, fold-list, fold-refused, fold-writes}
use Rattle.validator.specs.Laws.Writing.{refuses-as}
use Rattle.validator.specs.Laws.Questions.{missing}
use Rattle.validator.specs.Laws.Schemas.{checked-missing, checked-there}
use Rattle.forms.specs.Modes.{as_mode}
use Rattle.forms.specs.ListBytes.{list_of}
use Rattle.cedar.specs.Calls.{step_fits}
use Rattle.cedar.specs.Fold.{fold_types}
use Rattle.cedar.specs.Whole.{whole_list}
use lib.ListN.{length}
use Rattle.forms.specs.Refusals.{number_of}
use Rattle.validator.proofs.reduce_to_least_upper_bound.reduced.Goals as goal

pub returns-in_default : goal.returns-in_default
returns-in_default c =
    let args = c.args in
    let by-mode-known = mode-known args.mode c.try_from.result c.try_from.ensures c.in_ok-m.m c.in_ok-m.was in
    let by-checked-missing = checked-missing args.schema.now c.requires.fair
    c.in_default.is in
    fold-schema (as_limits args.schema.now.limits) c.requires.fair args.mode args.schema.now.bytes.now args.list.now args.out.now (length
    args.work.now) _ by-mode-known by-checked-missing

pub returns-then-not-whole_list : goal.returns-then-not-whole_list
returns-then-not-whole_list c =
    let whole-list = c.whole_list in
    let args = c.args in
    let by-mode-known = mode-known args.mode c.try_from.result c.try_from.ensures c.in_ok-m.m c.in_ok-m.was in
    let by-checked-there = checked-there args.schema.now c.in-Some.field-0 c.in-Some.is in
    let by-missing = missing (whole_list (as_limits args.schema.now.limits) args.list.now) whole-list.result whole-list.ensures c.if-not-whole_list.true-raw in
    fold-list (as_limits args.schema.now.limits) c.requires.fair args.mode args.schema.now.bytes.now args.list.now args.out.now (length
    args.work.now) _ by-mode-known _ by-checked-there by-missing

pub fold_types-requires : goal.fold_types-requires
fold_types-requires c =
    let if1 = c.if-not-whole_list in
    let whole-list = c.whole_list in
    let args = c.args in
    list-opened (as_limits args.schema.now.limits) args.list.now whole-list.result whole-list.ensures if1.false-raw c.requires.fair _ c.requires.last_room

pub returns-then-not-answer_fits : goal.returns-then-not-answer_fits
returns-then-not-answer_fits c =
    let answer-fits = c.answer_fits in
    let fold-types = c.fold_types in
    let if1 = c.if-not-whole_list in
    let whole-list = c.whole_list in
    let args = c.args in
    let f = fold_types (step_fits (as_limits args.schema.now.limits) (length args.work.now)) (as_mode c.in_ok-m.m) (list_of args.schema.now.limits.levels
    args.list.now) in
    let by-mode-known = mode-known args.mode c.try_from.result c.try_from.ensures c.in_ok-m.m c.in_ok-m.was in
    let by-folds-over = folds-over (as_limits args.schema.now.limits) f args.out.now fold-types.new.last fold-types.result fold-types.ensures
    c.in_ok-n.n c.in_ok-n.was
    answer-fits.result answer-fits.ensures c.if-not-answer_fits.true-raw in
    let by-checked-there = checked-there args.schema.now c.in-Some.field-0 c.in-Some.is in
    let by-list-there = list-there (as_limits args.schema.now.limits) args.list.now whole-list.result whole-list.ensures if1.false-raw in
    fold-refused (as_limits args.schema.now.limits) c.requires.fair args.mode args.schema.now.bytes.now args.list.now args.out.now (length
    args.work.now) _ by-mode-known _ by-checked-there by-list-there
    10 by-folds-over

pub returns : goal.returns
returns c =
    let copy = c.copy in
    let if2 = c.if-not-answer_fits in
    let answer-fits = c.answer_fits in
    let fold-types = c.fold_types in
    let if1 = c.if-not-whole_list in
    let whole-list = c.whole_list in
    let args = c.args in
    let f = fold_types (step_fits (as_limits args.schema.now.limits) (length args.work.now)) (as_mode c.in_ok-m.m) (list_of args.schema.now.limits.levels
    args.list.now) in
    let by-mode-known = mode-known args.mode c.try_from.result c.try_from.ensures c.in_ok-m.m c.in_ok-m.was in
    let by-folds-typed = folds-typed (as_limits args.schema.now.limits) f args.out.now fold-types.new.last fold-types.result fold-types.ensures
    c.in_ok-n.n c.in_ok-n.was
    answer-fits.result answer-fits.ensures if2.false-raw in
    let by-checked-there = checked-there args.schema.now c.in-Some.field-0 c.in-Some.is in
    let by-list-there = list-there (as_limits args.schema.now.limits) args.list.now whole-list.result whole-list.ensures if1.false-raw in
    let by-folds-exact = folds-exact (as_limits args.schema.now.limits) f args.out.now fold-types.new.last fold-types.result fold-types.ensures
    c.in_ok-n.n c.in_ok-n.was in
    let by-folds-length = folds-length (as_limits args.schema.now.limits) f args.out.now fold-types.new.last fold-types.result
    fold-types.ensures c.in_ok-n.n
    c.in_ok-n.was in
    fold-writes (as_limits args.schema.now.limits) c.requires.fair args.mode args.schema.now.bytes.now args.list.now args.out.now (length
    args.work.now) _ by-mode-known _ by-checked-there by-list-there
    c.in_ok-n.n fold-types.new.last by-folds-typed by-folds-exact by-folds-length copy.new.out copy.ensures
    c.type_levels.result c.type_levels.ensures

pub returns-in_err-n : goal.returns-in_err-n
returns-in_err-n c =
    let refusal = c.in_err-n.field-0.0 in
    let fold-types = c.fold_types in
    let if1 = c.if-not-whole_list in
    let whole-list = c.whole_list in
    let args = c.args in
    let f = fold_types (step_fits (as_limits args.schema.now.limits) (length args.work.now)) (as_mode c.in_ok-m.m) (list_of args.schema.now.limits.levels
    args.list.now) in
    let by-mode-known = mode-known args.mode c.try_from.result c.try_from.ensures c.in_ok-m.m c.in_ok-m.was in
    let by-checked-there = checked-there args.schema.now c.in-Some.field-0 c.in-Some.is in
    let by-list-there = list-there (as_limits args.schema.now.limits) args.list.now whole-list.result whole-list.ensures if1.false-raw in
    let by-folds-not = folds-not (as_limits args.schema.now.limits) f args.out.now fold-types.new.last fold-types.result fold-types.ensures
    refusal c.in_err-n.was in
    refuses-as c.from_residual-in_err-n.result refusal c.from_residual-in_err-n.ensures.1 (fold-refused (as_limits args.schema.now.limits) c.requires.fair args.mode args.schema.now.bytes.now args.list.now args.out.now (length
    args.work.now) _ by-mode-known _ by-checked-there by-list-there
    (number_of refusal) by-folds-not)
