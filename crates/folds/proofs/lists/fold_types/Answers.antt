use Rattle.std.proofs.Common.{length, lit<}
use Rattle.forms.specs.Limits.{as_limits}
use Rattle.forms.specs.Modes.{as_mode}
use Rattle.forms.specs.Laws.Lists.{is-list}
use Rattle.folds.specs.Laws.Lists.{never-held, list-sound, list-folds}
use Rattle.folds.proofs.lists.fold_types.Goals as goal

pub at-requires : goal.at-requires
at-requires c = (lit< tt, (is-list (as_limits c.args.limits) c.args.list.now c.requires.good).fit)

pub fold_onto-requires : goal.fold_onto-requires
fold_onto-requires c =
    let args = c.args in
    let sound = list-sound (as_limits args.limits) args.list.now args.last.now c.requires c.at.result.left c.at.ensures.left in
    record {
      held = never-held (as_limits args.limits) args.list.now args.last.now c.requires;
      sound_ts = rw (c.at.ensures.entries, c.at.ensures.bodies, ← c.at.ensures.left) sound;
    }

pub returns : goal.returns
returns c =
    let args = c.args in
    let onto = c.fold_onto in
    list-folds (as_limits args.limits) args.list.now args.last.now c.requires c.at.result.left c.at.ensures.left (length args.work.now)
    (as_mode args.mode) onto.new.last onto.result (rw (c.at.ensures.entries, c.at.ensures.bodies, ← c.at.ensures.left) at onto.ensures)
