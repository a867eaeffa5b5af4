use Rattle.std.proofs.Common.{◌∙◌, sym, ap₂}
use Rattle.cedar.specs.Types.{eq_names}
use Rattle.forms.specs.TypeBytes.{dec}
use Rattle.forms.specs.Laws.Names.{names-of-entries}
use Rattle.forms.proofs.type_forms.AttributeForms.same_names.Goals as goal

pub returns : goal.returns
returns c =
    let mine = c.args.self in
    let theirs = c.args.other in
    c.same_names.ensures ∙ ap₂ eq_names (sym (names-of-entries (dec mine.levels) mine.rows.left mine.rows.entries.now mine.rows.bodies.now))
    (sym (names-of-entries (dec theirs.levels) theirs.rows.left theirs.rows.entries.now theirs.rows.bodies.now))
