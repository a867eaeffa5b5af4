use Rattle.forms.specs.Laws.Names.{names-of-entries}
use Rattle.forms.specs.TypeBytes.{dec}
use Rattle.bound_lengths.proofs.pairs.names_allowed.Goals as goal

pub returns : goal.returns
returns c =
    let a = c.args.attributes in
    let b = c.args.others in
    rw (
      names-of-entries (dec a.levels) a.rows.left a.rows.entries.now a.rows.bodies.now,
      names-of-entries (dec b.levels) b.rows.left b.rows.entries.now b.rows.bodies.now,
    )
    c.rows_allowed.ensures
