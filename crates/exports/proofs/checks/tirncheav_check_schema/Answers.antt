use Rattle.std.specs.Prelude.{◌≡◌}
use mathlib.Core.Path.{sym, ◌∙◌}
use borrow.Author.Tests.{not-false}
use Rattle.forms.specs.declared.limits.Limits.{Limits}
use Rattle.schemas.specs.SchemaBytes.{checked}
use Rattle.schemas.specs.Offsets.{offsets_of}
use Rattle.exports.specs.Laws.Checks.{near}
use Rattle.exports.proofs.checks.tirncheav_check_schema.Goals as goal

pub pack-requires : goal.pack-requires
pack-requires c =
    let limits : Limits = record { levels = c.args.levels; bytes = c.args.bytes } in
    let own : c.offsets.result ≡ offsets_of (checked limits c.args.schema.now) = rw (← c.new.ensures.0, ← c.new.ensures.1) c.offsets.ensures in
    near limits c.args.schema.now c.offsets.result (sym c.are_allowed.ensures ∙ not-false c.are_allowed.result c.if-not-are_allowed.false-raw) own
