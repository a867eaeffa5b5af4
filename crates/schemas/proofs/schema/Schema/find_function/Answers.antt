use Rattle.std.proofs.Common.{arith, ap, ◌∙◌}
use Rattle.std.specs.Prelude.{option_map}
use Rattle.schemas.specs.Entries.{signature_bytes}
use Rattle.schemas.specs.Laws.Finders.{functions-laid, function-room, signature-not}
use Rattle.schemas.proofs.schema.Schema.find_function.Goals as goal

pub find_row-requires-clause-laid : goal.find_row-requires-clause-laid
find_row-requires-clause-laid c = functions-laid c.args.self.now.sectioned

pub bounds-row-2 : goal.bounds-row-2
bounds-row-2 c = omega (arith, function-room c.args.self.now.sectioned c.args.name _ c.find_row.ensures _ c.in_ok-row.was)

pub u16_at-requires : goal.u16_at-requires
u16_at-requires c = omega (arith, function-room c.args.self.now.sectioned c.args.name _ c.find_row.ensures _ c.in_ok-row.was)

pub returns-in_err-row : goal.returns-in_err-row
returns-in_err-row c =
    ap (option_map signature_bytes) c.from_residual.ensures ∙ signature-not c.find_row.result c.find_row.ensures c.in_err-row.was
