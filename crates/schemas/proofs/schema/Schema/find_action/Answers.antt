use Rattle.schemas.specs.Laws.Finders.{actions-laid}
use Rattle.schemas.proofs.schema.Schema.find_action.Goals as goal

pub find_row-requires-clause-laid : goal.find_row-requires-clause-laid
find_row-requires-clause-laid c = actions-laid c.args.self.now.sectioned
