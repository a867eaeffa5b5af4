use Rattle.schemas.specs.Laws.Finders.{entities-laid}
use Rattle.schemas.proofs.schema.Schema.find_entity.Goals as goal

pub find_row-requires-clause-laid : goal.find_row-requires-clause-laid
find_row-requires-clause-laid c = entities-laid c.args.self.now.sectioned
