use Rattle.std.proofs.Common.{ℕ, length}
use Rattle.cedar.specs.Attribute.{lookup_names, keep_found}
use Rattle.cedar.specs.Calls.{step_fits}
use Rattle.forms.specs.Names.{names_in}
use Rattle.schemas.specs.Schema.{limits_in, said_by}
use Rattle.forms.specs.AttributeRows.{names_of}
use Rattle.lookups.specs.Laws.Names.{Keeping}
use Rattle.lookups.proofs.all_attributes.kept_names.Given as goal

abbrev pub invariant-loop-row : goal.invariant-loop-row
invariant-loop-row l =
    let look = λ (a : ℕ). lookup_names (step_fits (limits_in l.schema) (length l.fn.work)) (said_by l.schema) a (names_in l.types) in
    Keeping look (keep_found look (names_of l.initial.rows)) l.rows l.initial.kept l.bytes l.kept

abbrev pub decreases-loop-row : goal.decreases-loop-row
decreases-loop-row l = l.rows.left
