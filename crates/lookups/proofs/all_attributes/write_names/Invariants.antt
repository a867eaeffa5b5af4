use Rattle.cedar.specs.Bytes.{enc_names}
use Rattle.forms.specs.AttributeRows.{names_of}
use Rattle.lookups.specs.Laws.Names.{Naming}
use Rattle.lookups.proofs.all_attributes.write_names.Given as goal

abbrev pub invariant-loop-row : goal.invariant-loop-row
invariant-loop-row l = Naming (enc_names (names_of l.initial.rows)) l.initial.kept l.rows l.bytes l.kept

abbrev pub decreases-loop-row : goal.decreases-loop-row
decreases-loop-row l = l.rows.left
