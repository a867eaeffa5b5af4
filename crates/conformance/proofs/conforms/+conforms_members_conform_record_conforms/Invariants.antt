use Rattle.conformance.specs.Laws.Records.{RecordAhead}
use Rattle.schemas.specs.Schema.{said_by}
use Rattle.forms.specs.TypeBytes.{dec}
use Rattle.cedar.specs.Conformance.{each_value, has_required, conforms as has, verdict}
use Rattle.conformance.specs.Walks.{is_open, attributes_of, members_of, pairs_of, record_said}
use Rattle.conformance.specs.Laws.Members.{MembersAhead}
use Rattle.conformance.specs.Counts.{counts_of}
use Prim.Native.Nat.{◌+◌, ◌*◌}
use Rattle.conformance.proofs.conforms.+conforms_members_conform_record_conforms.Given as goal

abbrev pub decreases-conforms : goal.decreases-conforms
decreases-conforms l = 3 * l.levels

abbrev pub decreases-members_conform : goal.decreases-members_conform
decreases-members_conform l = 3 * l.levels + 1

abbrev pub decreases-record_conforms : goal.decreases-record_conforms
decreases-record_conforms l = 3 * l.levels + 1

abbrev pub invariant-members_conform-loop-member : goal.invariant-members_conform-loop-member
invariant-members_conform-loop-member l = MembersAhead l.levels (λ x. has (counts_of l.under.counts) (said_by l.under.schema) (dec l.levels l.t) x)
    (each_value (λ x. has (counts_of l.under.counts) (said_by l.under.schema) (dec l.levels l.t) x) (members_of l.levels l.v)) l.members.left l.members.entries.now l.members.bodies.now

abbrev pub decreases-members_conform-loop-member : goal.decreases-members_conform-loop-member
decreases-members_conform-loop-member l = l.members.left

abbrev pub invariant-record_conforms-loop-pair : goal.invariant-record_conforms-loop-pair
invariant-record_conforms-loop-pair l = RecordAhead l.levels (counts_of l.under.counts) (said_by l.under.schema) (is_open l.t) (record_said (counts_of l.under.counts) (said_by l.under.schema) (is_open l.t)
    (attributes_of l.levels l.t) (pairs_of l.levels l.v))
    (verdict (has_required (attributes_of l.levels l.t) (pairs_of l.levels l.v))) l.attributes.left l.attributes.entries.now l.attributes.bodies.now l.pairs.left l.pairs.entries.now l.pairs.bodies.now

abbrev pub decreases-record_conforms-loop-pair : goal.decreases-record_conforms-loop-pair
decreases-record_conforms-loop-pair l = l.pairs.left
