use Rattle.std.proofs.Common.{◌+◌, length}
use Rattle.cedar.specs.Bytes.{enc_names}
use Rattle.cedar.specs.Bound.{union}
use Rattle.writing.specs.Laws.Writing.{Writing}
use Rattle.forms.specs.Names.{names_in, Ascending}
use Rattle.bounds.proofs.unions.write_union.Given as goal

abbrev pub invariant-loop-name : goal.invariant-loop-name
invariant-loop-name l = record {
  left : Ascending l.names.left.now;
  right : Ascending l.names.right.now;
  writing : Writing (enc_names (union (names_in l.fn.names.left.now) (names_in l.fn.names.right.now)))
      (enc_names (union (names_in l.names.left.now) (names_in l.names.right.now))) l.initial.out l.at l.out;
}

abbrev pub decreases-loop-name : goal.decreases-loop-name
decreases-loop-name l = length l.names.left.now + length l.names.right.now
