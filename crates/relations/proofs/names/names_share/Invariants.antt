use Rattle.std.specs.Prelude.{◌≡◌, false, length}
use Rattle.cedar.specs.Disjoint.{shares}
use Rattle.relations.specs.Laws.Names.{Walk}
use Rattle.relations.proofs.names.names_share.Given as goal

abbrev pub invariant-search : goal.invariant-search
invariant-search l = Walk shares l.first l.second l.a l.b × ((l.shared ≡ false) × (length l.b ≡ 0 → ⊥))

abbrev pub decreases-search : goal.decreases-search
decreases-search l = length l.a

abbrev pub invariant-loop-b : goal.invariant-loop-b
invariant-loop-b l = Walk shares l.first l.second l.a l.b × ((l.shared ≡ false) × (length l.b ≡ 0 → ⊥))

abbrev pub decreases-loop-b : goal.decreases-loop-b
decreases-loop-b l = length l.b
