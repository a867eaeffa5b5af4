-- Conforming, on bytes: a schema, a type and a value, all whole, every string of the value text, and part 9's walk a yes.
use Rattle.std.specs.Prelude.{ℕ, List, true, ◌≡◌}
use Rattle.cedar.specs.Limits.{Limits}
use Rattle.cedar.specs.Conformance.{Counts}
use Rattle.cedar.specs.Outcome.{said}
use Rattle.cedar.specs.Calls.{conforms_by}

-- The value v conforms to the type t under the schema: the conformance call, with this rule on counts, says yes.
abbrev pub Conforms : Limits → Counts → List ℕ → List ℕ → List ℕ → Type 0
Conforms lim c schema t v = conforms_by c lim schema t v ≡ said true
