-- The code's operations and their numbers. Assumes nothing: these are definitions.
use Rattle.std.specs.Prelude.{ℕ, ◌≡◌, ◌≤◌, ◌<◌, Result, MatchResult}
use Rattle.cedar.specs.JobForm as definition
use Rattle.jobs.specs.declared.operations.Operation.{Operation}
use Rattle.jobs.specs.declared.operations.Operation.TheVariants.{Subtype, Bound, Disjoint, Lookup, MayHave, Names, Consistent, Convert, Conforms, Fold, Literal, Full}
use Rattle.jobs.specs.declared.operations.UnknownOperation.{UnknownOperation}
use Rattle.jobs.specs.JobBytes.{last_operation, op_of}

-- An operation as the definitions have it.
abbrev pub op : Operation → definition.Operation
op Subtype = definition.subtype_op
op Bound = definition.bound_op
op Disjoint = definition.disjoint_op
op Lookup = definition.lookup_op
op MayHave = definition.may_have_op
op Names = definition.names_op
op Consistent = definition.consistent_op
op Convert = definition.convert_op
op Conforms = definition.conforms_op
op Fold = definition.fold_op
op Literal = definition.literal_op
op Full = definition.full_op

-- The operation of a number up to the last, or a number past it.
abbrev pub Decodes : ℕ → Result Operation UnknownOperation → Type 0
Decodes k r = MatchResult r (λ o. (k ≤ last_operation) × (op o ≡ op_of k)) (λ e. last_operation < k)
