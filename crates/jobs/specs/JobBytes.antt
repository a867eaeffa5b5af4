-- The job form in the borrow checker's terms: the test that one is whole, and where its parts lie. Assumes nothing: these are definitions.
use Rattle.std.specs.Prelude.{ℕ, zero, suc, ◌+◌, ◌*◌, ◌-◌, List, [], ◌∷◌, Bool, ◌&&◌, eqb, leb, length, get_or}
use Rattle.cedar.specs.JobForm.{Operation, subtype_op, bound_op, disjoint_op, lookup_op, may_have_op, names_op, consistent_op, convert_op, conforms_op, fold_op, literal_op, full_op}
use Rattle.cedar.specs.JobForm.{takes_mode, takes_attribute, takes_second, taken_or_zero, Question, Job}
use Rattle.cedar.specs.Limits.{block_bytes}
use Rattle.forms.specs.Parts.{part, rd}
use Rattle.cedar.specs.Limits.{standard}
use Rattle.forms.specs.declared.limits.Limits.{Limits as LimitsStruct}

-- The number of the last operation.
abbrev pub last_operation : ℕ
last_operation = 11

-- The operation of a number up to the last.
abbrev pub op_of : ℕ → Operation
op_of k =
    get_or (subtype_op ∷ bound_op ∷ disjoint_op ∷ lookup_op ∷ may_have_op ∷ names_op ∷ consistent_op ∷ convert_op ∷ conforms_op ∷ fold_op ∷ literal_op ∷ full_op ∷ []) k
    subtype_op

-- The fields that an operation does not take are 0.
abbrev pub fields_fit : Operation → ℕ → ℕ → ℕ → Bool
fields_fit o mode attribute second = taken_or_zero (takes_mode o) mode && (taken_or_zero (takes_attribute o) attribute && taken_or_zero (takes_second o) second)

-- The entry at e: whether it is in order, what it asks, and how long its bodies are together.
unfoldable pub entry_fits : List ℕ → ℕ → Bool
entry_fits b e = leb (get_or b e 0) last_operation && fields_fit (op_of (get_or b e 0)) (get_or b (e + 1) 0) (rd b (e + 2)) (rd b (e + 6))

-- What the entry at e asks.
unfoldable pub entry_at : List ℕ → ℕ → Question
entry_at b e = record { operation = op_of (get_or b e 0); mode = get_or b (e + 1) 0; attribute = rd b (e + 2); first_length = rd b (e + 4) }

-- How long its bodies are together.
unfoldable pub lengths_at : List ℕ → ℕ → ℕ
lengths_at b e = rd b (e + 4) + rd b (e + 6)

-- The two bodies of the entry at e, which begin at a.
unfoldable pub bodies_at : List ℕ → ℕ → ℕ → List ℕ × List ℕ
bodies_at b e a = (part a (a + rd b (e + 4)) b, part (a + rd b (e + 4)) (a + lengths_at b e) b)

-- c entries from e on are in order, and their bodies are so many bytes.
unfoldable pub fits_from : List ℕ → ℕ → ℕ → ℕ → Bool
fits_from b zero e room = eqb room 0
fits_from b (suc c) e room = leb (e + 8) (length b) && (entry_fits b e && (leb (lengths_at b e) room && fits_from b c (e + 8) (room - lengths_at b e)))

-- The questions of c entries from e on, whose bodies begin at a.
unfoldable pub questions_from : List ℕ → ℕ → ℕ → ℕ → List (Question × (List ℕ × List ℕ))
questions_from b zero e a = []
questions_from b (suc c) e a = (entry_at b e, bodies_at b e a) ∷ questions_from b c (e + 8) (a + lengths_at b e)

-- Where the schema begins, and where it ends and the bodies begin.
abbrev pub schema_from : List ℕ → ℕ
schema_from b = 4 + 8 * rd b 2

-- Where the bodies begin.
abbrev pub bodies_from : List ℕ → ℕ
bodies_from b = schema_from b + rd b 0

-- The schema of a job.
unfoldable pub schema_of : List ℕ → List ℕ
schema_of b = part (schema_from b) (bodies_from b) b

-- The limits of a job, as the code's struct.
abbrev pub job_limits : LimitsStruct
job_limits = record { levels = standard.levels; bytes = standard.bytes }

-- A whole job, and its tree.
abbrev pub job_fits : List ℕ → Bool
job_fits b = leb (length b) block_bytes && (leb 4 (length b) && (leb (bodies_from b) (length b) && fits_from b (rd b 2) 4 (length b - bodies_from b)))

-- The job that the bytes say.
abbrev pub job_of : List ℕ → Job
job_of b = record { schema = schema_of b; questions = questions_from b (rd b 2) 4 (bodies_from b) }
