-- The job form: `parse_job` reads a job.
use Rattle.std.specs.Prelude.{ℕ, ◌+◌, ◌*◌, List, [], ◌∷◌, Bool, true, false, ◌&&◌, ◌||◌, eqb, leb, length, take, drop, get_or}
use Rattle.std.proofs.Math.Option.{Option, none, some}
use Rattle.cedar.specs.Bytes.{guard, byte, word, finish, ◌>>=◌}
use Rattle.cedar.specs.Table.{rows}
use Rattle.cedar.specs.Limits.{block_bytes}
use Rattle.cedar.specs.Whole.{within}

-- The operations 0 to 11, in the order of their numbers.
pub data Operation : Type 0 where
  subtype_op bound_op disjoint_op lookup_op may_have_op names_op consistent_op convert_op conforms_op fold_op literal_op full_op : Operation

-- The operation of a number.
abbrev pub operation_of : ℕ → Option Operation
operation_of k =
    get_or (some subtype_op ∷ some bound_op ∷ some disjoint_op ∷ some lookup_op ∷ some may_have_op ∷ some names_op ∷ some consistent_op ∷ some convert_op ∷ some
    conforms_op ∷ some fold_op ∷ some literal_op ∷ some full_op ∷ []) k none

-- Only subtype, bound and fold take a mode.
abbrev pub takes_mode : Operation → Bool
takes_mode subtype_op = true
takes_mode bound_op = true
takes_mode disjoint_op = false
takes_mode lookup_op = false
takes_mode may_have_op = false
takes_mode names_op = false
takes_mode consistent_op = false
takes_mode convert_op = false
takes_mode conforms_op = false
takes_mode fold_op = true
takes_mode literal_op = false
takes_mode full_op = false

-- Only lookup and may-have take an attribute.
abbrev pub takes_attribute : Operation → Bool
takes_attribute subtype_op = false
takes_attribute bound_op = false
takes_attribute disjoint_op = false
takes_attribute lookup_op = true
takes_attribute may_have_op = true
takes_attribute names_op = false
takes_attribute consistent_op = false
takes_attribute convert_op = false
takes_attribute conforms_op = false
takes_attribute fold_op = false
takes_attribute literal_op = false
takes_attribute full_op = false

-- Subtype, bound, disjoint, consistent and both conformances take two bodies, the others one.
abbrev pub takes_second : Operation → Bool
takes_second subtype_op = true
takes_second bound_op = true
takes_second disjoint_op = true
takes_second lookup_op = false
takes_second may_have_op = false
takes_second names_op = false
takes_second consistent_op = true
takes_second convert_op = false
takes_second conforms_op = true
takes_second fold_op = false
takes_second literal_op = false
takes_second full_op = true

-- A question: its operation, mode number, attribute name, and the length of its first body.
pub record Question : Type 0 where
  pub operation : Operation
  pub mode : ℕ
  pub attribute : ℕ
  pub first_length : ℕ

-- Is a field taken by the operation, or else 0?
abbrev pub taken_or_zero : Bool → ℕ → Bool
taken_or_zero taken n = taken || eqb n 0

-- A question's entry: operation, mode, attribute, the two lengths, which together are its body's.
abbrev pub read_question : List ℕ → Option (Question × ℕ × List ℕ)
read_question b = do
  (k, b₁) ← byte b
  o ← operation_of k
  (m, b₂) ← byte b₁
  (a, b₃) ← word b₂
  (i, b₄) ← word b₃
  (j, b₅) ← word b₄
  _ ← guard (taken_or_zero (takes_mode o) m && (taken_or_zero (takes_attribute o) a && taken_or_zero (takes_second o) j))
  some (record { operation = o; mode = m; attribute = a; first_length = i }, i + j, b₅)

-- Questions stand in any order.
abbrev pub any_question : Unit {0} → Question → Option (Unit {0})
any_question s q = some tt

-- A question's two bodies, split at the first length.
abbrev pub split_bodies : Question → List ℕ → Option (List ℕ × List ℕ)
split_bodies q b = do
  _ ← guard (leb q.first_length (length b))
  some (take q.first_length b, drop q.first_length b)

-- A job: the schema's bytes, and the questions with their bodies.
pub record Job : Type 0 where
  pub schema : List ℕ
  pub questions : List (Question × (List ℕ × List ℕ))

-- The schema's length, the count of questions, their entries, of 8 bytes as `read_question` takes them, the schema, the bodies, and no
-- byte over.
abbrev pub parse_job : List ℕ → Option Job
parse_job b = do
  (n, b₁) ← word b
  (q, es) ← word b₁
  _ ← guard (leb n (length (drop (8 * q) es)))
  (xs, es₁, bs) ← rows read_question any_question split_bodies q tt es (drop n (drop (8 * q) es))
  finish (record { schema = take n (drop (8 * q) es); questions = xs }) bs

-- A job of at most 32,768 bytes.
abbrev pub whole_job : List ℕ → Option Job
whole_job b = within block_bytes parse_job b
