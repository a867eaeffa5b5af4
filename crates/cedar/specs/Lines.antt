-- What the program prints: the lines of a job, byte for byte.
use Rattle.std.specs.Prelude.{ℕ, zero, suc, ◌+◌, ◌/◌, ◌%◌, List, [], ◌∷◌, ◌++◌, true, false, cond, ltb}
use Rattle.cedar.specs.Types.{maybe}
use Rattle.cedar.specs.Limits.{Limits, standard}
use Rattle.cedar.specs.Result.{bad_job}
use Rattle.cedar.specs.Outcome.{Outcome, refused, said, nothing, measured, typed, attribute, named, bytes_of}
use Rattle.cedar.specs.Calls.{literal_call, disjoint_call, subtype_call, bound_call, fold_call, lookup_call, may_have_call, names_call, consistent_call}
use Rattle.cedar.specs.Calls.{convert_call, conforms_call, full_call}
use Rattle.cedar.specs.JobForm.{Operation, subtype_op, bound_op, disjoint_op, lookup_op, may_have_op, names_op, consistent_op, convert_op, conforms_op, fold_op}
use Rattle.cedar.specs.JobForm.{literal_op, full_op, Question, whole_job}

-- The bytes of a job's workspace.
abbrev pub job_work : ℕ
job_work = 8192

-- The bytes of a job's result buffer: the longest form.
abbrev pub job_room : ℕ
job_room = standard.bytes

-- A question of a job under its schema, put to its call; x and y are its bodies.
abbrev pub ask_call : Operation → Limits → ℕ → ℕ → List ℕ → List ℕ → List ℕ → Outcome
ask_call subtype_op lim m a s x y = subtype_call lim m s x y
ask_call bound_op lim m a s x y = bound_call lim m s x y job_room
ask_call disjoint_op lim m a s x y = disjoint_call lim x y
ask_call lookup_op lim m a s x y = lookup_call lim s a x job_room job_work
ask_call may_have_op lim m a s x y = may_have_call lim s a x
ask_call names_op lim m a s x y = names_call lim s x job_room job_work
ask_call consistent_op lim m a s x y = consistent_call lim x y
ask_call convert_op lim m a s x y = convert_call lim x job_room
ask_call conforms_op lim m a s x y = conforms_call lim s x y
ask_call fold_op lim m a s x y = fold_call lim m s x job_room job_work
ask_call literal_op lim m a s x y = literal_call lim s x job_room
ask_call full_op lim m a s x y = full_call lim s x y

-- The outcome of a question.
abbrev pub outcome_of : List ℕ → Question × (List ℕ × List ℕ) → Outcome
outcome_of s q = ask_call q.0.operation standard q.0.mode q.0.attribute s q.1.0 q.1.1

-- ASCII: 10 newline, 32 space, 45 -, 58 :, 48 the digit 0, 97 a.
-- A digit of base 16 at most, lower-case.
abbrev pub digit : ℕ → ℕ
digit d = cond (ltb d 10) (48 + d) (87 + d)

-- The decimal digits of n, at most so many.
abbrev pub decimal_from : ℕ → ℕ → List ℕ
decimal_from zero n = []
decimal_from (suc f) n = cond (ltb n 10) (digit n ∷ []) (decimal_from f (n / 10) ++ (digit (n % 10) ∷ []))

-- A number in decimal.
abbrev pub decimal : ℕ → List ℕ
decimal n = decimal_from (suc n) n

-- Bytes in lower-case hex.
abbrev pub hex : List ℕ → List ℕ
hex [] = []
hex (b ∷ l) = digit (b / 16) ∷ digit (b % 16) ∷ hex l

-- The refusal's number, or 0.
abbrev pub number_of : Outcome → ℕ
number_of (refused n) = n
number_of (said b) = 0
number_of nothing = 0
number_of (measured n l) = 0
number_of (typed t) = 0
number_of (attribute r t) = 0
number_of (named ns) = 0

-- What stands before an answer's bytes, or the whole answer: -, yes, no, none, r:, o:. No question of a job measures.
abbrev pub answer_text : Outcome → List ℕ
answer_text (refused n) = 45 ∷ []
answer_text (said true) = 121 ∷ 101 ∷ 115 ∷ []
answer_text (said false) = 110 ∷ 111 ∷ []
answer_text nothing = 110 ∷ 111 ∷ 110 ∷ 101 ∷ []
answer_text (measured n l) = []
answer_text (typed t) = []
answer_text (attribute true t) = 114 ∷ 58 ∷ []
answer_text (attribute false t) = 111 ∷ 58 ∷ []
answer_text (named ns) = []

-- A line: index, refusal or 0, answer, single spaces between, newline.
abbrev pub line : ℕ → Outcome → List ℕ
line i o = decimal i ++ (32 ∷ decimal (number_of o) ++ (32 ∷ answer_text o ++ (hex (bytes_of o) ++ (10 ∷ []))))

-- The lines of questions, from index i on.
abbrev pub lines_from : List ℕ → ℕ → List (Question × (List ℕ × List ℕ)) → List ℕ
lines_from s i [] = []
lines_from s i (q ∷ qs) = line i (outcome_of s q) ++ lines_from s (suc i) qs

-- A bad job's only line, `- 16 -`.
abbrev pub bad_line : List ℕ
bad_line = 45 ∷ 32 ∷ decimal bad_job ++ (32 ∷ 45 ∷ 10 ∷ [])

-- What the program prints for the bytes it read.
abbrev pub printed : List ℕ → List ℕ
printed b = maybe bad_line (λ j. lines_from j.schema 0 j.questions) (whole_job b)
