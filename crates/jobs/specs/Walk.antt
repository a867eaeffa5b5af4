-- A walk over the questions of a job by cursors, and the lines along it. Assumes nothing: these are definitions.
use Rattle.std.specs.Prelude.{ℕ, zero, suc, ◌+◌, ◌*◌, ◌-◌, List, [], ◌++◌, Bool, true, false, ◌&&◌, cond, ◌≡◌, leb, ltb, length, get_or, Option, Some, None, MatchOption}
use Rattle.cedar.specs.Outcome.{Outcome, over}
use Rattle.cedar.specs.JobForm.{Operation, Question as Asked}
use Rattle.cedar.specs.Lines.{outcome_of, line, ask_call}
use Rattle.forms.specs.Parts.{rd}
use Rattle.jobs.specs.declared.questions.Cursor.{Cursor}
use Rattle.jobs.specs.declared.questions.Question.{Question}
use Rattle.jobs.specs.Operations.{op}
use Rattle.jobs.specs.JobBytes.{last_operation, entry_at, lengths_at, bodies_at, bodies_from, schema_of}
use Rattle.cedar.specs.Limits.{standard}

-- How many questions a job says it has, and where its first one stands.
unfoldable pub count_of : List ℕ → ℕ
count_of b = cond (leb 4 (length b)) (rd b 2) 0

-- The cursor at the first question.
unfoldable pub start_of : List ℕ → Cursor
start_of b = record { index = 0; body = cond (leb 4 (length b)) (bodies_from b) 0 }

-- Where the entry of a cursor's question stands.
abbrev pub entry_of : Cursor → ℕ
entry_of c = 4 + 8 * c.index

-- A cursor stands at a question: the job has one of that index, an operation, and the bytes.
unfoldable pub stands_at : List ℕ → Cursor → Bool
stands_at b c =
    ltb c.index (count_of b)
    && (leb (bodies_from b) (length b)
    && (leb (get_or b (entry_of c) 0) last_operation
    && (leb c.body (length b) && leb (lengths_at b (entry_of c)) (length b - c.body))))

-- The cursor behind it.
unfoldable pub next_at : List ℕ → Cursor → Cursor
next_at b c = record { index = c.index + 1; body = c.body + lengths_at b (entry_of c) }

-- How many questions the job says stand from a cursor on.
abbrev pub ahead : List ℕ → Cursor → ℕ
ahead b c = count_of b - c.index

-- A question of a job put to its call.
unfoldable pub asked : Operation → ℕ → ℕ → List ℕ → List ℕ → List ℕ → Outcome
asked o m a s x y = ask_call o standard m a s x y

-- What the question comes to.
unfoldable pub outcome_at : List ℕ → Cursor → Outcome
outcome_at b c = outcome_of (schema_of b) (entry_at b (entry_of c), bodies_at b (entry_of c) c.body)

-- Its line; nothing where no question stands.
unfoldable pub line_at : List ℕ → Cursor → List ℕ
line_at b c = cond (stands_at b c) (line c.index (outcome_at b c)) []

-- The lines of n questions, one after the other.
unfoldable pub lines_along : List ℕ → ℕ → Cursor → List ℕ
lines_along b zero c = []
lines_along b (suc n) c = line_at b c ++ lines_along b n (next_at b c)

-- What a question of the code asks, and its bodies.
abbrev pub asks : Question → Asked × (List ℕ × List ℕ)
asks q = (record { operation = op q.operation; mode = q.mode; attribute = q.attribute; first_length = length q.first.now }, (q.first.now, q.second.now))

-- The question at which a cursor stands and the cursor behind it, or none where no question stands.
abbrev pub QuestionAt : List ℕ → Cursor → Option (Question × Cursor) → Type 0
QuestionAt b c r =
    MatchOption r (stands_at b c ≡ false)
    (λ p. (stands_at b c ≡ true) × (asks p.0 ≡ (entry_at b (entry_of c), bodies_at b (entry_of c) c.body)) × (p.1 ≡ next_at b c))

-- A question answered: its line over the front of the buffer, its length and the next cursor; where no question stands, nothing.
pub record LineWritten (b : List ℕ) (c : Cursor) (before after : List ℕ) (r : Option ℕ) (d : Cursor) : Type 0 where
  pub answer : r ≡ cond (stands_at b c) (Some (length (line_at b c))) None
  pub next : d ≡ cond (stands_at b c) (next_at b c) c
  pub bytes : after ≡ over (line_at b c) before
