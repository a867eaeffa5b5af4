-- Laws of putting a question to its call. Assumes nothing.
use Rattle.std.specs.Prelude.{◌≡◌, List, [], true, false, Some, None, ℕ, ◌+◌, ◌*◌, ◌≤◌, ◌<◌, length, drop, Bool, cond, Option as Maybe}
use Rattle.std.proofs.Math.Path.{refl, subst}
use Rattle.std.proofs.Common.{ap, ap₂, sym, arith, length-append, ◌∙◌}
use Rattle.std.proofs.Math.Option.{Option, none, some}
use Rattle.cedar.specs.Bytes.{guard}
use Rattle.cedar.specs.Limits.{Limits, allowed, standard}
use Rattle.cedar.specs.Whole.{whole_type, whole_value, whole_schema}
use Rattle.cedar.specs.Conformance.{Verdict, holds, fails, fails_inside, unknown, Counts, conforms}
use Rattle.cedar.specs.Text.{textual}
use Rattle.cedar.specs.Calls.{ask, mode_of, of_verdict, subtype_call, may_have_call, conforms_by, disjoint_call, consistent_call}
use Rattle.cedar.specs.Outcome.{Outcome, over, bytes_of}
use Rattle.cedar.specs.Result.{Result, bad_limits, bad_mode, bad_schema, bad_first, bad_second, bad_value, bad_text, not_plain}
use Rattle.cedar.specs.JobForm.{Operation, Question as Asked}
use Rattle.cedar.specs.Lines.{outcome_of, ask_call}
use Rattle.validator.specs.declared.answers.Answer.{Answer}
use Rattle.validator.specs.Answers.{answer_of, Answered, AnsweredIn}
use Rattle.jobs.specs.declared.questions.Cursor.{Cursor}
use Rattle.jobs.specs.declared.questions.Question.{Question}
use Rattle.writing.specs.Written.{Written}
use Rattle.jobs.specs.JobBytes.{entry_at, bodies_at, schema_of, op_of}
use Rattle.jobs.specs.LineBytes.{many_in, line_in, LineRoom}
use Rattle.jobs.specs.Walk.{entry_of, stands_at, asks, next_at, outcome_at, line_at, LineWritten, asked}
use Rattle.jobs.specs.Laws.Lines.{line-is, many_is}
use Rattle.cedar.specs.Consistency.{plain}

-- A call that answers yes or no writes nothing.
quiet-ask : {A : Type 0} (n : ℕ) (o : Option A) (k : A → Outcome) → ((z : A) → bytes_of (k z) ≡ []) → bytes_of (ask n o k) ≡ []
quiet-ask n none k h = refl
quiet-ask n (some z) k h = h z

quiet-verdict : (v : Verdict) → bytes_of (of_verdict v) ≡ []
quiet-verdict holds = refl
quiet-verdict fails = refl
quiet-verdict fails_inside = refl
quiet-verdict unknown = refl

module _ (lim : Limits) (s : List ℕ) where
  pub quiet-subtype : (m : ℕ) (x y : List ℕ) → bytes_of (subtype_call lim m s x y) ≡ []
  quiet-subtype m x y =
      quiet-ask bad_limits (guard (allowed lim)) _ λ _. quiet-ask bad_mode (mode_of m) _ λ _. quiet-ask bad_schema (whole_schema lim s) _ λ _.
      quiet-ask bad_first (whole_type lim x) _ λ _. quiet-ask bad_second (whole_type lim y) _ λ _. refl

  pub quiet-may-have : (a : ℕ) (x : List ℕ) → bytes_of (may_have_call lim s a x) ≡ []
  quiet-may-have a x =
      quiet-ask bad_limits (guard (allowed lim)) _ λ _. quiet-ask bad_schema (whole_schema lim s) _ λ _. quiet-ask bad_first (whole_type lim x) _ λ _. refl

  pub quiet-conforms : (rule : Counts) (x v : List ℕ) → bytes_of (conforms_by rule lim s x v) ≡ []
  quiet-conforms rule x v =
      quiet-ask bad_limits (guard (allowed lim)) _ λ _. quiet-ask bad_schema (whole_schema lim s) _ λ z. quiet-ask bad_first (whole_type lim x) _ λ t.
      quiet-ask bad_value (whole_value lim v) _ λ w. quiet-ask bad_text (guard (textual w)) _ λ _. quiet-verdict (conforms rule z t w)

module _ (lim : Limits) (x y : List ℕ) where
  pub disjoint-quiet : bytes_of (disjoint_call lim x y) ≡ []
  disjoint-quiet = quiet-ask bad_limits (guard (allowed lim)) _ λ _. quiet-ask bad_first (whole_type lim x) _ λ _. quiet-ask bad_second (whole_type lim y) _ λ _. refl

  pub consistent-quiet : bytes_of (consistent_call lim x y) ≡ []
  consistent-quiet =
      quiet-ask bad_limits (guard (allowed lim)) _ λ _. quiet-ask bad_first (whole_type lim x) _ λ _. quiet-ask bad_second (whole_type lim y) _ λ b.
      quiet-ask not_plain (guard (plain b)) _ λ _. refl

-- An outcome that fills no byte.
pub record Quiet (o : Outcome) : Type 0 where
  pub is : bytes_of o ≡ []

pub quiet-disjoint : (x y : List ℕ) → Quiet (disjoint_call standard x y)
quiet-disjoint x y = record { is = disjoint-quiet standard x y }

pub quiet-consistent : (x y : List ℕ) → Quiet (consistent_call standard x y)
quiet-consistent x y = record { is = consistent-quiet standard x y }

-- A call without bytes leaves the result buffer as it was.
pub answered-quiet : {o p : Outcome} {before : List ℕ} {r : Result Answer} → o ≡ p → bytes_of o ≡ [] → r ≡ answer_of o → Answered p before before r
answered-quiet {o} {before = before} {r = r} e q h =
    subst (λ (p : Outcome). Answered p before before r) e record { answer = h; result = sym (ap (λ (l : List ℕ). over l before) q) }

-- An entry with a workspace answers as one without.
pub answered-in : {o : Outcome} {before after work work_after : List ℕ} {r : Result Answer} → AnsweredIn o before after work work_after r → Answered o before after r
answered-in h = record { answer = h.answer; result = h.result }

-- What an entry says at the lengths that a job lends.
pub answered-room : (f : ℕ → Outcome) {n k : ℕ} {before after : List ℕ} {r : Result Answer} → n ≡ k → Answered (f n) before after r → Answered (f k) before after r
answered-room f {n} {k} {before} {after} {r} e h = subst (λ (j : ℕ). Answered (f j) before after r) e h

-- The call of an operation's number.
pub asked_is : (m a : ℕ) (s x y : List ℕ) {before after : List ℕ} {r : Result Answer} (o : Operation) (k : ℕ) → op_of k ≡ o →
    Answered (ask_call o standard m a s x y) before after r → Answered (asked (op_of k) m a s x y) before after r
asked_is m a s x y {before} {after} {r} o k e h = unfold asked in subst (λ (p : Operation). Answered (ask_call p standard m a s x y) before after r) (sym e) h

-- The question at which a cursor stands.
module _ (b : List ℕ) (c : Cursor) where
  pub answered-at : {before after : List ℕ} {r : Result Answer} (q : Question) {s : List ℕ} → s ≡ schema_of b →
      asks q ≡ (entry_at b (entry_of c), bodies_at b (entry_of c) c.body) → Answered (outcome_of s (asks q)) before after r → Answered (outcome_at b c) before after r
  unfolding outcome_at
  answered-at {before} {after} {r} q {s} e f h =
      subst (λ (o : Outcome). Answered o before after r) (ap₂ (λ (s : List ℕ) (a : Asked × (List ℕ × List ℕ)). outcome_of s a) e f) h

  -- No question, no line.
  pub no_line : stands_at b c ≡ false → (o : List ℕ) → LineWritten b c o o None c
  unfolding line_at
  no_line s o = record { answer = rw s refl; next = rw s refl; bytes = rw s refl }

  module _ (s : stands_at b c ≡ true) {before res : List ℕ} {a : Result Answer} (h : Answered (outcome_at b c) before res a) where
    pub line-fits : c.index < 65536 → (o : List ℕ) → 15 + 2 * length res ≤ length o → LineRoom c.index a res o
    line-fits p o r =
        let w = bytes_of (outcome_at b c) in
        record {
          small = p;
          inside = omega (arith, ap many_in h.answer, many_is (outcome_at b c), ap length h.result, length-append w (drop (length w) before));
          room = r;
        }

    line_same : line_in c.index a res ≡ line_at b c
    unfolding line_at
    line_same = rw (s, h.answer, h.result) (line-is c.index (outcome_at b c) before)

    -- A question's line.
    pub line-written : {o xs : List ℕ} {n : ℕ} → Written (line_in c.index a res) o xs n → {d : Cursor} → d ≡ next_at b c → LineWritten b c o xs (Some n) d
    line-written {o} {xs} {n} t {d} e =
        record {
          answer = rw (s, ← line_same, t.many) refl;
          next = rw s e;
          bytes = rw (← line_same) t.bytes;
        }

-- A line lies inside the buffer.
pub line-inside : {b : List ℕ} {c d : Cursor} {before after : List ℕ} {r : Maybe ℕ} → LineWritten b c before after r d → (n : ℕ) → r ≡ Some n → n ≤ length after
line-inside {b} {c} {d} {before} {after} {r} s n e = go (stands_at b c) (sym s.answer ∙ e)
  where
    go : (t : Bool) → cond t (Some (length (line_at b c))) None ≡ Some n → n ≤ length after
    go true p = let q : length (line_at b c) ≡ n = cc in omega (arith, ap length s.bytes, length-append (line_at b c) (drop (length (line_at b c)) before))
    go false p = absurd (let z : ◌≡◌ {A = ℕ} 0 1 = cc in omega arith)
