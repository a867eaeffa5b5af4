-- Whether a job is whole, as a test and its tree. Assumes nothing.
use Rattle.std.specs.Prelude.{◌≡◌, List, Bool, true, false, ◌&&◌, cond, ℕ, zero, suc, ◌+◌, ◌*◌, ◌-◌, ◌≤◌, ◌<◌, eqb, leb, length, take, drop, get_or}
use Rattle.std.proofs.Math.Path.{refl, ap}
use Rattle.std.proofs.Common.{ap₂, sym, ◌∙◌, sub-one, length-drop, le-leb}
use Rattle.std.proofs.Math.Bool.{and-false}
use Rattle.std.proofs.Math.Option.{Option, none}
use native.Mathlib.Omega.{arith}
use Rattle.std.proofs.Math.Decide.{dec_le}
use Rattle.std.proofs.Math.Seq.{drop-drop}
use Rattle.std.proofs.lemmas.Bool.{lt-leb}
use Rattle.cedar.specs.Types.{present}
use Rattle.cedar.specs.Bytes.{◌>>=◌, guard, word}
use Rattle.cedar.specs.Limits.{block_bytes}
use Rattle.cedar.specs.JobForm.{Operation, takes_mode, takes_attribute, takes_second, taken_or_zero, Question, Job, parse_job, whole_job}
use Rattle.forms.specs.Parts.{rd}
use Rattle.forms.specs.Laws.Parts.{and-not-l, and-not-r, and_yes}
use Rattle.forms.specs.Laws.Sure.{Sure, sure-same, sure-present, bind_to, map-to, guard-to, word-to, word_at, leb-same}
use Rattle.jobs.specs.JobBytes.{last_operation, op_of, entry_fits, lengths_at, fits_from, questions_from, schema_from, bodies_from, schema_of, job_fits, job_of}
use Rattle.jobs.specs.Laws.Questions.{question_rows, closed, closed-map, questions-to, fits-over}

module _ (b : List ℕ) where
  -- The job with these questions.
  abbrev job_with : List (Question × (List ℕ × List ℕ)) → Job
  job_with xs = record { schema = take (rd b 0) (drop (8 * rd b 2) (drop 4 b)); questions = xs }

  abbrev after-guard : Unit {0} → Option Job
  after-guard u = question_rows (rd b 2) (drop 4 b) (drop (rd b 0) (drop (8 * rd b 2) (drop 4 b))) >>= closed job_with

  abbrev after-count : ℕ × List ℕ → Option Job
  after-count r = do
    _ ← guard (leb (rd b 0) (length (drop (8 * r.0) r.1)))
    (xs, es₁, bs) ← question_rows r.0 r.1 (drop (rd b 0) (drop (8 * r.0) r.1))
    closed (λ qs. record { schema = take (rd b 0) (drop (8 * r.0) r.1); questions = qs }) (xs, es₁, bs)

  abbrev after-length : ℕ × List ℕ → Option Job
  after-length r = do
    (q, es) ← word r.1
    _ ← guard (leb r.0 (length (drop (8 * q) es)))
    (xs, es₁, bs) ← question_rows q es (drop r.0 (drop (8 * q) es))
    closed (λ qs. record { schema = take r.0 (drop (8 * q) es); questions = qs }) (xs, es₁, bs)

  drops : drop (rd b 0) (drop (8 * rd b 2) (drop 4 b)) ≡ drop (bodies_from b) b
  drops = rw (drop-drop (8 * rd b 2) 4 b, drop-drop (rd b 0) (4 + 8 * rd b 2) b) refl

  rows-to : Sure (after-guard tt) (fits_from b (rd b 2) 4 (length b - bodies_from b)) (job_with (questions_from b (rd b 2) 4 (bodies_from b)))
  rows-to =
      let e = closed-map (λ xs. xs) job_with (question_rows (rd b 2) (drop 4 b) (drop (bodies_from b) b)) in
      record { is = rw drops (e ∙ (map-to job_with (questions-to b (rd b 2) 4 (bodies_from b))).is) }

  -- The tests of a job, in the code's order.
  tests : (leb 2 (length b) && (leb 4 (length b) && (leb (rd b 0) (length (drop (8 * rd b 2) (drop 4 b))) && fits_from b (rd b 2) 4 (length b - bodies_from b))))
      ≡
      (leb 4 (length b) && (leb (bodies_from b) (length b) && fits_from b (rd b 2) 4 (length b - bodies_from b)))
  tests = go (dec_le 4 (length b)) (dec_le (4 + 8 * rd b 2) (length b))
    where
      f : Bool
      f = fits_from b (rd b 2) 4 (length b - bodies_from b)

      n : ℕ
      n = length (drop (8 * rd b 2) (drop 4 b))

      long : n ≡ length b - 4 - 8 * rd b 2
      long = rw (length-drop (8 * rd b 2) (drop 4 b), length-drop 4 b) refl

      go : Dec (4 ≤ length b) → Dec (4 + 8 * rd b 2 ≤ length b) →
          (leb 2 (length b) && (leb 4 (length b) && (leb (rd b 0) n && f))) ≡ (leb 4 (length b) && (leb (bodies_from b) (length b) && f))
      go (no h) k = rw (lt-leb 4 (length b) (omega arith)) (and-false (leb 2 (length b)))
      go (yes h) (no k) =
          rw (le-leb 2 (length b) (omega arith), le-leb 4 (length b) h, ← fits-over b (rd b 2) 4 (length b - bodies_from b) (omega arith) h)
          (and-false (leb (rd b 0) n) ∙ sym (and-false (leb (bodies_from b) (length b))))
      go (yes h) (yes k) =
          rw (le-leb 2 (length b) (omega arith), le-leb 4 (length b) h)
          (ap (λ (t : Bool). t && f) (leb-same (rd b 0) n (bodies_from b) (length b) (λ g. omega (arith, long)) (λ g. omega (arith, long))))

  parse-to : Sure (parse_job b) (leb 4 (length b) && (leb (bodies_from b) (length b) && fits_from b (rd b 2) 4 (length b - bodies_from b))) (job_of b)
  parse-to =
      sure-same
      (bind_to after-length (word-to b) λ h. bind_to after-count (word_at b 2) λ g. bind_to after-guard
      (guard-to (leb (rd b 0) (length (drop (8 * rd b 2) (drop 4 b))))) λ f. rows-to)
      tests
      (ap (λ (l : List ℕ). record { schema = l; questions = questions_from b (rd b 2) 4 (bodies_from b) }) cut)
    where
      cut : take (rd b 0) (drop (8 * rd b 2) (drop 4 b)) ≡ schema_of b
      cut = unfold schema_of in
          let e : bodies_from b - schema_from b ≡ rd b 0 = omega arith in
          rw (e, drop-drop (8 * rd b 2) 4 b) refl

  -- A job is whole just where the code's test says so, and then its tree is `job_of`.
  pub whole_to : Sure (whole_job b) (job_fits b) (job_of b)
  whole_to = go (leb (length b) block_bytes)
    where
      go : (t : Bool) →
          Sure (cond t (parse_job b) none) (t && (leb 4 (length b) && (leb (bodies_from b) (length b) && fits_from b (rd b 2) 4 (length b - bodies_from b))))
          (job_of b)
      go true = parse-to
      go false = record { is = refl }

  -- The tests of `whole_job`.
  whole-not : false ≡ job_fits b → false ≡ present (whole_job b)
  whole-not h = h ∙ sym (sure-present whole_to)

  pub whole_long : block_bytes < length b → false ≡ present (whole_job b)
  whole_long h = whole-not (and-not-l (leb (length b) block_bytes) _ (lt-leb (length b) block_bytes h))

  pub whole-short : length b < 4 → false ≡ present (whole_job b)
  whole-short h = whole-not (and-not-r (leb (length b) block_bytes) _ (sym (and-not-l (leb 4 (length b)) _ (lt-leb 4 (length b) h))))

  module _ (n : ℕ) (e : n ≡ bodies_from b) where
    pub whole-over : length b < n → false ≡ present (whole_job b)
    whole-over h =
        whole-not (and-not-r (leb (length b) block_bytes) _ (sym (and-not-r (leb 4 (length b)) _ (sym (and-not-l (leb (bodies_from b) (length b)) _
        (lt-leb (bodies_from b) (length b) (rw (← e) h)))))))

    pub whole_is : length b ≤ block_bytes → 4 ≤ length b → n ≤ length b → (q : ℕ) → q ≡ rd b 2 → (r : Bool) → r ≡ fits_from b q 4 (length b - n) →
        r ≡ present (whole_job b)
    whole_is h g k q f r x =
        x ∙ ap₂ (λ (i j : ℕ). fits_from b i 4 (length b - j)) f e
        ∙ sym (sure-present whole_to
        ∙ and_yes (leb (length b) block_bytes) _ (le-leb (length b) block_bytes h)
        ∙ and_yes (leb 4 (length b)) _ (le-leb 4 (length b) g)
        ∙ and_yes (leb (bodies_from b) (length b)) _ (le-leb (bodies_from b) (length b) (rw (← e) k)))

-- The entry at e, by what its number says.
module _ (b : List ℕ) (e : ℕ) where
  pub entry-over : last_operation < get_or b e 0 → false ≡ entry_fits b e
  unfolding entry_fits
  entry-over h = and-not-l (leb (get_or b e 0) last_operation) _ (lt-leb (get_or b e 0) last_operation h)

  -- Of an operation o: whether its mode, its attribute and its second length are taken or 0.
  module _ (o : Operation) (known : (get_or b e 0 ≤ last_operation) × (o ≡ op_of (get_or b e 0))) where
    abbrev mode : Bool
    mode = taken_or_zero (takes_mode o) (get_or b (e + 1) 0)

    abbrev attribute : Bool
    attribute = taken_or_zero (takes_attribute o) (rd b (e + 2))

    abbrev second : Bool
    second = taken_or_zero (takes_second o) (rd b (e + 6))

    entry-known : entry_fits b e ≡ (mode && (attribute && second))
    unfolding entry_fits
    entry-known = rw (le-leb (get_or b e 0) last_operation known.0, ← known.1) refl

    pub entry-mode : mode ≡ false → false ≡ entry_fits b e
    entry-mode h = and-not-l mode _ h ∙ sym entry-known

    pub entry-attribute : mode ≡ true → attribute ≡ false → false ≡ entry_fits b e
    entry-attribute g h = and-not-l attribute _ h ∙ sym (entry-known ∙ and_yes mode _ g)

    pub entry-second : mode ≡ true → attribute ≡ true → second ≡ entry_fits b e
    entry-second g h = sym (entry-known ∙ and_yes mode _ g ∙ and_yes attribute _ h)

-- The loop of `entries_fit`: the entries from an index on answer for all.
pub record EntriesLeft (b : List ℕ) (n bytes index room : ℕ) : Type 0 where
  pub inside : 4 + 8 * n ≤ length b
  pub same : fits_from b n 4 bytes ≡ fits_from b (n - index) (4 + 8 * index) room

pub entries-start : {b : List ℕ} {n bytes : ℕ} → 4 + 8 * n ≤ length b → EntriesLeft b n bytes 0 bytes
entries-start {b} {n} {bytes} h = record { inside = h; same = let e : n - 0 ≡ n = omega arith in rw e refl }

entries-step : (b : List ℕ) (n e room : ℕ) → 0 < n →
    fits_from b n e room ≡ (leb (e + 8) (length b) && (entry_fits b e && (leb (lengths_at b e) room && fits_from b (n - 1) (e + 8) (room - lengths_at b e))))
unfolding fits_from
entries-step b zero e room p = absurd (omega arith)
entries-step b (suc n) e room p = rw (sub-one (suc n)) refl

module _ {b : List ℕ} {n bytes index room : ℕ} (i : EntriesLeft b n bytes index room) where
  pub entries-end : n ≤ index → eqb room 0 ≡ fits_from b n 4 bytes
  entries-end h = sym (i.same ∙ go (n - index) (omega arith))
    where
      go : (k : ℕ) → k ≤ 0 → fits_from b k (4 + 8 * index) room ≡ eqb room 0
      go zero h = unfold fits_from in refl
      go (suc k) h = absurd (omega arith)

  module _ (p : index < n) where
    abbrev at : ℕ
    at = 4 + 8 * index

    entries-first : fits_from b n 4 bytes ≡
        (entry_fits b at && (leb (lengths_at b at) room && fits_from b (n - (index + 1)) (4 + 8 * (index + 1)) (room - lengths_at b at)))
    entries-first =
        let e : n - index - 1 ≡ n - (index + 1) = omega arith in
        let f : at + 8 ≡ 4 + 8 * (index + 1) = omega arith in
        i.same ∙ entries-step b (n - index) at room (omega arith) ∙ and_yes (leb (at + 8) (length b)) _ (le-leb (at + 8) (length b) (omega (arith, i.inside)))
        ∙ ap₂ (λ (j k : ℕ). entry_fits b at && (leb (lengths_at b at) room && fits_from b j k (room - lengths_at b at))) e f

    pub entries-unfit : entry_fits b at ≡ false → false ≡ fits_from b n 4 bytes
    entries-unfit h = and-not-l (entry_fits b at) _ h ∙ sym entries-first

    pub entries-short : room < lengths_at b at → false ≡ fits_from b n 4 bytes
    entries-short r =
        and-not-r (entry_fits b at) _ (sym (and-not-l (leb (lengths_at b at) room) _ (lt-leb (lengths_at b at) room r))) ∙ sym entries-first

    pub entries-again : entry_fits b at ≡ true → lengths_at b at ≤ room → EntriesLeft b n bytes (index + 1) (room - lengths_at b at)
    entries-again h r =
        record {
          inside = i.inside;
          same = entries-first ∙ and_yes (entry_fits b at) _ h ∙ and_yes (leb (lengths_at b at) room) _ (le-leb (lengths_at b at) room r);
        }
