-- Laws of the walk over a job's questions. Assumes nothing.
use Rattle.std.specs.Prelude.{◌≡◌, List, ◌++◌, true, false, ◌&&◌, ℕ, zero, suc, ◌+◌, ◌*◌, ◌-◌, ◌≤◌, ◌<◌, leb, ltb, length, get_or}
use Rattle.std.proofs.Math.Path.{refl}
use Rattle.std.proofs.Common.{ap, sym, ◌∙◌, add-one, drop, length-drop, length-take-le}
use Rattle.std.proofs.Math.Option.{some}
use native.Mathlib.Omega.{arith}
use Rattle.std.proofs.Math.Decide.{dec_le}
use borrow.Author.Tests.{leb-true, ltb-true, le-leb, lt-leb, lt-ltb, le-ltb}
use Rattle.cedar.specs.Limits.{block_bytes}
use Rattle.cedar.specs.JobForm.{Question as Asked, Job, whole_job}
use Rattle.cedar.specs.Lines.{line, lines_from, printed}
use Rattle.forms.specs.Parts.{part, rd}
use Rattle.forms.specs.Laws.Parts.{and_l, and_r, and_yes, and-not-l}
use Rattle.forms.specs.Laws.Sure.{sure-some}
use Rattle.jobs.specs.declared.questions.Cursor.{Cursor}
use Rattle.jobs.specs.declared.operations.Operation.{Operation}
use Rattle.jobs.specs.JobBytes.{last_operation, op_of, entry_fits, entry_at, lengths_at, bodies_at, bodies_from, schema_of, fits_from, questions_from}
use Rattle.jobs.specs.Operations.{op}
use Rattle.jobs.specs.Walk.{count_of, start_of, ahead, entry_of, stands_at, next_at, outcome_at, line_at, lines_along}
use Rattle.jobs.specs.Laws.Whole.{whole_to}

module _ (b : List ℕ) where
  pub count-short : length b < 4 → 0 ≡ count_of b
  unfolding count_of
  count-short h = rw (lt-leb 4 (length b) h) refl

  pub count-is : 4 ≤ length b → rd b 2 ≡ count_of b
  unfolding count_of
  count-is h = rw (le-leb 4 (length b) h) refl

  pub start-short : length b < 4 → record { index = 0; body = 0 } ≡ start_of b
  unfolding start_of
  start-short h = rw (lt-leb 4 (length b) h) refl

  pub start_is : 4 ≤ length b → (n : ℕ) → n ≡ bodies_from b → record { index = 0; body = n } ≡ start_of b
  unfolding start_of
  start_is h n e = rw (le-leb 4 (length b) h, e) refl

  -- A job that has a question is long enough to say so.
  pub counted : (i : ℕ) → i < count_of b → (4 ≤ length b) × (i < rd b 2)
  counted i h = go (dec_le 4 (length b))
    where
      go : Dec (4 ≤ length b) → (4 ≤ length b) × (i < rd b 2)
      go (yes p) = (p, omega (arith, count-is p))
      go (no p) = absurd (omega (arith, count-short (omega arith)))

-- A cursor that stands at a question.
pub record Stands (b : List ℕ) (c : Cursor) : Type 0 where
  pub long : 4 ≤ length b
  pub below : c.index < rd b 2
  pub inside : bodies_from b ≤ length b
  pub operation : get_or b (entry_of c) 0 ≤ last_operation
  pub body : c.body + lengths_at b (entry_of c) ≤ length b
  pub entry : entry_of c + 8 ≤ length b

-- The tests of `stands`, in their order.
module _ (b : List ℕ) (c : Cursor) where
  abbrev e : ℕ
  e = entry_of c

  pub stands-none : count_of b ≤ c.index → false ≡ stands_at b c
  unfolding stands_at
  stands-none h = and-not-l (ltb c.index (count_of b)) _ (le-ltb c.index (count_of b) h)

  module _ (p : c.index < count_of b) where
    after-count : stands_at b
        c ≡ (leb (bodies_from b) (length b) && (leb (get_or b e 0) last_operation && (leb c.body (length b) && leb (lengths_at b e) (length b - c.body))))
    unfolding stands_at
    after-count = and_yes (ltb c.index (count_of b)) _ (lt-ltb c.index (count_of b) p)

    pub stands-short : length b < bodies_from b → false ≡ stands_at b c
    stands-short h = and-not-l (leb (bodies_from b) (length b)) _ (lt-leb (bodies_from b) (length b) h) ∙ sym after-count

    module _ (q : bodies_from b ≤ length b) where
      pub stands-entry : e + 8 ≤ length b
      stands-entry = omega (arith, (counted b c.index p).1)

      after-bodies : stands_at b c ≡ (leb (get_or b e 0) last_operation && (leb c.body (length b) && leb (lengths_at b e) (length b - c.body)))
      after-bodies = after-count ∙ and_yes (leb (bodies_from b) (length b)) _ (le-leb (bodies_from b) (length b) q)

      pub stands-unknown : last_operation < get_or b e 0 → false ≡ stands_at b c
      stands-unknown h = and-not-l (leb (get_or b e 0) last_operation) _ (lt-leb (get_or b e 0) last_operation h) ∙ sym after-bodies

      module _ (r : get_or b e 0 ≤ last_operation) where
        after-operation : stands_at b c ≡ (leb c.body (length b) && leb (lengths_at b e) (length b - c.body))
        after-operation = after-bodies ∙ and_yes (leb (get_or b e 0) last_operation) _ (le-leb (get_or b e 0) last_operation r)

        pub stands-over : length b < c.body → false ≡ stands_at b c
        stands-over h = and-not-l (leb c.body (length b)) _ (lt-leb c.body (length b) h) ∙ sym after-operation

        pub stands-last : c.body ≤ length b → (n : ℕ) → n ≡ lengths_at b e → leb n (length b - c.body) ≡ stands_at b c
        stands-last h n f =
            ap (λ (m : ℕ). leb m (length b - c.body)) f ∙ sym (after-operation ∙ and_yes (leb c.body (length b)) _ (le-leb c.body (length b) h))

  pub stands-is : stands_at b c ≡ true → Stands b c
  unfolding stands_at
  stands-is h =
      let h₁ = and_r (ltb c.index (count_of b)) _ h in
      let h₂ = and_r (leb (bodies_from b) (length b)) _ h₁ in
      let h₃ = and_r (leb (get_or b e 0) last_operation) _ h₂ in
      let p = ltb-true c.index (count_of b) (and_l (ltb c.index (count_of b)) _ h) in
      let q = leb-true (bodies_from b) (length b) (and_l (leb (bodies_from b) (length b)) _ h₁) in
      let r = leb-true c.body (length b) (and_l (leb c.body (length b)) _ h₃) in
      let s = leb-true (lengths_at b e) (length b - c.body) (and_r (leb c.body (length b)) _ h₃) in
      record {
        long = (counted b c.index p).0;
        below = (counted b c.index p).1;
        inside = q;
        operation = leb-true (get_or b e 0) last_operation (and_l (leb (get_or b e 0) last_operation) _ h₂);
        body = omega arith;
        entry = stands-entry p q;
      }

-- The lengths of an entry.
pub lengths-are : (b : List ℕ) (e : ℕ) {m n : ℕ} → m ≡ rd b (e + 4) → n ≡ rd b (e + 6) → m + n ≡ lengths_at b e
unfolding lengths_at
lengths-are b e p q = omega arith

module _ (b : List ℕ) (c : Cursor) where
  pub first-inside : rd b (entry_of c + 4) ≤ lengths_at b (entry_of c)
  unfolding lengths_at
  first-inside = omega arith

  -- What the code reads there.
  pub asks-is : (o : Operation) → op o ≡ op_of (get_or b (entry_of c) 0) → {a n l : ℕ} → a ≡ rd b (entry_of c + 2) → n ≡ rd b (entry_of c + 4) →
      l ≡ lengths_at b (entry_of c) → c.body + n ≤ length b → c.body + l ≤ length b →
      ◌≡◌ {A = Asked × (List ℕ × List ℕ)} (
        record { operation = op o; mode = get_or b (entry_of c + 1) 0; attribute = a; first_length = length (part c.body (c.body + n) b) },
        (part c.body (c.body + n) b, part (c.body + n) (c.body + l) b),
      )
      (entry_at b (entry_of c), bodies_at b (entry_of c) c.body)
  unfolding entry_at bodies_at
  asks-is o k {a} {n} {l} p q r h g =
      let f : length (part c.body (c.body + n) b) ≡ n = omega (arith, length-take-le (c.body + n - c.body) (drop c.body b) (omega (arith, length-drop c.body b))) in
      rw (f, k, p, q, r) refl

  pub next-is : {n : ℕ} → n ≡ lengths_at b (entry_of c) → record { index = c.index + 1; body = c.body + n } ≡ next_at b c
  unfolding next_at
  next-is e = rw e refl

  -- Fewer stand behind it.
  pub fewer : stands_at b c ≡ true → {d : Cursor} → d ≡ next_at b c → ahead b d < ahead b c
  unfolding next_at
  fewer s e = let t = stands-is b c s in omega (arith, t.below, count-is b t.long, ap (λ (d : Cursor). d.index) e)

-- A cursor in a job whose entries from there on are in order.
module _ (b : List ℕ) (n i a : ℕ) where
  abbrev at : Cursor
  at = record { index = i; body = a }

  pub record Ahead : Type 0 where
    pub long : 4 ≤ length b
    pub inside : bodies_from b ≤ length b
    pub many : i + n ≡ rd b 2
    pub begun : a ≤ length b
    pub fits : fits_from b n (4 + 8 * i) (length b - a) ≡ true

module _ (b : List ℕ) (n i a : ℕ) (h : Ahead b (suc n) i a) where
  abbrev e₁ : ℕ
  e₁ = 4 + 8 * i

  parts : (entry_fits b e₁ ≡ true) × (lengths_at b e₁ ≤ length b - a) × (fits_from b n (e₁ + 8) (length b - a - lengths_at b e₁) ≡ true)
  unfolding fits_from
  parts =
      let h₁ = and_r (leb (e₁ + 8) (length b)) _ h.fits in
      let h₂ = and_r (entry_fits b e₁) _ h₁ in (
        and_l (entry_fits b e₁) _ h₁,
        leb-true (lengths_at b e₁) (length b - a) (and_l (leb (lengths_at b e₁) (length b - a)) _ h₂),
        and_r (leb (lengths_at b e₁) (length b - a)) _ h₂,
      )

  known : get_or b e₁ 0 ≤ last_operation
  unfolding entry_fits
  known = leb-true (get_or b e₁ 0) last_operation (and_l (leb (get_or b e₁ 0) last_operation) _ parts.0)

  ahead-stands : stands_at b (at b n i a) ≡ true
  ahead-stands =
      let p : i < count_of b = omega (arith, count-is b h.long, h.many) in
      sym (stands-last b (at b n i a) p h.inside known h.begun (lengths_at b e₁) refl) ∙ le-leb (lengths_at b e₁) (length b - a) parts.1

  ahead-next : Ahead b n (i + 1) (a + lengths_at b e₁)
  ahead-next =
      let e : e₁ + 8 ≡ 4 + 8 * (i + 1) = omega arith in
      let r : length b - a - lengths_at b e₁ ≡ length b - (a + lengths_at b e₁) = omega arith in
      record {
        long = h.long;
        inside = h.inside;
        many = omega (arith, h.many);
        begun = omega (arith, parts.1, h.begun);
        fits = rw (e, r) at parts.2;
      }

-- The lines along the cursors are those of the questions.
along : (b : List ℕ) (n i a : ℕ) → Ahead b n i a → lines_along b n (record { index = i; body = a }) ≡ lines_from (schema_of b) i (questions_from b n (4 + 8 * i) a)
unfolding lines_along questions_from line_at next_at outcome_at
along b zero i a h = refl
along b (suc n) i a h =
    let e : 4 + 8 * (i + 1) ≡ 4 + 8 * i + 8 = omega arith in
    let l = lengths_at b (4 + 8 * i) in
    let ih = along b n (i + 1) (a + l) (ahead-next b n i a h) in
    let next = rw e at ih ∙ ap (λ (k : ℕ). lines_from (schema_of b) k (questions_from b n (4 + 8 * i + 8) (a + l))) (add-one i) in
    rw (ahead-stands b n i a h) (ap (λ (l : List ℕ). line i (outcome_at b (record { index = i; body = a })) ++ l) next)

-- What is printed for a whole job: the lines along its cursors. No question stands behind them.
module _ (b : List ℕ) (j : Job) (w : whole_job b ≡ some j) where
  begins : Ahead b (rd b 2) 0 (bodies_from b)
  begins =
      let h = (sure-some (whole_to b) w).0 in
      let h₁ = and_r (leb (length b) block_bytes) _ h in
      let h₂ = and_r (leb 4 (length b)) _ h₁ in
      record {
        long = leb-true 4 (length b) (and_l (leb 4 (length b)) _ h₁);
        inside = leb-true (bodies_from b) (length b) (and_l (leb (bodies_from b) (length b)) _ h₂);
        many = omega arith;
        begun = leb-true (bodies_from b) (length b) (and_l (leb (bodies_from b) (length b)) _ h₂);
        fits = and_r (leb (bodies_from b) (length b)) _ h₂;
      }

  pub printed-is : printed b ≡ lines_along b (count_of b) (start_of b)
  printed-is =
      rw (w, ← count-is b begins.long, ← start_is b begins.long (bodies_from b) refl, ← (sure-some (whole_to b) w).1)
      (sym (along b (rd b 2) 0 (bodies_from b) begins))
