-- Questions off the front of a job's entries and bodies, as a test and what is decoded. Assumes nothing.
use Rattle.std.specs.Prelude.{◌≡◌, refl, List, [], ◌∷◌, Bool, true, false, ◌&&◌, ℕ, zero, suc, ◌+◌, ◌*◌, ◌-◌, ◌≤◌, ◌<◌, eqb, leb, length, take, drop}
use Rattle.std.proofs.Common.{ap, sym, ◌∙◌, arith, length-drop, get_or-drop, drop-drop, take-take, take-add, drop_at, length-take-le}
use Rattle.std.proofs.Math.Bool.{and_assoc}
use Rattle.std.proofs.Math.Option.{Option, none, some}
use Rattle.std.proofs.Math.Decide.{dec_le}
use Rattle.std.proofs.Math.Nat.{mul_comm}
use borrow.Author.Tests.{le-leb, lt-leb, leb-true}
use Rattle.cedar.specs.Bytes.{◌>>=◌, guard, finish}
use Rattle.cedar.specs.Table.{rows}
use Rattle.cedar.specs.JobForm.{Operation, operation_of, Question, read_question, any_question, split_bodies}
use Rattle.forms.specs.Parts.{part, rd, sure}
use Rattle.forms.specs.Laws.Parts.{and-not-l, and-not-r}
use Rattle.forms.specs.Laws.Sure.{Sure, sure-same, bind_to, map-to, guard-to, finish-to, leb-same, rd-drop}
use Rattle.jobs.specs.JobBytes.{op_of, fields_fit, entry_fits, entry_at, lengths_at, bodies_at, fits_from, questions_from}
use Rattle.jobs.specs.Laws.Operations.{operation-to}

bind-none : {A B : Type 0} (o : Option A) (f : A → Option B) → ((a : A) → f a ≡ none) → (o >>= f) ≡ none
bind-none none f h = refl
bind-none (some a) f h = h a

abbrev Entry : Type 0
Entry = Question × ℕ × List ℕ

-- What follows the operation's number of an entry.
abbrev fields : ℕ → ℕ → ℕ → ℕ → List ℕ → Operation → Option Entry
fields m a i j l o = do
  _ ← guard (fields_fit o m a j)
  some (record { operation = o; mode = m; attribute = a; first_length = i }, i + j, l)

fields-to : (m a i j : ℕ) (l : List ℕ) (o : Operation) →
    Sure (fields m a i j l o) (fields_fit o m a j) (record { operation = o; mode = m; attribute = a; first_length = i }, i + j, l)
fields-to m a i j l o = map-to (λ u. (record { operation = o; mode = m; attribute = a; first_length = i }, i + j, l)) (guard-to (fields_fit o m a j))

-- An entry off the front.
short : (es : List ℕ) (y : Entry) → length es < 8 → read_question es ≡ none → Sure (read_question es) (leb 8 (length es) && entry_fits es 0) y
short es y h e = record { is = e ∙ ap (λ (b : Bool). sure b y) (and-not-l (leb 8 (length es)) (entry_fits es 0) (lt-leb 8 (length es) h)) }

read-front : (es : List ℕ) → Sure (read_question es) (leb 8 (length es) && entry_fits es 0) (entry_at es 0, lengths_at es 0, drop 8 es)
read-front [] = short [] _ (omega arith) refl
read-front (k ∷ []) = short (k ∷ []) _ (omega arith) (bind-none (operation_of k) _ λ o. refl)
read-front (k ∷ m ∷ []) = short (k ∷ m ∷ []) _ (omega arith) (bind-none (operation_of k) _ λ o. refl)
read-front (k ∷ m ∷ a ∷ []) = short (k ∷ m ∷ a ∷ []) _ (omega arith) (bind-none (operation_of k) _ λ o. refl)
read-front (k ∷ m ∷ a ∷ b ∷ []) = short (k ∷ m ∷ a ∷ b ∷ []) _ (omega arith) (bind-none (operation_of k) _ λ o. refl)
read-front (k ∷ m ∷ a ∷ b ∷ c ∷ []) = short (k ∷ m ∷ a ∷ b ∷ c ∷ []) _ (omega arith) (bind-none (operation_of k) _ λ o. refl)
read-front (k ∷ m ∷ a ∷ b ∷ c ∷ d ∷ []) = short (k ∷ m ∷ a ∷ b ∷ c ∷ d ∷ []) _ (omega arith) (bind-none (operation_of k) _ λ o. refl)
read-front (k ∷ m ∷ a ∷ b ∷ c ∷ d ∷ f ∷ []) = short (k ∷ m ∷ a ∷ b ∷ c ∷ d ∷ f ∷ []) _ (omega arith) (bind-none (operation_of k) _ λ o. refl)
read-front (k ∷ m ∷ a ∷ b ∷ c ∷ d ∷ f ∷ g ∷ l) =
    unfold entry_fits entry_at lengths_at in
    rw (← mul_comm b 256, ← mul_comm d 256, ← mul_comm g 256, le-leb 8 (suc (suc (suc (suc (suc (suc (suc (suc (length l))))))))) (omega arith))
    (bind_to (fields m (a + b * 256) (c + d * 256) (f + g * 256) l) (operation-to k) λ h. fields-to m (a + b * 256) (c + d * 256) (f + g * 256) l (op_of k))

-- The entry at e.
read_at : (b : List ℕ) (e : ℕ) → Sure (read_question (drop e b)) (leb (e + 8) (length b) && entry_fits b e) (entry_at b e, lengths_at b e, drop (e + 8) b)
unfolding entry_fits entry_at lengths_at
read_at b e =
    let z : e + 0 ≡ e = omega arith in
    sure-same (read-front (drop e b))
    (rw (length-drop e b, get_or-drop e b 0 0, get_or-drop e b 1 0, rd-drop e b 2, rd-drop e b 6, z)
    (ap (λ (t : Bool). t && entry_fits b e) (leb-same 8 (length b - e) (e + 8) (length b) (λ h. omega arith) (λ h. omega arith))))
    (rw (get_or-drop e b 0 0, get_or-drop e b 1 0, rd-drop e b 2, rd-drop e b 4, rd-drop e b 6, z, drop-drop 8 e b) refl)

-- The bodies of a question, which lie inside what is left.
split_at : (b : List ℕ) (e a : ℕ) → lengths_at b e ≤ length b - a → Sure (split_bodies (entry_at b e) (take (lengths_at b e) (drop a b))) true (bodies_at b e a)
unfolding entry_at lengths_at bodies_at
split_at b e a h =
    let i = rd b (e + 4) in
    let j = rd b (e + 6) in
    let l = drop a b in
    let n : i + j ≤ length l = rw (length-drop a b) h in
    let len : length (take (i + j) l) ≡ i + j = length-take-le (i + j) l n in
    let p : a + i - a ≡ i = omega arith in
    let q : a + (i + j) - (a + i) ≡ j = omega arith in
    let first : take i (take (i + j) l) ≡ part a (a + i) b = rw p (take-take i (i + j) l (omega arith)) in
    let second : drop i (take (i + j) l) ≡ part (a + i) (a + (i + j)) b =
    rw (q, take-add i j l, drop_at (take i l) (take j (drop i l)) i (length-take-le i l (omega arith)), drop-drop i a b) refl in
    record { is = rw (le-leb i (length (take (i + j) l)) (omega (arith, len)), first, second) refl }

-- A step after two others.
bind-bind : {A B C : Type 0} {o : Option A} {b : Bool} {a : A} (f : A → Option B) (g : B → Option C) {c : Bool} {x : C} →
    Sure o b a → (b ≡ true → Sure (f a >>= g) c x) → Sure ((o >>= f) >>= g) (b && c) x
bind-bind {A} {B} {C} {o} {b} {a} f g {c} {x} e h = record { is = ap (λ (z : Option A). (z >>= f) >>= g) e.is ∙ go b h }
  where
    go : (d : Bool) → (d ≡ true → Sure (f a >>= g) c x) → ((sure d a >>= f) >>= g) ≡ sure (d && c) x
    go true k = (k refl).is
    go false k = refl

abbrev Asked : Type 0
Asked = Question × (List ℕ × List ℕ)

abbrev Rows : Type 0
Rows = List Asked × List ℕ × List ℕ

-- The questions, where no byte is over.
abbrev pub question_rows : ℕ → List ℕ → List ℕ → Option Rows
question_rows c es bs = rows read_question any_question split_bodies c tt es bs

abbrev pub closed : {A : Type 0} → (List Asked → A) → Rows → Option A
closed g r = finish (g r.0) r.2

pub closed-map : {A B : Type 0} (g : List Asked → A) (h : A → B) (o : Option Rows) → (o >>= closed (λ xs. h (g xs))) ≡ ((o >>= closed g) >>= λ x. some (h x))
closed-map g h none = refl
closed-map g h (some (xs, es, [])) = refl
closed-map g h (some (xs, es, x ∷ bs)) = refl

-- One more question before others.
more : (y : Asked) (o : Option Rows) → ((o >>= λ r. some (y ∷ r.0, r.1, r.2)) >>= closed (λ xs. xs)) ≡ ((o >>= closed (λ xs. xs)) >>= λ xs. some (y ∷ xs))
more y none = refl
more y (some (xs, es, [])) = refl
more y (some (xs, es, x ∷ bs)) = refl

abbrev after-split : ℕ → Question → List ℕ → List ℕ → List ℕ × List ℕ → Option Rows
after-split c q es bs a = question_rows c es bs >>= λ r. some ((q, a) ∷ r.0, r.1, r.2)

abbrev after-room : ℕ → Question → ℕ → List ℕ → List ℕ → Unit {0} → Option Rows
after-room c q l es bs u = split_bodies q (take l bs) >>= λ a. after-split c q es (drop l bs) a

abbrev after-entry : ℕ → List ℕ → Entry → Option Rows
after-entry c bs r = guard (leb r.1 (length bs)) >>= λ u. after-room c r.0 r.1 r.2 bs u

-- The entries from e on, whose bodies begin at a, and no byte over.
pub questions-to : (b : List ℕ) (c e a : ℕ) →
    Sure (question_rows c (drop e b) (drop a b) >>= closed (λ xs. xs)) (fits_from b c e (length b - a)) (questions_from b c e a)
unfolding fits_from questions_from
questions-to b zero e a = sure-same (finish-to [] (drop a b)) (ap (λ (n : ℕ). eqb n 0) (length-drop a b)) refl
questions-to b (suc c) e a =
    let l = lengths_at b e in
    let q = entry_at b e in
    let es = drop (e + 8) b in
    let bs = drop a b in
    let ih : Sure (question_rows c es (drop l bs) >>= closed (λ xs. xs)) (fits_from b c (e + 8) (length b - a - l)) (questions_from b c (e + 8) (a + l)) =
    rw (drop-drop l a b) (sure-same (questions-to b c (e + 8) (a + l)) (ap (λ (n : ℕ). fits_from b c (e + 8) n) (omega arith)) refl) in
    let step : Sure (question_rows (suc c) (drop e b) bs >>= closed (λ xs. xs))
    ((leb (e + 8) (length b) && entry_fits b e) && (leb l (length bs) && (true && fits_from b c (e + 8) (length b - a - l)))) (questions_from b (suc c) e a) =
    bind-bind (after-entry c bs) (closed (λ xs. xs)) (read_at b e) λ h.
    bind-bind (after-room c q l es bs) (closed (λ xs. xs)) (guard-to (leb l (length bs))) λ g.
    bind-bind (after-split c q es (drop l bs)) (closed (λ xs. xs)) (split_at b e a (rw (length-drop a b) at (leb-true l (length bs) g))) λ t.
    record { is = more (q, bodies_at b e a) (question_rows c es (drop l bs)) ∙ (map-to (λ (xs : List Asked). (q, bodies_at b e a) ∷ xs) ih).is } in
    sure-same step
    (rw (length-drop a b) (and_assoc (leb (e + 8) (length b)) (entry_fits b e) (leb l (length b - a) && fits_from b c (e + 8) (length b - a - l))))
    refl

-- Entries that run past the end.
pub fits-over : (b : List ℕ) (c e room : ℕ) → length b < e + 8 * c → e ≤ length b → false ≡ fits_from b c e room
unfolding fits_from
fits-over b zero e room h g = absurd (omega arith)
fits-over b (suc c) e room h g = go (dec_le (e + 8) (length b)) (λ k. fits-over b c (e + 8) (room - lengths_at b e) (omega arith) k)
  where
    go : Dec (e + 8 ≤ length b) → (e + 8 ≤ length b → false ≡ fits_from b c (e + 8) (room - lengths_at b e)) →
        false ≡ (leb (e + 8) (length b) && (entry_fits b e && (leb (lengths_at b e) room && fits_from b c (e + 8) (room - lengths_at b e))))
    go (yes k) f =
        and-not-r (leb (e + 8) (length b)) _ (sym (and-not-r (entry_fits b e) _ (sym (and-not-r (leb (lengths_at b e) room) _ (sym (f k))))))
    go (no k) f = and-not-l (leb (e + 8) (length b)) _ (lt-leb (e + 8) (length b) (omega arith))
