-- A number says one answer. Assumes nothing.
use Rattle.std.specs.Prelude.{ℕ, zero, suc, ◌+◌, ◌*◌, ◌/◌, ◌%◌, ◌<◌, ◌≤◌, List, Bool, true, false, cond, ◌≡◌, refl, get_or, Option as Maybe, Some, None}
use Rattle.std.proofs.Common.{arith, ap, sym, subst, ◌∙◌}
use Rattle.std.specs.Borrow.{Bor}
use Rattle.cedar.specs.Result.{Result, ok, err}
use Rattle.cedar.specs.Outcome.{Outcome}
use Rattle.cedar.specs.Limits.{Limits, most_bytes}
use Rattle.cedar.specs.BodyPlace.{body_in}
use Rattle.cedar.specs.Calls.{own_attribute_call}
use Rattle.validator.specs.declared.answers.Answer.{Answer}
use Rattle.validator.specs.declared.answers.Answer.TheVariants.{Yes, No, Nothing, Measured, Typed, Attribute, Named}
use Rattle.validator.specs.Answers.{Answered, AnsweredIn}
use Rattle.validator.specs.Handed.{part_of}
use Rattle.validator.specs.Laws.Handed.{here_found}
use Rattle.validator.specs.declared.own_attribute_type.OwnPart.{OwnPart}
use Rattle.exports.specs.Steps.{kind_step, packed_step}
use Rattle.exports.specs.Numbers.{sizes, answer_number, wrote_with, answer_with, read_answer, Brief, Numbered, NumberedIn, part_number, part_with, read_part, Narrow}

-- A kind, and what stands above it.
cut : (k n : ℕ) → k < kind_step → ((k + kind_step * n) % kind_step ≡ k) × ((k + kind_step * n) / kind_step ≡ n)
cut k n l = (omega (arith, l), omega (arith, l))

cut-refused : (n : ℕ) → (kind_step * n % kind_step ≡ 0) × (kind_step * n / kind_step ≡ n)
cut-refused n = (omega arith, omega arith)

parts : (k n : ℕ) → k < kind_step → read_answer (k + kind_step * n) ≡ answer_with k n
parts k n l = rw ((cut k n l).0, (cut k n l).1) refl

-- A length, and what stands above it.
located : (s e : ℕ) → s ≤ most_bytes → ((s + packed_step * e) % packed_step ≡ s) × ((s + packed_step * e) / packed_step ≡ e)
located s e l = (omega (arith, l), omega (arith, l))

-- A type that was written has levels.
wrote-type : (n l : ℕ) → 1 ≤ l → wrote_with n l ≡ Typed n l
wrote-type n zero h = absurd (omega arith)
wrote-type n (suc l) h = refl

-- A number is read as the answer that it was made of.
pub reads : (a : Result Answer) → Brief a → read_answer (answer_number a) ≡ a
reads (err n) h = rw ((cut-refused n).0, (cut-refused n).1) refl
reads (ok Yes) h = refl
reads (ok No) h = refl
reads (ok Nothing) h = refl
reads (ok (Measured n l)) h = parts 9 (sizes n l) (omega arith) ∙ rw ((located n l h.0).0, (located n l h.0).1) refl
reads (ok (Typed n l)) h = parts 4 (sizes n l) (omega arith) ∙ rw ((located n l h.0).0, (located n l h.0).1) (ap ok (wrote-type n l h.2))
reads (ok (Attribute false n l)) h = parts 5 (sizes n l) (omega arith) ∙ rw ((located n l h.0).0, (located n l h.0).1) refl
reads (ok (Attribute true n l)) h = parts 6 (sizes n l) (omega arith) ∙ rw ((located n l h.0).0, (located n l h.0).1) refl
reads (ok (Named n)) h = parts 4 (sizes n 0) (omega arith) ∙ rw ((located n 0 h).0, (located n 0 h).1) refl

-- So no two brief answers have one number.
pub one_answer : (a b : Result Answer) → Brief a → Brief b → answer_number a ≡ answer_number b → a ≡ b
one_answer a b h k e = sym (reads a h) ∙ ap read_answer e ∙ reads b k

-- What an answer tells.
pub measured-brief : (a : Result Answer) (n l : ℕ) → Brief a → a ≡ ok (Measured n l) → (n ≤ most_bytes) × (l ≤ most_bytes)
measured-brief a n l h e = let b : Brief (ok (Measured n l)) = subst Brief e h in (b.0, omega (arith, b.0, b.1))

pub typed-brief : (a : Result Answer) (n l : ℕ) → Brief a → a ≡ ok (Typed n l) → (n ≤ most_bytes) × (l ≤ most_bytes)
typed-brief a n l h e = let b : Brief (ok (Typed n l)) = subst Brief e h in (b.0, omega (arith, b.0, b.1))

pub attribute-brief : (a : Result Answer) (q : Bool) (n l : ℕ) → Brief a → a ≡ ok (Attribute q n l) → (n ≤ most_bytes) × (l ≤ most_bytes)
attribute-brief a q n l h e = let b : Brief (ok (Attribute q n l)) = subst Brief e h in (b.0, omega (arith, b.0, b.1))

pub named-brief : (a : Result Answer) (n : ℕ) → Brief a → a ≡ ok (Named n) → n ≤ most_bytes
named-brief a n h e = subst Brief e h

-- The number of an answer, case by case.
pub refused-number : (a : Result Answer) (n : ℕ) → a ≡ err n → 0 + kind_step * n ≡ answer_number a
refused-number a n e = omega arith ∙ sym (ap answer_number e)

pub required-number : (a : Result Answer) (q : Bool) (n l : ℕ) → a ≡ ok (Attribute q n l) → q ≡ true → 6 + kind_step * sizes n l ≡ answer_number a
required-number a q n l e h = sym (ap answer_number (e ∙ ap (λ (z : Bool). ok (Attribute z n l)) h))

pub optional-number : (a : Result Answer) (q : Bool) (n l : ℕ) → a ≡ ok (Attribute q n l) → q ≡ false → 5 + kind_step * sizes n l ≡ answer_number a
optional-number a q n l e h = sym (ap answer_number (e ∙ ap (λ (z : Bool). ok (Attribute z n l)) h))

-- The number of what an entry answered.
module _ {o : Outcome} {a : Result Answer} {before after : List ℕ} (r : ℕ) (e : r ≡ answer_number a) where
  pub numbered : Answered o before after a → Numbered o before after r
  numbered q = record { number = e ∙ ap answer_number q.answer; result = q.result }

  pub numbered-in : {work cleared : List ℕ} → AnsweredIn o before after work cleared a → NumberedIn o before after work cleared r
  numbered-in q = record { number = e ∙ ap answer_number q.answer; result = q.result; cleared = q.cleared }

-- A part's number is read as the part that it was made of.
part-kind : (k n : ℕ) → k < kind_step → read_part (k + kind_step * n) ≡ part_with k n
part-kind k n l = rw ((cut k n l).0, (cut k n l).1) refl

pub reads-part : (p : Result (Maybe OwnPart)) → Narrow p → read_part (part_number p) ≡ p
reads-part (err n) h = rw ((cut-refused n).0, (cut-refused n).1) refl
reads-part (ok None) h = refl
reads-part (ok (Some x)) h = go x.required refl
  where
    go : (q : Bool) → x.required ≡ q → read_part (part_number (ok (Some x))) ≡ ok (Some x)
    go false e =
        ap (λ (b : Bool). read_part (cond b 8 7 + kind_step * (x.start + packed_step * x.end))) e
        ∙ part-kind 7 (x.start + packed_step * x.end) (omega arith)
        ∙ rw ((located x.start x.end h.0).0, (located x.start x.end h.0).1)
        (ap (λ (b : Bool). ok (Some (record { start = x.start; end = x.end; required = b }))) (sym e))
    go true e =
        ap (λ (b : Bool). read_part (cond b 8 7 + kind_step * (x.start + packed_step * x.end))) e
        ∙ part-kind 8 (x.start + packed_step * x.end) (omega arith)
        ∙ rw ((located x.start x.end h.0).0, (located x.start x.end h.0).1)
        (ap (λ (b : Bool). ok (Some (record { start = x.start; end = x.end; required = b }))) (sym e))

-- So no two parts within a form's length have one number.
pub one-part : (p q : Result (Maybe OwnPart)) → Narrow p → Narrow q → part_number p ≡ part_number q → p ≡ q
one-part p q hp hq e = sym (reads-part p hp) ∙ ap read_part e ∙ reads-part q hq

-- A place within a whole form.
pub narrow : (lim : Limits) (schema : List ℕ) (a : ℕ) (t : Bor (List ℕ)) → ((i : ℕ) → get_or t.now i 0 < 256) → (p : Result (Maybe OwnPart)) →
    p ≡ part_of (own_attribute_call lim schema a t.now) (body_in lim a t.now) → Narrow p
narrow lim schema a t known p e = go p refl
  where
    go : (x : Result (Maybe OwnPart)) → p ≡ x → Narrow x
    go (err n) i = tt
    go (ok None) i = tt
    go (ok (Some x)) i = let f = here_found lim schema a t known p e x i in (omega (arith, f.order, f.inside, f.few), omega (arith, f.inside, f.few))

pub at-narrow : (p : Result (Maybe OwnPart)) (x : OwnPart) → Narrow p → p ≡ ok (Some x) → (x.start ≤ most_bytes) × (x.end ≤ most_bytes)
at-narrow p x h at = subst Narrow at h

-- The number of a part, case by case.
pub part-refused-number : (p : Result (Maybe OwnPart)) (n : ℕ) → p ≡ err n → 0 + kind_step * n ≡ part_number p
part-refused-number p n e = omega arith ∙ sym (ap part_number e)

pub part-required-number : (p : Result (Maybe OwnPart)) (x : OwnPart) → p ≡ ok (Some x) → x.required ≡ true →
    8 + kind_step * (x.start + packed_step * x.end) ≡ part_number p
part-required-number p x at h = rw (at, h) refl

pub part-optional-number : (p : Result (Maybe OwnPart)) (x : OwnPart) → p ≡ ok (Some x) → x.required ≡ false →
    7 + kind_step * (x.start + packed_step * x.end) ≡ part_number p
part-optional-number p x at h = rw (at, h) refl
