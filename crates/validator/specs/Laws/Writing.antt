-- The answer of a call that writes a type, by the length that its length pass told and the levels of what was written. Assumes nothing.
use Rattle.std.specs.Prelude.{◌≡◌, refl, List, Bool, true, false, not, ℕ, ◌≤◌, min, leb, length, drop, Result as Outcome', IsErrAnd}
use Rattle.std.proofs.Common.{ap, ap₂, sym, subst, ◌∙◌, arith, length-append, leb-true, leb-false, le-leb}
use Rattle.std.proofs.Math.Option.{Option, none, some}
use Rattle.std.proofs.lemmas.Bool.{lt-leb, not-true, not-false}
use Rattle.cedar.specs.Types.{Ty, present}
use Rattle.cedar.specs.Levels.{depth}
use Rattle.cedar.specs.TypeForm.{enc}
use Rattle.cedar.specs.Result.{Result, ok, err}
use Rattle.cedar.specs.Limits.{Limits, most_bytes}
use Rattle.cedar.specs.Whole.{whole_type}
use Rattle.cedar.specs.Outcome.{Outcome, refused, typed, over}
use Rattle.cedar.specs.Calls.{write_type}
use Rattle.cedar.specs.Laws.Shape.{WF}
use Rattle.cedar.proofs.Laws.TypeForm.{parse-reads}
use Rattle.forms.specs.Parts.{part}
use Rattle.forms.specs.Refusals.{number_of}
use Rattle.forms.specs.declared.refusals.Refusal.{Refusal}
use Rattle.forms.specs.TypeBytes.{whole, dec}
use Rattle.forms.specs.Laws.Parts.{and_r}
use Rattle.forms.specs.Laws.Sure.{sure-present, sure-yes, sure-some}
use Rattle.forms.specs.Laws.TypeTwin.{type-twin, whole-type-twin}
use Rattle.writing.specs.Written.{Written}
use Rattle.writing.specs.FormLengths.{seen, cap, form_length_of, form_of, Ready}
use Rattle.writing.specs.Laws.FormLengths.{seen-err, of-ok, not_err, exact, ready}
use Rattle.writing.specs.Laws.Writing.{over-front}
use Rattle.validator.specs.declared.answers.Answer.{Answer}
use Rattle.validator.specs.declared.answers.Answer.TheVariants.{Typed}
use Rattle.validator.specs.Answers.{Answered}

-- Whether a type is whole, as the code asks it.
module _ (lim : Limits) (b : List ℕ) (r : Bool) (told : r ≡ present (whole_type lim b)) where
  pub type-is : not r ≡ false → (whole_type lim b ≡ some (dec lim.levels b)) × (whole lim.levels b ≡ true)
  type-is h =
      let t = whole-type-twin lim b in
      let y = sym (sure-present t) ∙ sym told ∙ not-false r h in
      (sure-yes t y, and_r (leb (length b) lim.bytes) (whole lim.levels b) y)

  pub type-not : not r ≡ true → whole_type lim b ≡ none
  type-not h = go (whole_type lim b) (sym told ∙ not-true r h)
    where
      go : (o : Option Ty) → present o ≡ false → o ≡ none
      go none e = refl
      go (some t) e = absurd (let z : ◌≡◌ {A = ℕ} 0 1 = cc in omega arith)

-- A refusal leaves the buffer as it was.
pub refuses : {c : Outcome} {o : List ℕ} (n : ℕ) → c ≡ refused n → Answered c o o (err n)
refuses n e = rw e record { answer = refl; result = refl }

-- So does one that a step of the call met.
pub refuses-as : {c : Outcome} {o : List ℕ} (r : Outcome' Answer Refusal) (e : Refusal) → IsErrAnd r (λ d. d ≡ e) → Answered c o o (err (number_of e)) →
    Answered c o o (seen r)
refuses-as {c} {o} r e h a = subst (λ z. Answered c o o z) (sym (seen-err r e h)) a

-- A type in order within the levels fills the first n bytes.
pub record Wrote (lim : Limits) (c : Outcome) (o xs : List ℕ) (n : ℕ) : Type 0 where
  pub kept : Ty
  pub is : c ≡ typed kept
  pub long : length (enc kept) ≡ n
  pub filled : xs ≡ over (enc kept) o
  pub within : WF lim.levels kept

-- The answer tells its length and its levels.
fills : {c : Outcome} {o xs : List ℕ} (t : Ty) (n d : ℕ) → c ≡ typed t → length (enc t) ≡ n → depth t ≡ d → xs ≡ over (enc t) o → Answered c o xs (ok (Typed n d))
fills t n d e l p q = rw e record { answer = ap ok (ap₂ Typed (sym l) (sym p)); result = q }

-- What was written is whole, and says the type.
module _ {lim : Limits} {c : Outcome} {o xs : List ℕ} {n : ℕ} (w : Wrote lim c o xs n) where
  front : part 0 n xs ≡ enc w.kept
  front = over-front (enc w.kept) o xs n w.filled (sym w.long)

  form : (whole lim.levels (enc w.kept) ≡ true) × (dec lim.levels (enc w.kept) ≡ w.kept)
  form = sure-some (type-twin lim.levels (enc w.kept)) ((parse-reads lim.levels).back w.kept w.within)

  pub wrote-small : n ≤ length xs
  wrote-small = rw (w.filled, length-append (enc w.kept) (drop (length (enc w.kept)) o)) (omega (arith, w.long))

  pub wrote-whole : whole lim.levels (part 0 n xs) ≡ true
  wrote-whole = ap (whole lim.levels) front ∙ form.0

  pub wrote-levels : (d : ℕ) → d ≡ depth (dec lim.levels (part 0 n xs)) → Answered c o xs (ok (Typed n d))
  wrote-levels d q = fills w.kept n d w.is w.long (sym (q ∙ ap depth (ap (dec lim.levels) front ∙ form.1))) w.filled

module _ (lim : Limits) (most : lim.bytes ≤ most_bytes) (r : Result Ty) (o : List ℕ) (c : Outcome) (e : c ≡ write_type lim (length o) r) (x : Result ℕ)
    (told : x ≡ form_length_of enc r) where
  pub writes-not : (d : ℕ) → x ≡ err d → Answered c o o (err d)
  writes-not d q = refuses d (e ∙ rw (not_err enc r x d told q) refl)

  module _ (n : ℕ) (q : x ≡ ok n) (f : Bool) (fits : f ≡ leb n (min (length o) lim.bytes)) where
    of-type : (t : Ty) × ((r ≡ ok t) × (n ≡ cap (length (enc t))))
    of-type = of-ok enc r x n told q

    pub writes-over : not f ≡ true → Answered c o o (err 10)
    writes-over h =
        let s = leb-false n (min (length o) lim.bytes) (sym fits ∙ not-true f h) in
        refuses 10 (e ∙ rw (of-type.1.0, lt-leb (length (enc of-type.0)) (min (length o) lim.bytes) (omega (arith, of-type.1.1, most))) refl)

    module _ (h : not f ≡ false) where
      small : n ≤ min (length o) lim.bytes
      small = leb-true n (min (length o) lim.bytes) (sym fits ∙ not-false f h)

      pub writes-ready : Ready enc r o
      writes-ready = ready enc r x n o told q (omega (arith, small, most)) (omega (arith, small))

      pub writes-length : n ≡ length (form_of enc r)
      writes-length = exact enc r x n told q (omega (arith, small, most))

      abbrev kept : Ty
      kept = of-type.0

      long : length (enc kept) ≡ n
      long = omega (arith, of-type.1.1, small, most)

      is-typed : c ≡ typed kept
      is-typed = e ∙ ap (write_type lim (length o)) of-type.1.0 ∙
          rw (le-leb (length (enc kept)) (min (length o) lim.bytes) (omega (arith, small, long))) refl

      module _ (xs : List ℕ) (k : ℕ) (w : Written (form_of enc r) o xs k) where
        filled : xs ≡ over (enc kept) o
        filled = w.bytes ∙ ap (λ (z : Result Ty). over (form_of enc z) o) of-type.1.0

        pub writes : (d : ℕ) → ((t : Ty) → r ≡ ok t → d ≡ depth t) → Answered c o xs (ok (Typed n d))
        writes d levels = fills kept n d is-typed long (sym (levels kept of-type.1.0)) filled

        pub wrote : ((t : Ty) → r ≡ ok t → WF lim.levels t) → Wrote lim c o xs n
        wrote within = record { kept = kept; is = is-typed; long = long; filled = filled; within = within kept of-type.1.0 }
