-- A step: the bound's length, its form in a half of the workspace, and its copy. Assumes nothing.
use Rattle.std.specs.Prelude.{ℕ, ◌/◌, ◌≤◌, ◌<◌, min, List, true, ◌≡◌, refl, T, Ok, Err, length, get_or}
use Rattle.std.proofs.Common.{arith, ap, sym, subst, ◌∙◌, le-leb}
use Rattle.std.proofs.lemmas.Bool.{lt-leb}
use Rattle.cedar.specs.Types.{Mode, Ty}
use Rattle.cedar.specs.Bytes.{Bytes}
use Rattle.cedar.specs.Laws.Shape.{Ordered}
use Rattle.cedar.specs.Subtype.{sub}
use Rattle.cedar.specs.TypeForm.{enc}
use Rattle.cedar.specs.Limits.{Limits, most_bytes}
use Rattle.cedar.specs.Result.{Result, ok, err}
use Rattle.cedar.specs.Bound.{bound}
use Rattle.cedar.specs.Laws.DirectBound.{direct}
use Rattle.cedar.specs.Outcome.{over}
use Rattle.cedar.specs.Calls.{step_fits}
use Rattle.cedar.proofs.Laws.TypeForm.{parse-iff}
use Rattle.cedar.proofs.Laws.Direct.{direct-bound, direct-right}
use Rattle.cedar.proofs.Laws.Join.{bound-WF}
use Rattle.cedar.proofs.Laws.JoinBytes.{bound-bytes}
use Rattle.forms.specs.Parts.{part}
use Rattle.forms.specs.TypeBytes.{whole, dec}
use Rattle.forms.specs.Laws.Parts.{length_part}
use Rattle.forms.specs.Laws.Sure.{sure-yes, sure-some}
use Rattle.forms.specs.Laws.TypeTwin.{type-twin}
use Rattle.forms.specs.Refusals.{number_of}
use Rattle.forms.specs.declared.refusals.Refusal.{Refusal}
use Rattle.writing.specs.FormLengths.{cap, form_length_of, form_of}
use Rattle.writing.specs.Laws.FormLengths.{of-ok, not_err}
use Rattle.writing.specs.Laws.Writing.{over-front}
use Rattle.forms.specs.Laws.Bytes.{Bytes-index, Bytes-part, enc-dec}
use Rattle.folds.specs.declared.steps.NoStep.TheVariants.{Unbounded, TooLong}
use Rattle.folds.specs.Steps.{Held, Stepped}

-- A bound's form is whole, and says the bound.
module _ (l : ℕ) (m : Mode) (a b : List ℕ) (p : Bytes a) (q : Bytes b) (u : whole l a ≡ true) (v : whole l b ≡ true) (c : Ty)
    (e : bound m (dec l a) (dec l b) ≡ ok c) (s : length (enc c) ≤ most_bytes) where
  bytes : Bytes (enc c)
  bytes = bound-bytes m (dec l a) (dec l b) c e (rw (enc-dec l a p u) p) (rw (enc-dec l b q v) q) (omega arith)

  bound-form : (whole l (enc c) ≡ true) × (dec l (enc c) ≡ c)
  bound-form =
      let f = ((parse-iff l a (dec l a) p).0 (sure-yes (type-twin l a) u)).1 in
      let g = ((parse-iff l b (dec l b) q).0 (sure-yes (type-twin l b) v)).1 in
      sure-some (type-twin l (enc c)) ((parse-iff l (enc c) c bytes).1 (refl, bound-WF l m (dec l a) (dec l b) c f g e))

-- What a step starts from: the type at hand in the first bytes of `last`, and another, both of bytes.
pub record Stepping (lim : Limits) (len : ℕ) (last t : List ℕ) : Type 0 where
  pub held : Held lim len last
  pub other : whole lim.levels t ≡ true
  pub bytes : (i : ℕ) → get_or last i 0 < 256
  pub bytes' : (i : ℕ) → get_or t i 0 < 256

pub stepping : {lim : Limits} {len : ℕ} {last t : List ℕ} → Held lim len last → whole lim.levels t ≡ true → ((i : ℕ) → get_or last i 0 < 256) → ((i : ℕ) →
    get_or t i 0 < 256) →
    Stepping lim len last t
stepping h w p q = record { held = h; other = w; bytes = p; bytes' = q }

module _ (m : Mode) {lim : Limits} {len : ℕ} {last t : List ℕ} (g : Stepping lim len last t) where
  abbrev l : ℕ
  l = lim.levels

  abbrev hand : List ℕ
  hand = part 0 len last

  abbrev stepped : Result Ty
  stepped = bound m (dec l hand) (dec l t)

  p : Bytes hand
  p = Bytes-part 0 len last (Bytes-index last g.bytes)

  q : Bytes t
  q = Bytes-index t g.bytes'

  one-ordered : Ordered (dec l hand)
  one-ordered = ((parse-iff l hand (dec l hand) p).0 (sure-yes (type-twin l hand) g.held.good)).1.1

  other-ordered : Ordered (dec l t)
  other-ordered = ((parse-iff l t (dec l t) q).0 (sure-yes (type-twin l t) g.other)).1.1

  -- The passes go part by part.
  direct_is : direct m (dec l hand) (dec l t) ≡ stepped
  direct_is = direct-bound (dec l hand) m (dec l t) one-ordered other-ordered

  -- Where the other type is under the one at hand, that one is the bound.
  module _ (work : ℕ) (h : sub m (dec l t) (dec l hand) ≡ true) where
    under : stepped ≡ ok (dec l hand)
    under = sym direct_is ∙ direct-right (dec l hand) m (dec l t) one-ordered other-ordered (subst T (sym h) tt)

    long : length (enc (dec l hand)) ≡ len
    long = ap length g.held.exact ∙ length_part 0 len last (omega (arith, g.held.fits, g.held.room)) ∙ omega arith

    pub step_stays : len ≤ work / 2 → Stepped lim stepped work last (Ok len)
    step_stays k = (under, le-leb (length (enc (dec l hand))) (min (work / 2) lim.bytes) (omega (arith, long, g.held.fits)), g.held)

    pub step-stays-long : work / 2 < len → Stepped lim stepped work last (Err TooLong)
    step-stays-long k = (dec l hand, (under, lt-leb (length (enc (dec l hand))) (min (work / 2) lim.bytes) (omega (arith, long))))

  module _ (x : Result ℕ) (told : x ≡ form_length_of enc (direct m (dec l hand) (dec l t))) (work : ℕ) where
    told_is : x ≡ form_length_of enc stepped
    told_is = told ∙ ap (form_length_of enc) direct_is

    pub step-none : (e : Refusal) → x ≡ err (number_of e) → Stepped lim stepped work last (Err (Unbounded e))
    step-none e f = not_err enc stepped x (number_of e) told_is f

    module _ (n : ℕ) (f : x ≡ ok n) where
      of-type : (c : Ty) × ((stepped ≡ ok c) × (n ≡ cap (length (enc c))))
      of-type = of-ok enc stepped x n told_is f

      abbrev bounded : Ty
      bounded = of-type.0

      pub step-over : min (work / 2) lim.bytes < n → Stepped lim stepped work last (Err TooLong)
      step-over h = (bounded, (of-type.1.0, lt-leb (length (enc bounded)) (min (work / 2) lim.bytes) (omega (arith, of-type.1.1, g.held.most))))

      module _ (h : n ≤ min (work / 2) lim.bytes) where
        exact : n ≡ length (enc bounded)
        exact = omega (arith, of-type.1.1, g.held.most)

        form-written : form_of enc (direct m (dec l hand) (dec l t)) ≡ enc bounded
        form-written = ap (form_of enc) (direct_is ∙ of-type.1.0)

        -- The bound's form was copied to the front of `last`.
        copied : (xs : List ℕ) → lim.bytes ≤ length xs → part 0 n xs ≡ enc bounded → Stepped lim stepped work xs (Ok n)
        copied xs r y =
            let w = bound-form l m hand t p q g.held.good g.other bounded of-type.1.0 (omega (arith, exact, g.held.most)) in
            let z : dec l (part 0 n xs) ≡ bounded = ap (dec l) y ∙ w.1 in (
              of-type.1.0 ∙ ap ok (sym z),
              ap (step_fits lim work) z ∙ le-leb (length (enc bounded)) (min (work / 2) lim.bytes) (omega (arith, exact)),
              record { most = g.held.most; room = r; fits = omega arith; good = ap (whole l) y ∙ w.0; exact = ap enc z ∙ sym y },
            )

        -- It was written to the front of `last`.
        pub step-written : (xs : List ℕ) → length xs ≡ length last → xs ≡ over (form_of enc (direct m (dec l hand) (dec l t))) last →
            Stepped lim stepped work xs (Ok n)
        step-written xs r e =
            copied xs (omega (arith, r, g.held.room)) (over-front (enc bounded) last xs n (e ∙ ap (λ (w : List ℕ). over w last) form-written) exact)
