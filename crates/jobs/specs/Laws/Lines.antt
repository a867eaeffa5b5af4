-- Laws of lines. Assumes nothing.
use Rattle.std.specs.Prelude.{◌≡◌, List, [], ◌∷◌, ◌++◌, Bool, true, false, ℕ, suc, ◌+◌, ◌-◌, ◌*◌, ◌^◌, ◌≤◌, ◌<◌, length, take, drop}
use Rattle.std.proofs.Math.Path.{refl}
use Rattle.std.proofs.Common.{append_assoc, arith, length-take-le}
use Rattle.std.proofs.Math.ListN.{length-append}
use Rattle.std.proofs.Math.Seq.{take-append_seam}
use Rattle.cedar.specs.Bytes.{enc_names}
use Rattle.cedar.specs.TypeForm.{enc}
use Rattle.cedar.specs.Lines.{decimal, hex, line, bad_line}
use Rattle.cedar.specs.Result.{Result, ok, err, bad_job}
use Rattle.cedar.specs.Outcome.{Outcome, refused, said, nothing, measured, typed, attribute, named, over, bytes_of, result_after}
use Rattle.forms.specs.Parts.{rest}
use Rattle.validator.specs.declared.answers.Answer.{Answer}
use Rattle.validator.specs.declared.answers.Answer.TheVariants.{Yes, No, Nothing, Measured, Typed, Attribute, Named}
use Rattle.validator.specs.Answers.{answer_of}
use Rattle.writing.specs.Written.{Written}
use Rattle.jobs.specs.LineBytes.{number_in, many_in, required_word, text_in, field, line_in, LineRoom}
use Rattle.jobs.specs.Laws.Text.{decimal-short, length-hex}
use Rattle.writing.specs.Laws.Writing.{written_one, written-more, written-left, written_same}

-- A number and a space.
module _ (n : ℕ) (o : List ℕ) (h : length (field n) ≤ length o) where
  pub field_room : length (decimal n) + 1 ≤ length o
  unfolding field
  field_room = omega (arith, h, length-append (decimal n) (32 ∷ []))

  pub field_told : {xs ys : List ℕ} {at : ℕ} → Written (decimal n) o xs at → ys ≡ over (32 ∷ []) (rest at xs) →
      Written (field n) o (take at xs ++ (ys ++ drop (length xs - at) (drop at xs))) (at + 1)
  unfolding field
  field_told t u = written-more t (written_one 32 u) (omega (arith, field_room))

required-long : (r : Bool) → length (required_word r) ≡ 2
required-long true = refl
required-long false = refl

-- A looked-up attribute.
module _ (r : Bool) (b o : List ℕ) (h : length (required_word r ++ hex b) ≤ length o) where
  pub attribute-room : (2 + length (hex b) ≤ length o) × (length (required_word r) ≡ 2)
  attribute-room = (omega (arith, h, required-long r, length-append (required_word r) (hex b)), required-long r)

  pub attribute-told : {xs ys : List ℕ} {at n : ℕ} → Written (required_word r) o xs at → Written (hex b) (rest at xs) ys n →
      Written (required_word r ++ hex b) o (take at xs ++ (ys ++ drop (length xs - at) (drop at xs))) (at + n)
  attribute-told t u = written-more t u (omega (arith, attribute-room))

field-short : (k n : ℕ) → n < 10 ^ suc k → length (field n) ≤ suc (suc k)
unfolding field
field-short k n h = omega (arith, decimal-short k n h, length-append (decimal n) (32 ∷ []))

text-short : (a : Result Answer) (res : List ℕ) → many_in a ≤ length res → length (text_in a res) ≤ 4 + 2 * length res
text-short (err n) res h = omega arith
text-short (ok Yes) res h = omega arith
text-short (ok No) res h = omega arith
text-short (ok Nothing) res h = omega arith
text-short (ok (Measured n l)) res h = omega arith
text-short (ok (Typed n l)) res h = omega (arith, length-hex (take n res), length-take-le n res h)
text-short (ok (Attribute r n l)) res h =
    omega (arith, length-append (required_word r) (hex (take n res)), required-long r, length-hex (take n res), length-take-le n res h)
text-short (ok (Named n)) res h = omega (arith, length-hex (take n res), length-take-le n res h)

-- The parts of a line, which are written one after the other.
module _ (i : ℕ) (a : Result Answer) (res o : List ℕ) (fits : LineRoom i a res o) (number : ℕ) (e : (number ≡ number_in a) × (number < 256)) where
  abbrev head : List ℕ
  head = field i ++ field (number_in a)

  abbrev body : List ℕ
  body = head ++ text_in a res

  pub line-room : length (field i) + length (field (number_in a)) + length (text_in a res) + 1 ≤ length o
  line-room =
      omega (
        arith,
        fits.room,
        fits.small,
        e.0,
        e.1,
        text-short a res fits.inside,
        field-short 4 i (omega (arith, fits.small)),
        field-short 2 (number_in a) (omega (arith, e.0, e.1)),
      )

  -- The lengths of the parts so far, and the room behind each.
  head-long : length head ≡ length (field i) + length (field (number_in a))
  head-long = length-append (field i) (field (number_in a))

  body-long : length body ≡ length head + length (text_in a res)
  body-long = length-append head (text_in a res)

  module _ {v : List ℕ} {m : ℕ} (t : Written (field i) o v m) where
    pub index-left : (m + length (field (number_in a)) ≤ length v) × (length (field (number_in a)) ≤ length (rest m v)) ×
        (m + length (field (number_in a)) ≤ length o)
    index-left = written-left t (length (field (number_in a))) (omega (arith, line-room))

    module _ {w : List ℕ} {n : ℕ} (u : Written (field (number_in a)) (rest m v) w n) where
      abbrev after : List ℕ
      after = take m v ++ (w ++ drop (length v - m) (drop m v))

      head-told : Written head o after (m + n)
      head-told = written-more t u (omega (arith, line-room))

      pub head-left : (m + n + length (text_in a res) ≤ length after) × (length (text_in a res) ≤ length (rest (m + n) after)) ×
          (m + n + length (text_in a res) ≤ length o)
      head-left = written-left head-told (length (text_in a res)) (omega (arith, line-room, head-long))

      module _ {x : List ℕ} {k : ℕ} (f : Written (text_in a res) (rest (m + n) after) x k) where
        abbrev last : List ℕ
        last = take (m + n) after ++ (x ++ drop (length after - (m + n)) (drop (m + n) after))

        body-told : Written body o last (m + n + k)
        body-told = written-more head-told f (omega (arith, line-room, head-long))

        pub body-left : (m + n + k + 1 ≤ length last) × (1 ≤ length (rest (m + n + k) last)) × (m + n + k + 1 ≤ length o)
        body-left = written-left body-told 1 (omega (arith, line-room, head-long, body-long))

        pub line-told : {z : List ℕ} → z ≡ over (10 ∷ []) (rest (m + n + k) last) →
            Written (line_in i a res) o (take (m + n + k) last ++ (z ++ drop (length last - (m + n + k)) (drop (m + n + k) last))) (m + n + k + 1)
        unfolding line_in
        line-told g = written-more body-told (written_one 10 g) (omega (arith, line-room, head-long, body-long))

-- The line of an outcome.
line-text : (i n : ℕ) (w : List ℕ) → ((field i ++ field n) ++ w) ++ (10 ∷ []) ≡ decimal i ++ (32 ∷ decimal n ++ (32 ∷ w ++ (10 ∷ [])))
unfolding field
line-text i n w = simp append_assoc

-- An answer's line is the outcome's, where the result buffer is the outcome's.
pub line-is : (i : ℕ) (o : Outcome) (before : List ℕ) → line_in i (answer_of o) (result_after o before) ≡ line i o
unfolding line_in
line-is i (refused n) before = line-text i n (45 ∷ [])
line-is i (said true) before = line-text i 0 (121 ∷ 101 ∷ 115 ∷ [])
line-is i (said false) before = line-text i 0 (110 ∷ 111 ∷ [])
line-is i nothing before = line-text i 0 (110 ∷ 111 ∷ 110 ∷ 101 ∷ [])
line-is i (measured n l) before = line-text i 0 []
line-is i (typed t) before = rw (take-append_seam (enc t) (drop (length (enc t)) before)) (line-text i 0 (hex (enc t)))
line-is i (attribute true t) before = rw (take-append_seam (enc t) (drop (length (enc t)) before)) (line-text i 0 (114 ∷ 58 ∷ hex (enc t)))
line-is i (attribute false t) before = rw (take-append_seam (enc t) (drop (length (enc t)) before)) (line-text i 0 (111 ∷ 58 ∷ hex (enc t)))
line-is i (named ns) before = rw (take-append_seam (enc_names ns) (drop (length (enc_names ns)) before)) (line-text i 0 (hex (enc_names ns)))

-- An answer has as many bytes as the outcome.
pub many_is : (o : Outcome) → many_in (answer_of o) ≡ length (bytes_of o)
many_is (refused n) = refl
many_is (said true) = refl
many_is (said false) = refl
many_is nothing = refl
many_is (measured n l) = refl
many_is (typed t) = refl
many_is (attribute r t) = refl
many_is (named ns) = refl

-- The line of a bad job: a dash and a space, the number, a dash and a newline.
module _ {o v : List ℕ} {m : ℕ} (t : Written (45 ∷ 32 ∷ []) o v m) (h : 7 ≤ length o) (k : ℕ) (e : k ≡ bad_job) where
  pub bad-number : field k ≡ 49 ∷ 54 ∷ 32 ∷ []
  unfolding field
  bad-number = rw e refl

  module _ {w : List ℕ} {n : ℕ} (u : Written (field k) (rest m v) w n) where
    pub bad-head : Written (45 ∷ 32 ∷ 49 ∷ 54 ∷ 32 ∷ []) o (take m v ++ (w ++ drop (length v - m) (drop m v))) (m + n)
    bad-head = written-more t (written_same bad-number u) (omega arith)

    pub bad-told : {x : List ℕ} {r : ℕ} → Written (45 ∷ 10 ∷ []) (rest (m + n) (take m v ++ (w ++ drop (length v - m) (drop m v)))) x r →
        Written bad_line o
        (take (m + n) (take m v ++ (w ++ drop (length v - m) (drop m v)))
        ++ (x ++ drop (length (take m v ++ (w ++ drop (length v - m) (drop m v))) - (m + n))
        (drop (m + n) (take m v ++ (w ++ drop (length v - m) (drop m v))))))
        (m + n + r)
    bad-told f = written-more bad-head f (omega arith)
