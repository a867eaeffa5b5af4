-- What each step of the code says of the text from an index on. Assumes nothing.
use Rattle.std.specs.Prelude.{ℕ, zero, suc, ◌+◌, ◌*◌, ◌/◌, ◌%◌, ◌-◌, ◌<◌, ◌≤◌, Bool, true, false, ◌&&◌, ◌≡◌, Option, leb, length, get_or, drop, Some}
use Rattle.std.proofs.Common.{add-zero, add-one, arith, ap, ◌∙◌, subst, inl, inr, length-drop, drop_of_length-le, drop-cons, le-leb, ne_eqb}
use mathlib.Core.List.{List, [], ◌∷◌}
use Rattle.std.proofs.Math.Path.{refl, sym}
use Rattle.std.proofs.Math.Option.{none, some}
use Rattle.std.specs.Bool.{then_some}
use Rattle.std.specs.Int.Bits.{bit_or, or_add_and}
use Rattle.std.proofs.lemmas.Nat.{and_le_l, and_le_r, or_mod, or_shr}
use Rattle.std.proofs.lemmas.Bool.{lt-leb}
use Rattle.cedar.specs.Types.{maybe}
use Rattle.cedar.specs.Text.{Range, tail, text_rows, followed, goes_on, is_text}
use Rattle.cedar.proofs.Laws.Text.{split, rows-rise, followed-row, followed-none}
use Rattle.strings.specs.Steps.{text_from, is_in, second_range, Character, Width, Passes, Plain, PassesWide}

-- ---- Bytes in ranges

pub in-below : (low high x : ℕ) → x < low → false ≡ is_in (low, high) x
unfolding is_in
in-below low high x h = sym (rw (lt-leb low x h))

pub in_rest : (low high x : ℕ) → low ≤ x → leb x high ≡ is_in (low, high) x
unfolding is_in
in_rest low high x h = sym (rw (le-leb low x h))

-- The range of a second byte, by the first.
module _ (x y : ℕ) (t : Bool) where
  second_at : (r : Range) → second_range x ≡ r → t ≡ is_in r y → t ≡ is_in (second_range x) y
  second_at r e h = h ∙ ap (λ (q : Range). is_in q y) (sym e)

  pub second-E0 : t ≡ is_in (0xA0, 0xBF) y → x ≡ 0xE0 → t ≡ is_in (second_range x) y
  unfolding second_range
  second-E0 h e = second_at (0xA0, 0xBF) (rw e) h

  pub second-ED : t ≡ is_in (0x80, 0x9F) y → x ≡ 0xED → t ≡ is_in (second_range x) y
  unfolding second_range
  second-ED h e = second_at (0x80, 0x9F) (rw e) h

  pub second-F0 : t ≡ is_in (0x90, 0xBF) y → x ≡ 0xF0 → t ≡ is_in (second_range x) y
  unfolding second_range
  second-F0 h e = second_at (0x90, 0xBF) (rw e) h

  pub second-F4 : t ≡ is_in (0x80, 0x8F) y → x ≡ 0xF4 → t ≡ is_in (second_range x) y
  unfolding second_range
  second-F4 h e = second_at (0x80, 0x8F) (rw e) h

tail-second : (x : ℕ) → (x ≡ 0xE0 → ⊥) → (x ≡ 0xED → ⊥) → (x ≡ 0xF0 → ⊥) → (x ≡ 0xF4 → ⊥) → second_range x ≡ tail
unfolding second_range
tail-second x p q r s = rw (ne_eqb x 0xE0 p, ne_eqb x 0xED q, ne_eqb x 0xF0 r, ne_eqb x 0xF4 s)

pub second-other : (x y : ℕ) (t : Bool) → t ≡ is_in tail y → (x ≡ 0xE0 → ⊥) → (x ≡ 0xED → ⊥) → (x ≡ 0xF0 → ⊥) → (x ≡ 0xF4 → ⊥) → t ≡ is_in (second_range x) y
second-other x y t h p q r s = second_at x y t tail (tail-second x p q r s) h

-- ---- What must follow a first byte

lead-two : (x : ℕ) → 0xC2 ≤ x → x < 0xE0 → followed text_rows x ≡ some (tail ∷ [])
lead-two x l h = followed-row 0 text_rows ((0xC2, 0xDF), tail ∷ []) x rows-rise (inr (inl refl)) (omega arith)

-- The second range of the row, then as many tails.
second-then : (x : ℕ) (r : Range) (rs : List Range) → followed text_rows x ≡ some (r ∷ rs) → second_range x ≡ r → followed text_rows x ≡ some (second_range x ∷ rs)
second-then x r rs e q = e ∙ ap (λ (z : Range). some (z ∷ rs)) (sym q)

-- A first byte with a row of its own.
alone : (P : ℕ → Type 0) (x k : ℕ) → k ≤ x → x < suc k → P k → P x
alone P x k l h p = let e : k ≡ x = omega arith in subst P e p

lead-three : (x : ℕ) → 0xE0 ≤ x → x < 0xF0 → followed text_rows x ≡ some (second_range x ∷ tail ∷ [])
unfolding second_range
lead-three x l h =
    split x 0xE1 (λ a. alone (λ (k : ℕ). followed text_rows k ≡ some (second_range k ∷ tail ∷ [])) x 0xE0 l a refl) λ a.
    split x 0xED (λ b. second-then x tail (tail ∷ [])
    (followed-row 0 text_rows ((0xE1, 0xEC), tail ∷ tail ∷ []) x rows-rise (inr (inr (inr (inl refl)))) (omega arith))
    (tail-second x (omega arith) (omega arith) (omega arith) (omega arith))) λ b.
    split x 0xEE (λ c. alone (λ (k : ℕ). followed text_rows k ≡ some (second_range k ∷ tail ∷ [])) x 0xED b c refl) λ c.
    second-then x tail (tail ∷ [])
    (followed-row 0 text_rows ((0xEE, 0xEF), tail ∷ tail ∷ []) x rows-rise (inr (inr (inr (inr (inr (inl refl)))))) (omega arith))
    (tail-second x (omega arith) (omega arith) (omega arith) (omega arith))

lead-four : (x : ℕ) → 0xF0 ≤ x → x < 0xF5 → followed text_rows x ≡ some (second_range x ∷ tail ∷ tail ∷ [])
unfolding second_range
lead-four x l h =
    split x 0xF1 (λ a. alone (λ (k : ℕ). followed text_rows k ≡ some (second_range k ∷ tail ∷ tail ∷ [])) x 0xF0 l a refl) λ a.
    split x 0xF4 (λ b. second-then x tail (tail ∷ tail ∷ [])
    (followed-row 0 text_rows ((0xF1, 0xF3), tail ∷ tail ∷ tail ∷ []) x rows-rise (inr (inr (inr (inr (inr (inr (inr (inl refl)))))))) (omega arith))
    (tail-second x (omega arith) (omega arith) (omega arith) (omega arith))) λ b.
    alone (λ (k : ℕ). followed text_rows k ≡ some (second_range k ∷ tail ∷ tail ∷ [])) x 0xF4 b (omega arith) refl

-- ---- A character

pub text-end : (b : List ℕ) (i : ℕ) → length b ≤ i → text_from b i ≡ true
unfolding text_from goes_on
text-end b i h = ap is_text (drop_of_length-le b h)

-- The text from a byte on: what must follow it.
text-step : (b : List ℕ) (i : ℕ) → i < length b → text_from b i ≡ maybe false (λ rs. goes_on rs (drop (i + 1) b)) (followed text_rows (get_or b i 0))
unfolding text_from goes_on
text-step b i h = rw (add-one, drop-cons b i 0 h)

-- The bytes from the k-th after `at` on are in ranges, one in each.
fills_at : List Range → List ℕ → ℕ → ℕ → Bool
fills_at [] b at k = true
fills_at (r ∷ rs) b at k = is_in r (get_or b (at + k) 0) && fills_at rs b at (suc k)

goes_at : (rs : List Range) (b : List ℕ) (at k : ℕ) → at + k + length rs ≤ length b →
    goes_on rs (drop (at + k) b) ≡ (fills_at rs b at k && text_from b (at + k + length rs))
unfolding goes_on is_in text_from fills_at
goes_at [] b at k h = ap (λ (i : ℕ). is_text (drop i b)) (sym (add-zero (at + k)))
goes_at (r ∷ rs) b at k h =
    let next : suc (at + k) ≡ at + suc k = omega arith in
    let last : at + suc k + length rs ≡ at + k + length (r ∷ rs) = omega arith in
    ap (goes_on (r ∷ rs)) (drop-cons b (at + k) 0 (omega arith)) ∙
    ap (λ (z : Bool). is_in r (get_or b (at + k) 0) && z)
    (ap (λ (i : ℕ). goes_on rs (drop i b)) next ∙ goes_at rs b at (suc k) (omega arith) ∙ ap (λ (i : ℕ). fills_at rs b at (suc k) && text_from b i) last) ∙
    shift (is_in r (get_or b (at + k) 0)) (fills_at rs b at (suc k)) (text_from b (at + k + length (r ∷ rs)))
  where
    shift : (x y z : Bool) → (x && (y && z)) ≡ ((x && y) && z)
    shift true y z = refl
    shift false y z = refl

goes-short : (rs : List Range) (l : List ℕ) → length l < length rs → goes_on rs l ≡ false
unfolding goes_on is_in
goes-short [] l h = absurd (omega arith)
goes-short (r ∷ rs) [] h = refl
goes-short (r ∷ rs) (x ∷ l) h = go (is_in r x) (goes-short rs l (omega arith))
  where
    go : (t : Bool) → goes_on rs l ≡ false → (t && goes_on rs l) ≡ false
    go true e = e
    go false e = refl

-- A width by its last test.
pub then-width : {b : List ℕ} {at n : ℕ} (t : Bool) {r : Option ℕ} → r ≡ then_some t n → (t ≡ false → text_from b at ≡ false) → (t ≡ true → Character b at n) →
    Width b at r
then-width true e f g = rw e (g refl)
then-width false e f g = rw e (f refl)

-- A first byte and what must follow it.
module _ (b : List ℕ) (at : ℕ) (h : at < length b) where
  width-none : followed text_rows (get_or b at 0) ≡ none → text_from b at ≡ false
  width-none e = text-step b at h ∙ rw e

  module _ (rs : List Range) (e : followed text_rows (get_or b at 0) ≡ some rs) where
    width-short : length b < at + 1 + length rs → text_from b at ≡ false
    width-short l = text-step b at h ∙ rw e (goes-short rs (drop (at + 1) b) (omega (arith, length-drop (at + 1) b)))

    module _ (l : at + 1 + length rs ≤ length b) where
      width_is : text_from b at ≡ (fills_at rs b at 1 && text_from b (at + 1 + length rs))
      width_is = text-step b at h ∙ rw e (goes_at rs b at 1 l)

      width-no : fills_at rs b at 1 ≡ false → text_from b at ≡ false
      width-no n = width_is ∙ rw n

      width-yes : fills_at rs b at 1 ≡ true → (r : ℕ) → at + 1 + length rs ≡ at + r → Character b at r
      width-yes y r q = record { some = omega arith; fits = omega arith; right = width_is ∙ rw (y, q) }

  -- The ways out of `width`.
  pub width-plain : get_or b at 0 < 128 → Character b at 1
  unfolding fills_at
  width-plain k = width-yes [] (followed-row 0 text_rows ((0x00, 0x7F), []) (get_or b at 0) rows-rise (inl refl) (omega arith)) (omega arith) refl 1 (omega arith)

  pub width_low : 128 ≤ get_or b at 0 → get_or b at 0 < 0xC2 → text_from b at ≡ false
  width_low l k =
      width-none (followed-none text_rows (get_or b at 0) (
        inr (omega arith),
        (
          inl (omega arith),
          (
            inl (omega arith),
            (
              inl (omega arith),
              (
                inl (omega arith),
                (
                  inl (omega arith),
                  (
                    inl (omega arith),
                    (inl (omega arith), (inl (omega arith), tt)),
                  ),
                ),
              ),
            ),
          ),
        ),
      ))

  pub width-high : 0xF5 ≤ get_or b at 0 → text_from b at ≡ false
  width-high l = width-none (followed-none text_rows (get_or b at 0) (
    inr (omega arith),
    (
      inr (omega arith),
      (
        inr (omega arith),
        (
          inr (omega arith),
          (
            inr (omega arith),
            (
              inr (omega arith),
              (
                inr (omega arith),
                (inr (omega arith), (inr (omega arith), tt)),
              ),
            ),
          ),
        ),
      ),
    ),
  ))

  module _ (l : 0xC2 ≤ get_or b at 0) (k : get_or b at 0 < 0xE0) where
    rows-two : followed text_rows (get_or b at 0) ≡ some (tail ∷ [])
    rows-two = lead-two (get_or b at 0) l k

    pub two-short : length b < at + 2 → text_from b at ≡ false
    two-short s = width-short (tail ∷ []) rows-two (omega arith)

    module _ (m : at + 2 ≤ length b) (t : Bool) (e : t ≡ is_in tail (get_or b (at + 1) 0)) where
      pub two-no : t ≡ false → text_from b at ≡ false
      unfolding fills_at
      two-no n = width-no (tail ∷ []) rows-two (omega arith) (rw (sym e ∙ n))

      pub two-yes : t ≡ true → Character b at 2
      unfolding fills_at
      two-yes y = width-yes (tail ∷ []) rows-two (omega arith) (rw (sym e ∙ y)) 2 (omega arith)

  module _ (l : 0xE0 ≤ get_or b at 0) (k : get_or b at 0 < 0xF0) where
    rows-three : followed text_rows (get_or b at 0) ≡ some (second_range (get_or b at 0) ∷ tail ∷ [])
    rows-three = lead-three (get_or b at 0) l k

    pub three-short : length b < at + 3 → text_from b at ≡ false
    three-short s = width-short _ rows-three (omega arith)

    module _ (m : at + 3 ≤ length b) (t : Bool) (e : t ≡ is_in (second_range (get_or b at 0)) (get_or b (at + 1) 0)) where
      pub three-second : t ≡ false → text_from b at ≡ false
      unfolding fills_at
      three-second n = width-no _ rows-three (omega arith) (rw (sym e ∙ n))

      module _ (y : t ≡ true) (u : Bool) (f : u ≡ is_in tail (get_or b (at + 2) 0)) where
        pub three-no : u ≡ false → text_from b at ≡ false
        unfolding fills_at
        three-no n = width-no _ rows-three (omega arith) (rw (sym e ∙ y, sym f ∙ n))

        pub three-yes : u ≡ true → Character b at 3
        unfolding fills_at
        three-yes z = width-yes _ rows-three (omega arith) (rw (sym e ∙ y, sym f ∙ z)) 3 (omega arith)

  module _ (l : 0xF0 ≤ get_or b at 0) (k : get_or b at 0 < 0xF5) where
    rows_four : followed text_rows (get_or b at 0) ≡ some (second_range (get_or b at 0) ∷ tail ∷ tail ∷ [])
    rows_four = lead-four (get_or b at 0) l k

    pub four-short : length b < at + 4 → text_from b at ≡ false
    four-short s = width-short _ rows_four (omega arith)

    module _ (m : at + 4 ≤ length b) (t : Bool) (e : t ≡ is_in (second_range (get_or b at 0)) (get_or b (at + 1) 0)) where
      pub four-second : t ≡ false → text_from b at ≡ false
      unfolding fills_at
      four-second n = width-no _ rows_four (omega arith) (rw (sym e ∙ n))

      module _ (y : t ≡ true) (u : Bool) (f : u ≡ is_in tail (get_or b (at + 2) 0)) where
        pub four-third : u ≡ false → text_from b at ≡ false
        unfolding fills_at
        four-third n = width-no _ rows_four (omega arith) (rw (sym e ∙ y, sym f ∙ n))

        module _ (z : u ≡ true) (v : Bool) (g : v ≡ is_in tail (get_or b (at + 3) 0)) where
          pub four-no : v ≡ false → text_from b at ≡ false
          unfolding fills_at
          four-no n = width-no _ rows_four (omega arith) (rw (sym e ∙ y, sym f ∙ z, sym g ∙ n))

          pub four-yes : v ≡ true → Character b at 4
          unfolding fills_at
          four-yes w = width-yes _ rows_four (omega arith) (rw (sym e ∙ y, sym f ∙ z, sym g ∙ w)) 4 (omega arith)

-- ---- Passing over characters

-- Two numbers, taken bit by bit together, are below 128 only if both are; so are their lower bytes, and what is above these.
below_both : (x y : ℕ) → bit_or x y < 128 → (x < 128) × (y < 128)
below_both x y h = omega (arith, or_add_and x y, and_le_l x y, and_le_r x y)

low_both : (a w : ℕ) → bit_or a w % 256 < 128 → (a % 256 < 128) × (w % 256 < 128)
low_both a w h =
    let e : bit_or a w % 256 ≡ bit_or (a % 256) (w % 256) = or_mod a w 8 in
    below_both (a % 256) (w % 256) (omega (arith, e, h))

high_both : (a w : ℕ) → bit_or a w / 256 < 128 → (a / 256 < 128) × (w / 256 < 128)
high_both a w h =
    let e : bit_or a w / 256 ≡ bit_or (a / 256) (w / 256) = or_shr a w 8 in
    below_both (a / 256) (w / 256) (omega (arith, e, h))

-- Of a block of n bytes the first j pairs are below 128, and the byte that is in no pair.
pub record Pairs (b : List ℕ) (at n j : ℕ) : Type 0 where
  pub pairs : Plain b at (2 * j)
  pub odd : n % 2 ≡ 1 → get_or b (at + n - 1) 0 < 128

pub plain-none : (b : List ℕ) (at : ℕ) → Plain b at 0
plain-none b at = record { each = λ k l. absurd (omega arith) }

pub pairs-none : (b : List ℕ) (at n all : ℕ) → (n % 2 ≡ 1 → all ≡ get_or b (at + n - 1) 0) → get_or b (at + n - 1) 0 < 256 → all % 256 < 128 → Pairs b at n 0
pairs-none b at n all e byte low = record { pairs = plain-none b at; odd = λ h. omega (arith, e h, byte, low) }

-- A pair more, by all bits together.
pub pairs-more : (b : List ℕ) (at n j all w : ℕ) → (all % 256 < 128 → all / 256 < 128 → Pairs b at n j) → get_or b (at + 2 * j) 0 < 256 →
    w ≡ get_or b (at + 2 * j) 0 + get_or b (at + 2 * j + 1) 0 * 256 → bit_or all w % 256 < 128 → bit_or all w / 256 < 128 → Pairs b at n (j + 1)
pairs-more b at n j all w f byte e low high =
    let before = f (low_both all w low).0 (high_both all w high).0 in
    let first : get_or b (at + 2 * j) 0 < 128 = omega (arith, byte, e, (low_both all w low).1) in
    let second : get_or b (at + 2 * j + 1) 0 < 128 = omega (arith, byte, e, (high_both all w high).1) in
    record {
      pairs = record {
        each = λ k l. split k (2 * j) (λ i. before.pairs.each k i) (λ i. split k (2 * j + 1)
            (λ i₂. let q : at + 2 * j ≡ at + k = omega arith in subst (λ (m : ℕ). get_or b m 0 < 128) q first)
            (λ i₂. let q : at + 2 * j + 1 ≡ at + k = omega arith in subst (λ (m : ℕ). get_or b m 0 < 128) q second));
      };
      odd = before.odd;
    }

pub pairs-all : (b : List ℕ) (at n j : ℕ) → j ≤ n / 2 → n / 2 ≤ j → Pairs b at n j → Plain b at n
pairs-all b at n j p q f = record {
  each = λ k l. split k (2 * j) (λ i. f.pairs.each k i)
      (λ i. let e : at + n - 1 ≡ at + k = omega arith in subst (λ (m : ℕ). get_or b m 0 < 128) e (f.odd (omega arith)));
}

-- A pass that has not begun, and one after another.
pub passes_none : (b : List ℕ) (at : ℕ) → at ≤ length b → Passes b at at
passes_none b at h = record { from = omega arith; fits = h; right = refl }

pub passes_then : {b : List ℕ} {at i j : ℕ} → Passes b at i → Passes b i j → Passes b at j
passes_then p q = record { from = omega (arith, p.from, q.from); fits = q.fits; right = p.right ∙ q.right }

-- A pass to the end.
pub passes_whole : {b : List ℕ} {at i : ℕ} → Passes b at i → length b ≤ i → Passes b at (length b)
passes_whole {b} {at} {i} p h = let e : i ≡ length b = omega (arith, p.fits) in subst (λ (j : ℕ). Passes b at j) e p

-- Long blocks, short blocks, single bytes.
pub passes-thrice : {b : List ℕ} {at i long short j : ℕ} → Passes b at i → Passes b i long → Passes b long short → Passes b short j → Passes b at j
passes-thrice p q r s = passes_then (passes_then p q) (passes_then r s)

-- One character more.
pub passes-width : {b : List ℕ} {at i : ℕ} → Passes b at i → {w : ℕ} → Character b i w → Passes b at (i + w)
passes-width p f = record { from = omega (arith, p.from); fits = f.fits; right = p.right ∙ f.right }

pub passes-plain : {b : List ℕ} {at i : ℕ} → Passes b at i → i < length b → get_or b i 0 < 128 → Passes b at (i + 1)
passes-plain {b} {at} {i} p h l = passes-width p (width-plain b i h l)

-- A block more.
pub passes-block : {b : List ℕ} {at i : ℕ} (n : ℕ) → Passes b at i → i + n ≤ length b → Plain b i n → Passes b at (i + n)
passes-block {b} {at} {i} zero p h f = subst (Passes b at) (sym (add-zero i)) p
passes-block {b} {at} {i} (suc n) p h f =
    let before = passes-block {b = b} {at = at} {i = i} n p (omega arith) (record { each = λ k l. f.each k (omega arith) }) in
    let e : i + n + 1 ≡ i + suc n = omega arith in
    subst (Passes b at) e (passes-plain before (omega arith) (f.each n (omega arith)))

-- Where plain bytes go on, a pass over wide characters is past its start.
pub wide-stop : {b : List ℕ} {at i : ℕ} → Passes b at i → 128 ≤ get_or b at 0 → get_or b i 0 < 128 → at < i
wide-stop {b} {at} {i} p l h = split at i (λ k. k)
    (λ k. let e : at ≡ i = omega (arith, p.from) in let q = subst (λ (j : ℕ). 128 ≤ get_or b j 0) e l in absurd (omega arith))

pub wide-passes : {b : List ℕ} {at i : ℕ} → Passes b at i → 128 ≤ get_or b at 0 → get_or b i 0 < 128 → PassesWide b at (Some i)
wide-passes p l h = (wide-stop p l h, p)

-- The ways out of the whole test.
text-start : (b : List ℕ) → text_from b 0 ≡ is_text b
unfolding text_from
text-start b = refl

pub text-yes : {b : List ℕ} {j : ℕ} → Passes b 0 j → length b ≤ j → true ≡ is_text b
text-yes {b} {j} p h = sym (text-end b j h) ∙ sym p.right ∙ text-start b

pub text-no : {b : List ℕ} {j : ℕ} → Passes b 0 j → text_from b j ≡ false → false ≡ is_text b
text-no {b} p e = sym (p.right ∙ e) ∙ text-start b
