-- Walks and searches over whole attribute lists. Assumes nothing.
use Rattle.std.specs.Prelude.{◌≡◌, List, [], ◌∷◌, ◌++◌, Bool, true, ℕ, zero, suc, ◌+◌, ◌*◌, ◌-◌, ◌≤◌, ◌<◌, eqb, leb, length, get_or}
use Rattle.std.proofs.Math.Path.{refl}
use Rattle.std.proofs.Common.{ap, sym, ◌∙◌, sub-one, arith, leb-true, eq-eqb, ne_eqb}
use Rattle.std.proofs.Math.Option.{none, some}
use Rattle.cedar.specs.Types.{Ty, Attrs, nil, attr, find}
use Rattle.cedar.specs.TypeForm.{attrs_of}
use Rattle.forms.specs.Parts.{part, rest, rd}
use Rattle.forms.specs.Rows.{rows_of, none_left}
use Rattle.forms.specs.TypeBytes.{attr_row, dec_a, whole, dec, Sound}
use Rattle.forms.specs.Search.{below, used, low_at, Laid}
use Rattle.forms.specs.Laws.Parts.{and_l, and_r, length_rest}
use Rattle.forms.specs.Laws.Rows.{first}
use Rattle.forms.specs.Laws.Skips.{Below, From, Named, below-most, below-stop, used-less, rows-used, rows_cut, rows-skip, rows-below, rows-from}

-- The first of n attributes, and the others.
pub record Entry (l n low : ℕ) (es bs : List ℕ) : Type 0 where
  pub room : 5 ≤ length es
  pub flag : get_or es 2 0 ≤ 1
  pub up : low ≤ rd es 0
  pub fit : rd es 3 ≤ length bs
  pub body : whole l (part 0 (rd es 3) bs) ≡ true
  pub more : Sound l (n - 1) (rd es 0 + 1) (rest 5 es) (rest (rd es 3) bs)
  pub is : dec_a (dec l) n es bs ≡ attr (rd es 0) (eqb (get_or es 2 0) 1) (dec l (part 0 (rd es 3) bs)) (dec_a (dec l) (n - 1) (rest 5 es) (rest (rd es 3) bs))

pub entry : {l n low : ℕ} {es bs : List ℕ} → Sound l n low es bs → 0 < n → Entry l n low es bs
entry {l} {n} {low} {es} {bs} s p =
    let f = first attr_row (λ _. whole l) none_left n low es bs p s.good in
    record {
      room = omega (arith, s.sized);
      flag = leb-true (get_or es 2 0) 1 (and_l (leb (get_or es 2 0) 1) (leb low (rd es 0)) f.fits);
      up = leb-true low (rd es 0) (and_r (leb (get_or es 2 0) 1) (leb low (rd es 0)) f.fits);
      fit = f.inside;
      body = f.body;
      more = record { sized = omega (arith, s.sized, length_rest 5 es); good = f.more };
      is = go n p;
    }
  where
    go : (k : ℕ) → 0 < k →
        dec_a (dec l) k es bs ≡ attr (rd es 0) (eqb (get_or es 2 0) 1) (dec l (part 0 (rd es 3) bs)) (dec_a (dec l) (k - 1) (rest 5 es) (rest (rd es 3) bs))
    go zero p = absurd (omega arith)
    go (suc k) p = unfold rows_of in rw (sub-one (suc k)) refl

-- The same where the length was read.
pub entry_more : {l n low : ℕ} {es bs : List ℕ} → Sound l n low es bs → 0 < n → (k : ℕ) → k ≡ rd es 3 → Sound l (n - 1) (rd es 0 + 1) (rest 5 es) (rest k bs)
entry_more s p k q = rw q (entry s p).more

pub attrs-none : (d : List ℕ → Ty) (n : ℕ) (es bs : List ℕ) → n ≤ 0 → dec_a d n es bs ≡ nil
attrs-none d zero es bs h = unfold rows_of in refl
attrs-none d (suc n) es bs h = absurd (omega arith)

-- What `find` and `skip_below` ask.
pub laid : {l n low : ℕ} {es bs : List ℕ} → Sound l n low es bs → Laid 5 n es bs
laid {l} {n} {low} {es} {bs} s =
    record { wide = omega arith; sized = s.sized; room = rows-used attr_row (λ _. whole l) none_left (λ _. dec l) n low es bs s.good }

attr-named : (l : ℕ) → Named attr_row (λ _. whole l) none_left (λ _. dec l) (λ h. h.0)
attr-named l =
    record {
      key-is = λ es. refl;
      low-is = λ low es h. leb-true low (rd es 0) (and_r (leb (get_or es 2 0) 1) (leb low (rd es 0)) h);
      next-is = λ es. refl;
    }

-- A name in a list, of which others were passed.
find_past : (xs ys : List ((ℕ × Bool) × Ty)) (m name : ℕ) → Below (λ h. h.0) name xs → name ≤ m → find m (attrs_of (xs ++ ys)) ≡ find m (attrs_of ys)
find_past [] ys m name b h = refl
find_past (x ∷ xs) ys m name b h = rw (ne_eqb m x.0.0 (λ z. omega (arith, b.0))) (find_past xs ys m name b.1 h)

find-low : (xs : List ((ℕ × Bool) × Ty)) (m low : ℕ) → From (λ h. h.0) low xs → m < low → find m (attrs_of xs) ≡ none
find-low [] m low f h = refl
find-low (x ∷ xs) m low f h = rw (ne_eqb m x.0.0 (λ z. omega (arith, f.0))) (find-low xs m low f.1 h)

-- No name below the first bound.
pub find-under : {l n low : ℕ} {es bs : List ℕ} → Sound l n low es bs → (m : ℕ) → m < low → find m (dec_a (dec l) n es bs) ≡ none
find-under {l} {n} {low} {es} {bs} s m h =
    find-low (rows_of attr_row (λ _. dec l) n es bs) m low
    (rows-from attr_row (λ _. whole l) none_left (λ _. dec l) (λ h. h.0) (attr-named l) n low es bs s.good) h

-- Past k entries.
pub skip-sound : {l n low : ℕ} {es bs : List ℕ} → Sound l n low es bs → (k : ℕ) → k ≤ n →
    Sound l (n - k) (low_at 5 k low es) (rest (5 * k) es) (rest (used 5 k es) bs)
skip-sound {l} {n} {low} {es} {bs} s k h =
    record {
      sized = omega (arith, length_rest (5 * k) es, s.sized);
      good = rows-skip attr_row (λ _. whole l) none_left (λ _. dec l) (λ h. h.0) (attr-named l) k n low es bs h s.good;
    }

-- Past the names below a name: what is left is sound, and has every name from there on.
pub record Past (l n name : ℕ) (es bs : List ℕ) (k off : ℕ) : Type 0 where
  pub most : k ≤ n
  pub room : 5 * k ≤ length es
  pub inside : off ≤ length bs
  pub low : ℕ
  pub sound : Sound l (n - k) low (rest (5 * k) es) (rest off bs)
  pub above : k < n → name ≤ rd (rest (5 * k) es) 0
  pub later : (m : ℕ) → name ≤ m → find m (dec_a (dec l) n es bs) ≡ find m (dec_a (dec l) (n - k) (rest (5 * k) es) (rest off bs))

pub past : {l n low : ℕ} {es bs : List ℕ} → Sound l n low es bs → (name k off : ℕ) → k ≡ below 5 n name es → off ≡ used 5 k es → Past l n name es bs k off
past {l} {n} {low} {es} {bs} s name k off q u =
    let h : k ≤ n = omega (arith, below-most 5 n name es) in
    let z = skip-sound s k h in
    let fit : used 5 k es ≤ length bs = omega (arith, used-less 5 k n es h, (laid s).room) in
    record {
      most = h;
      room = omega (arith, s.sized);
      inside = omega (arith, u, fit);
      low = low_at 5 k low es;
      sound = rw u z;
      above = λ g. rw q (below-stop 5 n name es (omega arith));
      later = λ m g.
          ap (λ y. find m (attrs_of y)) (rows_cut attr_row (λ _. whole l) none_left (λ _. dec l) k n es bs h)
          ∙ find_past (rows_of attr_row (λ _. dec l) k es bs) (rows_of attr_row (λ _. dec l) (n - k) (rest (5 * k) es) (rest (used 5 k es) bs)) m name
          (rw q (rows-below attr_row (λ _. whole l) none_left (λ _. dec l) (λ h. h.0) (attr-named l) n name es bs)) g
          ∙ rw u refl;
    }

-- A name that is the first.
pub find_first : {l n low : ℕ} {es bs : List ℕ} → Sound l n low es bs → 0 < n → (name : ℕ) → rd es 0 ≡ name →
    find name (dec_a (dec l) n es bs) ≡ some (eqb (get_or es 2 0) 1, dec l (part 0 (rd es 3) bs))
find_first {l} {n} {low} {es} {bs} s p name q = ap (λ (xs : Attrs). find name xs) (entry s p).is ∙ rw (eq-eqb name (rd es 0) (sym q)) refl
