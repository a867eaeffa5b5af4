-- Walks and searches over the pairs of a record value. Assumes nothing.
use Rattle.std.specs.Prelude.{◌≡◌, refl, List, [], ◌∷◌, ◌++◌, Bool, false, ◌&&◌, ℕ, ◌+◌, ◌*◌, ◌-◌, ◌≤◌, ◌<◌, eqb, ltb, length}
use Rattle.std.proofs.Common.{ap, ◌∙◌, arith, leb-true, le-leb, lt-ltb, le-ltb, ne_eqb}
use Rattle.std.proofs.Math.Bool.{or-false}
use Rattle.std.proofs.Math.Decide.{dec_lt}
use Rattle.cedar.specs.Types.{Value, boolean}
use Rattle.cedar.specs.ValueForm.{pairs_from}
use Rattle.cedar.specs.Conformance.{has_name}
use Rattle.forms.specs.Parts.{rest, rd}
use Rattle.forms.specs.Rows.{rows_of, none_left}
use Rattle.forms.specs.Search.{below, used, low_at, Laid}
use Rattle.forms.specs.RowBytes.{Skipped}
use Rattle.forms.specs.Laws.Parts.{length_rest}
use Rattle.forms.specs.Laws.Skips.{Below, From, Named, below-most, below-stop, used-less, rows-used, rows_cut, rows-skip, rows-below, rows-from}
use Rattle.forms.specs.ValueBytes.{pair_row}
use Rattle.forms.specs.Laws.Ahead.{Ahead, ahead-again, ahead-from, decoded, decoded-none}

pub pair-named : (w : ℕ → List ℕ → Bool) (d : ℕ → List ℕ → Value) → Named pair_row w none_left d (λ h. h)
pair-named w d = record { key-is = λ es. refl; low-is = λ low es h. leb-true low (rd es 0) h; next-is = λ es. refl }

-- Pairs in order stay so under another bound of the first name.
pub pairs-from : {w : ℕ → List ℕ → Bool} {n low : ℕ} {es bs : List ℕ} → Ahead pair_row w n low es bs → (m : ℕ) → (0 < n → m ≤ rd es 0) →
    Ahead pair_row w n m es bs
pairs-from {w} s m h = ahead-from pair_row w (λ low m es o g. le-leb m (rd es 0) g) s m h

-- A name in a list, of which others were passed; a name below all.
has-past : (xs ys : List (ℕ × Value)) (m name : ℕ) → Below (λ h. h) name xs → name ≤ m → has_name m (pairs_from (xs ++ ys)) ≡ has_name m (pairs_from ys)
has-past [] ys m name b h = refl
has-past (x ∷ xs) ys m name b h = rw (ne_eqb m x.0 (λ z. omega (arith, b.0))) (has-past xs ys m name b.1 h)

has-low : (xs : List (ℕ × Value)) (m low : ℕ) → From (λ h. h) low xs → m < low → has_name m (pairs_from xs) ≡ false
has-low [] m low f h = refl
has-low (x ∷ xs) m low f h = rw (ne_eqb m x.0 (λ z. omega (arith, f.0))) (has-low xs m low f.1 h)

-- What `skip_below` asks.
pub pairs-laid : {w : ℕ → List ℕ → Bool} {n low : ℕ} {es bs : List ℕ} → Ahead pair_row w n low es bs → Laid 4 n es bs
pairs-laid {w} {n} {low} {es} {bs} s =
    record { wide = omega arith; sized = s.sized; room = rows-used pair_row w none_left (λ h b. boolean false) n low es bs s.good }

-- Past the names below a name: what is left is in order, and has every name from there on.
pub record Passed (w : ℕ → List ℕ → Bool) (n name : ℕ) (es bs : List ℕ) (k off : ℕ) : Type 0 where
  pub most : k ≤ n
  pub room : 4 * k ≤ length es
  pub inside : off ≤ length bs
  pub low : ℕ
  pub rows : Ahead pair_row w (n - k) low (rest (4 * k) es) (rest off bs)
  pub above : 0 < n - k → name ≤ rd (rest (4 * k) es) 0
  pub later : (d : ℕ → List ℕ → Value) (m : ℕ) → name ≤ m →
      has_name m (pairs_from (rows_of pair_row d n es bs)) ≡ has_name m (pairs_from (rows_of pair_row d (n - k) (rest (4 * k) es) (rest off bs)))

pub passed : {w : ℕ → List ℕ → Bool} {n low : ℕ} {es bs : List ℕ} → Ahead pair_row w n low es bs → (name k off : ℕ) → k ≡ below 4 n name es → off ≡ used 4 k es →
    Passed w n name es bs k off
passed {w} {n} {low} {es} {bs} s name k off q u =
    let h : k ≤ n = omega (arith, below-most 4 n name es) in
    let fit : used 4 k es ≤ length bs = omega (arith, used-less 4 k n es h, (pairs-laid s).room) in
    record {
      most = h;
      room = omega (arith, s.sized);
      inside = omega (arith, u, fit);
      low = low_at 4 k low es;
      rows =
          record {
            good = rw u (rows-skip pair_row w none_left (λ h b. boolean false) (λ h. h) (pair-named w (λ h b. boolean false)) k n low es bs h s.good);
            sized = omega (arith, length_rest (4 * k) es, s.sized);
          };
      above = λ g. rw q (below-stop 4 n name es (omega arith));
      later = λ d m g.
          ap (λ y. has_name m (pairs_from y)) (rows_cut pair_row w none_left d k n es bs h)
          ∙ has-past (rows_of pair_row d k es bs) (rows_of pair_row d (n - k) (rest (4 * k) es) (rest (used 4 k es) bs)) m name
          (rw q (rows-below pair_row w none_left d (λ h. h) (pair-named w d) n name es bs)) g
          ∙ rw u refl;
    }

-- The same of a search that took the rows with it.
pub record PairsLeft (w : ℕ → List ℕ → Bool) (n name : ℕ) (es bs : List ℕ) (j : ℕ) (gs ds : List ℕ) : Type 0 where
  pub low : ℕ
  pub rows : Ahead pair_row w j low gs ds
  pub above : 0 < j → name ≤ rd gs 0
  pub later : (d : ℕ → List ℕ → Value) (m : ℕ) → name ≤ m →
      has_name m (pairs_from (rows_of pair_row d n es bs)) ≡ has_name m (pairs_from (rows_of pair_row d j gs ds))

pub pairs-left : {w : ℕ → List ℕ → Bool} {n low name : ℕ} {es bs : List ℕ} {j : ℕ} {gs ds : List ℕ} → Ahead pair_row w n low es bs →
    Skipped 4 n name es bs j gs ds → PairsLeft w n name es bs j gs ds
pairs-left {w} {n} {low} {name} {es} {bs} {j} {gs} {ds} s p =
    let k = below 4 n name es in
    let h = passed s name k (used 4 k es) refl refl in
    let e : n - k ≡ j = omega (arith, p.left) in
    record {
      low = h.low;
      rows = rw (← e, p.entries, p.bodies) h.rows;
      above = λ q. rw p.entries (h.above (omega (arith, p.left)));
      later = λ d m g. rw (← e, p.entries, p.bodies) (h.later d m g);
    }

-- Where the first name is not below the name, only the first pair can have it.
pub has_first : {w : ℕ → List ℕ → Bool} {n low : ℕ} {es bs : List ℕ} → Ahead pair_row w n low es bs → (d : ℕ → List ℕ → Value) (name : ℕ) →
    (0 < n → name ≤ rd es 0) →
    has_name name (pairs_from (rows_of pair_row d n es bs)) ≡ (ltb 0 n && eqb name (rd es 0))
has_first {w} {n} {low} {es} {bs} s d name a = go (dec_lt 0 n)
  where
    go : Dec (0 < n) → has_name name (pairs_from (rows_of pair_row d n es bs)) ≡ (ltb 0 n && eqb name (rd es 0))
    go (no p) = ap (λ y. has_name name (pairs_from y)) (decoded-none pair_row d n es bs (omega arith)) ∙ rw (le-ltb 0 n (omega arith)) refl
    go (yes p) =
        let f = rows-from pair_row w none_left d (λ h. h) (pair-named w d) (n - 1) (rd es 0 + 1) (rest 4 es) (rest (rd es 2) bs)
        (ahead-again s p (rd es 2) refl).good in
        ap (λ y. has_name name (pairs_from y)) (decoded pair_row d n es bs p (rd es 2) refl)
        ∙ rw (lt-ltb 0 n p, has-low (rows_of pair_row d (n - 1) (rest 4 es) (rest (rd es 2) bs)) name (rd es 0 + 1) f (omega (arith, a p)))
        (or-false (eqb name (rd es 0)))
