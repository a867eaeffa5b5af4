-- Rows that are taken from a table of which nothing is known, one by one. Assumes nothing.
use Rattle.std.specs.Prelude.{◌≡◌, List, Bool, true, false, not, ℕ, ◌+◌, ◌*◌, ◌-◌, ◌≤◌, ◌<◌, length}
use Rattle.std.proofs.Math.Path.{refl}
use Rattle.std.proofs.Common.{ap, ap₂, ◌∙◌, arith}
use Rattle.std.proofs.Math.Decide.{dec_le}
use Rattle.forms.specs.Parts.{part, rd}
use Rattle.forms.specs.Rows.{Row, rows_to, none_left, table_fits}
use Rattle.forms.specs.RowBytes.{TookFirst, AreRows}
use Rattle.forms.specs.declared.rows.Row.{Row as Taken}
use Rattle.forms.specs.declared.rows.Rows.{Rows}
use Rattle.forms.specs.Laws.Parts.{length_part, part-is}
use Rattle.forms.specs.Laws.Rows.{RowsLeft, rows_start, rows-unfit, rows_short, rows-body, rows-again, table-short, table-over, table-open}
use Rattle.forms.specs.Laws.RowsTwin.{Local}
use Rattle.forms.specs.Laws.RowBytes.{took-left}

module _ {S H : Type 0} {r : Row S H} {w : H → List ℕ → Bool} {e : List ℕ → Bool} {n left : ℕ} {s t : S} {es bs f b : List ℕ}
    (i : RowsLeft r w e n s es bs left t f b) where
  -- A body that is longer than what is left.
  pub within-short : 0 < left → length b < rd f (r.width - 2) → false ≡ rows_to r w e n s es bs
  within-short p h = rows_short i p (rd f (r.width - 2)) refl h

  module _ (l : Local r) {more : ℕ} {g d : List ℕ} {x : Taken} (k : TookFirst r.width left f b more g d x) where
    ok-is : r.ok t x.head.now ≡ r.ok t f
    ok-is = ap (λ (z : List ℕ). r.ok t z) (k.first.head ∙ part-is r.width f) ∙ l.ok_at t r.width f (omega arith)

    body-is : w (r.head x.head.now) x.body.now ≡ w (r.head f) (part 0 (rd f (r.width - 2)) b)
    body-is = ap₂ w (ap r.head (k.first.head ∙ part-is r.width f) ∙ l.head_at r.width f (omega arith)) k.first.body

    -- An entry that may not follow, and a body that is not whole.
    pub within-unfit : (y : Bool) → y ≡ r.ok t x.head.now → y ≡ false → false ≡ rows_to r w e n s es bs
    within-unfit y q h = rows-unfit i k.first.some y (q ∙ ok-is) (ap not h)

    pub within-body : (y : Bool) → y ≡ w (r.head x.head.now) x.body.now → y ≡ false → false ≡ rows_to r w e n s es bs
    within-body y q h = rows-body i k.first.some (rd f (r.width - 2)) refl y (q ∙ body-is) (ap not h)

    -- A row that is right: what is left answers.
    pub within-again : (o : Bool) → o ≡ r.ok t x.head.now → o ≡ true → rd f (r.width - 2) ≤ length b → (y : Bool) → y ≡ w (r.head x.head.now) x.body.now →
        y ≡ true → (u : S) → u ≡ r.next x.head.now → RowsLeft r w e n s es bs more u g d
    within-again o oq oh fit y yq yh u uq =
        let z = rows-again i k.first.some (rd f (r.width - 2)) refl o (oq ∙ ok-is) (ap not oh) fit y (yq ∙ body-is) (ap not yh) u (uq
        ∙ ap r.next (k.first.head ∙ part-is r.width f) ∙ l.next-at r.width f (omega arith)) in
        rw (k.entries, k.bodies, ← took-left k) z

-- The rows of a form's table.
module _ {S H : Type 0} (r : Row S H) (w : H → List ℕ → Bool) (s : S) (c : ℕ) (b : List ℕ) where
  pub within-none : ((c + 2 ≤ length b) → length b < c + 2 + r.width * rd b c) → false ≡ table_fits r w s c b
  within-none h = go (dec_le (c + 2) (length b))
    where
      go : Dec (c + 2 ≤ length b) → false ≡ table_fits r w s c b
      go (yes p) = table-over r w s c b (rd b c) refl (h p)
      go (no p) = table-short r w s c b (omega arith)

  module _ {k : ℕ} (kq : k ≡ r.width) {rows : Rows k} (a : AreRows k c b rows) where
    pub within-rows : table_fits r w s c b ≡ rows_to r w none_left rows.left s rows.entries.now rows.bodies.now
    within-rows = rw (a.left, a.entries, a.bodies, kq) (table-open r w s c b (rd b c) refl a.count (rw kq at a.fit))

    pub within-start : RowsLeft r w none_left rows.left s rows.entries.now rows.bodies.now rows.left s rows.entries.now rows.bodies.now
    within-start = rows_start (ap (λ (z : List ℕ). length z) a.entries ∙ length_part (c + 2) (c + 2 + k * rd b c) b a.fit ∙ rw (a.left, kq) (omega arith))
