-- Walks over the rows of a table that is in order: what is left is in order too. Assumes nothing.
use Rattle.std.specs.Prelude.{◌≡◌, List, [], ◌∷◌, Bool, true, not, leb, length}
use Rattle.std.proofs.Math.Path.{refl}
use Rattle.std.proofs.Common.{ap, sym, ◌∙◌, sub-one, arith, leb-true}
use Prim.Native.Nat.{ℕ, zero, suc, ◌+◌, ◌*◌, ◌-◌, ◌≤◌, ◌<◌}
use Rattle.forms.specs.Parts.{part, rest, rd}
use Rattle.forms.specs.Rows.{Row, body_length, rows_to, rows_of, none_left, table_end, table_fits, table_of}
use Rattle.forms.specs.Laws.Parts.{and_l, and_r, and_yes, length_part}
use Rattle.forms.specs.Laws.Rows.{First, first, rows_none, rows_step, rows_start, rows-room, rows-again}

module _ {S H : Type 0} (r : Row S H) (w : H → List ℕ → Bool) where
  -- So many rows, in order, with no byte over.
  pub record Ahead (left : ℕ) (s : S) (e b : List ℕ) : Type 0 where
    pub good : rows_to r w none_left left s e b ≡ true
    pub sized : length e ≡ r.width * left

module _ {S H : Type 0} {r : Row S H} {w : H → List ℕ → Bool} where
  module _ {left : ℕ} {s : S} {e b : List ℕ} (i : Ahead r w left s e b) (p : 0 < left) where
    pub ahead-first : First r w none_left left s e b
    ahead-first = first r w none_left left s e b p i.good

    pub ahead-room : r.width ≤ length e
    ahead-room = rows-room (rows_start {r = r} {w = w} {e = none_left} {n = left} {s = s} {es = e} {bs = b} i.sized) p

    module _ (k : ℕ) (q : k ≡ body_length r e) where
      pub ahead-inside : k ≤ length b
      ahead-inside = omega (arith, ahead-first.inside)

      pub ahead-body : w (r.head e) (part 0 k b) ≡ true
      ahead-body = ap (λ (j : ℕ). w (r.head e) (part 0 j b)) q ∙ ahead-first.body

      pub ahead-again : Ahead r w (left - 1) (r.next e) (rest r.width e) (rest k b)
      ahead-again =
          let x = rows-again (rows_start {r = r} {w = w} {e = none_left} {n = left} {s = s} {es = e} {bs = b} i.sized) p k q
          (r.ok s e) refl (ap not ahead-first.fits) ahead-inside (w (r.head e) (part 0 k b)) refl (ap not ahead-body) (r.next e) refl in
          record { good = sym x.same ∙ i.good; sized = x.sized }

-- Rows in order stay so under another bound of the first name.
module _ {H : Type 0} (r : Row ℕ H) (w : H → List ℕ → Bool) (k : (low m : ℕ) (es : List ℕ) → r.ok low es ≡ true → m ≤ rd es 0 → r.ok m es ≡ true) where
  pub ahead-from : {n low : ℕ} {es bs : List ℕ} → Ahead r w n low es bs → (m : ℕ) → (0 < n → m ≤ rd es 0) → Ahead r w n m es bs
  ahead-from {n} {low} {es} {bs} s m h = record { good = go n h s.good; sized = s.sized }
    where
      go : (j : ℕ) → (0 < j → m ≤ rd es 0) → rows_to r w none_left j low es bs ≡ true → rows_to r w none_left j m es bs ≡ true
      go zero h g = rows_none r w none_left 0 m es bs (omega arith) ∙ sym (rows_none r w none_left 0 low es bs (omega arith)) ∙ g
      go (suc j) h g =
          let o = sym (rows_step r w none_left (suc j) low es bs (omega arith)) ∙ g in
          rows_step r w none_left (suc j) m es bs (omega arith) ∙ and_yes (r.ok m es) _ (k low m es (and_l (r.ok low es) _ o) (h (omega arith))) ∙
          and_r (r.ok low es) _ o

-- What is decoded of the first row, and of the others.
module _ {S H A : Type 0} (r : Row S H) (d : H → List ℕ → A) where
  pub decoded : (n : ℕ) (e b : List ℕ) → 0 < n → (k : ℕ) → k ≡ body_length r e →
      rows_of r d n e b ≡ (r.head e, d (r.head e) (part 0 k b)) ∷ rows_of r d (n - 1) (rest r.width e) (rest k b)
  unfolding rows_of
  decoded zero e b p k q = absurd (omega arith)
  decoded (suc n) e b p k q = rw (sub-one (suc n), q) refl

  pub decoded-none : (n : ℕ) (e b : List ℕ) → n ≤ 0 → rows_of r d n e b ≡ []
  unfolding rows_of
  decoded-none zero e b p = refl
  decoded-none (suc n) e b p = absurd (omega arith)

-- A table whose count stands at c.
module _ {S H : Type 0} (r : Row S H) (w : H → List ℕ → Bool) (s : S) (c : ℕ) (b : List ℕ) (h : table_fits r w s c b ≡ true) where
  pub table-count : c + 2 ≤ length b
  table-count = leb-true (c + 2) (length b) (and_l (leb (c + 2) (length b)) _ h)

  module _ (n : ℕ) (q : n ≡ rd b c) where
    pub table-entries : c + 2 + r.width * n ≤ length b
    table-entries = rw q (leb-true (table_end r c b) (length b) (and_l (leb (table_end r c b) (length b)) _ (and_r (leb (c + 2) (length b)) _ h)))

    pub table-ahead : Ahead r w n s (part (c + 2) (c + 2 + r.width * n) b) (rest (c + 2 + r.width * n) b)
    table-ahead =
        record {
          good = rw q (and_r (leb (table_end r c b) (length b)) _ (and_r (leb (c + 2) (length b)) _ h));
          sized = length_part (c + 2) (c + 2 + r.width * n) b table-entries ∙ omega arith;
        }

    pub table-decoded : {A : Type 0} (d : H → List ℕ → A) →
        table_of r d c b ≡ rows_of r d n (part (c + 2) (c + 2 + r.width * n) b) (rest (c + 2 + r.width * n) b)
    table-decoded d = rw q refl
