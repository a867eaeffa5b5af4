-- Laws of tables, for any row. Assumes nothing.
use Rattle.std.specs.Prelude.{◌≡◌, List, Bool, true, false, not, ◌&&◌, leb, length}
use Rattle.std.proofs.Math.Path.{refl}
use Rattle.std.proofs.Common.{ap, ap₂, sym, ◌∙◌, sub-one, mul-suc, arith, leb-true, le-leb}
use Prim.Native.Nat.{ℕ, zero, suc, ◌+◌, ◌*◌, ◌-◌, ◌≤◌, ◌<◌}
use Rattle.std.proofs.lemmas.Bool.{lt-leb, not-true, not-false}
use Rattle.forms.specs.Parts.{part, rest, rd}
use Rattle.forms.specs.Rows.{Row, body_length, rows_to, none_left, table_end, table_fits}
use Rattle.forms.specs.Laws.Parts.{and_l, and_r, and-not-l, and-not-r, and_yes, length_rest}

pub le-mul : (w n : ℕ) → 0 < n → w ≤ w * n
le-mul w zero p = absurd (omega arith)
le-mul w (suc n) p = rw (mul-suc w n) (omega arith)

pub mul-less : (w n : ℕ) → 0 < n → w * n - w ≡ w * (n - 1)
mul-less w zero p = absurd (omega arith)
mul-less w (suc n) p = rw (sub-one (suc n), mul-suc w n) (omega arith)

module _ {S H : Type 0} (r : Row S H) (w : H → List ℕ → Bool) (e : List ℕ → Bool) where
  -- The first entry, and the others.
  pub rows_step : (n : ℕ) (s : S) (es bs : List ℕ) → 0 < n →
      rows_to r w e n s es bs ≡
      (r.ok s es
      && (leb (body_length r es) (length bs)
      && (w (r.head es) (part 0 (body_length r es) bs)
      && rows_to r w e (n - 1) (r.next es) (rest r.width es) (rest (body_length r es) bs))))
  unfolding rows_to
  rows_step zero s es bs p = absurd (omega arith)
  rows_step (suc n) s es bs p = rw (sub-one (suc n)) refl

  pub rows_none : (n : ℕ) (s : S) (es bs : List ℕ) → n ≤ 0 → rows_to r w e n s es bs ≡ e bs
  unfolding rows_to
  rows_none zero s es bs p = refl
  rows_none (suc n) s es bs p = absurd (omega arith)

  -- What the first entry of a table in order is.
  pub record First (n : ℕ) (s : S) (es bs : List ℕ) : Type 0 where
    pub fits : r.ok s es ≡ true
    pub inside : body_length r es ≤ length bs
    pub body : w (r.head es) (part 0 (body_length r es) bs) ≡ true
    pub more : rows_to r w e (n - 1) (r.next es) (rest r.width es) (rest (body_length r es) bs) ≡ true

  pub first : (n : ℕ) (s : S) (es bs : List ℕ) → 0 < n → rows_to r w e n s es bs ≡ true → First n s es bs
  first n s es bs p h =
      let h0 = sym (rows_step n s es bs p) ∙ h in
      let h1 = and_r (r.ok s es) _ h0 in
      let h2 = and_r (leb (body_length r es) (length bs)) _ h1 in
      record {
        fits = and_l (r.ok s es) _ h0;
        inside = leb-true _ _ (and_l (leb (body_length r es) (length bs)) _ h1);
        body = and_l (w (r.head es) (part 0 (body_length r es) bs)) _ h2;
        more = and_r (w (r.head es) (part 0 (body_length r es) bs)) _ h2;
      }

  -- A loop that has come so far: what is left answers for the whole.
  pub record RowsLeft (n : ℕ) (s : S) (es bs : List ℕ) (left : ℕ) (t : S) (f b : List ℕ) : Type 0 where
    pub same : rows_to r w e n s es bs ≡ rows_to r w e left t f b
    pub sized : length f ≡ r.width * left

module _ {S H : Type 0} {r : Row S H} {w : H → List ℕ → Bool} {e : List ℕ → Bool} where
  pub rows_start : {n : ℕ} {s : S} {es bs : List ℕ} → length es ≡ r.width * n → RowsLeft r w e n s es bs n s es bs
  rows_start h = record { same = refl; sized = h }

  module _ {n left : ℕ} {s t : S} {es bs f b : List ℕ} (i : RowsLeft r w e n s es bs left t f b) where
    pub rows_end : left ≤ 0 → (x : Bool) → x ≡ e b → x ≡ rows_to r w e n s es bs
    rows_end h x q = q ∙ sym (i.same ∙ rows_none r w e left t f b h)

    module _ (p : 0 < left) where
      pub rows-room : r.width ≤ length f
      rows-room = rw i.sized (le-mul r.width left p)

      pub rows-unfit : (x : Bool) → x ≡ r.ok t f → not x ≡ true → false ≡ rows_to r w e n s es bs
      rows-unfit x q h = and-not-l (r.ok t f) _ (sym q ∙ not-true x h) ∙ sym (i.same ∙ rows_step r w e left t f b p)

      module _ (k : ℕ) (q : k ≡ body_length r f) where
        pub rows_short : length b < k → false ≡ rows_to r w e n s es bs
        rows_short h =
            and-not-r (r.ok t f) _ (sym (and-not-l (leb (body_length r f) (length b)) _ (lt-leb (body_length r f) (length b) (omega arith))))
            ∙ sym (i.same ∙ rows_step r w e left t f b p)

        pub rows-body : (x : Bool) → x ≡ w (r.head f) (part 0 k b) → not x ≡ true → false ≡ rows_to r w e n s es bs
        rows-body x y h =
            and-not-r (r.ok t f) _ (sym (and-not-r (leb (body_length r f) (length b)) _ (sym (and-not-l (w (r.head f) (part 0 (body_length r f) b)) _
            (ap (λ (j : ℕ). w (r.head f) (part 0 j b)) (sym q) ∙ sym y ∙ not-true x h)))))
            ∙ sym (i.same ∙ rows_step r w e left t f b p)

        pub rows-again : (o : Bool) → o ≡ r.ok t f → not o ≡ false → k ≤ length b → (x : Bool) → x ≡ w (r.head f) (part 0 k b) → not x ≡ false → (u : S) →
            u ≡ r.next f →
            RowsLeft r w e n s es bs (left - 1) u (rest r.width f) (rest k b)
        rows-again o oq oh h x y xh u uq =
            record {
              same =
                  i.same ∙ rows_step r w e left t f b p
                  ∙ and_yes (r.ok t f) _ (sym oq ∙ not-false o oh)
                  ∙ and_yes (leb (body_length r f) (length b)) _ (le-leb (body_length r f) (length b) (omega arith))
                  ∙ and_yes (w (r.head f) (part 0 (body_length r f) b)) _ (ap (λ (j : ℕ). w (r.head f) (part 0 j b)) (sym q) ∙ sym y ∙ not-false x xh)
                  ∙ ap₂ (λ (v : S) (j : ℕ). rows_to r w e (left - 1) v (rest r.width f) (rest j b)) (sym uq) (sym q);
              sized = length_rest r.width f ∙ rw i.sized (mul-less r.width left p);
            }

-- A table whose count stands at c.
module _ {S H : Type 0} (r : Row S H) (w : H → List ℕ → Bool) (s : S) (c : ℕ) (b : List ℕ) where
  pub table-short : length b < c + 2 → false ≡ table_fits r w s c b
  table-short h = and-not-l (leb (c + 2) (length b)) _ (lt-leb (c + 2) (length b) h)

  module _ (n : ℕ) (q : n ≡ rd b c) where
    pub table-over : length b < c + 2 + r.width * n → false ≡ table_fits r w s c b
    table-over h = and-not-r (leb (c + 2) (length b)) _ (sym (and-not-l (leb (table_end r c b) (length b)) _ (lt-leb (table_end r c b) (length b) (rw (← q) h))))

    pub table-open : c + 2 ≤ length b → c + 2 + r.width * n ≤ length b →
        table_fits r w s c b ≡ rows_to r w none_left n s (part (c + 2) (c + 2 + r.width * n) b) (rest (c + 2 + r.width * n) b)
    table-open h g =
        and_yes (leb (c + 2) (length b)) _ (le-leb (c + 2) (length b) h)
        ∙ and_yes (leb (table_end r c b) (length b)) _ (le-leb (table_end r c b) (length b) (rw (← q) g))
        ∙ ap (λ (j : ℕ). rows_to r w none_left j s (part (c + 2) (c + 2 + r.width * j) b) (rest (c + 2 + r.width * j) b)) (sym q)
