-- The walk over a section, of any kind. Assumes nothing.
use Rattle.std.proofs.Math.Path.{◌≡◌, refl}
use Rattle.std.proofs.Common.{ap, sym, ◌∙◌, arith, mul-suc, get_or-take}
use Rattle.std.specs.Prelude.{Option, Some, None, List, Bool, ℕ, zero, suc, ◌+◌, ◌*◌, ◌-◌, ◌≤◌, ◌<◌, take}
use Rattle.std.proofs.Math.Bool.{true, false, cond}
use Rattle.std.proofs.Math.ListN.{length}
use Rattle.forms.specs.Parts.{part, rest, rd}
use Rattle.cedar.specs.Limits.{Limits}
use Rattle.forms.specs.Rows.{Row, body_length, rows_to}
use Rattle.forms.specs.RowBytes.{TookFirst}
use Rattle.forms.specs.Search.{used}
use Rattle.forms.specs.declared.rows.Row.{Row as FormRow}
use Rattle.forms.specs.Laws.Parts.{length_rest, length_part, rest-is, part-is, part-rest, drop-take, rd-take}
use Rattle.forms.specs.Laws.RowBytes.{took-left}
use Rattle.forms.specs.Laws.Rows.{RowsLeft, rows_start, rows_end, le-mul}
use Rattle.forms.specs.Laws.RowsTwin.{Local}
use Rattle.forms.specs.Laws.RowsWithin.{within-short, within-unfit, within-body, within-again}
use Rattle.forms.specs.Laws.Search.{used_step}
use Rattle.forms.specs.Laws.Skips.{rows-used}
use Rattle.schemas.specs.SchemaBytes.{low_in, lowest, row_of, body_test, any, section_fits, section_end, Inside, passed_by}
use Rattle.schemas.specs.declared.kinds.SectionKind.{SectionKind}
use Rattle.schemas.specs.declared.kinds.SectionKind.TheVariants.{Entities, Actions, Functions}
use Rattle.schemas.specs.declared.order.Low.{Low}
use Rattle.schemas.specs.declared.sections.Section.{Section}

used-none : (w n : ℕ) (es : List ℕ) → n ≤ 0 → used w n es ≡ 0
unfolding used
used-none w zero es h = refl
used-none w (suc n) es h = absurd (omega arith)

-- An entry has a name, a byte more and a length.
pub at_least : (k : SectionKind) → 5 ≤ (row_of k).width
at_least Entities = omega arith
at_least Actions = omega arith
at_least Functions = omega arith

-- A section that is whole ends within the bytes.
pub section-ends : (lim : Limits) (k : SectionKind) (x : Section) (b : List ℕ) → section_fits lim k x b ≡ true → x.bodies ≤ length b →
    section_end (row_of k).width x b ≤ length b
section-ends lim k x b h g =
    let r = rows-used (row_of k) (body_test lim k) any (body_test lim k) x.count (low_in k lowest) (rest x.entries b) (rest x.bodies b) h in
    omega (arith, r, length_rest x.bodies b)

-- An entry of a section stands in its own bytes.
pub rows-local : (k : SectionKind) → Local (row_of k)
rows-local Entities =
    record {
      ok_at = λ s k es h. rw (get_or-take k es 2 0 (omega arith), rd-take k es 0 (omega arith)) refl;
      next-at = λ k es h. rw (rd-take k es 0 (omega arith)) refl;
      head_at = λ k es h. rw (get_or-take k es 2 0 (omega arith), rd-take k es 0 (omega arith)) refl;
      length_at = λ k es h. rd-take k es 3 (omega arith);
    }
rows-local Actions =
    record {
      ok_at = λ s k es h. rw (rd-take k es 2 (omega arith), rd-take k es 0 (omega arith)) refl;
      next-at = λ k es h. rw (rd-take k es 2 (omega arith), rd-take k es 0 (omega arith)) refl;
      head_at = λ k es h. rw (rd-take k es 2 (omega arith), rd-take k es 0 (omega arith)) refl;
      length_at = λ k es h. rd-take k es 4 (omega arith);
    }
rows-local Functions =
    record {
      ok_at = λ s k es h. rw (get_or-take k es 2 0 (omega arith), rd-take k es 0 (omega arith), rd-take k es 3 (omega arith)) refl;
      next-at = λ k es h. rw (rd-take k es 0 (omega arith)) refl;
      head_at = λ k es h. rw (get_or-take k es 2 0 (omega arith), rd-take k es 0 (omega arith), rd-take k es 3 (omega arith)) refl;
      length_at = λ k es h. rd-take k es 5 (omega arith);
    }

-- Bytes behind the entries do not matter.
pub rest-take : (w k : ℕ) (es : List ℕ) → rest w (take k es) ≡ take (k - w) (rest w es)
rest-take w k es = rest-is w (take k es) ∙ drop-take w k es ∙ ap (take (k - w)) (sym (rest-is w es))

pub used-take : (w : ℕ) → 2 ≤ w → (n k : ℕ) (es : List ℕ) → w * n ≤ k → used w n (take k es) ≡ used w n es
unfolding used
used-take w wide zero k es h = refl
used-take w wide (suc n) k es h =
    let s = mul-suc w n in
    rw (rd-take k es (w - 2) (omega arith), rest-take w k es, used-take w wide n (k - w) (rest w es) (omega arith)) refl

module _ {S H : Type 0} {r : Row S H} (l : Local r) (w : H → List ℕ → Bool) (e : List ℕ → Bool) where
  rows-take : (n : ℕ) (s : S) (k : ℕ) (es bs : List ℕ) → r.width * n ≤ k → rows_to r w e n s (take k es) bs ≡ rows_to r w e n s es bs
  unfolding rows_to
  rows-take zero s k es bs h = refl
  rows-take (suc n) s k es bs h =
      let room : r.width ≤ k = omega (arith, mul-suc r.width n) in
      rw (l.ok_at s k es room, l.length_at k es room, l.head_at k es room, l.next-at k es room, rest-take r.width k es) (
      rw (rows-take n (r.next es) (k - r.width) (rest r.width es) (rest (body_length r es) bs) (omega (arith, mul-suc r.width n))) refl
      )

-- The entries of a section, and its bodies with all that is behind them.
abbrev entries-of : ℕ → Section → List ℕ → List ℕ
entries-of w x b = part x.entries (x.entries + w * x.count) b

-- A walk that has come so far: what is left answers for the section, and what was passed are its bodies.
pub record WalkLeft (lim : Limits) (k : SectionKind) (x : Section) (b : List ℕ) (left : ℕ) (low : Low) (e f : List ℕ) : Type 0 where
  pub rows :
      RowsLeft (row_of k) (body_test lim k) any x.count (low_in k lowest) (entries-of (row_of k).width x b) (rest x.bodies b) left (low_in k low) e f
  pub same : section_fits lim k x b ≡ rows_to (row_of k) (body_test lim k) any x.count (low_in k lowest) (entries-of (row_of k).width x b) (rest x.bodies b)
  pub inside : length f ≤ length b
  pub split : section_end (row_of k).width x b ≡ length b - length f + used (row_of k).width left e

pub walk_start : {lim : Limits} {k : SectionKind} {x : Section} {b : List ℕ} {w : ℕ} → w ≡ (row_of k).width → Inside w x b →
    {n : ℕ} {e f : List ℕ} → n ≡ x.count → e ≡ part x.entries (x.entries + w * x.count) b → f ≡ rest x.bodies b → WalkLeft lim k x b n lowest e f
walk_start {lim} {k} {x} {b} {w} wq i {n} {e} {f} nq eq fq =
    let width = (row_of k).width in
    let many = width * x.count in
    let cut : entries-of width x b ≡ take many (rest x.entries b) = sym (part-rest x.entries many b) ∙ part-is many (rest x.entries b) in
    let j = rw wq at i in
    rw (nq, eq, fq, wq)
    (record {
      rows = rows_start (length_part x.entries (x.entries + many) b j.entries ∙ omega arith);
      same = rw cut (sym (rows-take (rows-local k) (body_test lim k) any x.count (low_in k lowest) many (rest x.entries b) (rest x.bodies b) (omega arith)));
      inside = omega (arith, length_rest x.bodies b);
      split =
          rw (cut, used-take width (omega (arith, at_least k)) x.count many (rest x.entries b) (omega arith)) (omega (arith, length_rest x.bodies b, j.bodies));
    })

module _ {lim : Limits} {k : SectionKind} {x : Section} {b : List ℕ} {left : ℕ} {low : Low} {e f : List ℕ} (i : WalkLeft lim k x b left low e f) where
  broken : false ≡ rows_to (row_of k) (body_test lim k) any x.count (low_in k lowest) (entries-of (row_of k).width x b) (rest x.bodies b) →
      None ≡ passed_by lim k x b
  unfolding passed_by
  broken h = rw (i.same ∙ sym h) refl

  pub walk_end : left ≤ 0 → Some (length b - length f) ≡ passed_by lim k x b
  unfolding passed_by
  walk_end h =
      let z : length b - length f ≡ section_end (row_of k).width x b = omega (arith, i.split, used-none (row_of k).width left e h) in
      rw (i.same ∙ sym (rows_end i.rows h true refl), z) refl

  module _ {w : ℕ} (wq : w ≡ (row_of k).width) where
    pub walk-sized : length e ≡ w * left
    walk-sized = rw wq i.rows.sized

    pub walk-short : 0 < left → length f < rd e (w - 2) → None ≡ passed_by lim k x b
    walk-short p h = broken (within-short i.rows p (rw wq at h))

    module _ {more : ℕ} {g d : List ℕ} {row : FormRow} (t : TookFirst w left e f more g d row) where
      pub walk-head : (row_of k).width ≤ length row.head.now
      walk-head =
          let n = le-mul w left t.first.some in
          omega (arith, wq, walk-sized, ap (λ (z : List ℕ). length z) t.first.head, length_part 0 w e (omega (arith, walk-sized, n)))

      pub walk-unfit : (y : Bool) → y ≡ (row_of k).ok (low_in k low) row.head.now → y ≡ false → None ≡ passed_by lim k x b
      walk-unfit y q h = broken (within-unfit i.rows (rows-local k) (rw wq at t) y q h)

      pub walk-body : (y : Bool) → y ≡ body_test lim k ((row_of k).head row.head.now) row.body.now → y ≡ false → None ≡ passed_by lim k x b
      walk-body y q h = broken (within-body i.rows (rows-local k) (rw wq at t) y q h)

      pub walk-again : rd e (w - 2) ≤ length f → (o : Bool) → o ≡ (row_of k).ok (low_in k low) row.head.now → o ≡ true →
          (y : Bool) → y ≡ body_test lim k ((row_of k).head row.head.now) row.body.now → y ≡ true → (u : Low) →
          low_in k u ≡ (row_of k).next row.head.now → WalkLeft lim k x b more u g d
      walk-again fit o oq oh y yq yh u uq =
          let t₁ = rw wq at t in
          let fit₁ = rw wq at fit in
          record {
            rows = within-again i.rows (rows-local k) t₁ o oq oh fit₁ y yq yh (low_in k u) uq;
            same = i.same;
            inside = omega (arith, ap (λ (z : List ℕ). length z) t₁.bodies, length_rest (rd e ((row_of k).width - 2)) f, i.inside);
            split =
                rw (t₁.entries, t₁.bodies, ← took-left t₁)
                (omega (arith, i.split, i.inside, fit₁, length_rest (rd e ((row_of k).width - 2)) f, used_step (row_of k).width left e t.first.some));
          }

-- What an answer says.
module _ (lim : Limits) (k : SectionKind) (x : Section) (b : List ℕ) (y : Option ℕ) (q : y ≡ passed_by lim k x b) where
  pub passed-broken : y ≡ None → section_fits lim k x b ≡ false
  unfolding passed_by
  passed-broken h = go (section_fits lim k x b) (sym h ∙ q)
    where
      go : (z : Bool) → None ≡ cond z (Some (section_end (row_of k).width x b)) None → z ≡ false
      go true e = absurd (let z : ◌≡◌ {A = ℕ} 0 1 = cc in omega arith)
      go false e = refl

  pub passed_to : (n : ℕ) → y ≡ Some n → (section_fits lim k x b ≡ true) × (n ≡ section_end (row_of k).width x b)
  unfolding passed_by
  passed_to n h = go (section_fits lim k x b) (sym h ∙ q)
    where
      go : (z : Bool) → Some n ≡ cond z (Some (section_end (row_of k).width x b)) None → (z ≡ true) × (n ≡ section_end (row_of k).width x b)
      go true e = (refl, (cc))
      go false e = absurd (let z : ◌≡◌ {A = ℕ} 0 1 = cc in omega arith)
