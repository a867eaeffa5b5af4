-- Rows of a table, taken one by one. Assumes nothing.
use Rattle.std.specs.Prelude.{◌≡◌, List, ℕ, zero, suc, ◌+◌, ◌*◌, ◌-◌, ◌≤◌, ◌<◌, Some, None, Option, length, get_or}
use Rattle.std.proofs.Math.Path.{refl}
use Rattle.std.proofs.Common.{ap, sym, ◌∙◌, arith, mul-zero, sub-one, get_or-take, mul-le-mul_left}
use Rattle.forms.specs.Parts.{rest, rd}
use Rattle.forms.specs.Search.{Laid, below, used}
use Rattle.forms.specs.RowBytes.{IsFirst, TookFirst, Taken, Skipped}
use Rattle.forms.specs.declared.rows.Row.{Row}
use Rattle.forms.specs.Laws.Parts.{length_rest, length_part, part-is, rest_0, rest-rest, rd-take}
use Rattle.forms.specs.Laws.Rows.{le-mul, mul-less}
use Rattle.forms.specs.Laws.Search.{used_step, used-none, below_step, below-here, below_none}
use Rattle.forms.specs.Laws.Skips.{rest_more, below-most}

-- Where there are rows, one is taken.
pub took : (w n : ℕ) (es bs : List ℕ) (m : ℕ) (fs cs : List ℕ) (o : Option Row) → Taken w n es bs m fs cs o → 0 < n →
    (r : Row) × (o ≡ Some r) × TookFirst w n es bs m fs cs r
took w n es bs m fs cs (Some r) t p = (r, refl, t)
took w n es bs m fs cs None t p = absurd (omega (arith, t.none))

-- Past the first row, past the first k, and past those below a name, what is left is laid out too.
pub laid-next : (w n : ℕ) (es bs : List ℕ) → Laid w n es bs → 0 < n → Laid w (n - 1) (rest w es) (rest (rd es (w - 2)) bs)
laid-next w n es bs l p =
    record {
      wide = l.wide;
      sized = length_rest w es ∙ rw l.sized (mul-less w n p);
      room = omega (arith, used_step w n es p, length_rest (rd es (w - 2)) bs, l.room);
    }

laid-past : (w k n : ℕ) (es bs : List ℕ) → k ≤ n → Laid w n es bs → Laid w (n - k) (rest (w * k) es) (rest (used w k es) bs)
unfolding used
laid-past w zero n es bs h l = let z : n - 0 ≡ n = omega arith in rw (z, mul-zero w, rest_0 es, rest_0 bs) l
laid-past w (suc k) zero es bs h l = absurd (omega arith)
laid-past w (suc k) (suc n) es bs h l =
    let z : suc n - suc k ≡ n - k = omega arith in
    let next = laid-next w (suc n) es bs l (omega arith) in
    rw (z, ← rest_more w k es, ← rest-rest (rd es (w - 2)) (used w k (rest w es)) bs)
    (laid-past w k n (rest w es) (rest (rd es (w - 2)) bs) (omega arith) (rw sub-one at next))

pub laid-skipped : {w n name : ℕ} {es bs : List ℕ} {m : ℕ} {fs cs : List ℕ} → Laid w n es bs → Skipped w n name es bs m fs cs → Laid w m fs cs
laid-skipped {w} {n} {name} {es} {bs} {m} {fs} {cs} l s =
    let k = below w n name es in
    let h = below-most w n name es in
    let e : m ≡ n - k = omega (arith, s.left) in
    rw (s.entries, s.bodies, e) (laid-past w k n es bs h l)

module _ {w n : ℕ} {es bs : List ℕ} where
  -- The entries have room for the first.
  pub laid-room : Laid w n es bs → 0 < n → w ≤ length es
  laid-room l p = omega (arith, l.sized, le-mul w n p)

  -- The bodies have room for the first.
  pub laid-fit : Laid w n es bs → 0 < n → rd es (w - 2) ≤ length bs
  laid-fit l p = omega (arith, used_step w n es p, l.room)

  module _ {r : Row} (f : IsFirst w n es bs r) where
    pub head-rd : (i : ℕ) → i + 1 < w → rd r.head.now i ≡ rd es i
    head-rd i h = ap (λ (z : List ℕ). rd z i) (f.head ∙ part-is w es) ∙ rd-take w es i h

    pub head-byte : (i : ℕ) → i < w → get_or r.head.now i 0 ≡ get_or es i 0
    head-byte i h = ap (λ (z : List ℕ). get_or z i 0) (f.head ∙ part-is w es) ∙ get_or-take w es i 0 h

    pub head-length : Laid w n es bs → length r.head.now ≡ w
    head-length l = ap (λ (z : List ℕ). length z) f.head ∙ length_part 0 w es (laid-room l f.some) ∙ omega arith

  module _ {m : ℕ} {fs cs : List ℕ} {r : Row} (t : TookFirst w n es bs m fs cs r) where
    pub took-left : n - 1 ≡ m
    took-left = omega (arith, t.left)

    -- What is left is laid out too.
    pub laid-more : Laid w n es bs → Laid w m fs cs
    laid-more l = rw (t.entries, t.bodies, ← took-left) (laid-next w n es bs l t.first.some)

    -- A search that passes the first goes on with what is left.
    pub skipped-more : {name k : ℕ} {gs ds : List ℕ} → rd es 0 < name → Skipped w m name fs cs k gs ds → Skipped w n name es bs k gs ds
    skipped-more {name} {k} {gs} {ds} h s =
        let b : below w n name es ≡ suc (below w m name fs) =
        below_step w n name es t.first.some h ∙ rw (t.entries, took-left) (omega arith) in
        let u : used w (suc (below w m name fs)) es ≡ rd es (w - 2) + used w (below w m name fs) fs =
        used_step w (suc (below w m name fs)) es (omega arith) ∙ rw t.entries (let z : suc (below w m name (rest w es)) - 1 ≡ below w m name (rest w es) = omega arith in rw z refl) in
        record {
          left = omega (arith, s.left, b, t.left);
          entries = rw b (s.entries ∙ rw t.entries (rest_more w (below w m name (rest w es)) es));
          bodies = rw (b, u) (s.bodies ∙ rw t.bodies (rest-rest (rd es (w - 2)) (used w (below w m name fs) fs) bs));
        }

  -- A search that passes none.
  pub skipped-none : (name : ℕ) → below w n name es ≡ 0 → Skipped w n name es bs n es bs
  skipped-none name z =
      record {
        left = omega (arith, z);
        entries = rw (z, mul-zero w) (sym (rest_0 es));
        bodies = rw (z, used-none w es) (sym (rest_0 bs));
      }

  pub skipped-here : (name : ℕ) → name ≤ rd es 0 → Skipped w n name es bs n es bs
  skipped-here name h = skipped-none name (below-here w n name es h)

  pub skipped-over : (name : ℕ) → n ≤ 0 → Skipped w n name es bs n es bs
  skipped-over name h = skipped-none name (below_none w n name es h)

-- So many entries of a width are no more bytes than fit.
pub width-room : (w n : ℕ) → w < 256 → n < 65536 → w * n ≤ 16777216
width-room w n p q = let f : w * n ≤ w * 65536 = mul-le-mul_left w (omega arith) in omega (arith, f)
