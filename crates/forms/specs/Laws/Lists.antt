-- Lists as cedar reads them, and as the code walks them. Assumes nothing.
use Rattle.std.specs.Prelude.{◌≡◌, List, [], ◌∷◌, true, false, ◌&&◌, ℕ, zero, suc, ◌+◌, ◌*◌, ◌-◌, ◌≤◌, ◌<◌, leb, length}
use Rattle.std.proofs.Math.Path.{refl}
use Rattle.std.proofs.Common.{sym, ◌∙◌, sub-one, arith, leb-true, le-leb}
use Rattle.std.proofs.Math.Bool.{and_comm}
use Rattle.std.proofs.lemmas.Bool.{lt-leb}
use Rattle.cedar.specs.Table.{read_length, any_order, seconds}
use Rattle.cedar.specs.Limits.{Limits, max_listed, block_bytes}
use Rattle.cedar.specs.ListForm.{parse_list}
use Rattle.cedar.specs.Whole.{whole_type, whole_list}
use Rattle.forms.specs.Parts.{part, rest, rd}
use Rattle.forms.specs.Rows.{rows_of, none_left, table_end, table_fits, table_of}
use Rattle.forms.specs.TypeBytes.{whole, dec}
use Rattle.forms.specs.ValueBytes.{member_row}
use Rattle.forms.specs.ListBytes.{type_fits, whole_ts, dec_ts, list_fits, list_of, SoundTs}
use Rattle.forms.specs.Laws.Parts.{and_l, and_r, and-not-l, and-not-r, and_yes, length_part, length_rest}
use Rattle.forms.specs.RowBytes.{AreRows}
use Rattle.forms.specs.declared.rows.Rows.{Rows}
use Rattle.forms.specs.Laws.Rows.{first, table-short, table-over, table-open}
use Rattle.forms.specs.Laws.RowsWithin.{within-none, within-rows}
use Rattle.forms.specs.Laws.Sure.{Sure, sure-same, sure-present, bind_to, map-to, guard-to, within-to}
use Rattle.forms.specs.Laws.RowsTwin.{table-twin, rows-length}
use Rattle.forms.specs.Laws.TypeTwin.{whole-type-twin}
use Rattle.forms.specs.Laws.ValueTwin.{member-reads, member-local}

-- A type is read just where it fits.
pub type-fits-twin : (lim : Limits) (b : List ℕ) → Sure (whole_type lim b) (type_fits lim b) (dec lim.levels b)
type-fits-twin lim b = sure-same (whole-type-twin lim b) (sym (sure-present (whole-type-twin lim b))) refl

pub type-fits-is : (lim : Limits) (b : List ℕ) → type_fits lim b ≡ true → (length b ≤ lim.bytes) × (whole lim.levels b ≡ true)
type-fits-is lim b h =
    let g = sym (sure-present (whole-type-twin lim b)) ∙ h in (
      leb-true (length b) lim.bytes (and_l (leb (length b) lim.bytes) (whole lim.levels b) g),
      and_r (leb (length b) lim.bytes) (whole lim.levels b) g,
    )

-- The law: cedar reads a list just where it fits, and it is the one decoded.
pub list-twin : (lim : Limits) (b : List ℕ) → Sure (parse_list (λ c. whole_type lim c) b) (list_fits lim b) (list_of lim.levels b)
list-twin lim b =
    let xs = table_of member_row (λ _. dec lim.levels) 0 b in
    let f = table_fits member_row (λ _. type_fits lim) tt 0 b in
    sure-same
    (bind_to _ (table-twin member_row (λ _. type_fits lim) (λ _. dec lim.levels) read_length any_order (λ h c. whole_type lim c) member-reads
    (λ h c. type-fits-twin lim c) member-local tt 0 b)
    λ q. map-to (λ u. seconds xs) (guard-to (leb (length xs) max_listed)))
    (rw (rows-length member_row (λ _. type_fits lim) (λ _. dec lim.levels) (rd b 0) (part 2 (table_end member_row 0 b) b) (rest (table_end member_row 0 b) b))
    (and_comm f (leb (rd b 0) max_listed)))
    refl

pub whole-list-twin : (lim : Limits) (b : List ℕ) → Sure (whole_list lim b) (leb (length b) block_bytes && list_fits lim b) (list_of lim.levels b)
whole-list-twin lim b = within-to block_bytes (parse_list (λ c. whole_type lim c)) b (list-twin lim b)

-- The answers of `whole_list`.
module _ (lim : Limits) (b : List ℕ) where
  pub list-none : ((2 ≤ length b) → length b < 2 + 2 * rd b 0) → false ≡ list_fits lim b
  list-none h = and-not-r (leb (rd b 0) max_listed) _ (sym (within-none member_row (λ _. type_fits lim) tt 0 b h))

  pub list-short : length b < 2 → false ≡ list_fits lim b
  list-short h = and-not-r (leb (rd b 0) max_listed) _ (sym (table-short member_row (λ _. type_fits lim) tt 0 b h))

  pub list-many : (n : ℕ) → n ≡ rd b 0 → max_listed < n → false ≡ list_fits lim b
  list-many n q h = and-not-l (leb (rd b 0) max_listed) _ (lt-leb (rd b 0) max_listed (omega arith))

  module _ (n : ℕ) (q : n ≡ rd b 0) where
    pub list_over : length b < 2 + 2 * n → false ≡ list_fits lim b
    list_over h = and-not-r (leb (rd b 0) max_listed) _ (sym (table-over member_row (λ _. type_fits lim) tt 0 b n q h))

    pub list_open : 2 ≤ length b → n ≤ max_listed → 2 + 2 * n ≤ length b → list_fits lim b ≡ whole_ts lim n (part 2 (2 + 2 * n) b) (rest (2 + 2 * n) b)
    list_open h m g = and_yes (leb (rd b 0) max_listed) _ (le-leb (rd b 0) max_listed (omega arith)) ∙ table-open member_row (λ _. type_fits lim) tt 0 b n q h g

  pub list-rows : {rows : Rows 2} → AreRows 2 0 b rows → rows.left ≤ max_listed → list_fits lim b ≡ whole_ts lim rows.left rows.entries.now rows.bodies.now
  list-rows {rows} a m =
      and_yes (leb (rd b 0) max_listed) _ (le-leb (rd b 0) max_listed (omega (arith, a.left)))
      ∙ within-rows member_row (λ _. type_fits lim) tt 0 b refl a

-- What a list that fits is made of.
pub record IsList (lim : Limits) (b : List ℕ) : Type 0 where
  pub some : 2 ≤ length b
  pub few : rd b 0 ≤ max_listed
  pub fit : 2 + 2 * rd b 0 ≤ length b
  pub sound : SoundTs lim (rd b 0) (part 2 (2 + 2 * rd b 0) b) (rest (2 + 2 * rd b 0) b)
  pub is : list_of lim.levels b ≡ dec_ts lim.levels (rd b 0) (part 2 (2 + 2 * rd b 0) b) (rest (2 + 2 * rd b 0) b)

pub is-list : (lim : Limits) (b : List ℕ) → list_fits lim b ≡ true → IsList lim b
is-list lim b h =
    let f = whole_ts lim (rd b 0) (part 2 (2 + 2 * rd b 0) b) (rest (2 + 2 * rd b 0) b) in
    let g = and_r (leb (rd b 0) max_listed) (leb 2 (length b) && (leb (2 + 2 * rd b 0) (length b) && f)) h in
    let g₁ = and_r (leb 2 (length b)) (leb (2 + 2 * rd b 0) (length b) && f) g in
    let p = leb-true (2 + 2 * rd b 0) (length b) (and_l (leb (2 + 2 * rd b 0) (length b)) f g₁) in
    record {
      some = leb-true 2 (length b) (and_l (leb 2 (length b)) (leb (2 + 2 * rd b 0) (length b) && f) g);
      few = leb-true (rd b 0) max_listed (and_l (leb (rd b 0) max_listed) (leb 2 (length b) && (leb (2 + 2 * rd b 0) (length b) && f)) h);
      fit = p;
      sound = record { sized = omega (arith, length_part 2 (2 + 2 * rd b 0) b p); good = and_r (leb (2 + 2 * rd b 0) (length b)) f g₁ };
      is = refl;
    }

-- The first of n types, and the others.
pub record TypeEntry (lim : Limits) (n : ℕ) (es bs : List ℕ) : Type 0 where
  pub room : 2 ≤ length es
  pub fit : rd es 0 ≤ length bs
  pub short : rd es 0 ≤ lim.bytes
  pub body : whole lim.levels (part 0 (rd es 0) bs) ≡ true
  pub more : SoundTs lim (n - 1) (rest 2 es) (rest (rd es 0) bs)
  pub is : dec_ts lim.levels n es bs ≡ dec lim.levels (part 0 (rd es 0) bs) ∷ dec_ts lim.levels (n - 1) (rest 2 es) (rest (rd es 0) bs)

pub type-entry : {lim : Limits} {n : ℕ} {es bs : List ℕ} → SoundTs lim n es bs → 0 < n → TypeEntry lim n es bs
type-entry {lim} {n} {es} {bs} s p =
    let f = first member_row (λ _. type_fits lim) none_left n tt es bs p s.good in
    let t = type-fits-is lim (part 0 (rd es 0) bs) f.body in
    record {
      room = omega (arith, s.sized);
      fit = f.inside;
      short = omega (arith, t.0, length_part 0 (rd es 0) bs f.inside);
      body = t.1;
      more = record { sized = omega (arith, s.sized, length_rest 2 es); good = f.more };
      is = go n p;
    }
  where
    go : (k : ℕ) → 0 < k → dec_ts lim.levels k es bs ≡ dec lim.levels (part 0 (rd es 0) bs) ∷ dec_ts lim.levels (k - 1) (rest 2 es) (rest (rd es 0) bs)
    go zero p = absurd (omega arith)
    go (suc k) p = unfold rows_of in rw (sub-one (suc k)) refl

pub types-none : (l n : ℕ) (es bs : List ℕ) → n ≤ 0 → dec_ts l n es bs ≡ []
types-none l zero es bs h = unfold rows_of in refl
types-none l (suc n) es bs h = absurd (omega arith)
