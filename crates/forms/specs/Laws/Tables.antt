-- The attributes of a form, cut out of it and walked from the first on. Assumes nothing.
use Rattle.std.specs.Prelude.{◌≡◌, refl, List, true, ℕ, zero, suc, ◌+◌, ◌-◌, eqb, get_or, ◌≤◌, ◌<◌, length}
use Rattle.std.proofs.Common.{ap}
use Rattle.cedar.specs.Types.{Ty, rec, act, attr}
use Rattle.cedar.specs.TypeForm.{count}
use Rattle.forms.specs.Parts.{part, rest, rd, kind}
use Rattle.forms.specs.Rows.{rows_of, table_end}
use Rattle.forms.specs.Tables.{Left}
use Rattle.forms.specs.TypeBytes.{attr_row, dec_a, whole, dec, Sound}
use Rattle.forms.specs.Laws.Views.{is-record, is-action}
use Rattle.forms.specs.Laws.Attributes.{entry, entry_more}

-- The attributes of a form whose count stands at c: how many, their entries and their bodies.
pub record Split (c : ℕ) (b : List ℕ) (n : ℕ) (es bs : List ℕ) : Type 0 where
  pub n-is : n ≡ rd b c
  pub es-is : es ≡ part (c + 2) (table_end attr_row c b) b
  pub bs-is : bs ≡ rest (table_end attr_row c b) b

pub split : {c : ℕ} {b : List ℕ} {n : ℕ} {es bs : List ℕ} → n ≡ rd b c → es ≡ part (c + 2) (table_end attr_row c b) b → bs ≡ rest (table_end attr_row c b) b →
    Split c b n es bs
split p q r = record { n-is = p; es-is = q; bs-is = r }

module _ (l : ℕ) (b : List ℕ) (h : whole l b ≡ true) {n : ℕ} {es bs : List ℕ} where
  pub record-sound : kind b ≡ 8 → Split 2 b n es bs → Sound (l - 1) n 0 es bs
  record-sound e s = rw (s.n-is, s.es-is, s.bs-is) (is-record l b h e).sound

  pub record_is : kind b ≡ 8 → Split 2 b n es bs → dec l b ≡ rec (eqb (get_or b 1 0) 1) (dec_a (dec (l - 1)) n es bs)
  record_is e s = rw (s.n-is, s.es-is, s.bs-is) (is-record l b h e).is

  pub action-is : kind b ≡ 11 → Split 3 b n es bs → dec l b ≡ act (rd b 1) (dec_a (dec (l - 1)) n es bs)
  action-is e s = rw (s.n-is, s.es-is, s.bs-is) (is-action l b h e).is

pub attrs-count : (d : List ℕ → Ty) (n : ℕ) (es bs : List ℕ) → count (dec_a d n es bs) ≡ n
unfolding rows_of
attrs-count d zero es bs = refl
attrs-count d (suc n) es bs = ap suc (attrs-count d n (rest 5 es) (rest (rd es 3) bs))

pub left-start : {l n low : ℕ} {es bs : List ℕ} → Sound l n low es bs → Left l n es bs
left-start {low = low} s = record { low = low; sound = s }

-- Its first attribute, whose length was read, and the others.
module _ {l n : ℕ} {es bs : List ℕ} (s : Left l n es bs) (p : 0 < n) where
  pub left-room : 5 ≤ length es
  left-room = (entry s.sound p).room

  pub left-flag : get_or es 2 0 ≤ 1
  left-flag = (entry s.sound p).flag

  module _ (k : ℕ) (q : k ≡ rd es 3) where
    pub left-fit : k ≤ length bs
    left-fit = rw q (entry s.sound p).fit

    pub left_body : whole l (part 0 k bs) ≡ true
    left_body = rw q (entry s.sound p).body

    pub left-more : Left l (n - 1) (rest 5 es) (rest k bs)
    left-more = left-start (entry_more s.sound p k q)

    pub left_is : dec_a (dec l) n es bs ≡ attr (rd es 0) (eqb (get_or es 2 0) 1) (dec l (part 0 k bs)) (dec_a (dec l) (n - 1) (rest 5 es) (rest k bs))
    left_is = rw q (entry s.sound p).is
