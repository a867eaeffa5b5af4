-- The number of a check, and what is read from it. Assumes nothing.
use Rattle.std.specs.Prelude.{ℕ, ◌+◌, ◌*◌, ◌/◌, ◌%◌, ◌≤◌, ◌<◌, List, Bool, true, false, ◌≡◌, refl, length, Option as Maybe, Some, None}
use Rattle.std.proofs.Common.{arith, ap, sym, ◌∙◌}
use Rattle.cedar.specs.Limits.{Limits, allowed}
use Rattle.cedar.specs.Result.{bad_limits}
use Rattle.cedar.specs.Outcome.{Outcome, refused}
use Rattle.cedar.proofs.Laws.Limits.{allowed-levels}
use Rattle.forms.specs.Limits.{as_limits}
use Rattle.forms.specs.declared.limits.Limits.{Limits as LimitsStruct}
use Rattle.schemas.specs.SchemaBytes.{entries_end, checked}
use Rattle.schemas.specs.Offsets.{starts_of, offsets_of}
use Rattle.schemas.specs.Laws.Checks.{checked-whole}
use Rattle.schemas.proofs.Laws.Offsets.{Stands, stands, found}
use Rattle.schemas.specs.declared.offsets.Offsets.{Offsets}
use Rattle.schemas.specs.declared.sections.Sections.{Sections}
use Rattle.exports.specs.Steps.{packed_step, levels_step}
use Rattle.exports.specs.Checks.{packed_of, check_number, limits_in, Near}

-- The lower and the upper part of a number.
peel : (n a x : ℕ) → n ≡ a + packed_step * x → a < packed_step → (n % packed_step ≡ a) × (n / packed_step ≡ x)
peel n a x e l = (omega (arith, e, l), omega (arith, e, l))

-- The offsets of any schema under limits that are allowed are near.
pub near : (l : LimitsStruct) (b : List ℕ) (o : Maybe Offsets) → allowed (as_limits l) ≡ true → o ≡ offsets_of (checked l b) → Near l o
near l b o fair own =
    record {
      fair = fair;
      inside =
          λ x e.
          let (s, k, n) = found l b x (sym e ∙ own) in
          let t = stands l b s k in (
            omega (arith, ap (λ (y : Offsets). y.actions) n, t.second, t.few),
            omega (arith, ap (λ (y : Offsets). y.functions) n, t.third, t.few),
          );
    }

-- The number of a check is 0 under limits out of their ranges, and packs what is kept of it under others.
pub number-refused : (l : LimitsStruct) (b : List ℕ) → allowed (as_limits l) ≡ false → check_number l b ≡ 0
number-refused l b bad = rw bad refl

pub number-packed : (l : LimitsStruct) (b : List ℕ) → allowed (as_limits l) ≡ true → check_number l b ≡ packed_of l (offsets_of (checked l b))
number-packed l b fair = rw fair refl

-- The limits, read from the number.
same-limits : {l m : LimitsStruct} → l.levels ≡ m.levels → l.bytes ≡ m.bytes → l ≡ m
same-limits p q = rw (p, q) refl

told_above : (l : LimitsStruct) → allowed (as_limits l) ≡ true → (n a f : ℕ) →
    n ≡ a + packed_step * (f + packed_step * (l.levels + levels_step * l.bytes)) → a < packed_step → f < packed_step → limits_in n ≡ l
told_above l fair n a f e p q =
    let above = l.levels + levels_step * l.bytes in
    let first = peel n a (f + packed_step * above) e p in
    let both = peel (n / packed_step) f above first.1 q in
    let levels = (allowed-levels (as_limits l) fair).1 in
    same-limits (omega (arith, levels, both.1)) (omega (arith, levels, both.1))

packed-limits : (l : LimitsStruct) (o : Maybe Offsets) → Near l o → limits_in (packed_of l o) ≡ l
packed-limits l None n = told_above l n.fair (packed_of l None) 0 0 (omega arith) (omega arith) (omega arith)
packed-limits l (Some x) n =
    let i = n.inside x refl in told_above l n.fair (packed_of l (Some x)) x.actions x.functions refl (omega (arith, i.0)) (omega (arith, i.1))

-- The number of a check tells the limits that it was made under.
pub limits-told : (l : LimitsStruct) (b : List ℕ) → allowed (as_limits l) ≡ true → limits_in (check_number l b) ≡ l
limits-told l b fair =
    ap limits_in (number-packed l b fair) ∙ packed-limits l (offsets_of (checked l b)) (near l b (offsets_of (checked l b)) fair refl)

-- What `check_schema` answers is the number of a check under the limits that it tells.
pub check-kept : (l : LimitsStruct) (b : List ℕ) → check_number l b ≡ check_number (limits_in (check_number l b)) b
check-kept l b = go (allowed (as_limits l)) refl
  where
    go : (y : Bool) → allowed (as_limits l) ≡ y → check_number l b ≡ check_number (limits_in (check_number l b)) b
    go true fair = ap (λ (m : LimitsStruct). check_number m b) (sym (limits-told l b fair))
    go false bad =
        let z = number-refused l b bad in
        z ∙ sym (ap (λ (n : ℕ). check_number (limits_in n) b) z ∙ number-refused (limits_in 0) b refl)

-- So a call on a kept check comes to what the call under the limits of the check comes to, whatever these were.
pub kept-call : (l : LimitsStruct) (b : List ℕ) (call : Limits → Outcome) → ((lim : Limits) → allowed lim ≡ false → call lim ≡ refused bad_limits) →
    call (as_limits (limits_in (check_number l b))) ≡ call (as_limits l)
kept-call l b call refuses = go (allowed (as_limits l)) refl
  where
    go : (y : Bool) → allowed (as_limits l) ≡ y → call (as_limits (limits_in (check_number l b))) ≡ call (as_limits l)
    go true fair = ap (λ (m : LimitsStruct). call (as_limits m)) (limits-told l b fair)
    go false bad =
        ap (λ (n : ℕ). call (as_limits (limits_in n))) (number-refused l b bad) ∙ refuses (as_limits (limits_in 0)) refl ∙ sym (refuses (as_limits l) bad)

-- The offsets, read from their number.
module _ (b : List ℕ) (number : ℕ) (is : number ≡ check_number (limits_in number) b) where
  abbrev told : LimitsStruct
  told = limits_in number

  packed-is : (y : Maybe Sections) → checked told b ≡ y → allowed (as_limits told) ≡ true → number ≡ packed_of told (offsets_of y)
  packed-is y e h = is ∙ number-packed told b h ∙ ap (λ (z : Maybe Sections). packed_of told (offsets_of z)) e

  -- There are none for a schema that is not whole, or whose limits are out of their ranges.
  pub unpack-none : number % packed_step ≡ 0 → None ≡ offsets_of (checked told b)
  unpack-none z = go (checked told b) refl
    where
      go : (y : Maybe Sections) → checked told b ≡ y → None ≡ offsets_of y
      go None e = refl
      go (Some x) e =
          let s = stands told b x e in
          let n = packed-is (Some x) e (checked-whole told b x e).0 in absurd (omega (arith, n, z, s.few, s.second, s.first, s.behind))

  module _ (nz : number % packed_step ≡ 0 → ⊥) where
    unpacked : (o : Offsets) × (Some o ≡ offsets_of (checked told b)) × Stands b o × (number ≡ packed_of told (Some o))
    unpacked = go (checked told b) refl (allowed (as_limits told)) refl
      where
        go : (y : Maybe Sections) → checked told b ≡ y → (f : Bool) → allowed (as_limits told) ≡ f →
            (o : Offsets) × (Some o ≡ offsets_of y) × Stands b o × (number ≡ packed_of told (Some o))
        go y e false h = absurd (nz (omega (arith, is ∙ number-refused told b h)))
        go None e true h = let n = packed-is None e h in absurd (nz (omega (arith, n)))
        go (Some x) e true h = (starts_of x, refl, stands told b x e, packed-is (Some x) e h)

    pub unpack-room : 6 ≤ length b
    unpack-room = let (o, own, s, n) = unpacked in s.room

    pub unpack-whole : (end : ℕ) → end ≡ entries_end b →
        Some (record { entities = end; actions = number % packed_step; functions = number / packed_step % packed_step }) ≡ offsets_of (checked told b)
    unpack-whole end p =
        let (o, own, s, n) = unpacked in
        let first : end ≡ o.entities = p ∙ sym s.first in
        let above = told.levels + levels_step * told.bytes in
        let first-cut = peel number o.actions (o.functions + packed_step * above) n (omega (arith, s.few, s.second)) in
        let third = (peel (number / packed_step) o.functions above first-cut.1 (omega (arith, s.few, s.third))).0 in
        ap Some (equal first first-cut.0 third) ∙ own
      where
        equal : {o : Offsets} {p q r : ℕ} → p ≡ o.entities → q ≡ o.actions → r ≡ o.functions → record { entities = p; actions = q; functions = r } ≡ o
        equal {o} a c f = rw (a, c, f) refl
