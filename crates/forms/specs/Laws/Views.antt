-- What a whole type form of each kind is made of. Assumes nothing.
use Rattle.std.specs.Prelude.{◌≡◌, refl, List, true, false, ◌&&◌, ℕ, zero, suc, ◌+◌, ◌*◌, ◌-◌, ◌≤◌, ◌<◌, eqb, leb, ltb, length, get_or}
use Rattle.std.proofs.Common.{◌∙◌, sub-one, arith, leb-true, ltb-true, eqb-true}
use Rattle.std.proofs.Math.Decide.{ℕ_discrete, dec_le}
use Rattle.cedar.specs.Types.{Atom, atom, set, rec, act, ent, ext}
use Rattle.cedar.specs.TypeForm.{one, kind_of}
use Rattle.forms.specs.Parts.{part, rest, rd, kind}
use Rattle.forms.specs.Rows.{none_left, table_end, table_fits, rows_to}
use Rattle.forms.specs.TypeBytes.{names_up, names_by, attr_row, whole_as, dec_as, whole, dec_a, dec, Sound}
use Rattle.forms.specs.Laws.Parts.{and_l, and_r, length_part}
use Rattle.forms.specs.Laws.Types.{kind-atom, kind-unknown}

pub record IsSet (l : ℕ) (b : List ℕ) : Type 0 where
  pub deep : 0 < l
  pub some : 1 ≤ length b
  pub good : whole (l - 1) (rest 1 b) ≡ true
  pub is : dec l b ≡ set (dec (l - 1) (rest 1 b))

pub record IsRecord (l : ℕ) (b : List ℕ) : Type 0 where
  pub deep : 0 < l
  pub some : 4 ≤ length b
  pub flag : get_or b 1 0 ≤ 1
  pub fit : 4 + 5 * rd b 2 ≤ length b
  pub sound : Sound (l - 1) (rd b 2) 0 (part 4 (4 + 5 * rd b 2) b) (rest (4 + 5 * rd b 2) b)
  pub is : dec l b ≡ rec (eqb (get_or b 1 0) 1) (dec_a (dec (l - 1)) (rd b 2) (part 4 (4 + 5 * rd b 2) b) (rest (4 + 5 * rd b 2) b))

pub record IsAction (l : ℕ) (b : List ℕ) : Type 0 where
  pub deep : 0 < l
  pub some : 5 ≤ length b
  pub fit : 5 + 5 * rd b 3 ≤ length b
  pub sound : Sound (l - 1) (rd b 3) 0 (part 5 (5 + 5 * rd b 3) b) (rest (5 + 5 * rd b 3) b)
  pub is : dec l b ≡ act (rd b 1) (dec_a (dec (l - 1)) (rd b 3) (part 5 (5 + 5 * rd b 3) b) (rest (5 + 5 * rd b 3) b))

pub record IsEntity (l : ℕ) (b : List ℕ) : Type 0 where
  pub deep : 0 < l
  pub some : 5 ≤ length b
  pub many : 1 ≤ rd b 1
  pub sized : length b ≡ 3 + 2 * rd b 1
  pub up : names_up (rd b 1) 0 (rest 3 b) ≡ true
  pub is : dec l b ≡ ent (names_by 2 (rd b 1) (rest 3 b))

pub record IsExtension (l : ℕ) (b : List ℕ) : Type 0 where
  pub deep : 0 < l
  pub sized : length b ≡ 3
  pub is : dec l b ≡ ext (rd b 1)

pub record IsAtom (l : ℕ) (b : List ℕ) : Type 0 where
  pub deep : 0 < l
  pub sized : length b ≡ 1
  pub kind-of : Atom
  pub kind-is : kind_of (kind b) ≡ one kind-of
  pub is : dec l b ≡ atom kind-of

pub false-not : {A : Type 0} → false ≡ true → A
false-not e = absurd (let z : ◌≡◌ {A = ℕ} 0 1 = cc in omega arith)

pub not-empty : (l : ℕ) (b : List ℕ) → whole l b ≡ true → 0 < length b
unfolding whole
not-empty zero b h = false-not h
not-empty (suc l) b h = ltb-true 0 (length b) (and_l (ltb 0 (length b)) _ h)

-- By the first byte.
opened : (l : ℕ) (b : List ℕ) (k : ℕ) → whole l b ≡ true → kind b ≡ k → (0 < l) × (whole_as (whole (l - 1)) (kind_of k) b ≡ true) ×
    (dec l b ≡ dec_as (dec (l - 1)) (kind_of k) b)
unfolding whole dec
opened zero b k h e = false-not h
opened (suc l) b k h e = (
  omega arith,
  rw (sub-one (suc l), ← e) (and_r (ltb 0 (length b)) (whole_as (whole l) (kind_of (kind b)) b) h),
  rw (sub-one (suc l), ← e) refl,
)

-- A whole form has a level.
pub whole-level : (l : ℕ) (b : List ℕ) → whole l b ≡ true → 0 < l
whole-level l b h = (opened l b (kind b) h refl).0

-- The attributes whose count stands at c.
table-sound : (l c : ℕ) (b : List ℕ) → table_fits attr_row (λ _. whole l) 0 c b ≡ true →
    (c + 2 ≤ length b) × (c + 2 + 5 * rd b c ≤ length b) × Sound l (rd b c) 0 (part (c + 2) (c + 2 + 5 * rd b c) b) (rest (c + 2 + 5 * rd b c) b)
table-sound l c b h =
    let f = rows_to attr_row (λ _. whole l) none_left (rd b c) 0 (part (c + 2) (table_end attr_row c b) b) (rest (table_end attr_row c b) b) in
    let h₁ = and_r (leb (c + 2) (length b)) (leb (table_end attr_row c b) (length b) && f) h in
    let p = leb-true (table_end attr_row c b) (length b) (and_l (leb (table_end attr_row c b) (length b)) f h₁) in (
      leb-true (c + 2) (length b) (and_l (leb (c + 2) (length b)) (leb (table_end attr_row c b) (length b) && f) h),
      p,
      record { sized = omega (arith, length_part (c + 2) (c + 2 + 5 * rd b c) b p); good = and_r (leb (table_end attr_row c b) (length b)) f h₁ },
    )

module _ (l : ℕ) (b : List ℕ) (h : whole l b ≡ true) where
  pub is_set : kind b ≡ 7 → IsSet l b
  is_set e =
      let o = opened l b 7 h e in
      record { deep = o.0; some = not-empty l b h; good = o.1; is = o.2 }

  pub is-record : kind b ≡ 8 → IsRecord l b
  is-record e =
      let o = opened l b 8 h e in
      let f = table_fits attr_row (λ _. whole (l - 1)) 0 2 b in
      let g = and_r (leb 2 (length b)) (leb (get_or b 1 0) 1 && f) o.1 in
      let t = table-sound (l - 1) 2 b (and_r (leb (get_or b 1 0) 1) f g) in
      record { deep = o.0; some = t.0; flag = leb-true (get_or b 1 0) 1 (and_l (leb (get_or b 1 0) 1) f g); fit = t.1; sound = t.2; is = o.2 }

  pub is-action : kind b ≡ 11 → IsAction l b
  is-action e =
      let o = opened l b 11 h e in
      let t = table-sound (l - 1) 3 b o.1 in
      record { deep = o.0; some = t.0; fit = t.1; sound = t.2; is = o.2 }

  pub is-entity : kind b ≡ 10 → IsEntity l b
  is-entity e =
      let o = opened l b 10 h e in
      let n = rd b 1 in
      let f = names_up n 0 (rest 3 b) in
      let g₁ = and_r (leb 3 (length b)) (leb 1 n && (eqb (length b) (3 + 2 * n) && f)) o.1 in
      let g₂ = and_r (leb 1 n) (eqb (length b) (3 + 2 * n) && f) g₁ in
      let many = leb-true 1 n (and_l (leb 1 n) (eqb (length b) (3 + 2 * n) && f) g₁) in
      let sized = eqb-true (length b) (3 + 2 * n) (and_l (eqb (length b) (3 + 2 * n)) f g₂) in
      record { deep = o.0; some = omega arith; many = many; sized = sized; up = and_r (eqb (length b) (3 + 2 * n)) f g₂; is = o.2 }

  pub is-extension : kind b ≡ 12 → IsExtension l b
  is-extension e =
      let o = opened l b 12 h e in
      record { deep = o.0; sized = eqb-true (length b) 3 o.1; is = o.2 }

  pub is-atom : (kind b ≡ 7 → ⊥) → (kind b ≡ 8 → ⊥) → (kind b ≡ 10 → ⊥) → (kind b ≡ 11 → ⊥) → (kind b ≡ 12 → ⊥) → IsAtom l b
  is-atom p7 p8 p10 p11 p12 =
      let o = opened l b (kind b) h refl in
      go o (dec_le (kind b) 12)
    where
      go : (0 < l) × (whole_as (whole (l - 1)) (kind_of (kind b)) b ≡ true) × (dec l b ≡ dec_as (dec (l - 1)) (kind_of (kind b)) b) → Dec (kind b ≤ 12) → IsAtom l b
      go o (yes q) =
          let a = kind-atom (kind b) p7 p8 p10 p11 p12 q in
          record { deep = o.0; sized = eqb-true (length b) 1 (rw a.1 at o.1); kind-of = a.0; kind-is = a.1; is = o.2 ∙ rw a.1 refl }
      go o (no q) = false-not (rw (kind-unknown (kind b) (omega arith)) at o.1)

-- Every whole form is one of these.
pub data Seen (l : ℕ) (b : List ℕ) : Type 0 where
  seen-set : kind b ≡ 7 → IsSet l b → Seen l b
  seen-record : kind b ≡ 8 → IsRecord l b → Seen l b
  seen-entity : kind b ≡ 10 → IsEntity l b → Seen l b
  seen-action : kind b ≡ 11 → IsAction l b → Seen l b
  seen-extension : kind b ≡ 12 → IsExtension l b → Seen l b
  seen-atom : IsAtom l b → Seen l b

pub see : (l : ℕ) (b : List ℕ) → whole l b ≡ true → Seen l b
see l b h = go (ℕ_discrete (kind b) 7) (ℕ_discrete (kind b) 8) (ℕ_discrete (kind b) 10) (ℕ_discrete (kind b) 11) (ℕ_discrete (kind b) 12)
  where
    go : Dec (kind b ≡ 7) → Dec (kind b ≡ 8) → Dec (kind b ≡ 10) → Dec (kind b ≡ 11) → Dec (kind b ≡ 12) → Seen l b
    go (yes p) q r s t = seen-set p (is_set l b h p)
    go (no p) (yes q) r s t = seen-record q (is-record l b h q)
    go (no p) (no q) (yes r) s t = seen-entity r (is-entity l b h r)
    go (no p) (no q) (no r) (yes s) t = seen-action s (is-action l b h s)
    go (no p) (no q) (no r) (no s) (yes t) = seen-extension t (is-extension l b h t)
    go (no p) (no q) (no r) (no s) (no t) = seen-atom (is-atom l b h p q r s t)
