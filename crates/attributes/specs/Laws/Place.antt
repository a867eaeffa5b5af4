-- From a search in an attribute list to the place of the attribute in its form. Assumes nothing.
use Rattle.std.specs.Prelude.{ℕ, zero, suc, ◌+◌, ◌*◌, ◌-◌, ◌≤◌, ◌<◌, List, Bool, true, false, cond, ◌≡◌, refl, eqb, ltb, length, get_or, Option as Maybe, Some, None}
use Rattle.std.proofs.Common.{arith, ap, ap₂, sym, subst, ◌∙◌, eq-eqb, ne_eqb, ltb-true}
use Rattle.std.proofs.Math.Option.{Option, none, some}
use Rattle.cedar.specs.Types.{Ty, find}
use Rattle.cedar.specs.Bytes.{Bytes}
use Rattle.cedar.specs.TypeForm.{enc}
use Rattle.cedar.specs.Attribute.{own_attr}
use Rattle.cedar.specs.BodyPlace.{body_from, body_place}
use Rattle.cedar.proofs.Laws.BodyPlace.{same_place, from-none}
use Rattle.forms.specs.Parts.{part, rest, rd, kind}
use Rattle.forms.specs.TypeBytes.{whole, dec, dec_a, Sound}
use Rattle.forms.specs.Tables.{attrs_at, Tabled}
use Rattle.forms.specs.Search.{below, used, Laid}
use Rattle.forms.specs.RowBytes.{IsFirst, Skipped}
use Rattle.forms.specs.declared.rows.Row.{Row}
use Rattle.forms.specs.Laws.Parts.{length_rest, length_part, rest_0, rest-rest, part-rest}
use Rattle.forms.specs.Laws.Bytes.{Bytes-part, enc-dec}
use Rattle.forms.specs.Laws.Skips.{below-most, used-less}
use Rattle.forms.specs.Laws.Attributes.{entry, laid}
use Rattle.forms.specs.Laws.RowBytes.{laid-fit, laid-skipped}
use Rattle.forms.specs.Laws.AttributeRows.{found-attribute, found-none}
use Rattle.forms.specs.Laws.Tables.{attrs-count}
use Rattle.forms.specs.Laws.Views.{is-record, is-action, see, seen-set, seen-record, seen-entity, seen-action, seen-extension, seen-atom}
use Rattle.attributes.specs.declared.own_attribute.Attribute.{Attribute}
use Rattle.attributes.specs.Place.{Stands, Placed, span_of}

-- A body is as long as its entry says.
body-length : {l n low : ℕ} {es bs : List ℕ} → Sound l n low es bs → 0 < n → Bytes bs → length (enc (dec l (part 0 (rd es 3) bs))) ≡ rd es 3
body-length {l} {n} {low} {es} {bs} s p h =
    let f = entry s p in
    ap length (enc-dec l (part 0 (rd es 3) bs) (Bytes-part 0 (rd es 3) bs h) f.body) ∙ length_part 0 (rd es 3) bs f.fit ∙ omega arith

-- The place of the entry k of a list whose first body starts at `at`.
abbrev place_at : ℕ → ℕ → List ℕ → Option (ℕ × ℕ)
place_at at k es = some (at + used 5 k es, at + used 5 k es + rd (rest (5 * k) es) 3)

-- The first entry whose name is not below the name, if it has the name: there is the place of the body.
place_of : {l : ℕ} (n low name at : ℕ) (es bs : List ℕ) → Sound l n low es bs → Bytes bs → below 5 n name es < n → rd (rest (5 * below 5 n name es) es) 0 ≡ name
    → body_from at name (dec_a (dec l) n es bs) ≡ place_at at (below 5 n name es) es
unfolding below used
place_of zero low name at es bs s h k q = absurd (omega arith)
place_of {l} (suc n) low name at es bs s h k q =
    go (ltb (rd es 0) name) refl (below 5 n name (rest 5 es))
    (place_of n (rd es 0 + 1) name (at + rd es 3) (rest 5 es) (rest (rd es 3) bs) more (Bytes-part (rd es 3) (length bs) bs h)) k q
  where
    pos : 0 < suc n
    pos = omega arith

    one_less : suc n - 1 ≡ n
    one_less = omega arith

    more : Sound l n (rd es 0 + 1) (rest 5 es) (rest (rd es 3) bs)
    more = subst (λ (m : ℕ). Sound l m (rd es 0 + 1) (rest 5 es) (rest (rd es 3) bs)) one_less (entry s pos).more

    opened : body_from at name (dec_a (dec l) (suc n) es bs) ≡ cond (eqb name (rd es 0)) (some (at, at + rd es 3))
        (body_from (at + rd es 3) name (dec_a (dec l) n (rest 5 es) (rest (rd es 3) bs)))
    opened = ap (body_from at name) (entry s pos).is ∙ rw (body-length s pos h, one_less) refl

    go : (b : Bool) → ltb (rd es 0) name ≡ b → (k : ℕ)
        →
        (k < n → rd (rest (5 * k) (rest 5 es)) 0 ≡ name →
        body_from (at + rd es 3) name (dec_a (dec l) n (rest 5 es) (rest (rd es 3) bs)) ≡ place_at (at + rd es 3) k (rest 5 es))
        → cond b (suc k) 0 < suc n → rd (rest (5 * cond b (suc k) 0) es) 0 ≡ name →
        body_from at name (dec_a (dec l) (suc n) es bs) ≡ place_at at (cond b (suc k) 0) es
    go true t k i f q =
        let u = ltb-true (rd es 0) name t in
        let w : rest (5 * k) (rest 5 es) ≡ rest (5 * suc k) es = rest-rest 5 (5 * k) es ∙ ap (λ (j : ℕ). rest j es) (omega arith) in
        opened ∙
        rw (ne_eqb name (rd es 0) (λ z. omega arith))
        (i (omega arith) (ap (λ (z : List ℕ). rd z 0) w ∙ q) ∙ same_place (omega arith) (omega (arith, ap (λ (z : List ℕ). rd z 3) w)))
    go false t k i f q =
        let z : rest (5 * 0) es ≡ es = rest_0 es in
        opened ∙ rw (eq-eqb name (rd es 0) (sym q ∙ ap (λ (y : List ℕ). rd y 0) z)) (same_place (omega arith) (omega (arith, ap (λ (y : List ℕ). rd y 3) z)))

-- Where the bodies start.
abbrev bodies_at : ℕ → List ℕ → ℕ
bodies_at c b = c + 2 + 5 * rd b c

-- The rows of a list in the form b.
module _ {l c : ℕ} {b : List ℕ} (h : Tabled l c b) {n : ℕ} {es bs : List ℕ} (en : n ≡ rd b c) (ees : es ≡ part (c + 2) (bodies_at c b) b)
    (ebs : bs ≡ rest (bodies_at c b) b) where
  -- The list is whole.
  pub listed-sound : Sound l n 0 es bs
  listed-sound = rw (en, ees, ebs) h.sound

  pub listed-fit : bodies_at c b ≤ length b
  listed-fit = h.fit

  pub listed-laid : Laid 5 n es bs
  listed-laid = laid listed-sound

  listed-attrs : dec_a (dec l) n es bs ≡ attrs_at l c b
  listed-attrs = rw (en, ees, ebs) refl

  module _ {name m : ℕ} {fs cs : List ℕ} (p : Skipped 5 n name es bs m fs cs) where
    abbrev passed : ℕ
    passed = below 5 n name es

    -- What is left of the bodies is the end of the form.
    left-is : cs ≡ rest (bodies_at c b + used 5 passed es) b
    left-is = p.bodies ∙ ap (rest (used 5 passed es)) ebs ∙ rest-rest (bodies_at c b) (used 5 passed es) b

    left-fits : bodies_at c b + used 5 passed es ≤ length b
    left-fits =
        omega (arith, used-less 5 passed n es (below-most 5 n name es), listed-laid.room, ap length ebs, length_rest (bodies_at c b) b, h.fit)

    pub left-shorter : length cs ≤ length b
    left-shorter = omega (arith, ap length left-is, length_rest (bodies_at c b + used 5 passed es) b)

    left-start : length b - length cs ≡ bodies_at c b + used 5 passed es
    left-start = omega (arith, ap length left-is, length_rest (bodies_at c b + used 5 passed es) b, left-fits)

    module _ {r : Row} (f : IsFirst 5 m fs cs r) (q : rd fs 0 ≡ name) where
      long : length r.body.now ≡ rd fs 3
      long =
          ap length f.body ∙ length_part 0 (rd fs 3) cs (laid-fit (laid-skipped listed-laid p) f.some) ∙ omega arith

      body-is : r.body.now ≡ part (length b - length cs) (length b - length cs + length r.body.now) b
      body-is =
          f.body ∙ ap (part 0 (rd fs 3)) left-is ∙ part-rest (bodies_at c b + used 5 passed es) (rd fs 3) b
          ∙ ap₂ (λ (i k : ℕ). part i (i + k) b) (sym left-start) (sym long)

      body-inside : length b - length cs + length r.body.now ≤ length b
      body-inside = omega (arith, long, laid-fit (laid-skipped listed-laid p) f.some, left-shorter)

      pub found-placed : (x : Attribute) → x.start ≡ length b - length cs → x.form.now ≡ r.body.now → x.required ≡ eqb (get_or r.head.now 2 0) 1 →
          Stands l b (find name (attrs_at l c b)) x
      found-placed x s e d =
          let t = found-attribute listed-sound p f q in
          record {
            inside = rw (s, e) body-inside;
            there = rw (s, e) body-is;
            good = rw e t.1;
            is = ap (find name) (sym listed-attrs) ∙ t.2 ∙ rw (d, e) refl;
          }

      pub found-spanned : Bytes b → some (length b - length cs, length b - length cs + length r.body.now) ≡ body_from (bodies_at c b) name (attrs_at l c b)
      found-spanned g =
          let k = passed in
          let few : k < n = omega (arith, p.left, f.some) in
          let there = place_of n 0 name (bodies_at c b) es bs listed-sound (rw ebs (Bytes-part (bodies_at c b) (length b) b g)) few
          (ap (λ (z : List ℕ). rd z 0) (sym p.entries) ∙ q) in
          sym
          (ap (body_from (bodies_at c b) name) (sym listed-attrs) ∙ there
          ∙ same_place (omega (arith, left-start)) (omega (arith, left-start, long, ap (λ (z : List ℕ). rd z 3) p.entries)))

    pub found-nothing : (0 < m → rd fs 0 ≡ name → ⊥) → (find name (attrs_at l c b) ≡ none) × (none ≡ body_from (bodies_at c b) name (attrs_at l c b))
    found-nothing g =
        let there : find name (attrs_at l c b) ≡ none = ap (find name) (sym listed-attrs) ∙ found-none listed-sound p g in
        (there, sym (from-none (attrs_at l c b) (bodies_at c b) name there))

-- What `own_attribute` asks of a record and of an action, and where their attributes stand.
pub record-listed : (l : ℕ) (b : List ℕ) → whole l b ≡ true → kind b ≡ 8 → Tabled (l - 1) 2 b
record-listed l b w k = let v = is-record l b w k in record { front = omega arith; fit = v.fit; sound = v.sound }

pub action-listed : (l : ℕ) (b : List ℕ) → whole l b ≡ true → kind b ≡ 11 → Tabled (l - 1) 3 b
action-listed l b w k = let v = is-action l b w k in record { front = omega arith; fit = v.fit; sound = v.sound }

module _ (name l : ℕ) (b : List ℕ) (w : whole l b ≡ true) (r : Maybe Attribute) where
  pub record-placed : kind b ≡ 8 → Placed (l - 1) b (find name (attrs_at (l - 1) 2 b)) r × (span_of r ≡ body_from (4 + 5 * rd b 2) name (attrs_at (l - 1) 2 b))
      → Placed (l - 1) b (own_attr name (dec l b)) r × (span_of r ≡ body_place name (dec l b))
  record-placed k p = (
    rw (is-record l b w k).is p.0,
    p.1 ∙ rw (is-record l b w k).is (ap (λ (n : ℕ). body_from (4 + 5 * n) name (attrs_at (l - 1) 2 b)) (sym (attrs-count (dec (l - 1)) (rd b 2) _ _))),
  )

  pub action-placed : kind b ≡ 11 → Placed (l - 1) b (find name (attrs_at (l - 1) 3 b)) r × (span_of r ≡ body_from (5 + 5 * rd b 3) name (attrs_at (l - 1) 3 b))
      → Placed (l - 1) b (own_attr name (dec l b)) r × (span_of r ≡ body_place name (dec l b))
  action-placed k p = (
    rw (is-action l b w k).is p.0,
    p.1 ∙ rw (is-action l b w k).is (ap (λ (n : ℕ). body_from (5 + 5 * n) name (attrs_at (l - 1) 3 b)) (sym (attrs-count (dec (l - 1)) (rd b 3) _ _))),
  )

-- Other kinds have no attribute of their own.
pub other-placed : (name l : ℕ) (b : List ℕ) → whole l b ≡ true → (kind b ≡ 8 → ⊥) → (kind b ≡ 11 → ⊥) → own_attr name (dec l b) ≡ none
other-placed name l b w p q = elim (see l b w) [
  | seen-set k v ↦ rw v.is
  | seen-record k v ↦ absurd (p k)
  | seen-entity k v ↦ rw v.is
  | seen-action k v ↦ absurd (q k)
  | seen-extension k v ↦ rw v.is
  | seen-atom v ↦ rw v.is
]

-- A place by its cases.
pub placed_at : {l : ℕ} {b : List ℕ} {o : Option (Bool × Ty)} (r : Maybe Attribute) → Placed l b o r → (x : Attribute) → r ≡ Some x → Stands l b o x
placed_at {l} {b} {o} r p x h = subst (λ (y : Maybe Attribute). Placed l b o y) h p

pub place_none : (l : ℕ) (b : List ℕ) (o : Option (Bool × Ty)) (r : Maybe Attribute) → Placed l b o r → r ≡ None → o ≡ none
place_none l b o r p h = subst (λ (y : Maybe Attribute). Placed l b o y) h p
