-- The write pass: a result behind what stands before it, and a table of attributes, entry by entry. Assumes nothing.
use Rattle.std.specs.Prelude.{◌≡◌, List, [], ◌∷◌, ◌++◌, Bool, ℕ, ◌+◌, ◌*◌, ◌≤◌, length, zero, suc, eqb}
use Rattle.std.proofs.Math.Path.{refl}
use Rattle.std.proofs.Common.{ap, sym, ◌∙◌, arith, length-append}
use Rattle.cedar.specs.Types.{Ty, Attrs, nil, attr}
use Rattle.cedar.specs.Bytes.{u16, flag}
use Rattle.cedar.specs.TypeForm.{count, enc, entries, bodies}
use Rattle.cedar.specs.Result.{Result, ok, err}
use Rattle.cedar.specs.Outcome.{over}
use Rattle.cedar.specs.Limits.{most_bytes}
use Rattle.forms.specs.Parts.{rest}
use Rattle.forms.specs.Laws.Parts.{length_rest}
use Rattle.writing.specs.Written.{Written}
use Rattle.writing.specs.FormLengths.{table, form_of, Ready}
use Rattle.writing.specs.Laws.FormLengths.{length-entries, bind_ok, Cut, before}
use Rattle.writing.specs.Laws.Writing.{back, written_at, room_at, Filling, filling-start, filling-at, filling-pos, filling-body, filling-length}
use Rattle.writing.specs.Laws.Writing.{filling-entry, filling-end}

-- A flag's byte is the flag.
pub flag_is : (v : ℕ) → v ≤ 1 → flag (eqb v 1) ≡ v
flag_is zero h = refl
flag_is (suc zero) h = refl
flag_is (suc (suc v)) h = absurd (omega arith)

-- A result that is known.
module _ {A : Type 0} {w : A → List ℕ} {r : Result A} {o : List ℕ} (g : Ready w r o) (a : A) (e : r ≡ ok a) where
  same-result : g.result ≡ a
  same-result = let z : ok g.result ≡ ok a = sym g.is ∙ e in cc

  pub ready-room : (length (w a) ≤ most_bytes) × (length (w a) ≤ length o)
  ready-room = (rw (← same-result) g.small, rw (← same-result) g.room)

  pub written_known : (v xs : List ℕ) (x : ℕ) → w a ≡ v → xs ≡ over v o → x ≡ length v → Written (form_of w r) o xs x
  written_known v xs x p q m = rw (e, p) record { bytes = q; many = m }

-- A result behind p: the buffer's front is written, and its rest is lent.
module _ {A B : Type 0} {w : A → List ℕ} {v : B → List ℕ} {p : List ℕ} {r : Result A} {s : Result B} (k : Cut w v p r s) {o : List ℕ} (g : Ready v s o) where
  inner : (a : A) × ((r ≡ ok a) × (g.result ≡ k.make a))
  inner = bind_ok r k.make g.result (sym k.is ∙ g.is)

  form : v g.result ≡ p ++ w inner.0
  form = ap v inner.1.1 ∙ k.cut inner.0 inner.1.0

  sums : length (v g.result) ≡ length p + length (w inner.0)
  sums = ap length form ∙ length-append p (w inner.0)

  pub behind-front : length p ≤ length o
  behind-front = omega (arith, sums, g.room)

  module _ (xs : List ℕ) (at : ℕ) (q : xs ≡ over p o) (m : at ≡ length p) where
    pub behind-at : at ≤ length xs
    behind-at = (room_at o p xs at q m behind-front).0

    pub behind-ready : Ready w r (rest at xs)
    behind-ready =
        record {
          result = inner.0;
          is = inner.1.0;
          small = omega (arith, sums, g.small);
          room = omega (arith, sums, g.room, (room_at o p xs at q m behind-front).1);
        }

    pub behind-small : (ys : List ℕ) (x : ℕ) → Written (form_of w r) (rest at xs) ys x → x + at ≤ most_bytes
    behind-small ys x t = omega (arith, t.many, ap (λ (z : Result A). length (form_of w z)) inner.1.0, sums, g.small)

    pub behind-written : (ys : List ℕ) (x : ℕ) → Written (form_of w r) (rest at xs) ys x → Written (form_of v s) o (back at xs ys) (x + at)
    behind-written ys x t =
        let u : Written (w inner.0) (rest at xs) ys x = rw inner.1.0 at t in
        rw (g.is, form) (written_at o p (w inner.0) xs ys at x q m u (omega (arith, sums, g.room)))

-- The loop of a write pass over a table: `all` is to be written over o, and `ahead` is left.
pub record Laying (all ahead : Result Attrs) (o : List ℕ) (at pos : ℕ) (out : List ℕ) : Type 0 where
  pub total : Attrs
  pub total-is : all ≡ ok total
  pub small : length (table total) ≤ most_bytes
  pub attrs : Attrs
  pub is : ahead ≡ ok attrs
  pub filling : Filling (entries total) (bodies total) (entries attrs) (bodies attrs) o at pos out

pub laying-start : {all : Result Attrs} {o : List ℕ} (n : ℕ) → Ready table all o → ((xs : Attrs) → all ≡ ok xs → count xs ≡ n) → Laying all all o 0 (5 * n) o
laying-start {all} {o} n g h =
    let xs = g.result in
    record {
      total = xs;
      total-is = g.is;
      small = g.small;
      attrs = xs;
      is = g.is;
      filling =
          filling-start (entries xs) (bodies xs) o (5 * n) (omega (arith, length-entries xs, h xs g.is))
          (omega (arith, g.room, length-append (entries xs) (bodies xs)));
    }

-- An attribute and the others, where both are there.
before-ok : (n : ℕ) (r : Bool) (c : Result Ty) (cs : Result Attrs) (xs : Attrs) → before n r c cs ≡ ok xs →
    (t : Ty) × ((c ≡ ok t) × ((l : Attrs) × ((cs ≡ ok l) × (xs ≡ attr n r t l))))
before-ok n r (ok t) (ok l) xs e = (t, (refl, (l, (refl, cc))))
before-ok n r (ok t) (err d) xs e = absurd (let z : ◌≡◌ {A = ℕ} 0 1 = cc in omega arith)
before-ok n r (err d) cs xs e = absurd (let z : ◌≡◌ {A = ℕ} 0 1 = cc in omega arith)

entry-cut : (n : ℕ) (r : Bool) (t : Ty) (xs : Attrs) → entries (attr n r t xs) ≡ (u16 n ++ (flag r ∷ u16 (length (enc t)))) ++ entries xs
unfolding enc
entry-cut n r t xs = refl

body-cut : (n : ℕ) (r : Bool) (t : Ty) (xs : Attrs) → bodies (attr n r t xs) ≡ enc t ++ bodies xs
unfolding enc
body-cut n r t xs = refl

module _ {all ahead : Result Attrs} {o : List ℕ} {at pos : ℕ} {out : List ℕ} (i : Laying all ahead o at pos out) where
  pub laying-length : length out ≡ length o
  laying-length = filling-length i.filling

  pub laying-same : (ahead' : Result Attrs) → ahead ≡ ahead' → Laying all ahead' o at pos out
  laying-same ahead' e = rw e at i

  pub laying-end : ahead ≡ ok nil → Written (form_of table all) o out pos
  laying-end e =
      let z : ok i.attrs ≡ ok nil = sym i.is ∙ e in
      let n : i.attrs ≡ nil = cc in
      rw i.total-is (filling-end i.filling (ap entries n ∙ none-e) (ap bodies n ∙ none-b))
    where
      none-e : entries nil ≡ []
      none-e = unfold enc in refl

      none-b : bodies nil ≡ []
      none-b = unfold enc in refl

  module _ (n : ℕ) (r : Bool) (c : Result Ty) (cs : Result Attrs) (e : ahead ≡ before n r c cs) where
    parts : (t : Ty) × ((c ≡ ok t) × ((l : Attrs) × ((cs ≡ ok l) × (i.attrs ≡ attr n r t l))))
    parts = before-ok n r c cs i.attrs (sym e ∙ i.is)

    body : bodies i.attrs ≡ enc parts.0 ++ bodies parts.1.1.0
    body = ap bodies parts.1.1.1.1 ∙ body-cut n r parts.0 parts.1.1.0

    entry : entries i.attrs ≡ (u16 n ++ (flag r ∷ u16 (length (enc parts.0)))) ++ entries parts.1.1.0
    entry = ap entries parts.1.1.1.1 ∙ entry-cut n r parts.0 parts.1.1.0

    body-long : length (bodies i.attrs) ≡ length (enc parts.0) + length (bodies parts.1.1.0)
    body-long = ap length body ∙ length-append (enc parts.0) (bodies parts.1.1.0)

    entry-long : length (entries i.attrs) ≡ 5 + length (entries parts.1.1.0)
    entry-long = ap length entry ∙ length-append (u16 n ++ (flag r ∷ u16 (length (enc parts.0)))) (entries parts.1.1.0)

    total-long : pos + length (bodies i.attrs) ≤ most_bytes
    total-long =
        omega (
          arith,
          i.small,
          length-append (entries i.total) (bodies i.total),
          i.filling.pos-is,
          ap length i.filling.bodies-are,
          length-append i.filling.bodies (bodies i.attrs),
        )

    -- The body is lent the part from pos on.
    pub laying-pos : pos ≤ length out
    laying-pos = omega (arith, filling-pos i.filling)

    pub laying-ready : Ready enc c (rest pos out)
    laying-ready =
        record {
          result = parts.0;
          is = parts.1.0;
          small = omega (arith, body-long, total-long);
          room = omega (arith, body-long, filling-pos i.filling, length_rest pos out);
        }

    module _ (ys : List ℕ) (x : ℕ) (t : Written (form_of enc c) (rest pos out) ys x) where
      written : Written (enc parts.0) (rest pos out) ys x
      written = rw parts.1.0 at t

      half : Filling (entries i.total) (bodies i.total) (entries i.attrs) (bodies parts.1.1.0) o at (pos + x) (back pos out ys)
      half = filling-body i.filling (enc parts.0) (bodies parts.1.1.0) ys x body written

      -- The entry is lent the part from `at` on.
      pub laying-at : at + 5 ≤ length (back pos out ys)
      laying-at = omega (arith, filling-at half, filling-pos half, entry-long)

      pub laying-entry : 5 ≤ length (rest at (back pos out ys))
      laying-entry = omega (arith, laying-at, length_rest at (back pos out ys))

      pub laying-back : length (back pos out ys) ≡ length out
      laying-back = omega (arith, filling-length half, laying-length)

      pub laying-small : (x ≤ most_bytes) × ((pos + x ≤ most_bytes) × (at + 5 ≤ most_bytes))
      laying-small = (
        omega (arith, written.many, body-long, total-long),
        (omega (arith, written.many, body-long, total-long), omega (arith, filling-at i.filling, entry-long, total-long)),
      )

      pub laying-more : (zs : List ℕ) → zs ≡ over (u16 n ++ (flag r ∷ u16 x)) (rest at (back pos out ys)) →
          Laying all cs o (at + 5) (pos + x) (back at (back pos out ys) zs)
      laying-more zs g =
          let m : x ≡ length (enc parts.0) = written.many in
          let k : zs ≡ over (u16 n ++ (flag r ∷ u16 (length (enc parts.0)))) (rest at (back pos out ys)) = g ∙ rw m refl in
          record {
            total = i.total;
            total-is = i.total-is;
            small = i.small;
            attrs = parts.1.1.0;
            is = parts.1.1.1.0;
            filling = filling-entry half (u16 n ++ (flag r ∷ u16 (length (enc parts.0)))) (entries parts.1.1.0) zs 5 entry refl k;
          }
