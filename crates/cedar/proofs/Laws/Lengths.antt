-- Lengths of forms: of their parts, and of a bound, no longer than its two types together.
use Rattle.std.specs.Prelude.{ℕ, suc, ◌+◌, ◌*◌, ◌≤◌, ◌<◌, List, [], ◌∷◌, ◌++◌, Bool, cond, ◌≡◌, refl, eqb, ltb, leb, length}
use Rattle.std.proofs.Common.{zero-le, le_refl, arith, ap, ◌∙◌, subst, eqb→eq, leb→le, le→leb, length-append}
use Rattle.std.proofs.Math.Option.{some, some-injective}
use Rattle.std.proofs.Math.Dec.{nleb→lt}
use Rattle.cedar.specs.Types.{Mode, Ty, atom, set, rec, act, ent, ext, Attrs, nil, attr, find}
use Rattle.cedar.specs.Laws.Shape.{Ordered, OrderedFrom}
use Rattle.cedar.specs.Bytes.{enc_names}
use Rattle.cedar.specs.TypeForm.{count, enc, entries, bodies}
use Rattle.cedar.specs.Result.{ok}
use Rattle.cedar.specs.Bound.{insert, union, bound}
use Rattle.cedar.proofs.Laws.Tests.{T→true, not-T→false, cond-case, cond_both, T-case, none-some}
use Rattle.cedar.proofs.Laws.Join.{Join, under, over, truths, entities, untyped, sets, records, actions, unions, JoinAttrs, done, drop, keep, bound-join}

-- A name is two bytes.
pub length-enc_names : (ns : List ℕ) → length (enc_names ns) ≡ 2 * length ns
length-enc_names [] = refl
length-enc_names (n ∷ ns) = let e = length-enc_names ns in omega arith

-- An entry is five bytes.
pub length-entries : (xs : Attrs) → length (entries xs) ≡ 5 * count xs
unfolding enc
length-entries nil = refl
length-entries (attr n r t xs) = let e = length-entries xs in omega arith

-- The length of a record's or an action's attributes.
pub length-attrs : (xs : Attrs) → length (entries xs ++ bodies xs) ≡ 5 * count xs + length (bodies xs)
length-attrs xs = let e = length-entries xs in length-append (entries xs) (bodies xs) ∙ omega arith

insert-length : (n : ℕ) (ks : List ℕ) → length (insert n ks) ≤ suc (length ks)
insert-length n [] = le_refl 1
insert-length n (k ∷ ks) = cond_both (λ (l : List ℕ). length l ≤ suc (suc (length ks))) (ltb n k) (λ h. le_refl (suc (suc (length ks))))
    (λ h. cond_both (λ (l : List ℕ). length l ≤ suc (suc (length ks))) (eqb n k) (λ i. omega arith) (λ i. let g = insert-length n ks in omega arith))

-- A union is no longer than its lists together.
pub union-length : (ns ks : List ℕ) → length (union ns ks) ≤ length ns + length ks
union-length [] ks = omega arith
union-length (n ∷ ns) ks = let f = insert-length n (union ns ks) in let g = union-length ns ks in omega arith

-- A form has a byte.
pub enc-pos : (t : Ty) → 1 ≤ length (enc t)
unfolding enc
enc-pos (atom k) = omega arith
enc-pos (set t) = omega arith
enc-pos (rec o xs) = omega arith
enc-pos (act n xs) = omega arith
enc-pos (ent ns) = omega arith
enc-pos (ext n) = omega arith

-- A body that is found is no longer than the bodies together.
pub find-length : (ys : Attrs) (n : ℕ) (y : Bool × Ty) → find n ys ≡ some y → length (enc y.1) ≤ length (bodies ys)
unfolding enc
find-length nil n y e = none-some e
find-length (attr k s u ys) n y e = cond-case (eqb n k) e
    (λ t p. let l : length (enc u) ≡ length (enc y.1) = ap (λ (z : Bool × Ty). length (enc z.1)) (some-injective _ _ p) in
    omega (arith, length-append (enc u) (bodies ys)))
    (λ t p. omega (arith, find-length ys n y p, length-append (enc u) (bodies ys)))

-- A record's attribute is no longer than the record.
pub record-length : (o : Bool) (ys : Attrs) (n : ℕ) (y : Bool × Ty) → find n ys ≡ some y → length (enc y.1) ≤ length (enc (rec o ys))
unfolding enc
record-length o ys n y e = omega (arith, find-length ys n y e, length-append (entries ys) (bodies ys))

-- A length that counts where the name is not below `low`.
counted : ℕ → ℕ → ℕ → ℕ
counted low n l = cond (leb low n) l 0

counted-all : (low n l : ℕ) → low ≤ n → counted low n l ≡ l
unfolding counted
counted-all low n l h = rw (T→true (leb low n) (le→leb low n h))

counted_none : (low n l : ℕ) → n < low → counted low n l ≡ 0
unfolding counted
counted_none low n l h = rw (not-T→false (leb low n) (λ t. absurd (let g = leb→le low n t in omega arith)))

counted-fewer : (low high n l : ℕ) → low ≤ high → counted high n l ≤ counted low n l
counted-fewer low high n l h = T-case (leb high n)
    (λ t. let g = leb→le high n t in omega (arith, counted-all high n l g, counted-all low n l (omega arith)))
    (λ t. omega (arith, counted_none high n l (nleb→lt high n t)))

-- The lengths of the bodies whose names are not below `low`.
bodies_from : ℕ → Attrs → ℕ
bodies_from low nil = 0
bodies_from low (attr n r t xs) = counted low n (length (enc t)) + bodies_from low xs

bodies_from-all : (xs : Attrs) → bodies_from 0 xs ≡ length (bodies xs)
unfolding bodies_from enc
bodies_from-all nil = refl
bodies_from-all (attr n r t xs) = omega (arith, bodies_from-all xs, length-append (enc t) (bodies xs), counted-all 0 n (length (enc t)) zero-le)

bodies_from-fewer : (xs : Attrs) (low high : ℕ) → low ≤ high → bodies_from high xs ≤ bodies_from low xs
unfolding bodies_from
bodies_from-fewer nil low high h = zero-le
bodies_from-fewer (attr n r t xs) low high h = omega (arith, bodies_from-fewer xs low high h, counted-fewer low high n (length (enc t)) h)

-- A body that is found, and those above its name.
found-length : (ys : Attrs) (n low : ℕ) (y : Bool × Ty) → low ≤ n → find n ys ≡ some y → length (enc y.1) + bodies_from (suc n) ys ≤ bodies_from low ys
unfolding bodies_from
found-length nil n low y h e = none-some e
found-length (attr k s u ys) n low y h e = cond-case (eqb n k) e
    (λ t p.
    let q = eqb→eq n k t in
    let l : length (enc u) ≡ length (enc y.1) = ap (λ (z : Bool × Ty). length (enc z.1)) (some-injective _ _ p) in
    omega (
      arith,
      bodies_from-fewer ys low (suc n) (omega arith),
      counted_none (suc n) k (length (enc u)) (omega arith),
      counted-all low k (length (enc u)) (omega arith),
    ))
    (λ t p. omega (arith, found-length ys n low y h p, counted-fewer low (suc n) k (length (enc u)) (omega arith)))

mutual
  unfolding enc Ordered

  -- Along a derivation, the bound's form is no longer than the two together.
  pub join-length : {m : Mode} {a b c : Ty} → Join m a b c → Ordered a → length (enc c) ≤ length (enc a) + length (enc b)
  join-length (under {a = a} {b = b} h e) oa = subst (λ (t : Ty). length (enc t) ≤ length (enc a) + length (enc b)) e (omega arith)
  join-length (over {a = a} {b = b} h e) oa = subst (λ (t : Ty). length (enc t) ≤ length (enc a) + length (enc b)) e (omega arith)
  join-length (truths {a = a} h k) oa = omega (arith, enc-pos a)
  join-length (entities {a = a} h k) oa = omega (arith, enc-pos a)
  join-length (untyped h) oa = omega arith
  join-length (sets j) oa = let g = join-length j oa in omega arith
  join-length (records {xs = xs} {ys = ys} {cs = cs} e j) oa =
      let (f, g) = join_attrs-length j 0 oa in omega (arith, length-attrs xs, length-attrs ys, length-attrs cs, bodies_from-all ys)
  join-length (actions {xs = xs} {ys = ys} {cs = cs} e f j) oa =
      let (f, g) = join_attrs-length j 0 oa in omega (arith, length-attrs xs, length-attrs ys, length-attrs cs, bodies_from-all ys)
  join-length (unions {ns = ns} {ks = ks} {ls = ls} e) oa =
      omega (arith, length-enc_names ns, length-enc_names ks, length-enc_names ls, ap length e, union-length ns ks)

  join_attrs-length : {m : Mode} {xs ys cs : Attrs} → JoinAttrs m xs ys cs → (low : ℕ) → OrderedFrom low xs
      → (count cs ≤ count xs) × (length (bodies cs) ≤ length (bodies xs) + bodies_from low ys)
  join_attrs-length done low ox = (zero-le, zero-le)
  join_attrs-length (drop {n = n} {t = t} {xs = xs} {ys = ys} {cs = cs} j) low ox =
      let (f, g) = join_attrs-length j (suc n) ox.2 in
      let l = ox.0 in
      (omega arith, omega (arith, length-append (enc t) (bodies xs), bodies_from-fewer ys low (suc n) (omega arith)))
  join_attrs-length (keep {n = n} {t = t} {c = c} {xs = xs} {ys = ys} {cs = cs} y e f g i j) low ox =
      let (p, q) = join_attrs-length j (suc n) ox.2 in (
        omega arith,
        omega (arith, join-length i ox.1, length-append (enc t) (bodies xs), length-append (enc c) (bodies cs), found-length ys n low y ox.0 f),
      )

-- The bound's form is no longer than the forms of its two types together.
pub bound-length : (m : Mode) (a b c : Ty) → Ordered a → bound m a b ≡ ok c → length (enc c) ≤ length (enc a) + length (enc b)
bound-length m a b c oa e = join-length (bound-join a m b c e) oa
