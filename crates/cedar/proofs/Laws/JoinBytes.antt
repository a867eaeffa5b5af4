-- The bound of two types whose forms are bytes has a form of bytes, if it is short enough: each number that it holds fits.
use Rattle.std.specs.Prelude.{ℕ, ◌+◌, ◌≤◌, ◌<◌, List, [], ◌∷◌, ◌++◌, Bool, ◌≡◌, eqb, length}
use Rattle.std.proofs.Common.{arith, sym, subst, inl, inr, length-append}
use Rattle.std.proofs.Math.Option.{some, some-injective}
use Rattle.cedar.specs.Types.{Mode, Ty, Attrs, nil, attr, find}
use Rattle.cedar.specs.Bytes.{u16, enc_names, Bytes}
use Rattle.cedar.specs.TypeForm.{count, enc, entries, bodies}
use Rattle.cedar.specs.Result.{ok}
use Rattle.cedar.specs.Bound.{union, bound}
use Rattle.cedar.proofs.Laws.Tests.{cond-case, none-some}
use Rattle.cedar.proofs.Laws.Bytes.{Bytes-append, Bytes-left, Bytes-right, flag-byte, u16-bytes}
use Rattle.cedar.proofs.Laws.Names.{In, In-here, In-there, In-cases, union-cases}
use Rattle.cedar.proofs.Laws.Join.{Join, under, over, truths, entities, untyped, sets, records, actions, unions, JoinAttrs, done, drop, keep, bound-join}

-- Each name is two bytes.
AllFit : List ℕ → Type 0
AllFit ns = (x : ℕ) → In x ns → Bytes (u16 x)

names-fit : (ns : List ℕ) → Bytes (enc_names ns) → AllFit ns
unfolding AllFit
names-fit [] h x i = absurd i
names-fit (n ∷ ns) h x i =
    elim (In-cases x n ns i) [ inl e ↦ subst (λ (k : ℕ). Bytes (u16 k)) (sym e) (h.0, (h.1.0, tt)) | inr j ↦ names-fit ns h.1.1 x j ]

fit-names : (ns : List ℕ) → AllFit ns → Bytes (enc_names ns)
unfolding AllFit
fit-names [] f = tt
fit-names (n ∷ ns) f = let g = f n (In-here n ns) in (g.0, (g.1.0, fit-names ns (λ x i. f x (In-there x n ns i))))

length-names : (ns : List ℕ) → length ns ≤ length (enc_names ns)
length-names [] = omega arith
length-names (n ∷ ns) = omega (arith, length-names ns)

count_entries : (xs : Attrs) → count xs ≤ length (entries xs)
unfolding enc
count_entries nil = omega arith
count_entries (attr n r t xs) = omega (arith, count_entries xs)

-- The body of a name that is found.
found-bytes : (ys : Attrs) (n : ℕ) (y : Bool × Ty) → find n ys ≡ some y → Bytes (bodies ys) → Bytes (enc y.1)
unfolding enc
found-bytes nil n y e h = none-some e
found-bytes (attr k r t ys) n y e h = cond-case (eqb n k) e
    (λ i p. subst (λ (z : Bool × Ty). Bytes (enc z.1)) (some-injective _ _ p) (Bytes-left (enc t) (bodies ys) h))
    (λ i p. found-bytes ys n y p (Bytes-right (enc t) (bodies ys) h))

-- A counted table's entries and bodies.
split-table : (xs : Attrs) → Bytes (u16 (count xs) ++ (entries xs ++ bodies xs)) → Bytes (entries xs) × Bytes (bodies xs)
split-table xs h = (Bytes-left (entries xs) (bodies xs) h.1.1, Bytes-right (entries xs) (bodies xs) h.1.1)

whole-table : (cs : Attrs) → length (entries cs ++ bodies cs) < 65536 → Bytes (entries cs) → Bytes (bodies cs) →
    Bytes (u16 (count cs) ++ (entries cs ++ bodies cs))
whole-table cs l h k =
    let f = u16-bytes (count cs) (omega (arith, count_entries cs, length-append (entries cs) (bodies cs))) in
    (f.0, (f.1.0, Bytes-append (entries cs) (bodies cs) h k))

union-fit : (ns ks : List ℕ) → AllFit ns → AllFit ks → AllFit (union ns ks)
unfolding AllFit
union-fit ns ks f g x i = elim (union-cases x ns ks i) [ inl j ↦ f x j | inr j ↦ g x j ]

mutual
  unfolding enc

  join-bytes : {m : Mode} {a b c : Ty} → Join m a b c → Bytes (enc a) → Bytes (enc b) → length (enc c) < 65536 → Bytes (enc c)
  join-bytes (under h e) x y l = subst (λ (t : Ty). Bytes (enc t)) e y
  join-bytes (over h e) x y l = subst (λ (t : Ty). Bytes (enc t)) e x
  join-bytes (truths h k) x y l = (omega arith, tt)
  join-bytes (entities h k) x y l = (omega arith, tt)
  join-bytes (untyped h) x y l = (omega arith, tt)
  join-bytes (sets j) x y l = (omega arith, join-bytes j x.1 y.1 (omega arith))
  join-bytes (records {q = q} {xs = xs} {ys = ys} {cs = cs} e j) x y l =
      let (x₁, x₂) = split-table xs x.1.1 in
      let (y₁, y₂) = split-table ys y.1.1 in
      let s : length (entries cs ++ bodies cs) < 65536 = omega arith in
      let (c₁, c₂) = attrs-bytes j x₁ x₂ y₂ (omega (arith, length-append (entries cs) (bodies cs))) in
      (omega arith, (flag-byte q, whole-table cs s c₁ c₂))
  join-bytes (actions {n = n} {l = k} {xs = xs} {ys = ys} {cs = cs} e f j) x y l =
      let (x₁, x₂) = split-table xs x.1.1.1 in
      let (y₁, y₂) = split-table ys y.1.1.1 in
      let s : length (entries cs ++ bodies cs) < 65536 = omega arith in
      let (c₁, c₂) = attrs-bytes j x₁ x₂ y₂ (omega (arith, length-append (entries cs) (bodies cs))) in
      let g : Bytes (u16 k) = subst (λ (i : ℕ). Bytes (u16 i)) f (x.1.0, (x.1.1.0, tt)) in
      (omega arith, (g.0, (g.1.0, whole-table cs s c₁ c₂)))
  join-bytes (unions {ns = ns} {ks = ks} {ls = ls} e) x y l =
      let f = u16-bytes (length ls) (omega (arith, length-names ls)) in
      (omega arith, (f.0, (f.1.0, fit-names ls (subst AllFit e (union-fit ns ks (names-fit ns x.1.1.1) (names-fit ks y.1.1.1))))))

  attrs-bytes : {m : Mode} {xs ys cs : Attrs} → JoinAttrs m xs ys cs → Bytes (entries xs) → Bytes (bodies xs) → Bytes (bodies ys)
      → length (entries cs) + length (bodies cs) < 65536 → Bytes (entries cs) × Bytes (bodies cs)
  attrs-bytes done x₁ x₂ y l = (tt, tt)
  attrs-bytes (drop {t = t} {xs = xs} j) x₁ x₂ y l = attrs-bytes j x₁.1.1.1.1.1 (Bytes-right (enc t) (bodies xs) x₂) y l
  attrs-bytes (keep {n = n} {k = k} {s = s} {t = t} {c = c} {xs = xs} {ys = ys} {cs = cs} w e f g i j) x₁ x₂ y l =
      let b = length-append (enc c) (bodies cs) in
      let (c₁, c₂) = attrs-bytes j x₁.1.1.1.1.1 (Bytes-right (enc t) (bodies xs) x₂) y (omega arith) in
      let h = join-bytes i (Bytes-left (enc t) (bodies xs) x₂) (found-bytes ys n w f y) (omega arith) in
      let name : Bytes (u16 k) = subst (λ (z : ℕ). Bytes (u16 z)) e (x₁.0, (x₁.1.0, tt)) in
      let size = u16-bytes (length (enc c)) (omega arith) in
      ((name.0, (name.1.0, (flag-byte s, (size.0, (size.1.0, c₁))))), Bytes-append (enc c) (bodies cs) h c₂)

-- The bound's form is bytes.
pub bound-bytes : (m : Mode) (a b c : Ty) → bound m a b ≡ ok c → Bytes (enc a) → Bytes (enc b) → length (enc c) < 65536 → Bytes (enc c)
bound-bytes m a b c e x y l = join-bytes (bound-join a m b c e) x y l
