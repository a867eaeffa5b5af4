-- Lists of ascending names: their union by one merge, and names that rows begin with. Assumes nothing.
use Rattle.std.specs.Prelude.{◌≡◌, refl, List, [], ◌∷◌, Bool, true, false, ℕ, zero, suc, ◌+◌, ◌*◌, ◌/◌, ◌-◌, ◌≤◌, ◌<◌, Option, Some, None, IfSome, cond, min, eqb, leb, length, slice_get}
use Rattle.std.specs.Option.{option_eq}
use Rattle.std.proofs.Common.{ap, sym, ◌∙◌, arith, lt-ltb, le-ltb, le-leb, eq-eqb, ne_eqb}
use Rattle.std.proofs.lemmas.Bool.{lt-leb}
use Rattle.std.proofs.Math.Decide.{dec_lt}
use Rattle.cedar.specs.Types.{Mode, is_permissive, ent, eq_names}
use Rattle.cedar.specs.TypeForm.{enc}
use Rattle.cedar.specs.Laws.DirectBound.{direct_names}
use Rattle.cedar.specs.Result.{ok, err}
use Rattle.writing.specs.FormLengths.{cap, form_length_of}
use Rattle.cedar.specs.Laws.Shape.{Ascend}
use Rattle.cedar.specs.Bound.{insert, union}
use Rattle.cedar.proofs.Laws.Names.{union-ascend}
use Rattle.forms.specs.Parts.{rest, rd}
use Rattle.forms.specs.TypeBytes.{names_up, names_by}
use Rattle.forms.specs.Laws.Parts.{length_rest, rest_0}
use Rattle.forms.specs.Laws.Types.{names-up}
use Rattle.forms.specs.Laws.Names.{names-first, names-none, names-length, names-ascend}
use Rattle.cedar.specs.Bytes.{Bytes, enc_names}
use Rattle.forms.specs.Laws.SameForm.{same-bytes, same-names}
use lib.Pointwise.{pointwise}
use Rattle.bound_lengths.specs.Names.{least, without, Next}
use Rattle.forms.specs.Names.{names_in, Ascending}

some-none : {n : ℕ} → ◌≡◌ {A = Option ℕ} (Some n) None → ⊥
some-none e = let z : ◌≡◌ {A = ℕ} 0 1 = cc in omega arith

-- A name below all of a list stands first.
insert-low : (n : ℕ) (l : List ℕ) → Ascend (suc n) l → insert n l ≡ n ∷ l
insert-low n [] a = refl
insert-low n (k ∷ l) a = rw (lt-ltb n k a.0) refl

union_left : (n : ℕ) (ns ks : List ℕ) → Ascend (suc n) ns → Ascend (suc n) ks → union (n ∷ ns) ks ≡ n ∷ union ns ks
union_left n ns ks a b = insert-low n (union ns ks) (union-ascend (suc n) ns ks a b)

union_right : (k : ℕ) (ns ks : List ℕ) → Ascend (suc k) ns → union ns (k ∷ ks) ≡ k ∷ union ns ks
union_right k [] ks a = refl
union_right k (n ∷ ns) ks a =
    ap (insert n) (union_right k ns ks (above ns (suc k) (suc n) (omega (arith, a.0)) a.1))
    ∙ rw (le-ltb n k (omega (arith, a.0)), ne_eqb n k (λ e. omega (arith, a.0))) refl
  where
    above : (ns : List ℕ) (low high : ℕ) → low ≤ high → Ascend high ns → Ascend low ns
    above [] low high h a = tt
    above (m ∷ ms) low high h a = (omega (arith, a.0), a.1)

union-same : (n : ℕ) (ns ks : List ℕ) → Ascend (suc n) ns → union (n ∷ ns) (n ∷ ks) ≡ n ∷ union ns ks
union-same n ns ks a = ap (insert n) (union_right n ns ks a) ∙ rw (le-ltb n n (omega arith), eq-eqb n n refl) refl

-- A name that comes next in a union, and what is left.
pub record Step (ns ks : List ℕ) (n : ℕ) : Type 0 where
  pub fewer : length (without n ns) + length (without n ks) < length ns + length ks
  pub is : union ns ks ≡ n ∷ union (without n ns) (without n ks)

step-left : (ns ks : List ℕ) (low p : ℕ) → Ascend low ns → slice_get ns 0 ≡ Some p → slice_get ks 0 ≡ None → Step ns ks p
step-left [] ks low p a e f = absurd (some-none (sym e))
step-left (n ∷ ns) (k ∷ ks) low p a e f = absurd (some-none f)
step-left (n ∷ ns) [] low p a e f =
    let z : n ≡ p = cc in
    let d : without p (n ∷ ns) ≡ ns = rw (eq-eqb n p z) refl in
    record { fewer = rw d (omega arith); is = rw (d, ← z) (union_left n ns [] a.1 tt) }

step-right : (ns ks : List ℕ) (low q : ℕ) → Ascend low ks → slice_get ns 0 ≡ None → slice_get ks 0 ≡ Some q → Step ns ks q
step-right ns [] low q a e f = absurd (some-none (sym f))
step-right (n ∷ ns) (k ∷ ks) low q a e f = absurd (some-none e)
step-right [] (k ∷ ks) low q a e f =
    let z : k ≡ q = cc in
    let d : without q (k ∷ ks) ≡ ks = rw (eq-eqb k q z) refl in
    record { fewer = rw d (omega arith); is = rw (d, z) refl }

step-both : (ns ks : List ℕ) (low low' p q : ℕ) → Ascend low ns → Ascend low' ks → slice_get ns 0 ≡ Some p → slice_get ks 0 ≡ Some q → Step ns ks (min p q)
step-both [] ks low low' p q a b e f = absurd (some-none (sym e))
step-both (n ∷ ns) [] low low' p q a b e f = absurd (some-none (sym f))
step-both (n ∷ ns) (k ∷ ks) low low' p q a b e f = rw (y, z) (go (dec_lt n k) (dec_lt k n))
  where
    y : p ≡ n
    y = cc

    z : q ≡ k
    z = cc

    here : (m : ℕ) (ms : List ℕ) → without m (m ∷ ms) ≡ ms
    here m ms = rw (eq-eqb m m refl) refl

    other : (j m : ℕ) (ms : List ℕ) → j < m → without j (m ∷ ms) ≡ m ∷ ms
    other j m ms h = rw (ne_eqb m j (λ (v : m ≡ j). omega arith)) refl

    go : Dec (n < k) → Dec (k < n) → Step (n ∷ ns) (k ∷ ks) (min n k)
    go (yes h) d =
        let m : min n k ≡ n = omega arith in
        rw (m) record {
          fewer = rw (here n ns, other n k ks h) (omega arith);
          is = rw (here n ns, other n k ks h) (union_left n ns (k ∷ ks) a.1 (omega arith, b.1));
        }
    go (no h) (yes g) =
        let m : min n k ≡ k = omega arith in
        rw (m) record {
          fewer = rw (here k ks, other k n ns g) (omega arith);
          is = rw (here k ks, other k n ns g) (union_right k (n ∷ ns) ks (omega arith, a.1));
        }
    go (no h) (no g) =
        let m : min n k ≡ n = omega arith in
        let v : k ≡ n = omega arith in
        rw (m, v) record { fewer = rw (here n ns, here n ks) (omega arith); is = rw (here n ns, here n ks) (union-same n ns ks a.1) }

-- The least of two first names comes next.
pub step-first : (ns ks : List ℕ) (low low' n : ℕ) → Ascend low ns → Ascend low' ks → Some n ≡ least (slice_get ns 0) (slice_get ks 0) → Step ns ks n
step-first [] [] low low' n a b e = absurd (some-none e)
step-first [] (k ∷ ks) low low' n a b e = step-right [] (k ∷ ks) low' n b refl (sym e)
step-first (m ∷ ns) [] low low' n a b e = step-left (m ∷ ns) [] low n a (sym e) refl
step-first (m ∷ ns) (k ∷ ks) low low' n a b e = let z : n ≡ min m k = cc in rw z (step-both (m ∷ ns) (k ∷ ks) low low' m k a b refl refl)

pub step-end : (ns ks : List ℕ) → None ≡ least (slice_get ns 0) (slice_get ks 0) → union ns ks ≡ []
step-end [] [] e = refl
step-end [] (k ∷ ks) e = absurd (some-none (sym e))
step-end (m ∷ ns) [] e = absurd (some-none (sym e))
step-end (m ∷ ns) (k ∷ ks) e = absurd (some-none (sym e))

pub least-small : (p q : Option ℕ) (n : ℕ) → IfSome p (λ k. k < 65536) → IfSome q (λ k. k < 65536) → Some n ≡ least p q → n < 65536
least-small None None n h g e = absurd (some-none e)
least-small None (Some k) n h g e = let z : n ≡ k = cc in rw z g
least-small (Some m) None n h g e = let z : n ≡ m = cc in rw z h
least-small (Some m) (Some k) n h g e = let z : n ≡ min m k = cc in omega (arith, h, g)

-- Past a name.
pub past-first : (ns : List ℕ) (n m : ℕ) (ms : List ℕ) → ns ≡ m ∷ ms → option_eq eqb (slice_get ns 0) (Some n) ≡ true → ms ≡ without n ns
past-first ns n m ms e h = rw e (go (rw e at h))
  where
    go : eqb m n ≡ true → ms ≡ cond (eqb m n) ms (m ∷ ms)
    go g = rw g refl

pub past-other : (ns : List ℕ) (n : ℕ) → option_eq eqb (slice_get ns 0) (Some n) ≡ false → ns ≡ without n ns
past-other [] n h = refl
past-other (m ∷ ms) n h = go h
  where
    go : eqb m n ≡ false → m ∷ ms ≡ cond (eqb m n) ms (m ∷ ms)
    go g = rw g refl

pub past-some : (ns : List ℕ) (n : ℕ) → option_eq eqb (slice_get ns 0) (Some n) ≡ true → 0 < length ns
past-some [] n h = absurd (let z : ◌≡◌ {A = ℕ} 0 1 = cc in omega arith)
past-some (m ∷ ms) n h = omega arith

-- Names in bytes.
pub not-none : (b : List ℕ) → eqb (length b) 0 ≡ false → 0 < length b
not-none b h = go (length b) h
  where
    go : (n : ℕ) → eqb n 0 ≡ false → 0 < n
    go zero e = absurd (let z : ◌≡◌ {A = ℕ} 0 1 = cc in omega arith)
    go (suc n) e = omega arith

pub names-some : (b : List ℕ) → 0 < length (names_in b) → 0 < length b
names-some b h = omega (arith, names-length 2 (length b / 2) b)

pub no-names : (b : List ℕ) → length b ≡ 0 → names_in b ≡ []
no-names b h = names-none 2 (length b / 2) b (omega arith)

module _ {b : List ℕ} (s : Ascending b) where
  pub ascends : Ascend s.low (names_in b)
  ascends = names-ascend (length b / 2) s.low b s.up

  pub names-twice : length b ≡ 2 * length (names_in b)
  names-twice = omega (arith, s.even, names-length 2 (length b / 2) b)

  module _ (p : 0 < length b) where
    pub names-room : 2 ≤ length b
    names-room = omega (arith, s.even)

    left-over : length (rest 2 b) / 2 ≡ length b / 2 - 1
    left-over = omega (arith, s.even, length_rest 2 b)

    pub names-cons : names_in b ≡ rd b 0 ∷ names_in (rest 2 b)
    names-cons = names-first 2 (length b / 2) b (omega (arith, s.even)) ∙ rw (← left-over) refl

    pub names-more : Ascending (rest 2 b)
    names-more =
        record {
          low = rd b 0 + 1;
          even = omega (arith, s.even, length_rest 2 b);
          up = rw left-over (names-up (length b / 2) s.low b (omega (arith, s.even)) s.up).1;
        }

-- What is left of two lists, each past a name.
pub step-next : {x y x' y' : List ℕ} {n : ℕ} → Ascending x → Ascending y → Step (names_in x) (names_in y) n → n < 65536 → Ascending x' → Ascending y' →
    names_in x' ≡ without n (names_in x) → names_in y' ≡ without n (names_in y) → Next x y n x' y'
step-next {x} {y} {x'} {y'} {n} s t g h s' t' e f =
    record {
      small = h;
      left = s';
      right = t';
      fewer = omega (arith, names-twice s, names-twice t, names-twice s', names-twice t', ap length e, ap length f, g.fewer);
      is = g.is ∙ rw (e, f) refl;
    }

-- A list where a first name is known: what is left of it past the lesser of that name and another list's.
pub record Taken (x : List ℕ) (n i : ℕ) : Type 0 where
  pub room : 2 * i ≤ length x
  pub more : Ascending (rest (2 * i) x)
  pub is : names_in (rest (2 * i) x) ≡ without n (names_in x)

module _ {x : List ℕ} (s : Ascending x) (p : ℕ) (e : slice_get (names_in x) 0 ≡ Some p) where
  first-there : 0 < length x
  first-there = names-some x (go (names_in x) e)
    where
      go : (ns : List ℕ) → slice_get ns 0 ≡ Some p → 0 < length ns
      go [] h = absurd (some-none (sym h))
      go (n ∷ ns) h = omega arith

  first-is : names_in x ≡ p ∷ names_in (rest 2 x)
  first-is =
      let z : ◌≡◌ {A = Option ℕ} (Some (rd x 0)) (Some p) = rw (names-cons s first-there) at e in
      let y : rd x 0 ≡ p = cc in
      names-cons s first-there ∙ ap (λ (n : ℕ). n ∷ names_in (rest 2 x)) y

  pub taken-one : Taken x p 1
  taken-one =
      record {
        room = names-room s first-there;
        more = names-more s first-there;
        is = sym (rw first-is (rw (eq-eqb p p refl) refl));
      }

  taken-none : (n : ℕ) → n < p → Taken x n 0
  taken-none n h =
      record {
        room = omega arith;
        more = rw (rest_0 x) s;
        is = ap names_in (rest_0 x) ∙ sym (rw first-is (rw (ne_eqb p n (λ v. omega arith)) refl));
      }

  pub taken-past : (q i n : ℕ) → i ≡ cond (leb p q) 1 0 → n ≡ min p q → Taken x n i
  taken-past q i n f g = go (dec_lt q p)
    where
      go : Dec (q < p) → Taken x n i
      go (yes h) =
          let z : i ≡ 0 = f ∙ rw (lt-leb p q h) refl in
          rw z (taken-none n (omega arith))
      go (no h) =
          let z : i ≡ 1 = f ∙ rw (le-leb p q (omega arith)) refl in
          let y : n ≡ p = omega arith in
          rw (z, y) taken-one

-- A list without a name has nothing to take.
pub nothing-taken : (ns : List ℕ) (n : ℕ) → slice_get ns 0 ≡ None → ns ≡ without n ns
nothing-taken [] n e = refl
nothing-taken (m ∷ ms) n e = absurd (some-none e)

-- Two lists without a first name have none together.
pub next-end : (ns ks : List ℕ) → slice_get ns 0 ≡ None → slice_get ks 0 ≡ None → union ns ks ≡ []
next-end ns ks e f = step-end ns ks (rw (e, f) refl)

-- The next name of a union where both lists have a name, or one of them.
module _ {x y : List ℕ} (s : Ascending x) (t : Ascending y) where
  pub next-both : (p q i j n : ℕ) → slice_get (names_in x) 0 ≡ Some p → slice_get (names_in y) 0 ≡ Some q → p < 65536 →
      i ≡ cond (leb p q) 1 0 → j ≡ cond (leb q p) 1 0 → n ≡ min p q → Next x y n (rest (2 * i) x) (rest (2 * j) y)
  next-both p q i j n e f h a b g =
      let u = taken-past s p e q i n a g in
      let v = taken-past t q f p j n b (omega arith) in
      let k : Step (names_in x) (names_in y) n = rw g (step-both (names_in x) (names_in y) s.low t.low p q (ascends s) (ascends t) e f) in
      step-next s t k (omega arith) u.more v.more u.is v.is

  pub next-left : (p : ℕ) → slice_get (names_in x) 0 ≡ Some p → slice_get (names_in y) 0 ≡ None → p < 65536 → Next x y p (rest 2 x) y
  next-left p e f h =
      let u = taken-one s p e in
      step-next s t (step-left (names_in x) (names_in y) s.low p (ascends s) e f) h u.more t u.is (nothing-taken (names_in y) p f)

  pub next-right : (q : ℕ) → slice_get (names_in x) 0 ≡ None → slice_get (names_in y) 0 ≡ Some q → q < 65536 → Next x y q x (rest 2 y)
  next-right q e f h =
      let u = taken-one t q f in
      step-next s t (step-right (names_in x) (names_in y) t.low q (ascends t) e f) h s u.more (nothing-taken (names_in x) q e) u.is

-- Two lists without a name have none together.
pub union-none : (n : ℕ) (x : List ℕ) (m : ℕ) (y : List ℕ) → n + m ≤ 0 → union (names_by 2 n x) (names_by 2 m y) ≡ []
union-none n x m y h = rw (names-none 2 n x (omega arith), names-none 2 m y (omega arith)) refl

-- The bound of two entities.
pub names-long : (ns : List ℕ) → length (enc (ent ns)) ≡ 3 + 2 * length ns
unfolding enc
names-long ns = let e = go ns in omega arith
  where
    go : (ns : List ℕ) → length (enc_names ns) ≡ 2 * length ns
    go [] = refl
    go (n ∷ ns) = let e = go ns in omega arith

-- The names of an entity form.
module _ (b : List ℕ) (h : (length b ≡ 3 + 2 * rd b 1) × (names_up (rd b 1) 0 (rest 3 b) ≡ true)) where
  count-is : length (rest 3 b) / 2 ≡ rd b 1
  count-is = omega (arith, length_rest 3 b, h.0)

  pub entity-names : names_in (rest 3 b) ≡ names_by 2 (rd b 1) (rest 3 b)
  entity-names = rw count-is refl

-- The names of an entity form, as many as were read.
pub names_at : (b : List ℕ) (n : ℕ) → n ≡ rd b 1 → (length b ≡ 3 + 2 * rd b 1) × (names_up (rd b 1) 0 (rest 3 b) ≡ true) →
    (length (rest 3 b) ≡ 2 * n) × (names_up n 0 (rest 3 b) ≡ true)
names_at b n q h = (omega (arith, length_rest 3 b, h.0), rw q h.1)

-- Ascending names are equal where their bytes are.
pub entities-same : (a b : List ℕ) → Bytes a → Bytes b → Ascending a → Ascending b → pointwise eqb a b ≡ eq_names (names_in a) (names_in b)
entities-same a b x y s t = same-bytes a b ∙ same-names a b x y s t

-- The bound of two entity forms.
module _ (M : Mode) (ns ks : List ℕ) where
  pub permissive-names : is_permissive M ≡ true → (c x : ℕ) → c ≡ length (union ns ks) → x ≡ cap (2 * c + 3) → ok x ≡ form_length_of enc (direct_names M ns ks)
  permissive-names e c x k h = rw (e, names-long (union ns ks)) (ap ok (omega arith))

  module _ (e : is_permissive M ≡ false) (r : Bool) (told : r ≡ eq_names ns ks) where
    pub strict-not : r ≡ false → err 13 ≡ form_length_of enc (direct_names M ns ks)
    strict-not h = rw (e, sym told ∙ h) refl

    pub strict-length : r ≡ true → (n x : ℕ) → n ≡ 3 + 2 * length ns → x ≡ cap n → ok x ≡ form_length_of enc (direct_names M ns ks)
    strict-length h n x l g = rw (e, sym told ∙ h, names-long ns) (ap ok (omega arith))
