-- The loop of `find_row`, and what it finds, for any row. Assumes nothing.
use Rattle.std.specs.Prelude.{◌≡◌, Bool, cond, take, Option as Maybe, Some, None, eqb}
use Rattle.std.proofs.Math.Path.{refl}
use Rattle.std.proofs.Common.{ap, sym, ◌∙◌, sub-one, arith, eq-eqb, ne_eqb}
use mathlib.Core.List.{List, [], ◌∷◌}
use Rattle.std.proofs.Math.Bool.{true, false}
use Rattle.std.proofs.Math.Option.{Option, none, some}
use Prim.Native.Nat.{ℕ, zero, suc, ◌+◌, ◌*◌, ◌-◌, ◌≤◌, ◌<◌}
use Rattle.std.proofs.Math.Nat.{mul-suc}
use Rattle.std.proofs.Math.ListN.{length}
use Rattle.cedar.specs.Bytes.{Bytes}
use Rattle.forms.specs.Parts.{part, rest, rd}
use Rattle.forms.specs.Laws.Bytes.{Bytes-part}
use Rattle.forms.specs.Rows.{Row, body_length, rows_to, rows_of}
use Rattle.forms.specs.Search.{Laid}
use Rattle.forms.specs.RowBytes.{TookFirst}
use Rattle.forms.specs.declared.rows.Row.{Row as FormRow}
use Rattle.forms.specs.Laws.Parts.{length_rest, length_part, part-is, part-rest, rd-take, rest-rest}
use Rattle.forms.specs.Laws.Rows.{first}
use Rattle.forms.specs.Laws.RowBytes.{head-length, took-left, laid-more}
use Rattle.std.proofs.lemmas.List.{take-take}
use Rattle.schemas.specs.SchemaBytes.{any, Inside}
use Rattle.schemas.specs.Laws.Walks.{rest-take, used-take}
use Rattle.schemas.specs.Entries.{key_is, entry_from, entry_at, row_bytes, LaidIn}
use Rattle.schemas.specs.declared.sections.Section.{Section}
use Rattle.schemas.specs.declared.entries.Key.{Key}
use Rattle.schemas.specs.declared.entries.Key.TheVariants.{Name, Uid}

-- The answers of `has_key`.
module _ (key : Key) (e : List ℕ) where
  pub key-name : (n : ℕ) → key ≡ Name n → (m : ℕ) → m ≡ rd e 0 → eqb n m ≡ key_is key e
  key-name n k m q = rw (k, q) refl

  module _ (t i : ℕ) (k : key ≡ Uid t i) (m : ℕ) (q : m ≡ rd e 0) where
    pub key-other : (t ≡ m → ⊥) → false ≡ key_is key e
    key-other h = rw (k, ne_eqb t (rd e 0) (λ z. h (z ∙ sym q))) refl

    pub key-uid : t ≡ m → (j : ℕ) → j ≡ rd e 2 → eqb i j ≡ key_is key e
    key-uid h j p = rw (k, eq-eqb t (rd e 0) (h ∙ q), p) refl

-- One entry, and the others.
entry-none : (w : ℕ) (key : Key) (n : ℕ) (es bs : List ℕ) → n ≤ 0 → entry_from w key n es bs ≡ None
unfolding entry_from
entry-none w key zero es bs h = refl
entry-none w key (suc n) es bs h = absurd (omega arith)

entry-step : (w : ℕ) (key : Key) (n : ℕ) (es bs : List ℕ) → 0 < n →
    entry_from w key n es bs ≡ cond (key_is key es) (Some (part 0 w es, part 0 (rd es (w - 2)) bs))
    (entry_from w key (n - 1) (rest w es) (rest (rd es (w - 2)) bs))
unfolding entry_from
entry-step w key zero es bs h = absurd (omega arith)
entry-step w key (suc n) es bs h = rw (sub-one (suc n)) refl

-- A key stands in an entry's first four bytes.
key-take : (key : Key) (k : ℕ) (es : List ℕ) → 4 ≤ k → key_is key (take k es) ≡ key_is key es
key-take (Name n) k es h = rw (rd-take k es 0 (omega arith)) refl
key-take (Uid t i) k es h = rw (rd-take k es 0 (omega arith), rd-take k es 2 (omega arith)) refl

-- Bytes behind the entries do not matter.
module _ (w : ℕ) (wide : 4 ≤ w) where
  entry-take : (key : Key) (n k : ℕ) (es bs : List ℕ) → w * n ≤ k → entry_from w key n (take k es) bs ≡ entry_from w key n es bs
  unfolding entry_from
  entry-take key zero k es bs h = refl
  entry-take key (suc n) k es bs h =
      let s = mul-suc w n in
      rw (
        key-take key k es (omega arith),
        part-is w (take k es),
        take-take w k es (omega arith),
        ← part-is w es,
        rd-take k es (w - 2) (omega arith),
        rest-take w k es,
        entry-take key n (k - w) (rest w es) (rest (rd es (w - 2)) bs) (omega arith),
      ) refl

-- A body that is found is of bytes, as the bodies are.
pub entry-bytes : (w : ℕ) (key : Key) (n : ℕ) (es bs : List ℕ) → Bytes bs → (y : List ℕ × List ℕ) → Some y ≡ entry_from w key n es bs → Bytes y.1
unfolding entry_from
entry-bytes w key zero es bs h y e = absurd (let z : ◌≡◌ {A = ℕ} 0 1 = cc in omega arith)
entry-bytes w key (suc n) es bs h y e =
    go (key_is key es) (entry_from w key n (rest w es) (rest (rd es (w - 2)) bs)) e
    (entry-bytes w key n (rest w es) (rest (rd es (w - 2)) bs) (Bytes-part (rd es (w - 2)) (length bs) bs h) y)
  where
    go : (b : Bool) (o : Maybe (List ℕ × List ℕ)) → Some y ≡ cond b (Some (part 0 w es, part 0 (rd es (w - 2)) bs)) o → (Some y ≡ o → Bytes y.1) → Bytes y.1
    go true o f k =
        let same : y ≡ (part 0 w es, part 0 (rd es (w - 2)) bs) = cc in
        rw (ap (λ (z : List ℕ × List ℕ). z.1) same) (Bytes-part 0 (rd es (w - 2)) bs h)
    go false o f k = k f

-- A search that has come so far: what is left answers for the section.
pub record FindLeft (w : ℕ) (key : Key) (x : Section) (b : List ℕ) (left : ℕ) (es bs : List ℕ) : Type 0 where
  pub same : entry_at w key x b ≡ entry_from w key left es bs
  pub laid : Laid w left es bs

pub find-start : {w : ℕ} (key : Key) {x : Section} {b : List ℕ} → 4 ≤ w → LaidIn w x b → {n : ℕ} {es bs : List ℕ} → n ≡ x.count →
    es ≡ part x.entries (x.entries + w * x.count) b → bs ≡ rest x.bodies b → FindLeft w key x b n es bs
find-start {w} key {x} {b} wide l {n} {es} {bs} q e f =
    let k = w * x.count in
    let cut : es ≡ take k (rest x.entries b) = e ∙ sym (part-rest x.entries k b) ∙ part-is k (rest x.entries b) in
    rw (q, cut, f)
    (record {
      same = sym (entry-take w wide key x.count k (rest x.entries b) (rest x.bodies b) (omega arith));
      laid =
          record {
            wide = omega arith;
            sized = rw (← part-is k (rest x.entries b)) (length_part 0 k (rest x.entries b) (omega (arith, l.entries, length_rest x.entries b)) ∙ omega arith);
            room = omega (arith, used-take w (omega arith) x.count k (rest x.entries b) (omega arith), l.room, length_rest x.bodies b);
          };
    })

-- Its rows can be read.
pub laid-inside : {w : ℕ} {x : Section} {b : List ℕ} → LaidIn w x b → Inside w x b
laid-inside l = record { entries = l.entries; bodies = omega (arith, l.room) }

module _ {w : ℕ} {key : Key} {x : Section} {b : List ℕ} {left : ℕ} {es bs : List ℕ} (i : FindLeft w key x b left es bs) where
  pub find-end : left ≡ 0 → None ≡ entry_at w key x b
  find-end h = sym (i.same ∙ entry-none w key left es bs (omega arith))

  module _ {m : ℕ} {fs cs : List ℕ} {r : FormRow} (t : TookFirst w left es bs m fs cs r) (wide : 4 ≤ w) where
    pub find-head : 4 ≤ length r.head.now
    find-head = omega (arith, head-length t.first i.laid)

    key-head : key_is key r.head.now ≡ key_is key es
    key-head = ap (key_is key) (t.first.head ∙ part-is w es) ∙ key-take key w es wide

    module _ (y : Bool) (z : y ≡ key_is key r.head.now) where
      pub find-here : y ≡ true → Some (row_bytes r) ≡ entry_at w key x b
      find-here h =
          sym (i.same ∙ entry-step w key left es bs t.first.some ∙ rw (sym (key-head) ∙ sym z ∙ h, ← t.first.head, ← t.first.body) refl)

      pub find-again : y ≡ false → FindLeft w key x b m fs cs
      find-again h =
          record {
            same = i.same ∙ entry-step w key left es bs t.first.some ∙ rw (sym (key-head) ∙ sym z ∙ h, took-left t, ← t.entries, ← t.bodies) refl;
            laid = laid-more t i.laid;
          }

-- The first row whose head passes.
abbrev pub lookup : {H A : Type 0} → (H → Bool) → List (H × A) → Option (H × A)
lookup q [] = none
lookup q (x ∷ xs) = cond (q x.0) (some x) (lookup q xs)

module _ {S H A : Type 0} (r : Row S H) (w : H → List ℕ → Bool) (d : H → List ℕ → A) (key : Key) (q : H → Bool) where
  -- The entry h with the body c is the one of the rows.
  pub record RowIn (xs : List (H × A)) (h c : List ℕ) : Type 0 where
    pub sized : length h ≡ r.width
    pub has : key_is key h ≡ true
    pub body : w (r.head h) c ≡ true
    pub is : lookup q xs ≡ some (r.head h, d (r.head h) c)

  -- What a search says of the rows.
  abbrev pub FoundIn : List (H × A) → Maybe (List ℕ × List ℕ) → Type 0
  FoundIn xs (Some y) = RowIn xs y.0 y.1
  FoundIn xs None = lookup q xs ≡ none

  past_one : (x : H × A) (xs : List (H × A)) (f : Maybe (List ℕ × List ℕ)) → q x.0 ≡ false → FoundIn xs f → FoundIn (x ∷ xs) f
  past_one x xs (Some y) h f =
      record { sized = f.sized; has = f.has; body = f.body; is = ap (λ (z : Bool). cond z (some x) (lookup q xs)) h ∙ f.is }
  past_one x xs None h f = ap (λ (z : Bool). cond z (some x) (lookup q xs)) h ∙ f

  module _ (hit : (es : List ℕ) → key_is key es ≡ q (r.head es)) (own : (es : List ℕ) → r.head (part 0 r.width es) ≡ r.head es) where
    pub found_in : (n : ℕ) (s : S) (es bs : List ℕ) → r.width * n ≤ length es → rows_to r w any n s es bs ≡ true →
        FoundIn (rows_of r d n es bs) (entry_from r.width key n es bs)
    unfolding entry_from rows_of
    found_in zero s es bs l h = refl
    found_in (suc n) s es bs l h =
        let k = body_length r es in
        let f = first r w any (suc n) s es bs (omega arith) h in
        let more = rw (sub-one (suc n)) at f.more in
        go (key_is key es) refl (omega (arith, l, mul-suc r.width n)) f.body (rows_of r d n (rest r.width es) (rest k bs))
        (entry_from r.width key n (rest r.width es) (rest k bs))
        (found_in n (r.next es) (rest r.width es) (rest k bs) (omega (arith, l, mul-suc r.width n, length_rest r.width es)) more)
      where
        go : (z : Bool) → key_is key es ≡ z → r.width ≤ length es → w (r.head es) (part 0 (body_length r es) bs) ≡ true →
            (ys : List (H × A)) (f : Maybe (List ℕ × List ℕ)) → FoundIn ys f →
            FoundIn ((r.head es, d (r.head es) (part 0 (body_length r es) bs)) ∷ ys)
            (cond z (Some (part 0 r.width es, part 0 (body_length r es) bs)) f)
        go true e room body ys f i =
            record {
              sized = length_part 0 r.width es room ∙ omega arith;
              has = hit (part 0 r.width es) ∙ ap q (own es) ∙ sym (hit es) ∙ e;
              body = rw (own es) body;
              is = rw (sym (hit es) ∙ e, own es) refl;
            }
        go false e room body ys f i = past_one (r.head es, d (r.head es) (part 0 (body_length r es) bs)) ys f (sym (hit es) ∙ e) i

-- The same in the bytes of a schema: where the entry stands that was found, and where its body. It passes its own test.
module _ {S H A : Type 0} (r : Row S H) (w : H → List ℕ → Bool) (d : H → List ℕ → A) (key : Key) (q : H → Bool) (b : List ℕ) where
  -- The entry at i, whose body is from a to e, is the one of the rows.
  pub record RowAt (xs : List (H × A)) (i a e : ℕ) : Type 0 where
    pub room : i + r.width ≤ length b
    pub order : a ≤ e
    pub inside : e ≤ length b
    pub low : S
    pub fits : r.ok low (rest i b) ≡ true
    pub has : key_is key (rest i b) ≡ true
    pub body : w (r.head (rest i b)) (part a e b) ≡ true
    pub is : lookup q xs ≡ some (r.head (rest i b), d (r.head (rest i b)) (part a e b))

  -- The bytes y of an entry and its body stand there.
  pub record BytesAt (xs : List (H × A)) (y : List ℕ × List ℕ) : Type 0 where
    pub i : ℕ
    pub a : ℕ
    pub e : ℕ
    pub row : RowAt xs i a e
    pub entry : y.0 ≡ part i (i + r.width) b
    pub bytes : y.1 ≡ part a e b

  -- What a search says of the rows.
  abbrev pub FoundAt : List (H × A) → Maybe (List ℕ × List ℕ) → Type 0
  FoundAt xs (Some y) = BytesAt xs y
  FoundAt xs None = lookup q xs ≡ none

  past-row : (x : H × A) (xs : List (H × A)) (f : Maybe (List ℕ × List ℕ)) → q x.0 ≡ false → FoundAt xs f → FoundAt (x ∷ xs) f
  past-row x xs (Some y) h f =
      record {
        i = f.i;
        a = f.a;
        e = f.e;
        row =
            record {
              room = f.row.room;
              order = f.row.order;
              inside = f.row.inside;
              low = f.row.low;
              fits = f.row.fits;
              has = f.row.has;
              body = f.row.body;
              is = ap (λ (z : Bool). cond z (some x) (lookup q xs)) h ∙ f.row.is;
            };
        entry = f.entry;
        bytes = f.bytes;
      }
  past-row x xs None h f = ap (λ (z : Bool). cond z (some x) (lookup q xs)) h ∙ f

  module _ (hit : (es : List ℕ) → key_is key es ≡ q (r.head es)) where
    pub found-at : (n : ℕ) (s : S) (at start : ℕ) → at + r.width * n ≤ length b → start ≤ length b → rows_to r w any n s (rest at b) (rest start b) ≡ true →
        FoundAt (rows_of r d n (rest at b) (rest start b)) (entry_from r.width key n (rest at b) (rest start b))
    unfolding entry_from rows_of
    found-at zero s at start l g h = refl
    found-at (suc n) s at start l g h =
        let es = rest at b in
        let k = body_length r es in
        let f = first r w any (suc n) s es (rest start b) (omega arith) h in
        let fit : start + k ≤ length b = omega (arith, f.inside, length_rest start b) in
        let more = rw (sub-one (suc n), rest-rest at r.width b, rest-rest start k b) at f.more in
        let sized : at + r.width + r.width * n ≤ length b = omega (arith, l, mul-suc r.width n) in
        let room : at + r.width ≤ length b = omega (arith, sized) in
        rw (rest-rest at r.width b, rest-rest start k b, part-rest start k b, part-rest at r.width b)
        (go (key_is key es) refl room fit f.fits (rw (part-rest start k b) at f.body) (rows_of r d n (rest (at + r.width) b) (rest (start + k) b))
        (entry_from r.width key n (rest (at + r.width) b) (rest (start + k) b))
        (found-at n (r.next es) (at + r.width) (start + k) sized fit more))
      where
        go : (z : Bool) → key_is key (rest at b) ≡ z → at + r.width ≤ length b → start + body_length r (rest at b) ≤ length b → r.ok s (rest at b) ≡ true
            → w (r.head (rest at b)) (part start (start + body_length r (rest at b)) b) ≡ true → (ys : List (H × A)) (f : Maybe (List ℕ × List ℕ)) →
            FoundAt ys f →
            FoundAt ((r.head (rest at b), d (r.head (rest at b)) (part start (start + body_length r (rest at b)) b)) ∷ ys)
            (cond z (Some (part at (at + r.width) b, part start (start + body_length r (rest at b)) b)) f)
        go true e room fit ok body ys f i =
            record {
              i = at;
              a = start;
              e = start + body_length r (rest at b);
              row =
                  record {
                    room = room;
                    order = omega arith;
                    inside = fit;
                    low = s;
                    fits = ok;
                    has = e;
                    body = body;
                    is = rw (sym (hit (rest at b)) ∙ e) refl;
                  };
              entry = refl;
              bytes = refl;
            }
        go false e room fit ok body ys f i =
            past-row (r.head (rest at b), d (r.head (rest at b)) (part start (start + body_length r (rest at b)) b)) ys f (sym (hit (rest at b)) ∙ e) i
