-- Writing at the front of a buffer, and in parts of it that are lent one after the other. Assumes nothing.
use Rattle.std.specs.Prelude.{◌≡◌, refl, List, [], ◌∷◌, ◌++◌, ℕ, suc, ◌+◌, ◌-◌, ◌≤◌, ◌<◌, length, take, drop, get_or, set}
use Rattle.std.proofs.Common.{ap, sym, ◌∙◌, append_assoc, append-nil, arith, add-one, length-append, length-drop, drop_of_length-le, take-append-drop, take_all, drop-drop, length-take-le, drop-cons, take-suc}
use Rattle.std.proofs.Math.Seq.{take-append_seam, drop-append_seam, append_snoc}
use Rattle.std.proofs.lemmas.List.{drop-append-le, set_at}
use Rattle.cedar.specs.Outcome.{over}
use Rattle.forms.specs.Parts.{part, rest}
use Rattle.forms.specs.Laws.Parts.{length_rest, part-is, rest-is}
use Rattle.writing.specs.Written.{Written}

-- The buffer after a part of it, from `at` on, was lent and came back as ys.
abbrev pub back : ℕ → List ℕ → List ℕ → List ℕ
back at xs ys = take at xs ++ (ys ++ drop (length xs - at) (drop at xs))

pub length_over : (w o : List ℕ) → length w ≤ length o → length (over w o) ≡ length o
length_over w o h = omega (arith, length-append w (drop (length w) o), length-drop (length w) o)

-- What was written at the front is there.
pub over-front : (w o xs : List ℕ) (n : ℕ) → xs ≡ over w o → n ≡ length w → part 0 n xs ≡ w
over-front w o xs n e l = part-is n xs ∙ rw (e, l) (take-append_seam w (drop (length w) o))

pub written-length : {w o xs : List ℕ} {r : ℕ} → Written w o xs r → length w ≤ length o → length xs ≡ length o
written-length {w} {o} t h = ap length t.bytes ∙ length_over w o h

-- The copy of i bytes of a slice, and of one more.
pub copy_more : (src o xs : List ℕ) (i : ℕ) → xs ≡ over (take i src) o → i < length src → length src ≤ length o →
    set xs i (get_or src i 0) ≡ over (take (i + 1) src) o
copy_more src o xs i e h g =
    let l : length (take i src) ≡ i = length-take-le i src (omega arith) in
    let m : length (take (suc i) src) ≡ suc i = length-take-le (suc i) src (omega arith) in
    let f : xs ≡ take i src ++ (get_or o i 0 ∷ drop (suc i) o) = e ∙ rw (l, drop-cons o i 0 (omega arith)) refl in
    ap (λ (z : List ℕ). set z i (get_or src i 0)) f
    ∙ set_at (take i src) (get_or o i 0) (drop (suc i) o) (get_or src i 0) i l
    ∙ rw (add-one i, m, take-suc src i 0 h) (sym (append_snoc (take i src) (get_or src i 0) (drop (suc i) o)))

pub copy-length : (src o xs : List ℕ) (i : ℕ) → xs ≡ over (take i src) o → i ≤ length src → length src ≤ length o → length xs ≡ length o
copy-length src o xs i e h g = ap length e ∙ length_over (take i src) o (omega (arith, length-take-le i src h))

pub copy-end : (src o xs : List ℕ) (i : ℕ) → xs ≡ over (take i src) o → i ≤ length src → length src ≤ i → xs ≡ over src o
copy-end src o xs i e h g = e ∙ ap (λ (z : List ℕ). over z o) (take_all i src g)

-- p stands at the front, and w is written over what is between p and q.
pub over-within : (o p m q w xs ys : List ℕ) (at : ℕ) → xs ≡ over (p ++ (m ++ q)) o → at ≡ length p → ys ≡ over w (rest at xs) → length w ≤ length m →
    length p + length m + length q ≤ length o →
    back at xs ys ≡ over (p ++ ((w ++ drop (length w) m) ++ q)) o
over-within o p m q w xs ys at f e g h k =
    let tail = drop (length (p ++ (m ++ q))) o in
    let s : xs ≡ p ++ (m ++ (q ++ tail)) = f ∙ rw (append_assoc p (m ++ q) tail, append_assoc m q tail) refl in
    let d : drop at xs ≡ m ++ (q ++ tail) = rw (e, s) (drop-append_seam p (m ++ (q ++ tail))) in
    let t : take at xs ≡ p = rw (e, s) (take-append_seam p (m ++ (q ++ tail))) in
    let r : rest at xs ≡ m ++ (q ++ tail) = rest-is at xs ∙ d in
    let l : length xs ≡ length p + length (m ++ (q ++ tail)) = ap length s ∙ length-append p (m ++ (q ++ tail)) in
    let z : drop (length xs - at) (drop at xs) ≡ [] = rw d (drop_of_length-le (m ++ (q ++ tail)) {i = length xs - at} (omega arith)) in
    let v : length (p ++ ((w ++ drop (length w) m) ++ q)) ≡ length (p ++ (m ++ q)) =
    simp (length-append, length-drop) (omega arith) in
    rw (
      t,
      z,
      append-nil ys,
      g,
      r,
      drop-append-le (length w) m (q ++ tail) h,
      v,
      append_assoc p ((w ++ drop (length w) m) ++ q) tail,
      append_assoc (w ++ drop (length w) m) q tail,
      append_assoc w (drop (length w) m) (q ++ tail),
    ) refl

-- p stands at the front, and a writer was lent the part from `at` on.
pub over-at : (o p w xs ys : List ℕ) (at : ℕ) → xs ≡ over p o → at ≡ length p → ys ≡ over w (rest at xs) → length p + length w ≤ length o →
    back at xs ys ≡ over (p ++ w) o
over-at o p w xs ys at f e g h =
    let len : length xs ≡ length o = ap length f ∙ length_over p o (omega arith) in
    let d : drop at xs ≡ drop (length p) o = rw (e, f) (drop-append_seam p (drop (length p) o)) in
    let t : take at xs ≡ p = rw (e, f) (take-append_seam p (drop (length p) o)) in
    let r : rest at xs ≡ drop (length p) o = rest-is at xs ∙ d in
    let z : drop (length xs - at) (drop at xs) ≡ [] = rw d
    (drop_of_length-le (drop (length p) o) {i = length xs - at} (omega (arith, length-drop (length p) o))) in
    rw (t, z, append-nil ys, g, r, drop-drop (length w) (length p) o, length-append p w, append_assoc) refl

pub written_at : (o p w xs ys : List ℕ) (at x : ℕ) → xs ≡ over p o → at ≡ length p → Written w (rest at xs) ys x → length p + length w ≤ length o →
    Written (p ++ w) o (back at xs ys) (x + at)
written_at o p w xs ys at x f e g h = record { bytes = over-at o p w xs ys at f e g.bytes h; many = omega (arith, g.many, length-append p w) }

-- A buffer whose front was written, and then the part from `at` on.
module _ {p o xs : List ℕ} {at : ℕ} (t : Written p o xs at) where
  pub written-more : {w ys : List ℕ} {r : ℕ} → Written w (rest at xs) ys r → length p + length w ≤ length o → Written (p ++ w) o (back at xs ys) (at + r)
  written-more {w} {ys} {r} u h =
      record {
        bytes = over-at o p w xs ys at t.bytes t.many u.bytes h;
        many = omega (arith, t.many, u.many, length-append p w);
      }

  -- What is written lies inside.
  pub written-inside : at ≤ length xs
  written-inside = omega (arith, t.many, ap length t.bytes, length-append p (drop (length p) o))

  -- There is room for k more bytes behind the front.
  pub written-left : (k : ℕ) → length p + k ≤ length o → (at + k ≤ length xs) × (k ≤ length (rest at xs)) × (at + k ≤ length o)
  written-left k h =
      let e = written-length t (omega arith) in
      (omega (arith, t.many), omega (arith, t.many, length_rest at xs), omega (arith, t.many))

  -- The room that is left behind the front.
  pub written-room : length p ≤ length o → length (rest at xs) ≡ length o - length p
  written-room h = omega (arith, length_rest at xs, written-length t h, t.many)

module _ {o : List ℕ} where
  pub written_one : {xs : List ℕ} (a : ℕ) → xs ≡ over (a ∷ []) o → Written (a ∷ []) o xs 1
  written_one a h = record { bytes = h; many = refl }

  pub written_same : {w v xs : List ℕ} {r : ℕ} → w ≡ v → Written w o xs r → Written v o xs r
  written_same {w} {v} {xs} {r} e t = rw (← e) t

-- The part that a writer is lent.
pub room_at : (o p xs : List ℕ) (at : ℕ) → xs ≡ over p o → at ≡ length p → length p ≤ length o → (at ≤ length xs) × (length (rest at xs) ≡ length o - at)
room_at o p xs at f e h =
    let l : length xs ≡ length o = ap length f ∙ length_over p o h in
    (omega arith, omega (arith, length_rest at xs))

-- `all` is to be written over o: its first `at` bytes are, and `ahead` is left.
pub record Writing (all ahead o : List ℕ) (at : ℕ) (out : List ℕ) : Type 0 where
  pub done : List ℕ
  pub splits : all ≡ done ++ ahead
  pub at-is : at ≡ length done
  pub out-is : out ≡ over done o
  pub room : length all ≤ length o

pub writing_start : (all o : List ℕ) → length all ≤ length o → Writing all all o 0 o
writing_start all o r = record { done = []; splits = refl; at-is = refl; out-is = refl; room = r }

module _ {all ahead o : List ℕ} {at : ℕ} {out : List ℕ} (i : Writing all ahead o at out) where
  pub writing-room : length i.done + length ahead ≤ length o
  writing-room = omega (arith, i.room, ap length i.splits, length-append i.done ahead)

  pub writing-length : length out ≡ length o
  writing-length = ap length i.out-is ∙ length_over i.done o (omega (arith, writing-room))

  pub writing-at : at + length ahead ≤ length out
  writing-at = omega (arith, writing-room, writing-length, i.at-is)

  pub writing-end : ahead ≡ [] → Written all o out at
  writing-end z =
      let d : all ≡ i.done = i.splits ∙ rw z (append-nil i.done) in
      record { bytes = rw d i.out-is; many = rw d i.at-is }

  pub writing_more : (w ahead' ys : List ℕ) (x : ℕ) → ahead ≡ w ++ ahead' → Written w (rest at out) ys x → Writing all ahead' o (at + x) (back at out ys)
  writing_more w ahead' ys x s t =
      record {
        done = i.done ++ w;
        splits = i.splits ∙ rw (s, append_assoc) refl;
        at-is = omega (arith, length-append i.done w, i.at-is, t.many);
        out-is = over-at o i.done w out ys at i.out-is i.at-is t.bytes (omega (arith, writing-room, ap length s, length-append w ahead'));
        room = i.room;
      }

-- A table is to be written over o, its entries es and then its bodies bs: those up to `at` and `pos` are, es' and bs' are left.
pub record Filling (es bs es' bs' o : List ℕ) (at pos : ℕ) (out : List ℕ) : Type 0 where
  pub done : List ℕ
  pub bodies : List ℕ
  pub gap : List ℕ
  pub entries-are : es ≡ done ++ es'
  pub bodies-are : bs ≡ bodies ++ bs'
  pub gap_is : length gap ≡ length es'
  pub at-is : at ≡ length done
  pub pos-is : pos ≡ length es + length bodies
  pub out-is : out ≡ over (done ++ (gap ++ bodies)) o
  pub room : length es + length bs ≤ length o

pub filling-start : (es bs o : List ℕ) (pos : ℕ) → pos ≡ length es → length es + length bs ≤ length o → Filling es bs es bs o 0 pos o
filling-start es bs o pos e r =
    let l : length (take (length es) o) ≡ length es = length-take-le (length es) o (omega arith) in
    record {
      done = [];
      bodies = [];
      gap = take (length es) o;
      entries-are = refl;
      bodies-are = refl;
      gap_is = l;
      at-is = refl;
      pos-is = omega arith;
      out-is = rw (append-nil (take (length es) o), l) (sym (take-append-drop (length es) o));
      room = r;
    }

module _ {es bs es' bs' o : List ℕ} {at pos : ℕ} {out : List ℕ} (i : Filling es bs es' bs' o at pos out) where
  filling-sums : (length es ≡ length i.done + length es') × (length bs ≡ length i.bodies + length bs')
  filling-sums = (ap length i.entries-are ∙ length-append i.done es', ap length i.bodies-are ∙ length-append i.bodies bs')

  filling-front : length (i.done ++ (i.gap ++ i.bodies)) ≡ pos
  filling-front = simp length-append (omega (arith, i.pos-is, i.gap_is, filling-sums))

  pub filling-length : length out ≡ length o
  filling-length = ap length i.out-is ∙ length_over (i.done ++ (i.gap ++ i.bodies)) o (omega (arith, filling-front, i.pos-is, filling-sums, i.room))

  pub filling-at : at + length es' ≤ pos
  filling-at = omega (arith, i.at-is, i.pos-is, filling-sums)

  pub filling-pos : pos + length bs' ≤ length out
  filling-pos = omega (arith, i.pos-is, filling-sums, i.room, filling-length)

  -- A body.
  pub filling-body : (w rest' ys : List ℕ) (x : ℕ) → bs' ≡ w ++ rest' → Written w (rest pos out) ys x → Filling es bs es' rest' o at (pos + x) (back pos out ys)
  filling-body w rest' ys x s t =
      record {
        done = i.done;
        bodies = i.bodies ++ w;
        gap = i.gap;
        entries-are = i.entries-are;
        bodies-are = i.bodies-are ∙ rw (s, append_assoc) refl;
        gap_is = i.gap_is;
        at-is = i.at-is;
        pos-is = omega (arith, i.pos-is, t.many, length-append i.bodies w);
        out-is =
            over-at o (i.done ++ (i.gap ++ i.bodies)) w out ys pos i.out-is (sym filling-front) t.bytes
            (omega (arith, filling-front, i.pos-is, filling-sums, i.room, ap length s, length-append w rest'))
            ∙
            ap (λ (z : List ℕ). over z o)
            (append_assoc i.done (i.gap ++ i.bodies) w ∙ ap (λ (z : List ℕ). i.done ++ z) (append_assoc i.gap i.bodies w));
        room = i.room;
      }

  -- An entry.
  pub filling-entry : (w rest' ys : List ℕ) (x : ℕ) → es' ≡ w ++ rest' → x ≡ length w → ys ≡ over w (rest at out) →
      Filling es bs rest' bs' o (at + x) pos (back at out ys)
  filling-entry w rest' ys x s m t =
      let l : length es' ≡ length w + length rest' = ap length s ∙ length-append w rest' in
      record {
        done = i.done ++ w;
        bodies = i.bodies;
        gap = drop (length w) i.gap;
        entries-are = i.entries-are ∙ rw (s, append_assoc) refl;
        bodies-are = i.bodies-are;
        gap_is = omega (arith, length-drop (length w) i.gap, i.gap_is, l);
        at-is = omega (arith, i.at-is, length-append i.done w, m);
        pos-is = i.pos-is;
        out-is =
            over-within o i.done i.gap i.bodies w out ys at i.out-is i.at-is t (omega (arith, i.gap_is, l))
            (omega (arith, i.gap_is, filling-sums, i.room))
            ∙ ap (λ (z : List ℕ). over z o) (ap (λ (z : List ℕ). i.done ++ z) (append_assoc w (drop (length w) i.gap) i.bodies) ∙
            sym (append_assoc i.done w (drop (length w) i.gap ++ i.bodies)));
        room = i.room;
      }

  pub filling-end : es' ≡ [] → bs' ≡ [] → Written (es ++ bs) o out pos
  filling-end p q =
      let d : es ≡ i.done = i.entries-are ∙ rw p (append-nil i.done) in
      let b : bs ≡ i.bodies = i.bodies-are ∙ rw q (append-nil i.bodies) in
      let g : i.gap ≡ [] = none i.gap (i.gap_is ∙ ap length p) in
      record { bytes = i.out-is ∙ rw (g, d, b) refl; many = omega (arith, i.pos-is, ap length b, length-append es bs) }
    where
      none : (l : List ℕ) → length l ≡ 0 → l ≡ []
      none [] h = refl
      none (x ∷ l) h = absurd (omega arith)
