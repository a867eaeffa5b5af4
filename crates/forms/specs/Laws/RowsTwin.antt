-- Tables as cedar reads them, and as the code walks them: one law for every row. Assumes nothing.
use Rattle.std.specs.Prelude.{◌≡◌, Bool, true, false, ◌&&◌, leb, length, take, drop}
use Rattle.std.proofs.Math.Path.{refl, ap}
use Rattle.std.proofs.Common.{ap₂, sym, ◌∙◌, mul-zero, mul-suc, arith, length-drop, leb-true}
use mathlib.Core.List.{List, ◌∷◌}
use Rattle.std.proofs.Math.Bool.{and-false, and_assoc}
use Rattle.std.proofs.Math.Option.{Option}
use Prim.Native.Nat.{ℕ, zero, suc, ◌+◌, ◌*◌, ◌-◌, ◌≤◌}
use Rattle.std.proofs.Math.Dec.{leb-zero}
use Rattle.std.proofs.Math.Seq.{drop-drop}
use Rattle.cedar.specs.Table.{rows, parse_counted}
use Rattle.forms.specs.Parts.{part, rest, rd}
use Rattle.forms.specs.Rows.{Row, body_length, rows_to, rows_of, left_of, none_left, table_end, table_fits, table_of}
use Rattle.forms.specs.Laws.Parts.{and_same, rest-is, part-is, drop-take}
use Rattle.forms.specs.Laws.Sure.{Sure, sure-same, sure-some-of, bind_to, map-to, guard-to, finish-to, word_at, leb-and, leb-same}

module _ {S H : Type 0} where
  -- A row of ours and an entry's reader say the same.
  pub record Reads (r : Row S H) (read : List ℕ → Option (H × ℕ × List ℕ)) (next : S → H → Option S) : Type 0 where
    -- What the entry asks by itself, and what it asks of the one before.
    pub good : List ℕ → Bool
    pub after : S → List ℕ → Bool
    pub ok-is : (s : S) (es : List ℕ) → r.ok s es ≡ (good es && after s es)
    pub reads : (es : List ℕ) → Sure (read es) (leb r.width (length es) && good es) (r.head es, body_length r es, drop r.width es)
    pub follows : (s : S) (es : List ℕ) → Sure (next s (r.head es)) (after s es) (r.next es)

  -- An entry is read from its own bytes.
  pub record Local (r : Row S H) : Type 0 where
    pub ok_at : (s : S) (k : ℕ) (es : List ℕ) → r.width ≤ k → r.ok s (take k es) ≡ r.ok s es
    pub next-at : (k : ℕ) (es : List ℕ) → r.width ≤ k → r.next (take k es) ≡ r.next es
    pub head_at : (k : ℕ) (es : List ℕ) → r.width ≤ k → r.head (take k es) ≡ r.head es
    pub length_at : (k : ℕ) (es : List ℕ) → r.width ≤ k → body_length r (take k es) ≡ body_length r es

shuffle : (a g f l w b r : Bool) → (a && g) && (f && (l && (w && (b && r)))) ≡ (a && b) && ((g && f) && (l && (w && r)))
shuffle false g f l w b r = refl
shuffle true false f l w b r = sym (and-false b)
shuffle true true false l w b r = sym (and-false b)
shuffle true true true false w b r = sym (and-false b)
shuffle true true true true false b r = sym (and-false b)
shuffle true true true true true b r = refl

more : (w n : ℕ) → w ≤ w * suc n
more w n = rw (mul-suc w n) (omega arith)

rest-take : (w n : ℕ) (es : List ℕ) → rest w (take (w * suc n) es) ≡ take (w * n) (rest w es)
rest-take w n es =
    let e : w * suc n - w ≡ w * n = rw (mul-suc w n) (omega arith) in
    rest-is w (take (w * suc n) es) ∙ drop-take w (w * suc n) es ∙ rw (e, rest-is w es) refl

-- Room for one more entry.
room : (w n : ℕ) (es : List ℕ) → leb w (length es) && leb (w * n) (length (drop w es)) ≡ leb (w * suc n) (length es)
room w n es =
    rw (length-drop w es, mul-suc w n)
    (leb-and w (length es) (w * n) (length es - w) (w * n + w) (length es) (λ h. (omega arith, omega arith)) (λ g h. omega arith))

module _ {S H A : Type 0} (r : Row S H) (w : H → List ℕ → Bool) (d : H → List ℕ → A) where
  -- What is left is tested last.
  pub rows_last : (e : List ℕ → Bool) (n : ℕ) (s : S) (es bs : List ℕ) → rows_to r w e n s es bs ≡ (rows_to r w (λ _. true) n s es bs && e (left_of r n es bs))
  unfolding rows_to left_of
  rows_last e zero s es bs = refl
  rows_last e (suc n) s es bs =
      let k = body_length r es in
      ap (λ (z : Bool). r.ok s es && (leb k (length bs) && (w (r.head es) (part 0 k bs) && z))) (rows_last e n (r.next es) (rest r.width es) (rest k bs))
      ∙ rw (and_assoc (r.ok s es), and_assoc (leb k (length bs)), and_assoc (w (r.head es) (part 0 k bs))) refl

  pub rows-length : (n : ℕ) (es bs : List ℕ) → length (rows_of r d n es bs) ≡ n
  unfolding rows_of
  rows-length zero es bs = refl
  rows-length (suc n) es bs = ap suc (rows-length n (rest r.width es) (rest (body_length r es) bs))

  -- Only the entries' own bytes count.
  module _ (l : Local r) where
    pub rows-within : (e : List ℕ → Bool) (n : ℕ) (s : S) (es bs : List ℕ) → rows_to r w e n s (take (r.width * n) es) bs ≡ rows_to r w e n s es bs
    unfolding rows_to
    rows-within e zero s es bs = refl
    rows-within e (suc n) s es bs =
        let h = more r.width n in
        let k = r.width * suc n in
        rw (l.ok_at s k es h, l.length_at k es h, l.head_at k es h, l.next-at k es h, rest-take r.width n es)
        (ap (λ (z : Bool). r.ok s es && (leb (body_length r es) (length bs) && (w (r.head es) (part 0 (body_length r es) bs) && z)))
        (rows-within e n (r.next es) (rest r.width es) (rest (body_length r es) bs)))

    pub rows-of-within : (n : ℕ) (es bs : List ℕ) → rows_of r d n (take (r.width * n) es) bs ≡ rows_of r d n es bs
    unfolding rows_of
    rows-of-within zero es bs = refl
    rows-of-within (suc n) es bs =
        let h = more r.width n in
        let k = r.width * suc n in
        rw (l.length_at k es h, l.head_at k es h, rest-take r.width n es)
        (ap {B = List (H × A)} (λ z. (r.head es, d (r.head es) (part 0 (body_length r es) bs)) ∷ z)
        (rows-of-within n (rest r.width es) (rest (body_length r es) bs)))

  module _ (read : List ℕ → Option (H × ℕ × List ℕ)) (next : S → H → Option S) (p : H → List ℕ → Option A) (t : Reads r read next)
      (body : (h : H) (b : List ℕ) → Sure (p h b) (w h b) (d h b)) where
    pub rows-twin : (n : ℕ) (s : S) (es bs : List ℕ) →
        Sure (rows read next p n s es bs) (leb (r.width * n) (length es) && rows_to r w (λ _. true) n s es bs) (
          rows_of r d n es bs,
          drop (r.width * n) es,
          left_of r n es bs,
        )
    unfolding rows_to rows_of left_of
    rows-twin zero s es bs = sure-same (sure-some-of _) (rw (mul-zero r.width, leb-zero (length es)) refl) (rw (mul-zero r.width) refl)
    rows-twin (suc n) s es bs =
        let k = body_length r es in
        sure-same
        (bind_to _ (t.reads es) λ q₁.
        bind_to _ (t.follows s es) λ q₂.
        bind_to _ (guard-to (leb k (length bs))) λ q₃.
        bind_to _ (body (r.head es) (take k bs)) λ q₄.
        map-to (λ y. ((r.head es, d (r.head es) (take k bs)) ∷ y.0, y.1, y.2)) (rows-twin n (r.next es) (drop r.width es) (drop k bs)))
        (shuffle (leb r.width (length es)) (t.good es) (t.after s es) (leb k (length bs)) (w (r.head es) (take k bs))
        (leb (r.width * n) (length (drop r.width es)))
        (rows_to r w (λ _. true) n (r.next es) (drop r.width es) (drop k bs))
        ∙ rw (rest-is r.width es, rest-is k bs, part-is k bs, t.ok-is s es, room r.width n es) refl)
        (let e : r.width + r.width * n ≡ r.width * suc n = rw (mul-suc r.width n) (omega arith) in
        rw (rest-is r.width es, rest-is k bs, part-is k bs, drop-drop (r.width * n) r.width es, e) refl)

    -- A table with no byte over.
    pub table-twin : Local r → (s : S) (c : ℕ) (b : List ℕ) → Sure (parse_counted read next p r.width s (drop c b)) (table_fits r w s c b) (table_of r d c b)
    table-twin l s c b =
        let n = rd b c in
        let es = drop (c + 2) b in
        let bs = drop (r.width * n) es in
        let e : c + 2 + r.width * n - (c + 2) ≡ r.width * n = omega arith in
        let f : rest (table_end r c b) b ≡ bs = rest-is (table_end r c b) b ∙ sym (drop-drop (r.width * n) (c + 2) b) in
        sure-same
        (bind_to _ (word_at b c) λ q₁.
        bind_to _ (rows-twin n s es bs) λ q₂.
        finish-to (rows_of r d n es bs) (left_of r n es bs))
        (and_same (leb (c + 2) (length b)) λ q.
        let a : leb (r.width * n) (length es) ≡ leb (table_end r c b) (length b) =
        rw (length-drop (c + 2) b) (leb-same (r.width * n) (length b - (c + 2)) (table_end r c b) (length b) (λ h. omega (arith, leb-true (c + 2) (length b) q))
        (λ h. omega arith)) in
        let z : (rows_to r w (λ _. true) n s es bs && none_left (left_of r n es bs)) ≡ rows_to r w none_left n s (part (c + 2) (table_end r c b) b)
        (rest (table_end r c b) b) =
        sym (rows_last none_left n s es bs) ∙ sym (rw (f, e) (rows-within l none_left n s es bs)) in
        and_assoc (leb (r.width * n) (length es)) (rows_to r w (λ _. true) n s es bs) (none_left (left_of r n es bs))
        ∙ ap₂ (λ (x y : Bool). x && y) a z)
        (sym (rw (f, e) (rows-of-within l n es bs)))
