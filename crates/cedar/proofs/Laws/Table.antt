-- Laws of tables, over any entry, order and body: a table that is read is laid out so, and one that is laid out so is read.
use Rattle.std.specs.Prelude.{ℕ, zero, suc, ◌+◌, ◌*◌, ◌≤◌, List, [], ◌∷◌, ◌++◌, ◌≡◌, refl, leb, length, take, drop}
use Rattle.std.proofs.Common.{mul-zero, mul-suc, add_comm, arith, append_assoc, append-nil, sym, ap, ap₂, ◌∙◌, subst, leb→le, le→leb, length-append, take-append-drop, drop_at, length-take-le}
use Rattle.std.proofs.Math.Nat.{mod-add-div'}
use Rattle.std.proofs.Math.Option.{Option, some, some-injective}
use Rattle.std.proofs.Math.Seq.{take-append_seam, drop-append_seam}
use Rattle.cedar.specs.Bytes.{u16, word, ◌>>=◌, guard, finish, Bytes}
use Rattle.cedar.specs.Table.{rows, parse_counted, ascending, read_length}
use Rattle.cedar.proofs.Laws.Encoders.{heads, tails}
use Rattle.cedar.proofs.Laws.Tests.{cond-case, none-some, T→true}
use Rattle.cedar.proofs.Laws.Bytes.{Reads, Bytes-take, Bytes-drop, bind-some, bind-at, guard-some, guard-yes, finish-some, word_some, word-u16}

-- `read` takes off the front just the entries that `write` puts there, a head and a length that fit.
pub record ReadsEntry {H : Type 0} (write : H → ℕ → List ℕ) (Fit : H → ℕ → Type 0) (read : List ℕ → Option (H × ℕ × List ℕ)) : Type 0 where
  pub into : (b : List ℕ) (x : H × ℕ × List ℕ) → Bytes b → read b ≡ some x → (write x.0 x.1 ++ x.2 ≡ b) × Bytes x.2 × Fit x.0 x.1
  pub back : (h : H) (n : ℕ) (b : List ℕ) → Fit h n → read (write h n ++ b) ≡ some (h, n, b)

-- Entries of one width: where the bodies begin.
pub length-heads : {H A : Type 0} (write : H → ℕ → List ℕ) (e : A → List ℕ) (width : ℕ) → ((h : H) (n : ℕ) → length (write h n) ≡ width) → (xs : List (H × A)) →
    length (heads write e xs) ≡ width * length xs
length-heads write e width w [] = sym (mul-zero width)
length-heads write e width w (x ∷ xs) = length-append (write x.0 (length (e x.1))) (heads write e xs)
    ∙ ap₂ (λ (i j : ℕ). i + j) (w x.0 (length (e x.1))) (length-heads write e width w xs) ∙ add_comm width (width * length xs) ∙
    sym (mul-suc width (length xs))

module _ {H S A : Type 0} (next : S → H → Option S) (e : A → List ℕ) (Fit : H → ℕ → Type 0) (Good : H → A → Type 0) where
  -- Each head may follow the one before and fits its body's length; each body is good.
  abbrev pub Follow : S → List (H × A) → Type 0
  Follow s [] = Unit {0}
  Follow s (x ∷ xs) = (s₁ : S) × (next s x.0 ≡ some s₁) × Fit x.0 (length (e x.1)) × Good x.0 x.1 × Follow s₁ xs

module _ {H S A : Type 0} (write : H → ℕ → List ℕ) (read : List ℕ → Option (H × ℕ × List ℕ)) (next : S → H → Option S) (e : A → List ℕ)
    (p : H → List ℕ → Option A)
    (Fit : H → ℕ → Type 0) (Good : H → A → Type 0) (entry : ReadsEntry write Fit read) (body : (h : H) → Reads e (Good h) (p h)) where
  -- What is read off two lists stood in front of what is left of them.
  pub rows-some : (c : ℕ) (s : S) (es bs : List ℕ) (r : List (H × A) × List ℕ × List ℕ) → Bytes es → Bytes bs → rows read next p c s es bs ≡ some r
      → (heads write e r.0 ++ r.1 ≡ es) × (tails e r.0 ++ r.2 ≡ bs) × (length r.0 ≡ c) × Follow next e Fit Good s r.0 × Bytes r.1 ×
      Bytes r.2
  rows-some zero s es bs r he hb q =
      subst (λ (y : List (H × A) × List ℕ × List ℕ). (heads write e y.0 ++ y.1 ≡ es) × (tails e y.0 ++ y.2 ≡ bs) × (length y.0 ≡ 0) ×
      Follow next e Fit Good s y.0 × Bytes y.1 × Bytes y.2)
      (some-injective _ _ q) (refl, refl, refl, tt, he, hb)
  rows-some (suc c) s es bs r he hb q =
      bind-some (read es) _ q λ x ex q₁.
      bind-some (next s x.0) _ q₁ λ s₁ es₁ q₂.
      bind-some (guard (leb x.1 (length bs))) _ q₂ λ g eg q₃.
      bind-some (p x.0 (take x.1 bs)) _ q₃ λ a ea q₄.
      bind-some (rows read next p c s₁ x.2 (drop x.1 bs)) _ q₄ λ ys ey q₅.
      let (w, hr, fit) = entry.into es x he ex in
      let (a₁, a₂) = (body x.0).into (take x.1 bs) a (Bytes-take x.1 bs hb) ea in
      let (i₁, i₂, i₃, i₄, i₅, i₆) = rows-some c s₁ x.2 (drop x.1 bs) ys hr (Bytes-drop x.1 bs hb) ey in
      let lt : length (e a) ≡ x.1 = ap length a₁ ∙ length-take-le x.1 bs (leb→le x.1 (length bs) (guard-some (leb x.1 (length bs)) g eg)) in
      subst (λ (y : List (H × A) × List ℕ × List ℕ). (heads write e y.0 ++ y.1 ≡ es) × (tails e y.0 ++ y.2 ≡ bs) × (length y.0 ≡ suc c) ×
      Follow next e Fit Good s y.0 × Bytes y.1 × Bytes y.2)
      (some-injective _ _ q₅) (
        append_assoc (write x.0 (length (e a))) (heads write e ys.0) ys.1 ∙ ap₂ (λ (n : ℕ) (l : List ℕ). write x.0 n ++ l) lt i₁ ∙ w,
        append_assoc (e a) (tails e ys.0) ys.2 ∙ ap₂ (λ (u v : List ℕ). u ++ v) a₁ i₂ ∙ take-append-drop x.1 bs,
        ap suc i₃,
        (s₁, es₁, subst (Fit x.0) (sym lt) fit, a₂, i₄),
        i₅,
        i₆,
      )

  -- What stands in front of two lists is read off, and the rest is left.
  pub rows-enc : (s : S) (xs : List (H × A)) (es bs : List ℕ) → Follow next e Fit Good s xs →
      rows read next p (length xs) s (heads write e xs ++ es) (tails e xs ++ bs) ≡ some (xs, es, bs)
  rows-enc s [] es bs f = refl
  rows-enc s (x ∷ xs) es bs f =
      let c = e x.1 in
      let rest = tails e xs ++ bs in
      bind-at _ (ap read (append_assoc (write x.0 (length c)) (heads write e xs) es) ∙ entry.back x.0 (length c) (heads write e xs ++ es) f.2)
      ∙ bind-at _ f.1
      ∙ rw (append_assoc c (tails e xs) bs)
      (guard-yes (leb (length c) (length (c ++ rest))) _ (le→leb (length c) (length (c ++ rest)) (omega (arith, length-append c rest)))
      ∙ bind-at _ (ap (p x.0) (take-append_seam c rest) ∙ (body x.0).back x.1 f.3)
      ∙
      bind-at (λ (r : List (H × A) × List ℕ × List ℕ). some ((x.0, x.1) ∷ r.0, r.1, r.2))
      (ap (rows read next p (length xs) f.0 (heads write e xs ++ es)) (drop-append_seam c rest) ∙ rows-enc f.0 xs es bs f.4))

  -- A counted table is read just where it is laid out so, with no byte over.
  pub parse_counted-reads : (width : ℕ) → ((h : H) (n : ℕ) → length (write h n) ≡ width) → (s : S)
      → Reads (λ (xs : List (H × A)). u16 (length xs) ++ (heads write e xs ++ tails e xs)) (Follow next e Fit Good s) (parse_counted read next p width s)
  parse_counted-reads width wide s = record { into = into; back = back }
    where
      into : (b : List ℕ) (xs : List (H × A)) → Bytes b → parse_counted read next p width s b ≡ some xs →
          (u16 (length xs) ++ (heads write e xs ++ tails e xs) ≡ b) × Follow next e Fit Good s xs
      into b xs h q =
          bind-some (word b) _ q λ w ew q₁.
          bind-some (rows read next p w.0 s w.1 (drop (width * w.0) w.1)) _ q₁ λ r er q₂.
          let (v, hw) = word_some b w h ew in
          let (f, n) = finish-some r.0 r.2 q₂ in
          let (i₁, i₂, i₃, i₄, i₅, i₆) = rows-some w.0 s w.1 (drop (width * w.0) w.1) r hw (Bytes-drop (width * w.0) w.1 hw) er in
          let d : drop (width * w.0) w.1 ≡ r.1 = ap₂ (λ (k : ℕ) (l : List ℕ). drop (width * k) l) (sym i₃) (sym i₁) ∙
          drop_at (heads write e r.0) r.1 (width * length r.0) (length-heads write e width wide r.0) in
          let t : tails e r.0 ≡ r.1 = sym (append-nil (tails e r.0)) ∙ ap (λ (l : List ℕ). tails e r.0 ++ l) (sym n) ∙ i₂ ∙ d in
          subst (λ (y : List (H × A)). (u16 (length y) ++ (heads write e y ++ tails e y) ≡ b) × Follow next e Fit Good s y) f (rw (i₃, t, i₁) v, i₄)

      back : (xs : List (H × A)) → Follow next e Fit Good s xs →
          parse_counted read next p width s (u16 (length xs) ++ (heads write e xs ++ tails e xs)) ≡ some xs
      back xs f =
          bind-at (λ (w : ℕ × List ℕ). rows read next p w.0 s w.1 (drop (width * w.0) w.1) >>= λ r. finish r.0 r.2)
          (word-u16 (length xs) (heads write e xs ++ tails e xs))
          ∙ ap (λ (l : List ℕ). rows read next p (length xs) s (heads write e xs ++ tails e xs) l >>= λ r. finish r.0 r.2)
          (drop_at (heads write e xs) (tails e xs) (width * length xs) (length-heads write e width wide xs) ∙ sym (append-nil (tails e xs)))
          ∙ bind-at (λ (r : List (H × A) × List ℕ × List ℕ). finish r.0 r.2) (rows-enc s xs (tails e xs) [] f)

-- A name that followed is not below, and the next is above it.
pub ascending-some : (low n s : ℕ) → ascending low n ≡ some s → (low ≤ n) × (suc n ≡ s)
ascending-some low n s e = cond-case (leb low n) e (λ t p. (leb→le low n t, some-injective _ _ p)) (λ t p. none-some p)

-- A name that is not below may follow.
pub ascending-yes : (low n : ℕ) → low ≤ n → ascending low n ≡ some (suc n)
ascending-yes low n h = rw (T→true (leb low n) (le→leb low n h))

-- A length, written as an entry.
abbrev pub write_length : Unit {0} → ℕ → List ℕ
write_length h l = u16 l

-- An entry that is only a length.
pub read_length-reads : ReadsEntry write_length (λ h n. Unit {0}) read_length
read_length-reads = record { into = into; back = back }
  where
    into : (b : List ℕ) (x : Unit {0} × ℕ × List ℕ) → Bytes b → read_length b ≡ some x → (write_length x.0 x.1 ++ x.2 ≡ b) × Bytes x.2 × Unit {0}
    into b x h q = bind-some (word b) _ q λ l el q₁.
        let (v, hw) = word_some b l h el in
        subst (λ (y : Unit {0} × ℕ × List ℕ). (u16 y.1 ++ y.2 ≡ b) × Bytes y.2 × Unit {0}) (some-injective _ _ q₁) (v, hw, tt)

    back : (h : Unit {0}) (n : ℕ) (b : List ℕ) → Unit {0} → read_length (write_length h n ++ b) ≡ some (h, n, b)
    back h n b u = ap (λ (i : ℕ). some (h, i, b)) (mod-add-div' n 256)
