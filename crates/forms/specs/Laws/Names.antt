-- The names that rows of one width begin with. Assumes nothing.
use Rattle.std.specs.Prelude.{◌≡◌, refl, List, [], ◌∷◌, ◌++◌, Bool, true, false, ◌&&◌, ℕ, zero, suc, ◌+◌, ◌*◌, ◌-◌, ◌≤◌, ◌<◌, eqb, leb, length, take, drop}
use Rattle.std.specs.declared.slice.ChunksExact.{ChunksExact}
use Rattle.std.proofs.Common.{ap, ap₂, sym, ◌∙◌, add-one, sub-one, mul-zero, mul-suc, arith, leb-true, eq-eqb, ne_eqb, length-take, length-append}
use Rattle.cedar.specs.Types.{Ty, names, eq_names}
use Rattle.cedar.specs.Laws.Shape.{Ascend}
use Rattle.cedar.proofs.Laws.Tests.{not-T→false}
use Rattle.cedar.proofs.Laws.Equality.{eq_names→eq}
use Rattle.forms.specs.Parts.{rest, rd}
use Rattle.forms.specs.Rows.{rows_of}
use Rattle.forms.specs.TypeBytes.{names_up, names_by, dec_a}
use Rattle.forms.specs.Laws.Parts.{and_l, and_r, length_rest, rest-is, drop-take, rd-take, rd-append, rest-append}

pub names-first : (w n : ℕ) (b : List ℕ) → 0 < n → names_by w n b ≡ rd b 0 ∷ names_by w (n - 1) (rest w b)
unfolding names_by
names-first w zero b p = absurd (omega arith)
names-first w (suc n) b p = rw (sub-one (suc n)) refl

pub names-none : (w n : ℕ) (b : List ℕ) → n ≤ 0 → names_by w n b ≡ []
unfolding names_by
names-none w zero b p = refl
names-none w (suc n) b p = absurd (omega arith)

pub names-length : (w n : ℕ) (b : List ℕ) → length (names_by w n b) ≡ n
unfolding names_by
names-length w zero b = refl
names-length w (suc n) b = ap suc (names-length w n (rest w b))

-- An attribute list's names stand in its entries.
pub names-of-entries : (d : List ℕ → Ty) (n : ℕ) (es bs : List ℕ) → names (dec_a d n es bs) ≡ names_by 5 n es
unfolding names_by rows_of
names-of-entries d zero es bs = refl
names-of-entries d (suc n) es bs = ap (λ (ns : List ℕ). rd es 0 ∷ ns) (names-of-entries d n (rest 5 es) (rest (rd es 3) bs))

-- Lists of unlike lengths differ.
pub unlike-lengths : (xs ys : List ℕ) → (length xs ≡ length ys → ⊥) → false ≡ eq_names xs ys
unlike-lengths xs ys h = sym (not-T→false (eq_names xs ys) (λ t. h (ap length (eq_names→eq xs ys t))))

names-cut : (w n : ℕ) (b : List ℕ) → 2 ≤ w → names_by w n (take (w * n) b) ≡ names_by w n b
unfolding names_by
names-cut w zero b h = refl
names-cut w (suc n) b h =
    let s : w * suc n ≡ w + w * n = mul-suc w n ∙ omega arith in
    let r : w * suc n - w ≡ w * n = omega (arith, s) in
    ap₂ (λ (x : ℕ) (xs : List ℕ). x ∷ xs) (rd-take (w * suc n) b 0 (omega (arith, s)))
    (ap (names_by w n) (rest-is w (take (w * suc n) b) ∙ drop-take w (w * suc n) b ∙ rw r refl) ∙ names-cut w n (drop w b) h ∙
    ap (names_by w n) (sym (rest-is w b)))

-- Names that ascend.
pub names-ascend : (n low : ℕ) (b : List ℕ) → names_up n low b ≡ true → Ascend low (names_by 2 n b)
unfolding names_up names_by
names-ascend zero low b h = tt
names-ascend (suc n) low b h =
    (leb-true low (rd b 0) (and_l (leb low (rd b 0)) _ h), names-ascend n (suc (rd b 0)) (rest 2 b) (rw (add-one (rd b 0)) at (and_r (leb low (rd b 0)) _ h)))

pub same-other : (w n m : ℕ) (es fs : List ℕ) → (n ≡ m → ⊥) → false ≡ eq_names (names_by w n es) (names_by w m fs)
same-other w n m es fs h = unlike-lengths (names_by w n es) (names_by w m fs) (λ e. h (sym (names-length w n es) ∙ e ∙ names-length w m fs))

-- The loop of `same_names`: the names that are left answer for all.
pub record SameLeft (w : ℕ) (all : Bool) (left : ChunksExact ℕ) (f : List ℕ) : Type 0 where
  pub many : ℕ
  pub same : all ≡ eq_names (names_by w many left.rest.now) (names_by w many f)
  pub size : left.size ≡ w
  pub first : length left.rest.now ≡ w * many
  pub second : w * many ≤ length f

pub same_start : (w n m : ℕ) (es fs : List ℕ) → 2 ≤ w → n ≡ m → w * n ≤ length es → w * m ≤ length fs → {items left : ChunksExact ℕ} → left ≡ items →
    items.rest.now ≡ take (w * n) es → items.size ≡ w → SameLeft w (eq_names (names_by w n es) (names_by w m fs)) left fs
same_start w n m es fs h e p q {items} {left} l r s =
    let now = ap (λ (c : ChunksExact ℕ). c.rest.now) l ∙ r in
    record {
      many = n;
      same = rw (now, names-cut w n es h, e) refl;
      size = ap (λ (c : ChunksExact ℕ). c.size) l ∙ s;
      first = ap (λ (b : List ℕ). length b) now ∙ length-take (w * n) es ∙ omega (arith, p);
      second = rw e q;
    }

module _ {w : ℕ} {all : Bool} {left : ChunksExact ℕ} {f : List ℕ} (wide : 2 ≤ w) (i : SameLeft w all left f) where
  -- Fewer bytes than a row are none.
  pub same_end : length left.rest.now < left.size → true ≡ all
  same_end h = go i.many (omega (arith, i.first, i.size, h)) i.same
    where
      go : (k : ℕ) → w * k < w → all ≡ eq_names (names_by w k left.rest.now) (names_by w k f) → true ≡ all
      go zero g e = sym (e ∙ rw (names-none w 0 left.rest.now (omega arith), names-none w 0 f (omega arith)) refl)
      go (suc k) g e = absurd (omega (arith, mul-suc w k))

  module _ (row b : List ℕ) (cut : left.rest.now ≡ row ++ b) (size : length row ≡ left.size) where
    pub same-room : length row ≡ w
    same-room = size ∙ i.size

    -- How many are left behind the first.
    abbrev less : ℕ
    less = i.many - 1

    fewer : w * i.many ≡ w + w * less
    fewer = go i.many (omega (arith, ap (λ (c : List ℕ). length c) cut, length-append row b, i.first, same-room))
      where
        go : (k : ℕ) → w ≤ w * k → w * k ≡ w + w * (k - 1)
        go zero g = absurd (omega (arith, mul-zero w))
        go (suc k) g = rw (sub-one (suc k), mul-suc w k) (omega arith)

    some : 0 < i.many
    some = go i.many fewer
      where
        go : (k : ℕ) → w * k ≡ w + w * (k - 1) → 0 < k
        go zero g = absurd (omega (arith, mul-zero w))
        go (suc k) g = omega arith

    -- A row is left of the other table too.
    pub same-second : w ≤ length f
    same-second = omega (arith, fewer, i.second)

    same_step : all ≡ (eqb (rd row 0) (rd f 0) && eq_names (names_by w less b) (names_by w less (rest w f)))
    same_step =
        i.same ∙ ap₂ eq_names (ap (names_by w i.many) cut ∙ names-first w i.many (row ++ b) some) (names-first w i.many f some)
        ∙ ap₂ (λ (x : ℕ) (c : List ℕ). eqb x (rd f 0) && eq_names (names_by w less c) (names_by w less (rest w f)))
        (rd-append row b (omega (arith, same-room))) (rest-append w row b same-room)

    module _ (x y : ℕ) (q : x ≡ rd row 0) (r : y ≡ rd f 0) where
      pub same_not : (x ≡ y → ⊥) → false ≡ all
      same_not h = sym (same_step ∙ rw (ne_eqb (rd row 0) (rd f 0) (λ z. h (q ∙ z ∙ sym r))) refl)

      pub same_more : x ≡ y → (next : ChunksExact ℕ) → next.size ≡ left.size → next.rest.now ≡ b → SameLeft w all next (rest w f)
      same_more h next s n =
          record {
            many = less;
            same = same_step ∙ rw (eq-eqb (rd row 0) (rd f 0) (sym q ∙ h ∙ r), n) refl;
            size = s ∙ i.size;
            first = ap (λ (c : List ℕ). length c) n ∙ omega (arith, fewer, i.first, ap (λ (c : List ℕ). length c) cut, length-append row b, same-room);
            second = omega (arith, length_rest w f, fewer, i.second);
          }
