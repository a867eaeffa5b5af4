-- Laws of type forms. Assumes nothing.
use Rattle.std.specs.Prelude.{◌≡◌, List, [], ◌∷◌, ◌++◌, true, false, ◌&&◌, ℕ, zero, suc, ◌+◌, ◌*◌, ◌-◌, ◌/◌, ◌≤◌, ◌<◌, eqb, leb, ltb, length, get_or}
use Rattle.std.specs.declared.slice.ChunksExact.{ChunksExact}
use Rattle.std.proofs.Math.Path.{refl}
use Rattle.std.proofs.Common.{ap, ap₂, sym, ◌∙◌, sub-one, arith, leb-true, le-leb, lt-ltb, le-ltb, eq-eqb, ne_eqb}
use Rattle.std.proofs.Math.ListN.{get_or-eq_default}
use Rattle.std.proofs.lemmas.Bool.{lt-leb}
use Rattle.forms.specs.Parts.{rest, rd, kind}
use Rattle.forms.specs.TypeBytes.{names_up, names_fit, attr_row, whole_as, whole}
use Rattle.forms.specs.Rows.{table_fits}
use Rattle.cedar.specs.Types.{Atom, never, true', false', bool, long, string, anyset, anyent}
use Rattle.cedar.specs.TypeForm.{one, set_kind, rec_kind, ent_kind, act_kind, ext_kind, no_kind, kind_of}
use Rattle.forms.specs.Laws.Parts.{and_l, and_r, and-not-l, and-not-r, and_yes, length_rest, rest-is, rest_0, pos}

pub names-step : (n low : ℕ) (b : List ℕ) → 0 < n → names_up n low b ≡ (leb low (rd b 0) && names_up (n - 1) (rd b 0 + 1) (rest 2 b))
unfolding names_up
names-step zero low b p = absurd (omega arith)
names-step (suc n) low b p = rw (sub-one (suc n)) refl

names-front : (low : ℕ) (p b : List ℕ) → length p ≡ 2 →
    names_up (length (p ++ b) / 2) low (p ++ b) ≡ (leb low (rd p 0) && names_up (length b / 2) (rd p 0 + 1) b)
names-front low [] b h = absurd (omega arith)
names-front low (x ∷ []) b h = absurd (omega arith)
names-front low (x ∷ y ∷ []) b h =
    let n : length (x ∷ y ∷ b) / 2 - 1 ≡ length b / 2 = omega arith in
    names-step (length (x ∷ y ∷ b) / 2) low (x ∷ y ∷ b) (omega arith)
    ∙ ap₂ (λ (k : ℕ) (c : List ℕ). leb low (x + 256 * y) && names_up k (x + 256 * y + 1) c) n (rest-is 2 (x ∷ y ∷ b))
names-front low (x ∷ y ∷ z ∷ p) b h = absurd (omega arith)

-- Names that ascend: the first is not too low, and the others ascend from it on.
pub names-up : (n low : ℕ) (b : List ℕ) → 0 < n → names_up n low b ≡ true → (low ≤ rd b 0) × (names_up (n - 1) (rd b 0 + 1) (rest 2 b) ≡ true)
names-up n low b p h =
    let g = sym (names-step n low b p) ∙ h in (
      leb-true low (rd b 0) (and_l (leb low (rd b 0)) (names_up (n - 1) (rd b 0 + 1) (rest 2 b)) g),
      and_r (leb low (rd b 0)) (names_up (n - 1) (rd b 0 + 1) (rest 2 b)) g,
    )

-- The loop of `names_ascend`: what is left answers for all.
pub record UpLeft (ns : List ℕ) (low : ℕ) (left : ChunksExact ℕ) : Type 0 where
  pub size : left.size ≡ 2
  pub same : names_up (length ns / 2) 0 ns ≡ names_up (length left.rest.now / 2) low left.rest.now

pub up-start : {ns : List ℕ} {items left : ChunksExact ℕ} → left ≡ items → items.rest.now ≡ ns → items.size ≡ 2 → UpLeft ns 0 left
up-start e r s =
    record {
      size = ap (λ (c : ChunksExact ℕ). c.size) e ∙ s;
      same = ap (λ (b : List ℕ). names_up (length b / 2) 0 b) (sym (ap (λ (c : ChunksExact ℕ). c.rest.now) e ∙ r));
    }

module _ {ns : List ℕ} {low : ℕ} {left : ChunksExact ℕ} (i : UpLeft ns low left) where
  pub up-end : length left.rest.now < left.size → true ≡ names_up (length ns / 2) 0 ns
  up-end h = sym (i.same ∙ go (length left.rest.now / 2) (omega (arith, i.size)))
    where
      go : (k : ℕ) → k ≤ 0 → names_up k low left.rest.now ≡ true
      go zero h = unfold names_up in refl
      go (suc k) h = absurd (omega arith)

  module _ (pair b : List ℕ) (cut : left.rest.now ≡ pair ++ b) (sized : length pair ≡ left.size) where
    pub pair-room : length pair ≡ 2
    pair-room = sized ∙ i.size

    first : names_up (length ns / 2) 0 ns ≡ (leb low (rd pair 0) && names_up (length b / 2) (rd pair 0 + 1) b)
    first = i.same ∙ ap (λ (c : List ℕ). names_up (length c / 2) low c) cut ∙ names-front low pair b pair-room

    pub up-low : rd pair 0 < low → false ≡ names_up (length ns / 2) 0 ns
    up-low h = and-not-l (leb low (rd pair 0)) _ (lt-leb low (rd pair 0) h) ∙ sym first

    pub up-again : low ≤ rd pair 0 → (next : ChunksExact ℕ) → next.size ≡ left.size → next.rest.now ≡ b → UpLeft ns (rd pair 0 + 1) next
    up-again h next s r =
        record {
          size = s ∙ i.size;
          same = first ∙ and_yes (leb low (rd pair 0)) _ (le-leb low (rd pair 0) h) ∙ ap (λ (c : List ℕ). names_up (length c / 2) (rd pair 0 + 1) c) (sym r);
        }

-- An entity form.
module _ (b : List ℕ) where
  pub entity-short : length b < 3 → false ≡ names_fit b
  entity-short h = and-not-l (leb 3 (length b)) _ (lt-leb 3 (length b) h)

  module _ (n : ℕ) (q : n ≡ rd b 1) where
    pub entity-none : n < 1 → false ≡ names_fit b
    entity-none h = and-not-r (leb 3 (length b)) _ (sym (and-not-l (leb 1 (rd b 1)) _ (lt-leb 1 (rd b 1) (omega arith))))

    pub entity-other : (length b ≡ 3 + 2 * n → ⊥) → false ≡ names_fit b
    entity-other h =
        and-not-r (leb 3 (length b)) _ (sym (and-not-r (leb 1 (rd b 1)) _ (sym (and-not-l (eqb (length b) (3 + 2 * rd b 1)) _
        (ne_eqb (length b) (3 + 2 * rd b 1) (λ z. h (z ∙ rw q refl)))))))

    pub entity-open : 3 ≤ length b → 1 ≤ n → length b ≡ 3 + 2 * n → names_fit b ≡ names_up (length (rest 3 b) / 2) 0 (rest 3 b)
    entity-open h g e =
        and_yes (leb 3 (length b)) _ (le-leb 3 (length b) h)
        ∙ and_yes (leb 1 (rd b 1)) _ (le-leb 1 (rd b 1) (omega arith))
        ∙ and_yes (eqb (length b) (3 + 2 * rd b 1)) _ (eq-eqb (length b) (3 + 2 * rd b 1) (omega arith))
        ∙ ap (λ (j : ℕ). names_up j 0 (rest 3 b)) (omega (arith, length_rest 3 b))

    -- The same by the count that was read.
    pub entity-counted : 3 ≤ length b → 1 ≤ n → length b ≡ 3 + 2 * n → names_fit b ≡ names_up n 0 (rest 3 b)
    entity-counted h g e =
        and_yes (leb 3 (length b)) _ (le-leb 3 (length b) h)
        ∙ and_yes (leb 1 (rd b 1)) _ (le-leb 1 (rd b 1) (omega arith))
        ∙ and_yes (eqb (length b) (3 + 2 * rd b 1)) _ (eq-eqb (length b) (3 + 2 * rd b 1) (omega arith))
        ∙ ap (λ (j : ℕ). names_up j 0 (rest 3 b)) (sym q)

-- A form of some levels, by its kind.
pub whole-none : (l : ℕ) (b : List ℕ) → l ≡ 0 → false ≡ whole l b
unfolding whole
whole-none l b e = rw e

module _ (l : ℕ) (b : List ℕ) (p : l ≡ 0 → ⊥) where
  whole-step : whole l b ≡ (ltb 0 (length b) && whole_as (whole (l - 1)) (kind_of (kind b)) b)
  whole-step = go l p
    where
      go : (k : ℕ) → (k ≡ 0 → ⊥) → whole k b ≡ (ltb 0 (length b) && whole_as (whole (k - 1)) (kind_of (kind b)) b)
      go zero p = absurd (p refl)
      go (suc k) p = unfold whole in rw (sub-one (suc k)) refl

  pub whole-empty : length b ≡ 0 → false ≡ whole l b
  whole-empty h = and-not-l (ltb 0 (length b)) _ (le-ltb 0 (length b) (omega arith)) ∙ sym whole-step

  pub whole_by : (length b ≡ 0 → ⊥) → (k : ℕ) → kind b ≡ k → whole l b ≡ whole_as (whole (l - 1)) (kind_of k) b
  whole_by h k e = whole-step ∙ and_yes (ltb 0 (length b)) _ (lt-ltb 0 (length b) (pos (length b) h)) ∙ ap (λ (j : ℕ). whole_as (whole (l - 1)) (kind_of j) b) e

-- The loop of `type_within`: what is left under some sets answers for the whole.
pub record SetsLeft (l : ℕ) (t : List ℕ) (left : ℕ) (b : List ℕ) : Type 0 where
  pub same : whole l t ≡ whole left b
  pub few : left ≤ l

pub sets-start : (l : ℕ) (t : List ℕ) → SetsLeft l t l (rest 0 t)
sets-start l t = record { same = ap (λ (b : List ℕ). whole l b) (sym (rest_0 t)); few = omega arith }

pub sets-again : {l left : ℕ} {t b : List ℕ} → SetsLeft l t left b → (left ≡ 0 → ⊥) → (length b ≡ 0 → ⊥) → kind b ≡ 7 → SetsLeft l t (left - 1) (rest 1 b)
sets-again {l} {left} {t} {b} i p s e = record { same = i.same ∙ whole_by left b p s 7 e; few = omega (arith, i.few) }

-- Kinds with nothing after the first byte, and those that are none.
pub kind-atom : (k : ℕ) → (k ≡ 7 → ⊥) → (k ≡ 8 → ⊥) → (k ≡ 10 → ⊥) → (k ≡ 11 → ⊥) → (k ≡ 12 → ⊥) → k ≤ 12 → (a : Atom) × (kind_of k ≡ one a)
kind-atom zero p7 p8 p10 p11 p12 h = (never, refl)
kind-atom (suc zero) p7 p8 p10 p11 p12 h = (true', refl)
kind-atom (suc (suc zero)) p7 p8 p10 p11 p12 h = (false', refl)
kind-atom (suc (suc (suc zero))) p7 p8 p10 p11 p12 h = (bool, refl)
kind-atom (suc (suc (suc (suc zero)))) p7 p8 p10 p11 p12 h = (long, refl)
kind-atom (suc (suc (suc (suc (suc zero))))) p7 p8 p10 p11 p12 h = (string, refl)
kind-atom (suc (suc (suc (suc (suc (suc zero)))))) p7 p8 p10 p11 p12 h = (anyset, refl)
kind-atom (suc (suc (suc (suc (suc (suc (suc zero))))))) p7 p8 p10 p11 p12 h = absurd (p7 refl)
kind-atom (suc (suc (suc (suc (suc (suc (suc (suc zero)))))))) p7 p8 p10 p11 p12 h = absurd (p8 refl)
kind-atom (suc (suc (suc (suc (suc (suc (suc (suc (suc zero))))))))) p7 p8 p10 p11 p12 h = (anyent, refl)
kind-atom (suc (suc (suc (suc (suc (suc (suc (suc (suc (suc zero)))))))))) p7 p8 p10 p11 p12 h = absurd (p10 refl)
kind-atom (suc (suc (suc (suc (suc (suc (suc (suc (suc (suc (suc zero))))))))))) p7 p8 p10 p11 p12 h = absurd (p11 refl)
kind-atom (suc (suc (suc (suc (suc (suc (suc (suc (suc (suc (suc (suc zero)))))))))))) p7 p8 p10 p11 p12 h = absurd (p12 refl)
kind-atom (suc (suc (suc (suc (suc (suc (suc (suc (suc (suc (suc (suc (suc k))))))))))))) p7 p8 p10 p11 p12 h = absurd (omega arith)

pub kind-unknown : (k : ℕ) → 12 < k → kind_of k ≡ no_kind
kind-unknown k h =
    get_or-eq_default
    (one never ∷ one true' ∷ one false' ∷ one bool ∷ one long ∷ one string ∷ one anyset ∷ set_kind ∷ rec_kind ∷ one anyent ∷ ent_kind ∷ act_kind ∷ ext_kind ∷ [])
    no_kind h

module _ (l : ℕ) (b : List ℕ) (p : l ≡ 0 → ⊥) (s : length b ≡ 0 → ⊥) where
  pub record-short : kind b ≡ 8 → length b < 2 → false ≡ whole l b
  record-short e h = and-not-l (leb 2 (length b)) _ (lt-leb 2 (length b) h) ∙ sym (whole_by l b p s 8 e)

  pub record-flag : kind b ≡ 8 → 1 < get_or b 1 0 → false ≡ whole l b
  record-flag e h = and-not-r (leb 2 (length b)) _ (sym (and-not-l (leb (get_or b 1 0) 1) _ (lt-leb (get_or b 1 0) 1 h))) ∙ sym (whole_by l b p s 8 e)

  pub record-open : kind b ≡ 8 → 2 ≤ length b → get_or b 1 0 ≤ 1 → whole l b ≡ table_fits attr_row (λ _. whole (l - 1)) 0 2 b
  record-open e h g = whole_by l b p s 8 e ∙ and_yes (leb 2 (length b)) _ (le-leb 2 (length b) h) ∙ and_yes (leb (get_or b 1 0) 1) _ (le-leb (get_or b 1 0) 1 g)

  pub unknown-not : 12 < kind b → false ≡ whole l b
  unknown-not h = sym (whole_by l b p s (kind b) refl ∙ rw (kind-unknown (kind b) h) refl)

  pub atom-open : (kind b ≡ 7 → ⊥) → (kind b ≡ 8 → ⊥) → (kind b ≡ 10 → ⊥) → (kind b ≡ 11 → ⊥) → (kind b ≡ 12 → ⊥) → kind b ≤ 12 → eqb (length b) 1 ≡ whole l b
  atom-open p7 p8 p10 p11 p12 h = sym (whole_by l b p s (kind b) refl ∙ rw (kind-atom (kind b) p7 p8 p10 p11 p12 h).1 refl)
