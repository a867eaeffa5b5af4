-- Laws of value forms. Assumes nothing.
use Rattle.std.specs.Prelude.{◌≡◌, List, [], ◌∷◌, Bool, true, false, ◌&&◌, ℕ, zero, suc, ◌+◌, ◌-◌, ◌≤◌, ◌<◌, eqb, leb, ltb, length}
use Rattle.std.proofs.Math.Path.{refl}
use Rattle.std.proofs.Common.{ap, sym, ◌∙◌, sub-one, arith, ltb-true, eqb-true, le-leb, lt-ltb, le-ltb}
use Rattle.std.proofs.Math.Decide.{dec_le}
use Rattle.std.proofs.Math.ListN.{get_or-eq_default}
use Rattle.std.proofs.lemmas.Bool.{lt-leb, eqb-false}
use Rattle.cedar.specs.ValueForm.{ValueKind, bool_kind, long_kind, string_kind, uid_kind, set_kind, record_kind, call_kind, no_kind, value_kind}
use Rattle.forms.specs.Parts.{rd, kind}
use Rattle.forms.specs.ValueBytes.{whole_v_as, dec_v_as, whole_v, dec_v}
use Rattle.forms.specs.Laws.Parts.{and_l, and_r, and-not-l, and_yes, pos}

-- What `is_empty` answers.
pub empty : (b : List ℕ) (x : Bool) → x ≡ eqb (length b) 0 → x ≡ true → length b ≡ 0
empty b x q h = eqb-true (length b) 0 (sym q ∙ h)

pub not_empty : (b : List ℕ) (x : Bool) → x ≡ eqb (length b) 0 → x ≡ false → length b ≡ 0 → ⊥
not_empty b x q h = eqb-false (length b) 0 (sym q ∙ h)

-- A form of some levels, by its kind.
pub value_none : (l : ℕ) (b : List ℕ) → l ≡ 0 → false ≡ whole_v l b
unfolding whole_v
value_none l b e = rw e

module _ (l : ℕ) (b : List ℕ) (p : l ≡ 0 → ⊥) where
  value-step : whole_v l b ≡ (ltb 0 (length b) && whole_v_as (whole_v (l - 1)) (value_kind (kind b)) b)
  value-step = go l p
    where
      go : (k : ℕ) → (k ≡ 0 → ⊥) → whole_v k b ≡ (ltb 0 (length b) && whole_v_as (whole_v (k - 1)) (value_kind (kind b)) b)
      go zero p = absurd (p refl)
      go (suc k) p = unfold whole_v in rw (sub-one (suc k)) refl

  pub value-empty : length b ≡ 0 → false ≡ whole_v l b
  value-empty h = and-not-l (ltb 0 (length b)) _ (le-ltb 0 (length b) (omega arith)) ∙ sym value-step

  pub value-by : (length b ≡ 0 → ⊥) → (k : ℕ) → kind b ≡ k → whole_v l b ≡ whole_v_as (whole_v (l - 1)) (value_kind k) b
  value-by h k e =
      value-step ∙ and_yes (ltb 0 (length b)) _ (lt-ltb 0 (length b) (pos (length b) h)) ∙ ap (λ (j : ℕ). whole_v_as (whole_v (l - 1)) (value_kind j) b) e

-- The two Booleans, and kinds that are none.
pub kind-boolean : (k : ℕ) → (k ≡ 2 → ⊥) → (k ≡ 3 → ⊥) → (k ≡ 4 → ⊥) → (k ≡ 5 → ⊥) → (k ≡ 6 → ⊥) → (k ≡ 7 → ⊥) → k ≤ 7 → (x : Bool) × (value_kind k ≡ bool_kind x)
kind-boolean zero p2 p3 p4 p5 p6 p7 h = (false, refl)
kind-boolean (suc zero) p2 p3 p4 p5 p6 p7 h = (true, refl)
kind-boolean (suc (suc k)) p2 p3 p4 p5 p6 p7 h = absurd (omega arith)

pub kind-no-value : (k : ℕ) → 7 < k → value_kind k ≡ no_kind
kind-no-value k h = get_or-eq_default (bool_kind false ∷ bool_kind true ∷ long_kind ∷ string_kind ∷ uid_kind ∷ set_kind ∷ record_kind ∷ call_kind ∷ []) no_kind h

module _ (l : ℕ) (b : List ℕ) (p : l ≡ 0 → ⊥) (s : length b ≡ 0 → ⊥) where
  pub string-short : kind b ≡ 3 → length b < 3 → false ≡ whole_v l b
  string-short e h = and-not-l (leb 3 (length b)) _ (lt-leb 3 (length b) h) ∙ sym (value-by l b p s 3 e)

  pub string-open : kind b ≡ 3 → 3 ≤ length b → (n : ℕ) → n ≡ rd b 1 → eqb (length b) (3 + n) ≡ whole_v l b
  string-open e h n q = sym (value-by l b p s 3 e ∙ and_yes (leb 3 (length b)) _ (le-leb 3 (length b) h) ∙ rw (← q) refl)

  pub unknown-no-value : 7 < kind b → false ≡ whole_v l b
  unknown-no-value h = sym (value-by l b p s (kind b) refl ∙ rw (kind-no-value (kind b) h) refl)

  pub boolean-open : (kind b ≡ 2 → ⊥) → (kind b ≡ 3 → ⊥) → (kind b ≡ 4 → ⊥) → (kind b ≡ 5 → ⊥) → (kind b ≡ 6 → ⊥) → (kind b ≡ 7 → ⊥) → kind b ≤ 7 →
      eqb (length b) 1 ≡ whole_v l b
  boolean-open p2 p3 p4 p5 p6 p7 h = sym (value-by l b p s (kind b) refl ∙ rw (kind-boolean (kind b) p2 p3 p4 p5 p6 p7 h).1 refl)

no-level : (b : List ℕ) → whole_v 0 b ≡ false
unfolding whole_v
no-level b = refl

more-levels : (k : ℕ) (b : List ℕ) → whole_v (suc k) b ≡ (ltb 0 (length b) && whole_v_as (whole_v k) (value_kind (kind b)) b)
unfolding whole_v
more-levels k b = refl

-- A whole value form: it has a level, a first byte of a kind, and what the kind asks.
module _ (l : ℕ) (b : List ℕ) (h : whole_v l b ≡ true) where
  pub value-level : 0 < l
  value-level = go l h
    where
      go : (k : ℕ) → whole_v k b ≡ true → 0 < k
      go zero h = absurd (let z : ◌≡◌ {A = ℕ} 0 1 = cc (no-level b) in omega arith)
      go (suc k) h = omega arith

  value-open : (ltb 0 (length b) && whole_v_as (whole_v (l - 1)) (value_kind (kind b)) b) ≡ true
  value-open = go l value-level h
    where
      go : (k : ℕ) → 0 < k → whole_v k b ≡ true → (ltb 0 (length b) && whole_v_as (whole_v (k - 1)) (value_kind (kind b)) b) ≡ true
      go zero p h = absurd (omega arith)
      go (suc k) p h = rw (sub-one (suc k)) (sym (more-levels k b) ∙ h)

  pub value-first : 0 < length b
  value-first = ltb-true 0 (length b) (and_l (ltb 0 (length b)) _ value-open)

  pub value_as : (j : ℕ) → kind b ≡ j → whole_v_as (whole_v (l - 1)) (value_kind j) b ≡ true
  value_as j e = ap (λ (i : ℕ). whole_v_as (whole_v (l - 1)) (value_kind i) b) (sym e) ∙ and_r (ltb 0 (length b)) _ value-open

  pub value-kind : kind b < 8
  value-kind = go (dec_le 8 (kind b))
    where
      go : Dec (8 ≤ kind b) → kind b < 8
      go (yes p) =
          absurd (let z : ◌≡◌ {A = Bool} false true = ap (λ (k : ValueKind). whole_v_as (whole_v (l - 1)) k b) (sym (kind-no-value (kind b) (omega arith))) ∙
          value_as (kind b) refl in let y : ◌≡◌ {A = ℕ} 0 1 = cc in omega arith)
      go (no p) = omega arith

pub dec-value : (l : ℕ) (b : List ℕ) → 0 < l → (j : ℕ) → kind b ≡ j → dec_v l b ≡ dec_v_as (dec_v (l - 1)) (value_kind j) b
unfolding dec_v
dec-value zero b p j e = absurd (omega arith)
dec-value (suc l) b p j e = rw (sub-one (suc l)) (ap (λ (i : ℕ). dec_v_as (dec_v l) (value_kind i) b) e)
