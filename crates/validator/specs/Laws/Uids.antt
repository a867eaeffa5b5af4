-- The value's question, for a literal: is it whole, and a uid? Assumes nothing.
use Rattle.std.specs.Prelude.{ℕ, zero, suc, ◌<◌, List, Bool, true, false, not, ◌&&◌, ◌≡◌, refl, eqb, leb, ltb, length}
use Rattle.std.proofs.Common.{arith, ap, sym, ◌∙◌, eqb-true, ltb-true, eq-eqb}
use Rattle.std.proofs.Math.Option.{Option, none, some}
use Rattle.std.proofs.lemmas.Bool.{not-true, not-false}
use Rattle.cedar.specs.Types.{Value, present}
use Rattle.cedar.specs.Bytes.{◌>>=◌}
use Rattle.cedar.specs.Limits.{Limits}
use Rattle.cedar.specs.ValueForm.{value_kind}
use Rattle.cedar.specs.Whole.{whole_value}
use Rattle.cedar.specs.Conformance.{as_uid}
use Rattle.cedar.proofs.Laws.Tests.{none_of}
use Rattle.forms.specs.Parts.{rd, kind}
use Rattle.forms.specs.ValueBytes.{whole_v, whole_v_as, dec_v, dec_v_as}
use Rattle.forms.specs.Laws.Parts.{and_l, and_r}
use Rattle.forms.specs.Laws.Sure.{sure-present, sure-yes}
use Rattle.forms.specs.Laws.ValueTwin.{whole-value-twin}
use Rattle.validator.specs.Uids.{uid_of}

-- Only kind 4 is a uid.
not-uid : (d : List ℕ → Value) (b : List ℕ) (k : ℕ) → (k ≡ 4 → ⊥) → as_uid (dec_v_as d (value_kind k) b) ≡ none
not-uid d b zero p = refl
not-uid d b (suc zero) p = refl
not-uid d b (suc (suc zero)) p = refl
not-uid d b (suc (suc (suc zero))) p = refl
not-uid d b (suc (suc (suc (suc zero)))) p = absurd (p refl)
not-uid d b (suc (suc (suc (suc (suc zero))))) p = refl
not-uid d b (suc (suc (suc (suc (suc (suc zero)))))) p = refl
not-uid d b (suc (suc (suc (suc (suc (suc (suc zero))))))) p = refl
not-uid d b (suc (suc (suc (suc (suc (suc (suc (suc k)))))))) p = refl

-- A whole value, by its levels: it has a first byte, and a uid is of kind 4 and five bytes long.
level-bytes : (l : ℕ) (b : List ℕ) → whole_v l b ≡ true → 0 < length b
unfolding whole_v
level-bytes zero b h = absurd (let z : ◌≡◌ {A = ℕ} 0 1 = cc in omega arith)
level-bytes (suc l) b h = ltb-true 0 (length b) (and_l (ltb 0 (length b)) (whole_v_as (whole_v l) (value_kind (kind b)) b) h)

level-when : (l : ℕ) (b : List ℕ) → whole_v l b ≡ true → (y : Bool) → y ≡ eqb (kind b) 4 → y ≡ present (as_uid (dec_v l b))
unfolding whole_v dec_v
level-when zero b h y e = absurd (let z : ◌≡◌ {A = ℕ} 0 1 = cc in omega arith)
level-when (suc l) b h true e = rw (eqb-true (kind b) 4 (sym e)) refl
level-when (suc l) b h false e =
    rw (not-uid (dec_v l) b (kind b)
    (λ z. absurd (let f : ◌≡◌ {A = Bool} false true = e ∙ eq-eqb (kind b) 4 z in let g : ◌≡◌ {A = ℕ} 0 1 = cc in omega arith))) refl

level-uid : (l : ℕ) (b : List ℕ) → whole_v l b ≡ true → kind b ≡ 4 → (length b ≡ 5) × (as_uid (dec_v l b) ≡ some (rd b 1, rd b 3))
unfolding whole_v dec_v
level-uid zero b h k = absurd (let z : ◌≡◌ {A = ℕ} 0 1 = cc in omega arith)
level-uid (suc l) b h k =
    (eqb-true (length b) 5 (rw k at (and_r (ltb 0 (length b)) (whole_v_as (whole_v l) (value_kind (kind b)) b) h)), rw k refl)

module _ (lim : Limits) (b : List ℕ) (both : leb (length b) lim.bytes && whole_v lim.levels b ≡ true) where
  there : whole_value lim b ≡ some (dec_v lim.levels b)
  there = sure-yes (whole-value-twin lim b) both

  good : whole_v lim.levels b ≡ true
  good = and_r (leb (length b) lim.bytes) (whole_v lim.levels b) both

  some_bytes : 0 < length b
  some_bytes = level-bytes lim.levels b good

  by_kind : eqb (kind b) 4 ≡ present (uid_of lim b)
  by_kind = level-when lim.levels b good (eqb (kind b) 4) refl ∙ rw there refl

  is-uid : kind b ≡ 4 → (length b ≡ 5) × (uid_of lim b ≡ some (rd b 1, rd b 3))
  is-uid k = let u = level-uid lim.levels b good k in (u.0, ap (λ (o : Option Value). o >>= as_uid) there ∙ u.1)

-- The answer of `whole_value`.
module _ (lim : Limits) (b : List ℕ) (r : Bool) (q : r ≡ present (whole_value lim b)) where
  pub uid-not-whole : not r ≡ true → false ≡ present (uid_of lim b)
  uid-not-whole h = rw (none_of (whole_value lim b) (sym q ∙ not-true r h)) refl

  module _ (h : not r ≡ false) where
    both-tests : leb (length b) lim.bytes && whole_v lim.levels b ≡ true
    both-tests = sym (sure-present (whole-value-twin lim b)) ∙ sym q ∙ not-false r h

    pub value-some : 0 < length b
    value-some = some_bytes lim b both-tests

    pub uid-by-kind : eqb (kind b) 4 ≡ present (uid_of lim b)
    uid-by-kind = by_kind lim b both-tests

-- What is there after a step was there before it.
step-present : {A B : Type 0} (o : Option A) (f : A → Option B) → present (o >>= f) ≡ true → present o ≡ true
step-present none f h = h
step-present (some a) f h = refl

-- The answer of `whole_uid`.
module _ (lim : Limits) (b : List ℕ) (r : Bool) (q : r ≡ present (uid_of lim b)) where
  pub uid-missing : not r ≡ true → uid_of lim b ≡ none
  uid-missing h = none_of (uid_of lim b) (sym q ∙ not-true r h)

  pub uid-there : not r ≡ false → (length b ≡ 5) × (uid_of lim b ≡ some (rd b 1, rd b 3))
  uid-there h =
      let p : present (uid_of lim b) ≡ true = sym q ∙ not-false r h in
      let both = sym (sure-present (whole-value-twin lim b)) ∙ step-present (whole_value lim b) as_uid p in
      is-uid lim b both (eqb-true (kind b) 4 (by_kind lim b both ∙ p))

  pub uid-read : not r ≡ false → (k i : ℕ) → k ≡ rd b 1 → i ≡ rd b 3 → uid_of lim b ≡ some (k, i)
  uid-read h k i p s = (uid-there h).1 ∙ rw (p, s) refl
