-- The body of an entity type or an action. Assumes nothing.
use Rattle.std.specs.Prelude.{◌≡◌, List, Bool, true, false, not, ◌&&◌, ℕ, zero, suc, ◌≤◌, ◌<◌, eqb, leb, length, get_or}
use Rattle.std.specs.Prelude.{Result, Ok, Err}
use Rattle.std.specs.Result.{result_eq}
use Rattle.std.proofs.Math.Path.{refl}
use Rattle.std.proofs.Common.{ap, sym, ◌∙◌, arith, ne_eqb}
use Rattle.std.proofs.Math.Decide.{ℕ_discrete}
use borrow.Author.Tests.{leb-true, not-true, not-false}
use Rattle.cedar.specs.Types.{Ty, rec, present, as_rec}
use Rattle.cedar.specs.Limits.{Limits}
use Rattle.cedar.specs.Whole.{whole_type}
use Rattle.forms.specs.Kinds.{IsEntityKind}
use Rattle.forms.specs.declared.kinds.EntityKind.{EntityKind}
use Rattle.forms.specs.declared.kinds.EntityKind.TheVariants.{Standard, Enumerated}
use Rattle.forms.specs.declared.kinds.UnknownKind.{UnknownKind}
use Rattle.forms.specs.contracts.kinds.EntityKindPartialEq.TheImpl.{eq-value}
use Rattle.forms.specs.contracts.kinds.UnknownKindPartialEq.TheImpl.{eq-value as eq-error}
use Rattle.forms.specs.Parts.{kind}
use Rattle.forms.specs.TypeBytes.{whole, dec}
use Rattle.forms.specs.Laws.Parts.{and_l, and_r, and-not-l, and-not-r, and_yes}
use Rattle.forms.specs.Laws.Kinds.{whole-kind}
use Rattle.forms.specs.Laws.Sure.{sure-present}
use Rattle.forms.specs.Laws.TypeTwin.{whole-type-twin}
use Rattle.forms.specs.Laws.Views.{IsRecord, is-record, see, seen-set, seen-record, seen-entity, seen-action, seen-extension, seen-atom, Seen}
use Rattle.schemas.specs.SchemaBytes.{type_fits, record_of, body_fits, body_of}

-- A whole form of another kind is no record.
not-record : (l : ℕ) (b : List ℕ) → whole l b ≡ true → (kind b ≡ 8 → ⊥) → present (as_rec (dec l b)) ≡ false
not-record l b h n = go (see l b h)
  where
    go : Seen l b → present (as_rec (dec l b)) ≡ false
    go (seen-set k v) = ap (λ (t : Ty). present (as_rec t)) v.is
    go (seen-record k v) = absurd (n k)
    go (seen-entity k v) = ap (λ (t : Ty). present (as_rec t)) v.is
    go (seen-action k v) = ap (λ (t : Ty). present (as_rec t)) v.is
    go (seen-extension k v) = ap (λ (t : Ty). present (as_rec t)) v.is
    go (seen-atom v) = ap (λ (t : Ty). present (as_rec t)) v.is

closed_is : (k : ℕ) → k ≤ 1 → eqb k 0 ≡ not (eqb k 1)
closed_is zero h = refl
closed_is (suc zero) h = refl
closed_is (suc (suc k)) h = absurd (omega arith)

module _ (lim : Limits) (b : List ℕ) (y : Bool) (q : y ≡ present (whole_type lim b)) where
  fits-is : type_fits lim b ≡ y
  fits-is = sym (q ∙ sure-present (whole-type-twin lim b))

  pub body-unfit : (closed : Bool) → not y ≡ true → false ≡ body_fits lim closed b
  unfolding body_fits
  body-unfit closed h = and-not-l (type_fits lim b) _ (fits-is ∙ not-true y h)

  module _ (h : not y ≡ false) where
    fits : type_fits lim b ≡ true
    fits = fits-is ∙ not-false y h

    is_whole : whole lim.levels b ≡ true
    is_whole = and_r (leb (length b) lim.bytes) (whole lim.levels b) fits

    -- What `Kind::of` asks.
    pub body-kind : (0 < length b) × (kind b ≤ 12)
    body-kind = whole-kind lim.levels b is_whole

    pub body-some : 0 < length b
    body-some = body-kind.0

    pub body-other : (closed : Bool) → (kind b ≡ 8 → ⊥) → false ≡ body_fits lim closed b
    unfolding body_fits
    body-other closed n = and-not-r (type_fits lim b) _ (sym (and-not-l (present (as_rec (dec lim.levels b))) _ (not-record lim.levels b is_whole n)))

    module _ (e : kind b ≡ 8) where
      view : IsRecord lim.levels b
      view = is-record lim.levels b is_whole e

      pub body-two : 2 ≤ length b
      body-two = omega (arith, view.some)

      opened : (closed : Bool) → body_fits lim closed b ≡ not (closed && eqb (get_or b 1 0) 1)
      unfolding body_fits
      opened closed = and_yes (type_fits lim b) _ fits ∙ rw view.is refl

      pub body_closed : (closed : Bool) → closed ≡ true → eqb (get_or b 1 0) 0 ≡ body_fits lim closed b
      body_closed closed c = closed_is (get_or b 1 0) view.flag ∙ sym (opened closed ∙ rw c refl)

      pub body_open : (closed : Bool) → closed ≡ false → true ≡ body_fits lim closed b
      body_open closed c = sym (opened closed ∙ rw c refl)

-- A whole body, for those who read it: a record form within the limits.
pub record IsBody (lim : Limits) (b : List ℕ) : Type 0 where
  pub few : length b ≤ lim.bytes
  pub good : whole lim.levels b ≡ true
  pub kind-is : kind b ≡ 8
  pub is : dec lim.levels b ≡ rec (body_of lim b).0 (body_of lim b).1

pub is_body : (lim : Limits) (closed : Bool) (b : List ℕ) → body_fits lim closed b ≡ true → IsBody lim b
unfolding body_fits body_of
is_body lim closed b h =
    let f = present (as_rec (dec lim.levels b)) && not (closed && (record_of (dec lim.levels b)).0) in
    let t = and_l (type_fits lim b) f h in
    let w = and_r (leb (length b) lim.bytes) (whole lim.levels b) t in
    let p = and_l (present (as_rec (dec lim.levels b))) (not (closed && (record_of (dec lim.levels b)).0)) (and_r (type_fits lim b) f h) in
    go w p (leb-true (length b) lim.bytes (and_l (leb (length b) lim.bytes) (whole lim.levels b) t)) (ℕ_discrete (kind b) 8)
  where
    go : whole lim.levels b ≡ true → present (as_rec (dec lim.levels b)) ≡ true → length b ≤ lim.bytes → Dec (kind b ≡ 8) → IsBody lim b
    go w p l (yes k) = let v = is-record lim.levels b w k in record { few = l; good = w; kind-is = k; is = v.is ∙ sym (rw v.is refl) }
    go w p l (no k) = absurd (let z : false ≡ true = sym (not-record lim.levels b w k) ∙ p in let y : ◌≡◌ {A = ℕ} 0 1 = cc in omega arith)

-- The body of an enumerated entity type is closed.
pub enumerated : (n : ℕ) (r : Result EntityKind UnknownKind) → IsEntityKind n r → (x : Bool) → x ≡ result_eq eq-value.it eq-error.it r (Ok Enumerated) →
    x ≡ eqb n 1
enumerated n (Ok Standard) h x q = q ∙ ap (λ (k : ℕ). eqb k 1) h
enumerated n (Ok Enumerated) h x q = q ∙ ap (λ (k : ℕ). eqb k 1) h
enumerated n (Err e) h x q = q ∙ sym (ne_eqb n 1 (λ z. omega arith))
