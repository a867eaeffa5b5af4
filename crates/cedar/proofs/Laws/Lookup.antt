-- What lookup finds is in order, of no more levels than the type and the schema's bodies.
use Rattle.std.specs.Prelude.{ℕ, suc, ◌≤◌, List, [], ◌∷◌, Bool, ◌&&◌, ◌≡◌, refl}
use Rattle.std.proofs.Common.{arith, subst}
use Rattle.std.proofs.Math.Option.{Option, none, some, some-injective}
use Rattle.cedar.specs.Types.{permissive, Ty, atom, set, rec, act, ent, ext, Attrs, Entity, Schema, find}
use Rattle.cedar.specs.Levels.{depth, depths}
use Rattle.cedar.specs.Laws.Shape.{Ordered, OrderedFrom, WF}
use Rattle.cedar.specs.Result.{Result, ok, err}
use Rattle.cedar.specs.Bound.{bound}
use Rattle.cedar.specs.Attribute.{entity_of, attr_of, stepped, fold_attr, lookup_names, lookup}
use Rattle.cedar.proofs.Laws.Tests.{cond-case, maybe-case, none-some}
use Rattle.cedar.proofs.Laws.Result.{ok-inj, err-ok}
use Rattle.cedar.proofs.Laws.Attributes.{find-ordered, find-depth}
use Rattle.cedar.proofs.Laws.Join.{bound-WF}

-- None is no attribute.
pub none-ok : {A C : Type 0} {y : A} → ◌≡◌ {A = Result (Option A)} (ok none) (ok (some y)) → C
none-ok e = absurd (let z : ◌≡◌ {A = ℕ} 0 1 = cc in omega arith)

-- A step that went on had a bound.
pub stepped-case : {C : Type 0} (fits : Ty → Bool) (k : Ty → Result (Option (Bool × Ty))) (b : Result Ty) {y : Bool × Ty} → stepped fits k b ≡ ok (some y) →
    ((c : Ty) → b ≡ ok c → k c ≡ ok (some y) → C) → C
stepped-case fits k (ok c) e f = cond-case (fits c) e (λ t p. f c refl p) (λ t p. err-ok p)
stepped-case fits k (err n) e f = none-ok e

module _ (l : ℕ) where
  attrs-part : (xs : Attrs) (a : ℕ) (y : Bool × Ty) → suc (depths xs) ≤ l → OrderedFrom 0 xs → find a xs ≡ some y → WF l y.1
  attrs-part xs a y d o e = (let g = find-depth xs a y e in omega arith, find-ordered xs a 0 y o e)

  -- An attribute of a record is in order, of no more levels.
  pub record-part : (o : Bool) (xs : Attrs) (a : ℕ) (y : Bool × Ty) → WF l (rec o xs) → find a xs ≡ some y → WF l y.1
  unfolding depth Ordered
  record-part o xs a y w e = attrs-part xs a y w.0 w.1 e

  -- An attribute of an action is in order, of no more levels.
  pub action-part : (n : ℕ) (xs : Attrs) (a : ℕ) (y : Bool × Ty) → WF l (act n xs) → find a xs ≡ some y → WF l y.1
  unfolding depth Ordered
  action-part n xs a y w e = attrs-part xs a y w.0 w.1 e

  module _ (s : Schema) (good : (n : ℕ) (e : Entity) → entity_of s n ≡ some e → WF l (rec e.is_open e.attrs)) where
    attr_of-WF : (a n : ℕ) (x : Bool × Ty) → attr_of s a n ≡ some x → WF l x.1
    attr_of-WF a n x e = maybe-case (entity_of s n) e (λ i p. none-some p) (λ d i p. record-part d.is_open d.attrs a x (good n d i) p)

    module _ (fits : Ty → Bool) where
      fold_attr-WF : (a : ℕ) (ns : List ℕ) (x y : Bool × Ty) → WF l x.1 → fold_attr fits s a x ns ≡ ok (some y) → WF l y.1
      fold_attr-WF a [] x y w e = subst (λ (z : Bool × Ty). WF l z.1) (some-injective _ _ (ok-inj e)) w
      fold_attr-WF a (n ∷ ns) x y w e =
          maybe-case (attr_of s a n) e (λ i p. none-ok p) λ z ez p.
          stepped-case fits (λ c. fold_attr fits s a (x.0 && z.0, c) ns) (bound permissive x.1 z.1) p λ c ec q.
          fold_attr-WF a ns (x.0 && z.0, c) y (bound-WF l permissive x.1 z.1 c w (attr_of-WF a n z ez) ec) q

      lookup_names-WF : (a : ℕ) (ns : List ℕ) (y : Bool × Ty) → lookup_names fits s a ns ≡ ok (some y) → WF l y.1
      lookup_names-WF a [] y e = none-ok e
      lookup_names-WF a (n ∷ ns) y e = maybe-case (attr_of s a n) e (λ i p. none-ok p) λ x ex p. fold_attr-WF a ns x y (attr_of-WF a n x ex) p

      -- What lookup finds is in order, of no more levels.
      pub lookup-WF : (a : ℕ) (t : Ty) (y : Bool × Ty) → WF l t → lookup fits s a t ≡ ok (some y) → WF l y.1
      lookup-WF a (atom k) y w e = none-ok e
      lookup-WF a (set t) y w e = none-ok e
      lookup-WF a (rec o xs) y w e = record-part o xs a y w (ok-inj e)
      lookup-WF a (act n xs) y w e = action-part n xs a y w (ok-inj e)
      lookup-WF a (ent ns) y w e = lookup_names-WF a ns y e
      lookup-WF a (ext n) y w e = none-ok e
