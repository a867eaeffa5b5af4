-- Disjoint types share no value, under either rule on the count of arguments.
use Rattle.std.specs.Prelude.{ℕ, not, ◌&&◌, ◌≡◌}
use mathlib.Core.List.{List, [], ◌∷◌}
use Rattle.std.proofs.Math.Bool.{false}
use Rattle.std.proofs.Math.Path.{subst}
use Rattle.std.proofs.Math.Option.{Option, none, some, some-injective}
use Rattle.std.proofs.Common.{inl, inr, T_not, eqb→eq}
use Rattle.std.proofs.Math.Dec.{T, eqb}
use Rattle.cedar.specs.Types.{Ty, atom, set, rec, act, ent, ext, Value, Schema, is_action, maybe, mem}
use Rattle.cedar.specs.Disjoint.{type_names, shares, disjoint}
use Rattle.cedar.specs.Conformance.{Counts, uid_type, conforms}
use Rattle.cedar.proofs.Laws.Tests.{T_and, T-or, or_inl, or_inr, maybe-T, none-some}
use Rattle.cedar.proofs.Laws.Names.{In}
use Rattle.cedar.proofs.Laws.Verdicts.{Holds, verdict→T}

-- A name in both lists is shared.
pub shares-both : (k : ℕ) (ns ks : List ℕ) → In k ns → In k ks → T (shares ns ks)
shares-both k [] ks h i = absurd h
shares-both k (n ∷ ns) ks h i = elim (T-or (eqb k n) (mem k ns) h) [
  | inl e ↦ or_inl (mem n ks) (shares ns ks) (subst (λ (j : ℕ). In j ks) (eqb→eq k n e) i)
  | inr j ↦ or_inr (mem n ks) (shares ns ks) (shares-both k ns ks j i)
]

action-name : (n : ℕ) (o : Option ℕ) → T (maybe false (λ k. is_action k && eqb k n) o) → T (maybe false (λ k. mem k (n ∷ [])) o)
action-name n none h = h
action-name n (some k) h = or_inl (eqb k n) false (T_and (is_action k) (eqb k n) h).1

no-common : (ns ks : List ℕ) (o : Option ℕ) → T (not (shares ns ks)) → T (maybe false (λ k. mem k ns) o) → T (maybe false (λ k. mem k ks) o) → ⊥
no-common ns ks none h i j = i
no-common ns ks (some k) h i j = T_not (shares ns ks) h (shares-both k ns ks i j)

module _ (rule : Counts) (schema : Schema) where
  -- A value of a type of known entity types is a uid of one of them.
  pub uid-of : (a : Ty) (ns : List ℕ) (v : Value) → type_names a ≡ some ns → Holds (conforms rule schema a v) → T (maybe false (λ k. mem k ns) (uid_type v))
  unfolding conforms
  uid-of (atom k) ns v e c = none-some e
  uid-of (set t) ns v e c = none-some e
  uid-of (rec o xs) ns v e c = none-some e
  uid-of (act n xs) ns v e c = subst (λ (l : List ℕ). T (maybe false (λ k. mem k l) (uid_type v))) (some-injective _ _ e)
      (action-name n (uid_type v) (verdict→T (maybe false (λ k. is_action k && eqb k n) (uid_type v)) c))
  uid-of (ent ks) ns v e c =
      subst (λ (l : List ℕ). T (maybe false (λ k. mem k l) (uid_type v))) (some-injective _ _ e) (verdict→T (maybe false (λ k. mem k ks) (uid_type v)) c)
  uid-of (ext n) ns v e c = none-some e

  -- Disjoint types share no value.
  pub disjoint-sound : (a b : Ty) (v : Value) → T (disjoint a b) → Holds (conforms rule schema a v) → Holds (conforms rule schema b v) → ⊥
  disjoint-sound a b v h c d =
      maybe-T (type_names a) (λ ns. maybe false (λ ks. not (shares ns ks)) (type_names b)) h λ ns p i.
      maybe-T (type_names b) (λ ks. not (shares ns ks)) i λ ks q j.
      no-common ns ks (uid_type v) j (uid-of a ns v p c) (uid-of b ks v q d)
