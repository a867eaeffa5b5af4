-- A value of a type is of each type above it, in any mode and under either rule on the count of arguments.
use Rattle.std.specs.Prelude.{ℕ, List, Bool, ◌&&◌, ◌||◌, ◌≡◌, T}
use Rattle.std.proofs.Math.Bool.{true, false, not, cond, and-false}
use Rattle.std.proofs.Math.Path.{refl, subst}
use Rattle.std.proofs.Common.{sym, ap, ◌∙◌, eqb→eq}
use Rattle.std.proofs.Math.Option.{Option, none, some, some-injective}
use Rattle.std.proofs.Math.Logic.{inl, inr}
use Rattle.std.proofs.Math.Dec.{eqb}
use Rattle.cedar.specs.Types.{Mode, is_permissive, Atom, never, true', false', bool, anyset, anyent}
use Rattle.cedar.specs.Types.{Ty, atom, set, rec, act, ent, ext, Attrs, nil, attr}
use Rattle.cedar.specs.Types.{Value, Pairs, Schema, maybe, present, is, same, eq_names, mem, names, find, is_entity, is_action}
use Rattle.cedar.specs.Subtype.{sub_flag, sub_names, sub_record, sub, sub_attrs}
use Rattle.cedar.specs.Conformance.{Verdict, fails, verdict, Counts, as_bool, uid_type, members, pairs, of_atom, each_value, each_pair, has_name, has_required}
use Rattle.cedar.specs.Conformance.{conforms, conforms_at}
use Rattle.cedar.proofs.Laws.Tests.{T_and, and_T, T-or, or_inl, or_inr, T-case, cond-case, cond_both, or-false, not-or→, none-some, present-of, eqb-differ}
use Rattle.cedar.proofs.Laws.Equality.{is→eq, same→eq}
use Rattle.cedar.proofs.Laws.Attributes.{find-other, find_none}
use Rattle.cedar.proofs.Laws.Subtype.{found, sub_flag-required, sub_names-In}
use Rattle.cedar.proofs.Laws.Verdicts.{Holds, verdict→T, T→verdict, and_then→, →and_then, maybe-map, each_value-map, each_pair-map, present-verdict}

-- A required name that is found is there.
pub required-found : (xs : Attrs) (ps : Pairs) (n : ℕ) (y : Bool × Ty) → T (has_required xs ps) → find n xs ≡ some y → T y.0 → T (has_name n ps)
required-found nil ps n y h e r = none-some e
required-found (attr k s t xs) ps n y h e r =
    let (h₁, h₂) = T_and (not s || has_name k ps) (has_required xs ps) h in
    cond-case (eqb n k) e
    (λ q p. subst (λ (i : ℕ). T (has_name i ps)) (sym (eqb→eq n k q))
    (not-or→ s (has_name k ps) h₁ (subst (λ (z : Bool × Ty). T z.0) (sym (some-injective _ _ p)) r)))
    (λ q p. required-found xs ps n y h₂ p r)

flag-required : (m : Mode) (r s b : Bool) → T (sub_flag m r s) → (T r → T b) → T (not s || b)
flag-required m r s b f k = T-case s (λ t. or_inr (not s) b (k (sub_flag-required m r s f t))) (λ t. or_inl (not s) b t)

module _ (rule : Counts) (schema : Schema) where
  -- `conforms_at` by what is found.
  pub conforms_at-find : (xs : Attrs) (o : Bool) (n : ℕ) (x : Value) →
      conforms_at rule schema o xs n x ≡ maybe (verdict o) (λ y. conforms rule schema y.1 x) (find n xs)
  unfolding conforms
  conforms_at-find nil o n x = refl
  conforms_at-find (attr k r t xs) o n x = go (eqb n k) (conforms_at-find xs o n x)
    where
      go : (b : Bool) → conforms_at rule schema o xs n x ≡ maybe (verdict o) (λ y. conforms rule schema y.1 x) (find n xs)
          →
          cond b (conforms rule schema t x) (conforms_at rule schema o xs n x) ≡ maybe (verdict o) (λ y. conforms rule schema y.1 x)
          (cond b (some (r, t)) (find n xs))
      go true e = refl
      go false e = e

  never-none : {C : Type 0} (j : Atom) (v : Value) → T (is j never) → Holds (conforms rule schema (atom j) v) → C
  unfolding conforms
  never-none j v h c = absurd (subst (λ (i : Atom). Holds (verdict (of_atom i v))) (is→eq j never h) c)

  -- A value of an entity type is a uid.
  pub entity-sound : (a : Ty) (v : Value) → T (is_entity a) → Holds (conforms rule schema a v) → Holds (conforms rule schema (atom anyent) v)
  unfolding conforms
  entity-sound (atom k) v h c = subst (λ (i : Atom). Holds (verdict (of_atom i v))) (is→eq k anyent h) c
  entity-sound (set t) v h c = absurd h
  entity-sound (rec o xs) v h c = absurd h
  entity-sound (act n xs) v h c =
      T→verdict (present (uid_type v)) (present-of (uid_type v) (λ k. is_action k && eqb k n) (verdict→T (maybe false (λ k. is_action k && eqb k n) (uid_type v)) c))
  entity-sound (ent ns) v h c = T→verdict (present (uid_type v)) (present-of (uid_type v) (λ k. mem k ns) (verdict→T (maybe false (λ k. mem k ns) (uid_type v)) c))
  entity-sound (ext n) v h c = absurd h

  -- True and False are Booleans.
  pub truth-sound : (j : Atom) (v : Value) → T (is j true' || is j false') → Holds (conforms rule schema (atom j) v) →
      Holds (conforms rule schema (atom bool) v)
  unfolding conforms
  truth-sound j v h c = elim (T-or (is j true') (is j false') h) [
    | inl e ↦ T→verdict (present (as_bool v))
        (present-of (as_bool v) (λ b. b) (verdict→T (of_atom true' v) (subst (λ (i : Atom). Holds (verdict (of_atom i v))) (is→eq j true' e) c)))
    | inr e ↦ T→verdict (present (as_bool v))
        (present-of (as_bool v) not (verdict→T (of_atom false' v) (subst (λ (i : Atom). Holds (verdict (of_atom i v))) (is→eq j false' e) c)))
  ]

  -- Under an atom.
  as-atom : (j k : Atom) (v : Value) → T (is k j) → Holds (conforms rule schema (atom j) v) → Holds (conforms rule schema (atom k) v)
  as-atom j k v h c = subst (λ (i : Atom). Holds (conforms rule schema (atom i) v)) (sym (is→eq k j h)) c

  atom-sound : (m : Mode) (a : Ty) (k : Atom) (v : Value) → T (sub m a (atom k)) → Holds (conforms rule schema a v) → Holds (conforms rule schema (atom k) v)
  unfolding conforms sub
  atom-sound m (atom j) k v h c = elim (T-or (is j never) (is j k || (is k bool && (is j true' || is j false'))) h) [
    | inl e ↦ never-none j v e c
    | inr g ↦ elim (T-or (is j k) (is k bool && (is j true' || is j false')) g) [
      | inl e ↦ subst (λ (i : Atom). Holds (conforms rule schema (atom i) v)) (is→eq j k e) c
      | inr e ↦ as-atom bool k v (T_and (is k bool) (is j true' || is j false') e).0 (truth-sound j v (T_and (is k bool) (is j true' || is j false') e).1 c)
    ]
  ]
  atom-sound m (set t) k v h c = as-atom anyset k v h (T→verdict (present (members v)) (present-verdict (members v) _ c))
  atom-sound m (rec o xs) k v h c = absurd h
  atom-sound m (act n xs) k v h c = as-atom anyent k v (T_and (is k anyent) (is_permissive m) h).0 (entity-sound (act n xs) v tt c)
  atom-sound m (ent ns) k v h c = as-atom anyent k v (T_and (is k anyent) (is_permissive m) h).0 (entity-sound (ent ns) v tt c)
  atom-sound m (ext n) k v h c = absurd h

  names-sound : (m : Mode) (ns ks : List ℕ) (o : Option ℕ) → T (sub_names m ns ks)
      → Holds (verdict (maybe false (λ k. mem k ns) o)) → Holds (verdict (maybe false (λ k. mem k ks) o))
  names-sound m ns ks none h c = absurd c
  names-sound m ns ks (some k) h c = T→verdict (mem k ks) (sub_names-In m ns ks h k (verdict→T (mem k ns) c))

  required-sound : (ys : Attrs) (m : Mode) (xs : Attrs) (ps : Pairs) → T (sub_attrs m xs ys) → T (has_required xs ps) → T (has_required ys ps)
  unfolding sub
  required-sound nil m xs ps h c = tt
  required-sound (attr n s u ys) m xs ps h c =
      let (h₁, h₂) = T_and (maybe false (λ x. sub_flag m x.0 s && sub m x.1 u) (find n xs)) (sub_attrs m xs ys) h in
      and_T (not s || has_name n ps) (has_required ys ps)
      (found m s u (find n xs) h₁ λ x e f g. flag-required m x.0 s (has_name n ps) f (λ r. required-found xs ps n x c e r))
      (required-sound ys m xs ps h₂ c)

  -- A name that a record's upper type lacks.
  open-sound : (m : Mode) (o p : Bool) (xs ys : Attrs) (n : ℕ) (x : Value) → T (sub_record m (o, xs) p ys) → Holds (conforms_at rule schema o xs n x) →
      find n ys ≡ none → T p
  open-sound m o true xs ys n x h c e = tt
  open-sound m true false xs ys n x h c e = absurd h
  open-sound m false false xs ys n x h c e =
      let z = find_none xs ys n (or-false (eq_names (names xs) (names ys)) (rw (and-false (is_permissive m)) at h)) e in
      subst (λ (w : Verdict). Holds w) (conforms_at-find xs false n x ∙ ap (maybe fails (λ y. conforms rule schema y.1 x)) z) c

  mutual
    unfolding conforms sub same

    -- A value of a subtype is of the type.
    pub sub-sound : (b : Ty) (m : Mode) (a : Ty) (v : Value) → T (sub m a b) → Holds (conforms rule schema a v) → Holds (conforms rule schema b v)
    sub-sound (atom k) m a v h c = atom-sound m a k v h c
    sub-sound (set u) m (atom j) v h c = never-none j v (or-false (is j never) h) c
    sub-sound (set u) m (set t) v h c = maybe-map (members v) (each_value (λ x. conforms rule schema t x)) (each_value (λ x. conforms rule schema u x))
        (λ vs k. each_value-map vs (λ x. conforms rule schema t x) (λ x. conforms rule schema u x) (λ x e. sub-sound u m t x h e) k) c
    sub-sound (set u) m (rec o xs) v h c = absurd h
    sub-sound (set u) m (act n xs) v h c = absurd h
    sub-sound (set u) m (ent ns) v h c = absurd h
    sub-sound (set u) m (ext n) v h c = absurd h
    sub-sound (rec p ys) m (atom j) v h c = never-none j v (or-false (is j never) h) c
    sub-sound (rec p ys) m (set t) v h c = absurd h
    sub-sound (rec p ys) m (rec o xs) v h c =
        let (h₁, h₂) = T_and (sub_record m (o, xs) p ys) (sub_attrs m xs ys) h in
        maybe-map (pairs v) _ _ (λ ps k.
        let (k₁, k₂) = and_then→ (each_pair (λ n x. conforms_at rule schema o xs n x) ps) (verdict (has_required xs ps)) k in
        →and_then (each_pair (λ n x. conforms_at rule schema p ys n x) ps) (verdict (has_required ys ps))
        (each_pair-map ps (λ n x. conforms_at rule schema o xs n x) (λ n x. conforms_at rule schema p ys n x)
        (λ n x e. sub_attrs-sound ys m xs h₂ n x o p e (open-sound m o p xs ys n x h₁ e)) k₁)
        (T→verdict (has_required ys ps) (required-sound ys m xs ps h₂ (verdict→T (has_required xs ps) k₂)))) c
    sub-sound (rec p ys) m (act n xs) v h c = absurd h
    sub-sound (rec p ys) m (ent ns) v h c = absurd h
    sub-sound (rec p ys) m (ext n) v h c = absurd h
    sub-sound (act k ys) m (atom j) v h c = never-none j v (or-false (is j never) h) c
    sub-sound (act k ys) m (set t) v h c = absurd h
    sub-sound (act k ys) m (rec o xs) v h c = absurd h
    sub-sound (act k ys) m (act n xs) v h c = subst (λ (t : Ty). Holds (conforms rule schema t v)) (same→eq (act n xs) (act k ys) h) c
    sub-sound (act k ys) m (ent ns) v h c = absurd h
    sub-sound (act k ys) m (ext n) v h c = absurd h
    sub-sound (ent ks) m (atom j) v h c = never-none j v (or-false (is j never) h) c
    sub-sound (ent ks) m (set t) v h c = absurd h
    sub-sound (ent ks) m (rec o xs) v h c = absurd h
    sub-sound (ent ks) m (act n xs) v h c = absurd h
    sub-sound (ent ks) m (ent ns) v h c = names-sound m ns ks (uid_type v) h c
    sub-sound (ent ks) m (ext n) v h c = absurd h
    sub-sound (ext k) m (atom j) v h c = never-none j v (or-false (is j never) h) c
    sub-sound (ext k) m (set t) v h c = absurd h
    sub-sound (ext k) m (rec o xs) v h c = absurd h
    sub-sound (ext k) m (act n xs) v h c = absurd h
    sub-sound (ext k) m (ent ns) v h c = absurd h
    sub-sound (ext k) m (ext n) v h c = subst (λ (t : Ty). Holds (conforms rule schema t v)) (same→eq (ext n) (ext k) h) c

    -- A pair's value of the lower list is of the upper one, where it may be there.
    pub sub_attrs-sound : (ys : Attrs) (m : Mode) (xs : Attrs) → T (sub_attrs m xs ys) → (n : ℕ) (x : Value) (o p : Bool) →
        Holds (conforms_at rule schema o xs n x) → (find n ys ≡ none → T p) → Holds (conforms_at rule schema p ys n x)
    sub_attrs-sound nil m xs h n x o p c d = T→verdict p (d refl)
    sub_attrs-sound (attr k s u ys) m xs h n x o p c d =
        let (h₁, h₂) = T_and (maybe false (λ x. sub_flag m x.0 s && sub m x.1 u) (find k xs)) (sub_attrs m xs ys) h in
        cond_both Holds (eqb n k)
        (λ q. found m s u (find k xs) h₁ λ y e f g. sub-sound u m y.1 x g
        (subst (λ (w : Verdict). Holds w)
        (conforms_at-find xs o n x ∙ ap (maybe (verdict o) (λ z. conforms rule schema z.1 x)) (ap (λ (i : ℕ). find i xs) (eqb→eq n k q) ∙ e)) c))
        (λ q. sub_attrs-sound ys m xs h₂ n x o p c (λ e. d (find-other n k s u ys (λ i. eqb-differ n k q i) ∙ e)))
