-- A value of either type is of their bound, in any mode and under either rule on the count of arguments.
use Rattle.std.specs.Prelude.{ℕ, suc, List, Bool, true, not, ◌&&◌, ◌||◌, ◌≡◌, refl, ◌⊎◌, T, eqb}
use Rattle.std.proofs.Common.{arith, sym, ap, ◌∙◌, inl, inr, eqb→eq}
use Rattle.std.proofs.Math.Bool.{false}
use Rattle.std.proofs.Math.Path.{subst}
use Rattle.std.proofs.Math.Option.{Option, none, some}
use Rattle.cedar.specs.Types.{Mode, strict, bool, anyset, Ty, atom, set, rec, act, ent, ext, Attrs, attr, Value, Pairs, Schema, maybe, eq_names, mem, names, find}
use Rattle.cedar.specs.Laws.Shape.{Ordered, OrderedFrom}
use Rattle.cedar.specs.Result.{ok}
use Rattle.cedar.specs.Subtype.{sub}
use Rattle.cedar.specs.Bound.{is_truth, lost, bound}
use Rattle.cedar.specs.Conformance.{fails, verdict, Counts, uid_type, members, pairs, each_value, each_pair, has_name, has_required, conforms, conforms_at}
use Rattle.cedar.proofs.Laws.Tests.{T_and, and_T, T-case, cond_both, not-both, eqb-differ}
use Rattle.cedar.proofs.Laws.Equality.{eq_names-sym}
use Rattle.cedar.proofs.Laws.Attributes.{find-equal, find-other, find-below, find-ordered, find_none}
use Rattle.cedar.proofs.Laws.Names.{In, union_left, union_right}
use Rattle.cedar.proofs.Laws.Verdicts.{Holds, verdict→T, T→verdict, and_then→, →and_then, maybe-map, each_value-map, each_pair-map}
use Rattle.cedar.proofs.Laws.SubtypeSound.{required-found, conforms_at-find, entity-sound, truth-sound, sub-sound}
use Rattle.cedar.proofs.Laws.Join.{Join, under, over, truths, entities, untyped, sets, records, actions, unions, JoinAttrs, done, drop, keep, bound-join}
use Rattle.cedar.proofs.Laws.Join.{join_attrs-ordered}

-- Required names.
and_left : (r s b : Bool) → T (not r || b) → T (not (r && s) || b)
and_left true true b h = h
and_left true false b h = tt
and_left false s b h = tt

and_right : (r s b : Bool) → (T s → T b) → T (not (r && s) || b)
and_right true true b h = h tt
and_right true false b h = tt
and_right false s b h = tt

join-required : {m : Mode} {xs ys cs : Attrs} → JoinAttrs m xs ys cs → (ps : Pairs) → T (has_required xs ps) ⊎ T (has_required ys ps) → T (has_required cs ps)
join-required done ps h = tt
join-required (drop {n = n} {r = r} {xs = xs} j) ps (inl h) = join-required j ps (inl (T_and (not r || has_name n ps) (has_required xs ps) h).1)
join-required (drop j) ps (inr h) = join-required j ps (inr h)
join-required (keep {n = n} {k = k'} {r = r} {xs = xs} {cs = cs} y e f g j k) ps (inl h) =
    let (h₁, h₂) = T_and (not r || has_name n ps) (has_required xs ps) h in
    subst (λ (s : Bool). T ((not s || has_name k' ps) && has_required cs ps)) g
    (subst (λ (i : ℕ). T ((not (r && y.0) || has_name i ps) && has_required cs ps)) e
    (and_T (not (r && y.0) || has_name n ps) (has_required cs ps) (and_left r y.0 (has_name n ps) h₁) (join-required k ps (inl h₂))))
join-required (keep {n = n} {k = k'} {r = r} {ys = ys} {cs = cs} y e f g j k) ps (inr h) =
    subst (λ (s : Bool). T ((not s || has_name k' ps) && has_required cs ps)) g
    (subst (λ (i : ℕ). T ((not (r && y.0) || has_name i ps) && has_required cs ps)) e
    (and_T (not (r && y.0) || has_name n ps) (has_required cs ps) (and_right r y.0 (has_name n ps) (λ q. required-found ys ps n y h f q))
    (join-required k ps (inr h))))

module _ (rule : Counts) (schema : Schema) where
  -- A pair's value by what is found of its name.
  pub at-found : (xs : Attrs) (o : Bool) (n : ℕ) (x : Value) (y : Bool × Ty) → find n xs ≡ some y → Holds (conforms_at rule schema o xs n x) →
      Holds (conforms rule schema y.1 x)
  at-found xs o n x y e c = subst Holds (conforms_at-find rule schema xs o n x ∙ ap (maybe (verdict o) (λ z. conforms rule schema z.1 x)) e) c

  -- A pair of a name that the type lacks, where it is open.
  pub at_none : (xs : Attrs) (o : Bool) (n : ℕ) (x : Value) → find n xs ≡ none → T o → Holds (conforms_at rule schema o xs n x)
  at_none xs o n x e h =
      subst Holds (sym (conforms_at-find rule schema xs o n x ∙ ap (maybe (verdict o) (λ z. conforms rule schema z.1 x)) e)) (T→verdict o h)

  at-lost : {C : Type 0} (xs cs : Attrs) (n : ℕ) (x : Value) → T (eq_names (names cs) (names xs)) → find n cs ≡ none →
      Holds (conforms_at rule schema false xs n x) → C
  at-lost xs cs n x h e c =
      absurd (subst Holds
      (conforms_at-find rule schema xs false n x ∙
      ap (maybe fails (λ z. conforms rule schema z.1 x)) (find_none xs cs n (eq_names-sym (names cs) (names xs) h) e)) c)

  at_other : (xs : Attrs) (o : Bool) (n k : ℕ) (r : Bool) (t : Ty) (x : Value) → (n ≡ k → ⊥) → Holds (conforms_at rule schema o (attr k r t xs) n x) →
      Holds (conforms_at rule schema o xs n x)
  at_other xs o n k r t x d c =
      subst Holds (conforms_at-find rule schema (attr k r t xs) o n x ∙ ap (maybe (verdict o) (λ z. conforms rule schema z.1 x)) (find-other n k r t xs d) ∙
      sym (conforms_at-find rule schema xs o n x)) c

  -- A name that the join lacks, of a value of either.
  open-join : (o p q : Bool) (xs ys cs : Attrs) (n : ℕ) (x : Value) → (o || p || lost cs xs ys) ≡ q → Holds (conforms_at rule schema o xs n x) ⊎
      Holds (conforms_at rule schema p ys n x) → find n cs ≡ none → T q
  open-join true p q xs ys cs n x e c f = subst T e tt
  open-join false true q xs ys cs n x e c f = subst T e tt
  open-join false false true xs ys cs n x e c f = tt
  open-join false false false xs ys cs n x e c f =
      let (h₁, h₂) = not-both (eq_names (names cs) (names xs)) (eq_names (names cs) (names ys)) e in
      elim c [ inl i ↦ at-lost xs cs n x h₁ f i | inr i ↦ at-lost ys cs n x h₂ f i ]

  -- A record's value, from one record to another.
  record-map : (o q : Bool) (xs cs : Attrs) (v : Value) →
      ((n : ℕ) (x : Value) → Holds (conforms_at rule schema o xs n x) → Holds (conforms_at rule schema q cs n x)) →
      ((ps : Pairs) → T (has_required xs ps) → T (has_required cs ps))
      → Holds (conforms rule schema (rec o xs) v) → Holds (conforms rule schema (rec q cs) v)
  unfolding conforms
  record-map o q xs cs v f g c = maybe-map (pairs v) _ _ (λ ps k.
      let (k₁, k₂) = and_then→ (each_pair (λ n x. conforms_at rule schema o xs n x) ps) (verdict (has_required xs ps)) k in
      →and_then (each_pair (λ n x. conforms_at rule schema q cs n x) ps) (verdict (has_required cs ps))
      (each_pair-map ps (λ n x. conforms_at rule schema o xs n x) (λ n x. conforms_at rule schema q cs n x) f k₁)
      (T→verdict (has_required cs ps) (g ps (verdict→T (has_required xs ps) k₂)))) c

  names-map : (ns ls : List ℕ) (v : Value) → ((k : ℕ) → In k ns → In k ls) → Holds (conforms rule schema (ent ns) v) → Holds (conforms rule schema (ent ls) v)
  unfolding conforms
  names-map ns ls v f c = go (uid_type v) c
    where
      go : (o : Option ℕ) → Holds (verdict (maybe false (λ k. mem k ns) o)) → Holds (verdict (maybe false (λ k. mem k ls) o))
      go none h = absurd h
      go (some k) h = T→verdict (mem k ls) (f k (verdict→T (mem k ns) h))

  truth-of : (a : Ty) (v : Value) → T (is_truth a) → Holds (conforms rule schema a v) → Holds (conforms rule schema (atom bool) v)
  truth-of (atom k) v h c = truth-sound rule schema k v h c
  truth-of (set t) v h c = absurd h
  truth-of (rec o xs) v h c = absurd h
  truth-of (act n xs) v h c = absurd h
  truth-of (ent ns) v h c = absurd h
  truth-of (ext n) v h c = absurd h

  act-name : (n l : ℕ) (xs cs : Attrs) (v : Value) → n ≡ l → Holds (conforms rule schema (act n xs) v) → Holds (conforms rule schema (act l cs) v)
  unfolding conforms
  act-name n l xs cs v e c = subst (λ (i : ℕ). Holds (conforms rule schema (act i cs) v)) e c

  untyped-sound : (t : Ty) (v : Value) → Holds (conforms rule schema (set t) v) → Holds (conforms rule schema (atom anyset) v)
  unfolding sub
  untyped-sound t v c = sub-sound rule schema (atom anyset) strict (set t) v tt c

  mutual
    unfolding conforms Ordered

    -- A value of either type is of what a derivation gives.
    pub join-sound : {m : Mode} {a b c : Ty} → Join m a b c → Ordered a → Ordered b → (v : Value) →
        Holds (conforms rule schema a v) ⊎ Holds (conforms rule schema b v) → Holds (conforms rule schema c v)
    join-sound (under {m = m} {a = a} {b = b} h e) oa ob v (inl c) = subst (λ (t : Ty). Holds (conforms rule schema t v)) e (sub-sound rule schema b m a v h c)
    join-sound (under h e) oa ob v (inr c) = subst (λ (t : Ty). Holds (conforms rule schema t v)) e c
    join-sound (over h e) oa ob v (inl c) = subst (λ (t : Ty). Holds (conforms rule schema t v)) e c
    join-sound (over {m = m} {a = a} {b = b} h e) oa ob v (inr c) = subst (λ (t : Ty). Holds (conforms rule schema t v)) e (sub-sound rule schema a m b v h c)
    join-sound (truths {a = a} h k) oa ob v (inl c) = truth-of a v h c
    join-sound (truths {b = b} h k) oa ob v (inr c) = truth-of b v k c
    join-sound (entities {a = a} h k) oa ob v (inl c) = entity-sound rule schema a v h c
    join-sound (entities {b = b} h k) oa ob v (inr c) = entity-sound rule schema b v k c
    join-sound (untyped {t = t} h) oa ob v (inl c) = untyped-sound t v c
    join-sound (untyped {u = u} h) oa ob v (inr c) = untyped-sound u v c
    join-sound (sets {t = t} {u = u} {c = w} j) oa ob v (inl c) =
        maybe-map (members v) (each_value (λ x. conforms rule schema t x)) (each_value (λ x. conforms rule schema w x))
        (λ vs k. each_value-map vs (λ x. conforms rule schema t x) (λ x. conforms rule schema w x) (λ x e. join-sound j oa ob x (inl e)) k) c
    join-sound (sets {t = t} {u = u} {c = w} j) oa ob v (inr c) =
        maybe-map (members v) (each_value (λ x. conforms rule schema u x)) (each_value (λ x. conforms rule schema w x))
        (λ vs k. each_value-map vs (λ x. conforms rule schema u x) (λ x. conforms rule schema w x) (λ x e. join-sound j oa ob x (inr e)) k) c
    join-sound (records {o = o} {p = p} {q = q} {xs = xs} {ys = ys} {cs = cs} e j) oa ob v (inl c) = record-map o q xs cs v
        (λ n x i. join_attrs-sound j 0 oa ob n x o p q (inl i) (open-join o p q xs ys cs n x e (inl i))) (λ ps i. join-required j ps (inl i)) c
    join-sound (records {o = o} {p = p} {q = q} {xs = xs} {ys = ys} {cs = cs} e j) oa ob v (inr c) = record-map p q ys cs v
        (λ n x i. join_attrs-sound j 0 oa ob n x o p q (inr i) (open-join o p q xs ys cs n x e (inr i))) (λ ps i. join-required j ps (inr i)) c
    join-sound (actions {n = n} {k = k} {l = l} {xs = xs} {cs = cs} e f j) oa ob v (inl c) = act-name n l xs cs v f c
    join-sound (actions {n = n} {k = k} {l = l} {ys = ys} {cs = cs} e f j) oa ob v (inr c) = act-name k l ys cs v (sym e ∙ f) c
    join-sound (unions {ns = ns} {ks = ks} {ls = ls} e) oa ob v (inl c) = names-map ns ls v (λ k i. subst (In k) e (union_left k ns ks i)) c
    join-sound (unions {ns = ns} {ks = ks} {ls = ls} e) oa ob v (inr c) = names-map ks ls v (λ k i. subst (In k) e (union_right k ns ks i)) c

    join_attrs-sound : {m : Mode} {xs ys cs : Attrs} → JoinAttrs m xs ys cs → (low : ℕ) → OrderedFrom low xs → OrderedFrom 0 ys →
        (n : ℕ) (x : Value) (o p q : Bool)
        → Holds (conforms_at rule schema o xs n x) ⊎ Holds (conforms_at rule schema p ys n x) → (find n cs ≡ none → T q) → Holds (conforms_at rule schema q cs n x)
    join_attrs-sound done low ox oy n x o p q c d = T→verdict q (d refl)
    join_attrs-sound (drop {n = k} {r = r} {t = t} {xs = xs} {cs = cs} j) low ox oy n x o p q c d =
        T-case (eqb n k)
        (λ h. let z = find-below cs n (suc k) (join_attrs-ordered j (suc k) ox.2 oy) (let w = eqb→eq n k h in omega arith) in at_none cs q n x z (d z))
        (λ h. join_attrs-sound j (suc k) ox.2 oy n x o p q
        (elim c [ inl i ↦ inl (at_other xs o n k r t x (λ z. eqb-differ n k h z) i) | inr i ↦ inr i ]) d)
    join_attrs-sound (keep {n = k} {k = k'} {r = r} {s = s} {t = t} {c = w} {xs = xs} {ys = ys} {cs = cs} y e f g j js) low ox oy n x o p q c d =
        cond_both Holds (eqb n k')
        (λ h. join-sound j ox.1 (find-ordered ys k 0 y oy f) x (elim c [
          | inl i ↦ inl (at-found (attr k r t xs) o n x (r, t) (find-equal n k r t xs (eqb→eq n k' h ∙ sym e)) i)
          | inr i ↦ inr (at-found ys p n x y (ap (λ (z : ℕ). find z ys) (eqb→eq n k' h ∙ sym e) ∙ f) i)
        ]))
        (λ h.
        let ne = eqb-differ n k' h in
        join_attrs-sound js (suc k) ox.2 oy n x o p q (elim c [ inl i ↦ inl (at_other xs o n k r t x (λ z. ne (z ∙ e)) i) | inr i ↦ inr i ])
        (λ z. d (find-other n k' s w cs ne ∙ z)))

  -- A value of either type is of their bound.
  pub bound-sound : (m : Mode) (a b c : Ty) → Ordered a → Ordered b → bound m a b ≡ ok c → (v : Value) →
      Holds (conforms rule schema a v) ⊎ Holds (conforms rule schema b v) → Holds (conforms rule schema c v)
  bound-sound m a b c oa ob e v h = join-sound (bound-join a m b c e) oa ob v h
