-- On types in order, `direct` is `bound`.
use Rattle.std.specs.Prelude.{ℕ, suc, ◌<◌, List, Bool, true, false, not, ◌&&◌, ◌||◌, cond, ◌≡◌, refl, T, eqb}
use Rattle.std.proofs.Common.{le_refl, arith, sym, ap, ap₂, ◌∙◌, subst, inl, inr, T_not, eqb→eq}
use Rattle.std.proofs.Math.Bool.{and-false}
use Rattle.std.proofs.Math.Option.{Option, some-injective}
use Rattle.cedar.specs.Types.{Mode, strict, is_permissive, Atom, never, Ty, atom, set, rec, act, ent, ext, Attrs, nil, attr}
use Rattle.cedar.specs.Types.{maybe, is, eq_flag, eq_names, names, find, same}
use Rattle.cedar.specs.Laws.Shape.{Ascend, Ordered, OrderedFrom}
use Rattle.cedar.specs.Subtype.{sub_flag, sub_names, sub_record, sub, sub_attrs}
use Rattle.cedar.specs.Result.{Result, ok, bind}
use Rattle.cedar.specs.Bound.{apart, lost, same_names, absent, join_one, join_set, join_record, upper, bound, join_attrs}
use Rattle.cedar.specs.Laws.DirectBound.{direct_names, direct, direct_attrs}
use Rattle.cedar.proofs.Laws.Tests.{T_and, and_T, T-or, or_inl, or_inr, or_map, or-false, T→true, not-T→false, T-ext}
use Rattle.cedar.proofs.Laws.Tests.{cond_both, maybe-cong, eqb-true, compare-names}
use Rattle.cedar.proofs.Laws.Equality.{is→eq, eq_flag-refl, eq_names→eq, eq_names-refl, eq_names-sym, same→eq}
use Rattle.cedar.proofs.Laws.Attributes.{find-equal, find-other, find-below, ordered-from, find-ordered}
use Rattle.cedar.proofs.Laws.Names.{union-upper, union-lower, In-subset}
use Rattle.cedar.proofs.Laws.Subtype.{sub_flag-required, sub_flag-equal, sub_names-In, sub_names-equal, sub_names-refl}
use Rattle.cedar.proofs.Laws.Subtype.{found, sub_attrs-skip, sub_attrs-refl, atom-anti, ext-anti}

-- Where one is under the other, `upper` is the upper one.
upper-left : (m : Mode) (a b : Ty) (r : Result Ty) → T (sub m a b) → upper m a b r ≡ ok b
upper-left m a b r h = rw (T→true (sub m a b) h)

upper-right : (m : Mode) (a b : Ty) (r : Result Ty) → T (sub m b a) → (T (sub m a b) → b ≡ a) → upper m a b r ≡ ok a
upper-right m a b r h k = go (sub m a b) refl
  where
    go : (c : Bool) → sub m a b ≡ c → upper m a b r ≡ ok a
    go true e = rw e (ap ok (k (subst T (sym e) tt)))
    go false e = rw (e, T→true (sub m b a) h)

-- Never is under each.
never-right : (m : Mode) (a : Ty) (j : Atom) → T (is j never || false) → direct m a (atom never) ≡ ok a → direct m a (atom j) ≡ ok a
never-right m a j h e = rw (is→eq j never (or-false (is j never) h)) e

join_one-right : (m : Mode) (n : ℕ) (r s : Bool) (t : Ty) (xs : Attrs) → T (sub_flag m s r) → join_one m n r s (ok t) (ok xs) ≡ ok (attr n r t xs)
join_one-right m n r s t xs h = cond_both (λ (l : Result Attrs). l ≡ ok (attr n r t xs)) (is_permissive m)
    (λ p. ap (λ (i : Bool). ok (attr n i t xs)) (T-ext (r && s) r (λ k. (T_and r s k).0) (λ k. and_T r s k (sub_flag-required m s r h k))))
    (λ p. rw (sub_flag-equal m s r p h, T→true (eq_flag r r) (eq_flag-refl r)))

join_one-left : (m : Mode) (n : ℕ) (r s : Bool) (t : Ty) (xs : Attrs) → T (sub_flag m r s) → join_one m n r s (ok t) (ok xs) ≡ ok (attr n s t xs)
join_one-left m n r s t xs h = cond_both (λ (l : Result Attrs). l ≡ ok (attr n s t xs)) (is_permissive m)
    (λ p. ap (λ (i : Bool). ok (attr n i t xs)) (T-ext (r && s) s (λ k. (T_and r s k).1) (λ k. and_T r s (sub_flag-required m r s h k) k)))
    (λ p. rw (sub_flag-equal m r s p h, T→true (eq_flag s s) (eq_flag-refl s)))

not-lost : (cs xs ys : Attrs) → T (eq_names (names cs) (names xs)) → T (eq_names (names cs) (names ys)) → lost cs xs ys ≡ false
not-lost cs xs ys h k = rw (T→true (eq_names (names cs) (names xs)) h, T→true (eq_names (names cs) (names ys)) k)

-- What `sub_record` says of the names, and of the flags.
names-left : (m : Mode) (o p : Bool) (xs ys : Attrs) → T (sub_record m (o, xs) p ys) → T (is_permissive m || eq_names (names xs) (names ys))
names-left m o p xs ys h =
    let same = eq_names (names xs) (names ys) in
    elim (T-or same (is_permissive m && p) (T_and (not o || p) (same || (is_permissive m && p)) h).1) [
      | inl e ↦ or_inr (is_permissive m) same e
      | inr e ↦ or_inl (is_permissive m) same (T_and (is_permissive m) p e).0
    ]

names-right : (m : Mode) (o p : Bool) (xs ys : Attrs) → T (sub_record m (p, ys) o xs) → T (is_permissive m || eq_names (names xs) (names ys))
names-right m o p xs ys h = or_map (is_permissive m) (eq_names (names ys) (names xs)) (eq_names (names xs) (names ys))
    (eq_names-sym (names ys) (names xs)) (names-left m p o ys xs h)

open-right : (m : Mode) (o p : Bool) (xs ys : Attrs) → T (sub_record m (p, ys) o xs) → (o || p || lost xs xs ys) ≡ o
open-right m true p xs ys h = refl
open-right m false true xs ys h = absurd h
open-right m false false xs ys h =
    not-lost xs xs ys (eq_names-refl (names xs))
    (eq_names-sym (names ys) (names xs) (or-false (eq_names (names ys) (names xs)) (rw (and-false (is_permissive m)) at h)))

same_names-ok : (m : Mode) (xs ys : Attrs) {r : Result Attrs} {cs : Attrs} → T (is_permissive m || eq_names (names xs) (names ys)) → r ≡ ok cs →
    same_names m xs ys r ≡ ok cs
same_names-ok m xs ys h e = rw (T→true (is_permissive m || eq_names (names xs) (names ys)) h) e

act-self : (m : Mode) (n : ℕ) (xs : Attrs) → direct_attrs strict xs xs ≡ ok xs → direct m (act n xs) (act n xs) ≡ ok (act n xs)
unfolding direct
act-self m n xs e = rw (eqb-true n) (ap (λ r. bind r (λ cs. ok (act n cs))) (same_names-ok strict xs xs (eq_names-refl (names xs)) e))

names-join-right : (m : Mode) (ns ks : List ℕ) → Ascend 0 ns → Ascend 0 ks → T (sub_names m ks ns) → direct_names m ns ks ≡ ok (ent ns)
names-join-right m ns ks a b h = cond_both (λ (r : Result Ty). r ≡ ok (ent ns)) (is_permissive m)
    (λ p. ap (λ (l : List ℕ). ok (ent l)) (union-lower ns ks a b (In-subset ks ns (sub_names-In m ks ns h))))
    (λ p. rw (sub_names-equal m ks ns p h, T→true (eq_names ns ns) (eq_names-refl ns)))

mutual
  unfolding direct sub same bound Ordered

  -- Where the second is under the first, their join is the first.
  pub direct-right : (a : Ty) (m : Mode) (b : Ty) → Ordered a → Ordered b → T (sub m b a) → direct m a b ≡ ok a
  direct-right (atom k) m b oa ob h = upper-right m (atom k) b _ h (λ g. atom-anti m k b g h)
  direct-right (set t) m (atom j) oa ob h = never-right m (set t) j h refl
  direct-right (set t) m (set u) oa ob h = ap (join_set m) (direct-right t m u oa ob h)
  direct-right (set t) m (rec p ys) oa ob h = absurd h
  direct-right (set t) m (act k ys) oa ob h = absurd h
  direct-right (set t) m (ent ks) oa ob h = absurd h
  direct-right (set t) m (ext k) oa ob h = absurd h
  direct-right (rec o xs) m (atom j) oa ob h = never-right m (rec o xs) j h refl
  direct-right (rec o xs) m (set u) oa ob h = absurd h
  direct-right (rec o xs) m (rec p ys) oa ob h =
      let (h₁, h₂) = T_and (sub_record m (p, ys) o xs) (sub_attrs m ys xs) h in
      ap (λ r. bind r (λ cs. ok (join_record o p xs ys cs))) (same_names-ok m xs ys (names-right m o p xs ys h₁) (direct_attrs-right xs m 0 ys oa ob h₂))
      ∙ ap (λ (b : Bool). ok (rec b xs)) (open-right m o p xs ys h₁)
  direct-right (rec o xs) m (act k ys) oa ob h = absurd h
  direct-right (rec o xs) m (ent ks) oa ob h = absurd h
  direct-right (rec o xs) m (ext k) oa ob h = absurd h
  direct-right (act n xs) m (atom j) oa ob h = never-right m (act n xs) j h refl
  direct-right (act n xs) m (set u) oa ob h = absurd h
  direct-right (act n xs) m (rec p ys) oa ob h = absurd h
  direct-right (act n xs) m (act k ys) oa ob h =
      subst (λ (b : Ty). direct m (act n xs) b ≡ ok (act n xs)) (sym (same→eq (act k ys) (act n xs) h))
      (act-self m n xs (direct_attrs-right xs strict 0 xs oa oa (sub_attrs-refl xs strict 0 oa)))
  direct-right (act n xs) m (ent ks) oa ob h = absurd h
  direct-right (act n xs) m (ext k) oa ob h = absurd h
  direct-right (ent ns) m (atom j) oa ob h = never-right m (ent ns) j h refl
  direct-right (ent ns) m (set u) oa ob h = absurd h
  direct-right (ent ns) m (rec p ys) oa ob h = absurd h
  direct-right (ent ns) m (act k ys) oa ob h = absurd h
  direct-right (ent ns) m (ent ks) oa ob h = names-join-right m ns ks oa.1 ob.1 h
  direct-right (ent ns) m (ext k) oa ob h = absurd h
  direct-right (ext n) m b oa ob h = upper-right m (ext n) b _ h (λ g. ext-anti m n b g h)

  direct_attrs-right : (xs : Attrs) (m : Mode) (low : ℕ) (ys : Attrs) → OrderedFrom low xs → OrderedFrom 0 ys → T (sub_attrs m ys xs) →
      direct_attrs m xs ys ≡ ok xs
  direct_attrs-right nil m low ys ox oy h = refl
  direct_attrs-right (attr n r t xs) m low ys ox oy h =
      let (h₁, h₂) = T_and (maybe false (λ x. sub_flag m x.0 r && sub m x.1 t) (find n ys)) (sub_attrs m ys xs) h in
      found m r t (find n ys) h₁ λ x e f g.
      ap (maybe (absent m (direct_attrs m xs ys)) (λ y. join_one m n r y.0 (direct m t y.1) (direct_attrs m xs ys))) e
      ∙ ap₂ (join_one m n r x.0) (direct-right t m x.1 ox.1 (find-ordered ys n 0 x oy e) g) (direct_attrs-right xs m (suc n) ys ox.2 oy h₂)
      ∙ join_one-right m n r x.0 t xs f

-- A name below those of xs may stand before ys.
direct_attrs-skip : (xs : Attrs) (m : Mode) (k low : ℕ) (s : Bool) (u : Ty) (ys : Attrs) → k < low → OrderedFrom low xs →
    direct_attrs m xs (attr k s u ys) ≡ direct_attrs m xs ys
unfolding direct Ordered
direct_attrs-skip nil m k low s u ys l o = refl
direct_attrs-skip (attr n r t xs) m k low s u ys l o =
    ap₂ (λ (f : Option (Bool × Ty)) (cs : Result Attrs). maybe (absent m cs) (λ y. join_one m n r y.0 (direct m t y.1) cs) f)
    (find-other n k s u ys (λ e. let g = o.0 in omega arith)) (direct_attrs-skip xs m k (suc n) s u ys (let g = o.0 in omega arith) o.2)

-- First names that differ: p, the mode's test, holds.
names-differ : (p : Bool) (n k : ℕ) (b : Bool) → (n ≡ k → ⊥) → T (p || (eqb n k && b)) → T p
names-differ true n k b d h = tt
names-differ false n k b d h = absurd (d (eqb→eq n k (T_and (eqb n k) b h).0))

absent-ok : (m : Mode) (cs : Result Attrs) → T (is_permissive m) → absent m cs ≡ cs
absent-ok m cs h = rw (T→true (is_permissive m) h)

open-left : (m : Mode) (o p : Bool) (xs ys : Attrs) → T (sub_record m (o, xs) p ys) → (o || p || lost ys xs ys) ≡ p
open-left m true true xs ys h = refl
open-left m true false xs ys h = absurd h
open-left m false true xs ys h = refl
open-left m false false xs ys h =
    not-lost ys xs ys (eq_names-sym (names xs) (names ys) (or-false (eq_names (names xs) (names ys)) (rw (and-false (is_permissive m)) at h)))
    (eq_names-refl (names ys))

names-join-left : (m : Mode) (ns ks : List ℕ) → Ascend 0 ns → Ascend 0 ks → T (sub_names m ns ks) → direct_names m ns ks ≡ ok (ent ks)
names-join-left m ns ks a b h = cond_both (λ (r : Result Ty). r ≡ ok (ent ks)) (is_permissive m)
    (λ p. ap (λ (l : List ℕ). ok (ent l)) (union-upper ns ks a b (In-subset ns ks (sub_names-In m ns ks h))))
    (λ p. rw (sub_names-equal m ns ks p h, T→true (eq_names ks ks) (eq_names-refl ks)))

mutual
  unfolding direct sub same bound Ordered

  -- Where the first is under the second, their join is the second.
  direct-left : (a : Ty) (m : Mode) (b : Ty) → Ordered a → Ordered b → T (sub m a b) → direct m a b ≡ ok b
  direct-left (atom k) m b oa ob h = upper-left m (atom k) b _ h
  direct-left (set t) m (atom j) oa ob h = upper-left m (set t) (atom j) _ h
  direct-left (set t) m (set u) oa ob h = ap (join_set m) (direct-left t m u oa ob h)
  direct-left (set t) m (rec p ys) oa ob h = absurd h
  direct-left (set t) m (act k ys) oa ob h = absurd h
  direct-left (set t) m (ent ks) oa ob h = absurd h
  direct-left (set t) m (ext k) oa ob h = absurd h
  direct-left (rec o xs) m (atom j) oa ob h = upper-left m (rec o xs) (atom j) _ h
  direct-left (rec o xs) m (set u) oa ob h = absurd h
  direct-left (rec o xs) m (rec p ys) oa ob h =
      let (h₁, h₂) = T_and (sub_record m (o, xs) p ys) (sub_attrs m xs ys) h in
      let n = names-left m o p xs ys h₁ in
      ap (λ r. bind r (λ cs. ok (join_record o p xs ys cs))) (same_names-ok m xs ys n (direct_attrs-left xs m 0 ys oa ob n h₂))
      ∙ ap (λ (b : Bool). ok (rec b ys)) (open-left m o p xs ys h₁)
  direct-left (rec o xs) m (act k ys) oa ob h = absurd h
  direct-left (rec o xs) m (ent ks) oa ob h = absurd h
  direct-left (rec o xs) m (ext k) oa ob h = absurd h
  direct-left (act n xs) m (atom j) oa ob h = upper-left m (act n xs) (atom j) _ h
  direct-left (act n xs) m (set u) oa ob h = absurd h
  direct-left (act n xs) m (rec p ys) oa ob h = absurd h
  direct-left (act n xs) m (act k ys) oa ob h =
      subst (λ (b : Ty). direct m (act n xs) b ≡ ok b) (same→eq (act n xs) (act k ys) h)
      (act-self m n xs (direct_attrs-left xs strict 0 xs oa oa (eq_names-refl (names xs)) (sub_attrs-refl xs strict 0 oa)))
  direct-left (act n xs) m (ent ks) oa ob h = absurd h
  direct-left (act n xs) m (ext k) oa ob h = absurd h
  direct-left (ent ns) m (atom j) oa ob h = upper-left m (ent ns) (atom j) _ h
  direct-left (ent ns) m (set u) oa ob h = absurd h
  direct-left (ent ns) m (rec p ys) oa ob h = absurd h
  direct-left (ent ns) m (act k ys) oa ob h = absurd h
  direct-left (ent ns) m (ent ks) oa ob h = names-join-left m ns ks oa.1 ob.1 h
  direct-left (ent ns) m (ext k) oa ob h = absurd h
  direct-left (ext n) m b oa ob h = upper-left m (ext n) b _ h

  direct_attrs-left : (xs : Attrs) (m : Mode) (low : ℕ) (ys : Attrs) → OrderedFrom low xs → OrderedFrom low ys
      → T (is_permissive m || eq_names (names xs) (names ys)) → T (sub_attrs m xs ys) → direct_attrs m xs ys ≡ ok ys
  direct_attrs-left nil m low nil ox oy a h = refl
  direct_attrs-left nil m low (attr k s u ys) ox oy a h = absurd h
  direct_attrs-left (attr n r t xs) m low nil ox oy a h =
      let q = or-false (is_permissive m) a in
      absent-ok m _ q ∙ direct_attrs-left xs m (suc n) nil ox.2 tt (or_inl (is_permissive m) _ q) tt
  direct_attrs-left (attr n r t xs) m low (attr k s u ys) ox oy a h =
      let (h₁, h₂) = T_and (maybe false (λ x. sub_flag m x.0 s && sub m x.1 u) (find k (attr n r t xs))) (sub_attrs m (attr n r t xs) ys) h in
      let names-tail = eq_names (names xs) (names ys) in
      let step : Option (Bool × Ty) →
      Result Attrs =
      λ f. maybe (absent m (direct_attrs m xs (attr k s u ys))) (λ y. join_one m n r y.0 (direct m t y.1) (direct_attrs m xs (attr k s u ys))) f in
      compare-names n k
      (λ l.
      let q = names-differ (is_permissive m) n k names-tail (λ e. omega arith) a in
      ap step (find-below (attr k s u ys) n k (le_refl k, oy.1, oy.2) l)
      ∙ absent-ok m _ q
      ∙ direct_attrs-left xs m (suc n) (attr k s u ys) ox.2 (l, oy.1, oy.2) (or_inl (is_permissive m) _ q)
      (rw (sub_attrs-skip (attr k s u ys) m n (suc n) r t xs (le_refl (suc n)) (l, oy.1, oy.2)) at h))
      (λ e.
      found m s u (find k (attr n r t xs)) h₁ λ x ex f g.
      let q : (r, t) ≡ x = some-injective _ _ (sym (find-equal k n r t xs (sym e)) ∙ ex) in
      ap step (find-equal n k s u ys e)
      ∙ ap₂ (join_one m n r s)
      (direct-left t m u ox.1 oy.1 (subst (λ (y : Bool × Ty). T (sub m y.1 u)) (sym q) g))
      (direct_attrs-skip xs m k (suc n) s u ys (omega arith) ox.2
      ∙ direct_attrs-left xs m (suc n) ys ox.2 (ordered-from ys (suc k) (suc n) (omega arith) oy.2)
      (or_map (is_permissive m) (eqb n k && names-tail) names-tail (λ t. (T_and (eqb n k) names-tail t).1) a)
      (rw (sub_attrs-skip ys m n (suc k) r t xs (omega arith) oy.2) at h₂))
      ∙ join_one-left m n r s u ys (subst (λ (y : Bool × Ty). T (sub_flag m y.0 s)) (sym q) f)
      ∙ ap (λ (i : ℕ). ok (attr i s u ys)) e)
      (λ l. found m s u (find k (attr n r t xs)) h₁ λ x ex f g.
      let z = find-below (attr n r t xs) k n (le_refl n, ox.1, ox.2) l in
      absurd (let y : ◌≡◌ {A = ℕ} 0 1 = cc in omega arith))

-- `upper` agrees with what agrees in its three cases.
upper-agree : (m : Mode) (a b : Ty) {x r : Result Ty} → (T (sub m a b) → x ≡ ok b) → (T (sub m b a) → x ≡ ok a) → (T (not (sub m a b)) → x ≡ r) →
    x ≡ upper m a b r
upper-agree m a b {x} f g e = cond_both (λ (y : Result Ty). x ≡ y) (sub m a b) f (λ n. cond_both (λ (y : Result Ty). x ≡ y) (sub m b a) g (λ k. e n))

names-bound : (m : Mode) (ns ks : List ℕ) → (T (sub m (ent ns) (ent ks)) → direct m (ent ns) (ent ks) ≡ ok (ent ks)) →
    (T (sub m (ent ks) (ent ns)) → direct m (ent ns) (ent ks) ≡ ok (ent ns))
    → direct m (ent ns) (ent ks) ≡ bound m (ent ns) (ent ks)
unfolding direct sub bound
names-bound m ns ks f g = upper-agree m (ent ns) (ent ks) f g λ n. rw (not-T→false (eq_names ns ks) λ t.
    T_not (sub_names m ns ks) n (subst (λ (l : List ℕ). T (sub_names m ns l)) (eq_names→eq ns ks t) (sub_names-refl m ns)))

mutual
  unfolding direct sub same bound Ordered

  -- On types in order the bound needs no subtype test.
  pub direct-bound : (a : Ty) (m : Mode) (b : Ty) → Ordered a → Ordered b → direct m a b ≡ bound m a b
  direct-bound (atom k) m b oa ob = refl
  direct-bound (set t) m (atom j) oa ob = refl
  direct-bound (set t) m (set u) oa ob = upper-agree m (set t) (set u) (direct-left (set t) m (set u) oa ob) (direct-right (set t) m (set u) oa ob)
      (λ n. ap (join_set m) (direct-bound t m u oa ob))
  direct-bound (set t) m (rec p ys) oa ob = refl
  direct-bound (set t) m (act k ys) oa ob = refl
  direct-bound (set t) m (ent ks) oa ob = refl
  direct-bound (set t) m (ext k) oa ob = refl
  direct-bound (rec o xs) m (atom j) oa ob = refl
  direct-bound (rec o xs) m (set u) oa ob = refl
  direct-bound (rec o xs) m (rec p ys) oa ob =
      upper-agree m (rec o xs) (rec p ys) (direct-left (rec o xs) m (rec p ys) oa ob) (direct-right (rec o xs) m (rec p ys) oa ob)
      (λ e. ap (λ r. bind (same_names m xs ys r) (λ cs. ok (join_record o p xs ys cs))) (direct_attrs-bound xs m ys 0 oa ob))
  direct-bound (rec o xs) m (act k ys) oa ob = refl
  direct-bound (rec o xs) m (ent ks) oa ob = refl
  direct-bound (rec o xs) m (ext k) oa ob = refl
  direct-bound (act n xs) m (atom j) oa ob = refl
  direct-bound (act n xs) m (set u) oa ob = refl
  direct-bound (act n xs) m (rec p ys) oa ob = refl
  direct-bound (act n xs) m (act k ys) oa ob =
      upper-agree m (act n xs) (act k ys) (direct-left (act n xs) m (act k ys) oa ob) (direct-right (act n xs) m (act k ys) oa ob)
      (λ e. ap (λ r. cond (eqb n k) (bind (same_names strict xs ys r) (λ cs. ok (act n cs))) (apart m (act n xs) (act k ys)))
      (direct_attrs-bound xs strict ys 0 oa ob))
  direct-bound (act n xs) m (ent ks) oa ob = refl
  direct-bound (act n xs) m (ext k) oa ob = refl
  direct-bound (ent ns) m (atom j) oa ob = refl
  direct-bound (ent ns) m (set u) oa ob = refl
  direct-bound (ent ns) m (rec p ys) oa ob = refl
  direct-bound (ent ns) m (act k ys) oa ob = refl
  direct-bound (ent ns) m (ent ks) oa ob = names-bound m ns ks (direct-left (ent ns) m (ent ks) oa ob) (direct-right (ent ns) m (ent ks) oa ob)
  direct-bound (ent ns) m (ext k) oa ob = refl
  direct-bound (ext n) m b oa ob = refl

  -- On attribute lists in order neither does theirs.
  pub direct_attrs-bound : (xs : Attrs) (m : Mode) (ys : Attrs) (low : ℕ) → OrderedFrom low xs → OrderedFrom 0 ys → direct_attrs m xs ys ≡ join_attrs m xs ys
  direct_attrs-bound nil m ys low ox oy = refl
  direct_attrs-bound (attr n r t xs) m ys low ox oy =
      let rest = direct_attrs-bound xs m ys (suc n) ox.2 oy in
      maybe-cong (find n ys) (ap (absent m) rest) (λ y e. ap₂ (join_one m n r y.0) (direct-bound t m y.1 ox.1 (find-ordered ys n 0 y oy e)) rest)
