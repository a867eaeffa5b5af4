-- The bound as rules: each answer of `bound` has a derivation, and what holds of each answer is proved along it.
use Rattle.std.specs.Prelude.{ℕ, zero, suc, ◌≤◌, max, List, ◌∷◌, Bool, true, false, ◌&&◌, ◌||◌, ◌≡◌, refl, length, T, eqb}
use Rattle.std.proofs.Common.{zero-le, suc-le-suc, le_trans, not-suc-le-zero, le_of_suc-le-suc, arith, sym, ap, ◌∙◌, subst, inl, inr, eqb→eq}
use Rattle.std.proofs.Math.Nat.{le-max_left, le-max_right, max-le}
use Rattle.std.proofs.Math.Option.{Option, some}
use Rattle.cedar.specs.Types.{Mode, strict, is_permissive, is_loose, bool, anyset, anyent, Ty, atom, set, rec, act, ent, ext, Attrs, nil, attr}
use Rattle.cedar.specs.Types.{present, as_set, as_rec, as_act, as_ent, eq_flag, eq_names, names, find, is_entity, is_record}
use Rattle.cedar.specs.Levels.{depth, depths}
use Rattle.cedar.specs.Laws.Shape.{Ascend, Ordered, OrderedFrom, WF}
use Rattle.cedar.specs.Subtype.{sub}
use Rattle.cedar.specs.Result.{Result, ok, err}
use Rattle.cedar.specs.Bound.{union, apart, is_truth, lost, upper, same_names, absent, join_equal, join_kept, join_one, join_set, join_names, bound, join_attrs}
use Rattle.cedar.proofs.Laws.Tests.{T_and, cond-case, maybe-case}
use Rattle.cedar.proofs.Laws.Equality.{as_set-some, as_rec-some, as_act-some, as_ent-some}
use Rattle.cedar.proofs.Laws.Attributes.{ordered-from, find-ordered, find-depth, find-mem}
use Rattle.cedar.proofs.Laws.Names.{In, In-here, In-there, In-cases, union-ascend, union_nonempty}
use Rattle.cedar.proofs.Laws.Result.{ok-inj, err-ok, bind_ok}
use Rattle.cedar.proofs.Laws.TypeForm.{depth_pos}

mutual
  -- `Join m a b c`: c is the bound of a and b in mode m, by the rule that gave it. The equations stand for what an index may not say.
  pub data Join : Mode → Ty → Ty → Ty → Type 0 where
    under : {m : Mode} {a b c : Ty} → T (sub m a b) → b ≡ c → Join m a b c
    over : {m : Mode} {a b c : Ty} → T (sub m b a) → a ≡ c → Join m a b c
    truths : {m : Mode} {a b : Ty} → T (is_truth a) → T (is_truth b) → Join m a b (atom bool)
    entities : {m : Mode} {a b : Ty} → T (is_entity a) → T (is_entity b) → Join m a b (atom anyent)
    untyped : {m : Mode} {t u : Ty} → T (is_loose m) → Join m (set t) (set u) (atom anyset)
    sets : {m : Mode} {t u c : Ty} → Join m t u c → Join m (set t) (set u) (set c)
    records : {m : Mode} {o p q : Bool} {xs ys cs : Attrs} → (o || p || lost cs xs ys) ≡ q → JoinAttrs m xs ys cs → Join m (rec o xs) (rec p ys) (rec q cs)
    actions : {m : Mode} {n k l : ℕ} {xs ys cs : Attrs} → n ≡ k → n ≡ l → JoinAttrs strict xs ys cs → Join m (act n xs) (act k ys) (act l cs)
    unions : {m : Mode} {ns ks ls : List ℕ} → union ns ks ≡ ls → Join m (ent ns) (ent ks) (ent ls)

  -- Two attribute lists and their bound.
  pub data JoinAttrs : Mode → Attrs → Attrs → Attrs → Type 0 where
    done : {m : Mode} {ys : Attrs} → JoinAttrs m nil ys nil
    drop : {m : Mode} {n : ℕ} {r : Bool} {t : Ty} {xs ys cs : Attrs} → JoinAttrs m xs ys cs → JoinAttrs m (attr n r t xs) ys cs
    keep : {m : Mode} {n k : ℕ} {r s : Bool} {t c : Ty} {xs ys cs : Attrs} (y : Bool × Ty)
        → n ≡ k → find n ys ≡ some y → (r && y.0) ≡ s → Join m t y.1 c → JoinAttrs m xs ys cs → JoinAttrs m (attr n r t xs) ys (attr k s c cs)

upper-case : {C : Type 0} (m : Mode) (a b : Ty) (r : Result Ty) {c : Ty} → upper m a b r ≡ ok c → (T (sub m a b) → b ≡ c → C) → (T (sub m b a) → a ≡ c → C) →
    (r ≡ ok c → C) → C
upper-case m a b r e f g k = cond-case (sub m a b) e (λ h p. f h (ok-inj p)) (λ n p. cond-case (sub m b a) p (λ h q. g h (ok-inj q)) (λ h q. k q))

-- `upper`, as a derivation.
upper-join : (m : Mode) (a b : Ty) (r : Result Ty) {c : Ty} → upper m a b r ≡ ok c → (r ≡ ok c → Join m a b c) → Join m a b c
upper-join m a b r e k = upper-case m a b r e under over k

apart-join : (m : Mode) (a b : Ty) {c : Ty} → apart m a b ≡ ok c → Join m a b c
apart-join m a b e = cond-case (is_entity a && is_entity b) e
    (λ h p. cond-case (is_permissive m) p
    (λ i q. let (h₁, h₂) = T_and (is_entity a) (is_entity b) h in subst (Join m a b) (ok-inj q) (entities h₁ h₂))
    (λ i q. err-ok q))
    (λ h p. cond-case ((is_record a && is_entity b) || (is_entity a && is_record b)) p (λ i q. err-ok q) (λ i q. err-ok q))

flag_same : (r s : Bool) → T (eq_flag r s) → (r && s) ≡ r
flag_same true true h = refl
flag_same true false h = absurd h
flag_same false s h = refl

-- An attribute whose name is in both lists, before the rest.
module _ (m : Mode) (n : ℕ) (r : Bool) (t : Ty) (xs ys : Attrs) (y : Bool × Ty) (f : find n ys ≡ some y)
    (l : Result Attrs) (k : (ds : Attrs) → l ≡ ok ds → JoinAttrs m xs ys ds) {cs : Attrs} where
  join_kept-join : (b : Result Ty) → ((c : Ty) → b ≡ ok c → Join m t y.1 c) → join_kept n r y.0 b l ≡ ok cs → JoinAttrs m (attr n r t xs) ys cs
  join_kept-join (ok c) g e = bind_ok l _ e λ ds v w. subst (JoinAttrs m (attr n r t xs) ys) (ok-inj w) (keep y refl f refl (g c refl) (k ds v))
  join_kept-join (err i) g e = drop (k _ e)

  join_equal-join : (b : Result Ty) → ((c : Ty) → b ≡ ok c → Join m t y.1 c) → join_equal n r y.0 b l ≡ ok cs → JoinAttrs m (attr n r t xs) ys cs
  join_equal-join b g e = bind_ok b _ e λ c p q.
      cond-case (eq_flag r y.0) q
      (λ h u. bind_ok l _ u λ ds v w.
      subst (JoinAttrs m (attr n r t xs) ys) (ap (λ (i : Bool). attr n i c ds) (flag_same r y.0 h) ∙ ok-inj w) (keep y refl f refl (g c p) (k ds v)))
      (λ h u. err-ok u)

  join_one-join : (b : Result Ty) → ((c : Ty) → b ≡ ok c → Join m t y.1 c) → join_one m n r y.0 b l ≡ ok cs → JoinAttrs m (attr n r t xs) ys cs
  join_one-join b g e = cond-case (is_permissive m) e (λ h p. join_kept-join b g p) (λ h p. join_equal-join b g p)

same_names-case : {C : Type 0} (m : Mode) (xs ys : Attrs) {r : Result Attrs} {cs : Attrs} → same_names m xs ys r ≡ ok cs → (r ≡ ok cs → C) → C
same_names-case m xs ys e k = cond-case (is_permissive m || eq_names (names xs) (names ys)) e (λ h p. k p) (λ h p. err-ok p)

absent-case : {C : Type 0} (m : Mode) {r : Result Attrs} {cs : Attrs} → absent m r ≡ ok cs → (r ≡ ok cs → C) → C
absent-case m e k = cond-case (is_permissive m) e (λ h p. k p) (λ h p. err-ok p)

join_names-join : (m : Mode) (ns ks : List ℕ) {c : Ty} → join_names m ns ks ≡ ok c → Join m (ent ns) (ent ks) c
join_names-join m ns ks e = cond-case (is_permissive m) e (λ h p. subst (Join m (ent ns) (ent ks)) (ok-inj p) (unions refl)) (λ h p. err-ok p)

join_set-join : (m : Mode) (t u : Ty) (r : Result Ty) {c : Ty} → join_set m r ≡ ok c → ((d : Ty) → r ≡ ok d → Join m t u d) → Join m (set t) (set u) c
join_set-join m t u (ok d) e k = subst (Join m (set t) (set u)) (ok-inj e) (sets (k d refl))
join_set-join m t u (err i) e k = cond-case (is_loose m) e (λ h p. subst (Join m (set t) (set u)) (ok-inj p) (untyped h)) (λ h p. err-ok p)

mutual
  unfolding bound

  -- Each answer of `bound` has a derivation.
  pub bound-join : (a : Ty) (m : Mode) (b : Ty) (c : Ty) → bound m a b ≡ ok c → Join m a b c
  bound-join (atom k) m b c e = upper-join m (atom k) b _ e (λ q. cond-case (is_truth (atom k) && is_truth b) q
      (λ h p. let (h₁, h₂) = T_and (is_truth (atom k)) (is_truth b) h in subst (Join m (atom k) b) (ok-inj p) (truths h₁ h₂)) (λ h p. apart-join m (atom k) b p))
  bound-join (set t) m b c e = upper-join m (set t) b _ e (λ q. maybe-case (as_set b) q (λ n p. apart-join m (set t) b p) (λ u eu p.
      subst (λ (x : Ty). Join m (set t) x c) (sym (as_set-some b u eu))
      (join_set-join m t u (bound m t u) p (λ d v. bound-join t m u d v))))
  bound-join (rec o xs) m b c e = upper-join m (rec o xs) b _ e (λ q. maybe-case (as_rec b) q (λ n p. apart-join m (rec o xs) b p) (λ y ey p.
      subst (λ (x : Ty). Join m (rec o xs) x c) (sym (as_rec-some b y ey)) (bind_ok (same_names m xs y.1 (join_attrs m xs y.1)) _ p λ d v w.
      subst (Join m (rec o xs) (rec y.0 y.1)) (ok-inj w) (records refl (same_names-case m xs y.1 v (λ u. join_attrs-join xs m y.1 d u))))))
  bound-join (act n xs) m b c e = upper-join m (act n xs) b _ e (λ q. maybe-case (as_act b) q (λ i p. apart-join m (act n xs) b p) (λ y ey p.
      cond-case (eqb n y.0) p
      (λ h g. subst (λ (x : Ty). Join m (act n xs) x c) (ap (λ (i : ℕ). act i y.1) (eqb→eq n y.0 h) ∙ sym (as_act-some b y ey))
      (bind_ok (same_names strict xs y.1 (join_attrs strict xs y.1)) _ g λ d v w.
      subst (Join m (act n xs) (act n y.1)) (ok-inj w) (actions refl refl (same_names-case strict xs y.1 v (λ u. join_attrs-join xs strict y.1 d u)))))
      (λ h g. apart-join m (act n xs) b g)))
  bound-join (ent ns) m b c e = upper-join m (ent ns) b _ e (λ q. maybe-case (as_ent b) q (λ i p. apart-join m (ent ns) b p) (λ ks ek p.
      subst (λ (x : Ty). Join m (ent ns) x c) (sym (as_ent-some b ks ek)) (join_names-join m ns ks p)))
  bound-join (ext n) m b c e = upper-join m (ext n) b _ e (λ q. apart-join m (ext n) b q)

  -- Each answer of `join_attrs` has a derivation.
  pub join_attrs-join : (xs : Attrs) (m : Mode) (ys : Attrs) (cs : Attrs) → join_attrs m xs ys ≡ ok cs → JoinAttrs m xs ys cs
  join_attrs-join nil m ys cs e = subst (JoinAttrs m nil ys) (ok-inj e) done
  join_attrs-join (attr n r t xs) m ys cs e = maybe-case (find n ys) e
      (λ i p. drop (absent-case m p (λ q. join_attrs-join xs m ys cs q)))
      (λ y ey p. join_one-join m n r t xs ys y ey (join_attrs m xs ys) (λ ds q. join_attrs-join xs m ys ds q)
      (bound m t y.1) (λ c q. bound-join t m y.1 c q) p)

mutual
  unfolding Ordered

  -- The bound of two types in order is in order.
  pub join-ordered : {m : Mode} {a b c : Ty} → Join m a b c → Ordered a → Ordered b → Ordered c
  join-ordered (under h e) oa ob = subst Ordered e ob
  join-ordered (over h e) oa ob = subst Ordered e oa
  join-ordered (truths h k) oa ob = tt
  join-ordered (entities h k) oa ob = tt
  join-ordered (untyped h) oa ob = tt
  join-ordered (sets j) oa ob = join-ordered j oa ob
  join-ordered (records e j) oa ob = join_attrs-ordered j 0 oa ob
  join-ordered (actions e f j) oa ob = join_attrs-ordered j 0 oa ob
  join-ordered (unions {ns = ns} {ks = ks} e) oa ob =
      subst (λ (l : List ℕ). (1 ≤ length l) × Ascend 0 l) e (union_nonempty ns ks ob.0, union-ascend 0 ns ks oa.1 ob.1)

  -- The bound of two attribute lists in order is in order.
  pub join_attrs-ordered : {m : Mode} {xs ys cs : Attrs} → JoinAttrs m xs ys cs → (low : ℕ) → OrderedFrom low xs → OrderedFrom 0 ys → OrderedFrom low cs
  join_attrs-ordered done low ox oy = tt
  join_attrs-ordered (drop {n = n} {cs = cs} j) low ox oy = ordered-from cs (suc n) low (let g = ox.0 in omega arith) (join_attrs-ordered j (suc n) ox.2 oy)
  join_attrs-ordered (keep {n = n} {ys = ys} {cs = cs} y e f g j k) low ox oy = (
    subst (λ (i : ℕ). low ≤ i) e ox.0,
    join-ordered j ox.1 (find-ordered ys n 0 y oy f),
    subst (λ (i : ℕ). OrderedFrom (suc i) cs) e (join_attrs-ordered k (suc n) ox.2 oy),
  )

mutual
  unfolding depth

  -- The bound has no more levels than the two.
  pub join-depth : {m : Mode} {a b c : Ty} → Join m a b c → (l : ℕ) → depth a ≤ l → depth b ≤ l → depth c ≤ l
  join-depth (under h e) l da db = subst (λ (t : Ty). depth t ≤ l) e db
  join-depth (over h e) l da db = subst (λ (t : Ty). depth t ≤ l) e da
  join-depth (truths {a = a} h k) l da db = le_trans (depth_pos a) da
  join-depth (entities {a = a} h k) l da db = le_trans (depth_pos a) da
  join-depth (untyped {t = t} h) l da db = le_trans (depth_pos (set t)) da
  join-depth (sets j) zero da db = absurd (not-suc-le-zero da)
  join-depth (sets j) (suc l) da db = suc-le-suc (join-depth j l (le_of_suc-le-suc da) (le_of_suc-le-suc db))
  join-depth (records e j) zero da db = absurd (not-suc-le-zero da)
  join-depth (records e j) (suc l) da db = suc-le-suc (join_attrs-depth j l (le_of_suc-le-suc da) (le_of_suc-le-suc db))
  join-depth (actions e f j) zero da db = absurd (not-suc-le-zero da)
  join-depth (actions e f j) (suc l) da db = suc-le-suc (join_attrs-depth j l (le_of_suc-le-suc da) (le_of_suc-le-suc db))
  join-depth (unions e) l da db = da

  -- The bound of two attribute lists has no more levels than the two.
  pub join_attrs-depth : {m : Mode} {xs ys cs : Attrs} → JoinAttrs m xs ys cs → (l : ℕ) → depths xs ≤ l → depths ys ≤ l → depths cs ≤ l
  join_attrs-depth done l dx dy = zero-le
  join_attrs-depth (drop {t = t} {xs = xs} j) l dx dy = join_attrs-depth j l (le_trans (le-max_right (depth t) (depths xs)) dx) dy
  join_attrs-depth (keep {n = n} {t = t} {xs = xs} {ys = ys} y e f g j k) l dx dy =
      max-le (join-depth j l (le_trans (le-max_left (depth t) (depths xs)) dx) (le_trans (find-depth ys n y f) dy))
      (join_attrs-depth k l (le_trans (le-max_right (depth t) (depths xs)) dx) dy)

-- The bound of two types in order is in order.
pub bound-ordered : (m : Mode) (a b c : Ty) → Ordered a → Ordered b → bound m a b ≡ ok c → Ordered c
bound-ordered m a b c oa ob e = join-ordered (bound-join a m b c e) oa ob

-- The bound has no more levels than the deeper of the two.
pub bound-depth : (m : Mode) (a b c : Ty) → bound m a b ≡ ok c → depth c ≤ max (depth a) (depth b)
bound-depth m a b c e = join-depth (bound-join a m b c e) (max (depth a) (depth b)) (le-max_left (depth a) (depth b)) (le-max_right (depth a) (depth b))

-- The bound of two types in order, of at most so many levels, is in order, of at most so many levels.
pub bound-WF : (l : ℕ) (m : Mode) (a b c : Ty) → WF l a → WF l b → bound m a b ≡ ok c → WF l c
bound-WF l m a b c wa wb e = let j = bound-join a m b c e in (join-depth j l wa.0 wb.0, join-ordered j wa.1 wb.1)

-- The names of a bound of attribute lists are names of the first.
pub join-names-left : {m : Mode} {xs ys cs : Attrs} → JoinAttrs m xs ys cs → (x : ℕ) → In x (names cs) → In x (names xs)
join-names-left done x h = h
join-names-left (drop {n = n} {xs = xs} j) x h = In-there x n (names xs) (join-names-left j x h)
join-names-left (keep {n = n} {k = k} {xs = xs} {cs = cs} y e f g i j) x h = elim (In-cases x k (names cs) h) [
  | inl q ↦ subst (λ (z : ℕ). In z (n ∷ names xs)) (e ∙ sym q) (In-here n (names xs))
  | inr q ↦ In-there x n (names xs) (join-names-left j x q)
]

-- The names of a bound of attribute lists are names of the second.
pub join-names-right : {m : Mode} {xs ys cs : Attrs} → JoinAttrs m xs ys cs → (x : ℕ) → In x (names cs) → In x (names ys)
join-names-right done x h = absurd h
join-names-right (drop j) x h = join-names-right j x h
join-names-right (keep {n = n} {k = k} {ys = ys} {cs = cs} y e f g i j) x h = elim (In-cases x k (names cs) h) [
  | inl q ↦ subst (λ (z : ℕ). In z (names ys)) (e ∙ sym q) (subst T (ap (λ (o : Option (Bool × Ty)). present o) (sym f) ∙ find-mem ys n) tt)
  | inr q ↦ join-names-right j x q
]
