-- Laws of subtype on types in order.
use Rattle.std.specs.Prelude.{ℕ, suc, ◌<◌, List, [], ◌∷◌, Bool, true, false, not, ◌&&◌, ◌||◌, ◌≡◌, refl, T, eqb, length}
use Rattle.std.proofs.Common.{le_refl, arith, sym, ap, ap₂, ◌∙◌, subst, inl, inr, T_not, eqb→eq}
use Rattle.std.proofs.Math.Option.{Option, none, some, some-injective}
use Rattle.cedar.specs.Types.{Mode, is_permissive, Atom, never, true', false', bool, long, string, anyset, anyent}
use Rattle.cedar.specs.Types.{Ty, atom, set, rec, act, ent, ext, Attrs, nil, attr}
use Rattle.cedar.specs.Types.{maybe, present, is, eq_flag, eq_names, names, find, same, is_never, as_set, as_rec, as_ent}
use Rattle.cedar.specs.Laws.Shape.{Ascend, Ordered, OrderedFrom}
use Rattle.cedar.specs.Subtype.{sub_atom, sub_flag, subset, sub_names, sub_record, sub, sub_attrs}
use Rattle.cedar.proofs.Laws.Tests.{T_and, and_T, T-or, or_inl, or_inr, or-false, not-or, not-or→, T-ext, T-case}
use Rattle.cedar.proofs.Laws.Tests.{cond-case, cond-T, cond-second, cond_both, maybe-T, T-maybe, none-some, present-some, eqb-true}
use Rattle.cedar.proofs.Laws.Equality.{is→eq, is-refl, eq_flag→eq, eq_flag-refl, eq_names→eq, eq_names-refl, same→eq, same_refl, attr-equal, as_set-some}
use Rattle.cedar.proofs.Laws.Equality.{as_rec-some, as_ent-some}
use Rattle.cedar.proofs.Laws.Attributes.{find-equal, find-other, find-mem, ascend-names}
use Rattle.cedar.proofs.Laws.Names.{In, subset-In, In-subset, ascend-ext}

-- What `sub_attrs` says of one name.
pub found : {C : Type 0} (m : Mode) (s : Bool) (u : Ty) (o : Option (Bool × Ty)) → T (maybe false (λ x. sub_flag m x.0 s && sub m x.1 u) o)
    → ((x : Bool × Ty) → o ≡ some x → T (sub_flag m x.0 s) → T (sub m x.1 u) → C) → C
found m s u none h k = absurd h
found m s u (some x) h k = let (f, g) = T_and (sub_flag m x.0 s) (sub m x.1 u) h in k x refl f g

-- A name below those of the upper list may stand before the lower one.
pub sub_attrs-skip : (ys : Attrs) (m : Mode) (k low : ℕ) (r : Bool) (t : Ty) (xs : Attrs) → k < low → OrderedFrom low ys →
    sub_attrs m (attr k r t xs) ys ≡ sub_attrs m xs ys
unfolding sub Ordered
sub_attrs-skip nil m k low r t xs l o = refl
sub_attrs-skip (attr n s u ys) m k low r t xs l o = ap₂ (λ (f : Option (Bool × Ty)) (b : Bool). maybe false (λ x. sub_flag m x.0 s && sub m x.1 u) f && b)
    (find-other n k r t xs (λ e. let g = o.0 in omega arith)) (sub_attrs-skip ys m k (suc n) r t xs (let g = o.0 in omega arith) o.2)

-- A flag is under another: required where that is and, strict, equal to it.
sub_flag-of : (m : Mode) (r s : Bool) → (T s → T r) → (T (not (is_permissive m)) → r ≡ s) → T (sub_flag m r s)
sub_flag-of m r s f g = cond_both T (is_permissive m)
    (λ p. T-case s (λ t. or_inl r (not s) (f t)) (λ t. or_inr r (not s) t))
    (λ p. subst (λ (z : Bool). T (eq_flag r z)) (g p) (eq_flag-refl r))

-- In each mode the flag under a required one is required.
pub sub_flag-required : (m : Mode) (r s : Bool) → T (sub_flag m r s) → T s → T r
sub_flag-required m r s h t = cond-T (is_permissive m) (r || not s) (eq_flag r s) h
    (λ k. elim (T-or r (not s) k) [ inl a ↦ a | inr b ↦ absurd (T_not s b t) ])
    (λ k. subst T (sym (eq_flag→eq r s k)) t)

-- Strict, a flag under another is equal to it.
pub sub_flag-equal : (m : Mode) (r s : Bool) → T (not (is_permissive m)) → T (sub_flag m r s) → r ≡ s
sub_flag-equal m r s n h = eq_flag→eq r s (cond-second (is_permissive m) (r || not s) (eq_flag r s) n h)

-- Entity types are under others: among them and, strict, equal to them.
sub_names-of : (m : Mode) (ns ks : List ℕ) → ((x : ℕ) → In x ns → In x ks) → (T (not (is_permissive m)) → ns ≡ ks) → T (sub_names m ns ks)
sub_names-of m ns ks f g = cond_both T (is_permissive m)
    (λ p. In-subset ns ks f) (λ p. subst (λ (z : List ℕ). T (eq_names ns z)) (g p) (eq_names-refl ns))

-- In each mode entity types under others are among them.
pub sub_names-In : (m : Mode) (ns ks : List ℕ) → T (sub_names m ns ks) → (x : ℕ) → In x ns → In x ks
sub_names-In m ns ks h x i = cond-T (is_permissive m) (subset ns ks) (eq_names ns ks) h
    (λ k. subset-In x ns ks k i) (λ k. subst (In x) (eq_names→eq ns ks k) i)

-- Strict, entity types under others are equal to them.
pub sub_names-equal : (m : Mode) (ns ks : List ℕ) → T (not (is_permissive m)) → T (sub_names m ns ks) → ns ≡ ks
sub_names-equal m ns ks n h = eq_names→eq ns ks (cond-second (is_permissive m) (subset ns ks) (eq_names ns ks) n h)

sub_flag-refl : (m : Mode) (r : Bool) → T (sub_flag m r r)
sub_flag-refl m r = sub_flag-of m r r (λ t. t) (λ n. refl)

-- Entity types are under themselves.
pub sub_names-refl : (m : Mode) (ns : List ℕ) → T (sub_names m ns ns)
sub_names-refl m ns = sub_names-of m ns ns (λ x i. i) (λ n. refl)

mutual
  unfolding sub Ordered

  -- A type in order is under itself.
  pub sub_refl : (a : Ty) (m : Mode) → Ordered a → T (sub m a a)
  sub_refl (atom k) m o = or_inr (is k never) _ (or_inl (is k k) _ (is-refl k))
  sub_refl (set t) m o = sub_refl t m o
  sub_refl (rec p xs) m o = and_T (sub_record m (p, xs) p xs) (sub_attrs m xs xs)
      (and_T (not p || p) (eq_names (names xs) (names xs) || (is_permissive m && p)) (not-or p)
      (or_inl (eq_names (names xs) (names xs)) (is_permissive m && p) (eq_names-refl (names xs))))
      (sub_attrs-refl xs m 0 o)
  sub_refl (act n xs) m o = same_refl (act n xs)
  sub_refl (ent ns) m o = sub_names-refl m ns
  sub_refl (ext n) m o = same_refl (ext n)

  -- An attribute list in order is under itself.
  pub sub_attrs-refl : (xs : Attrs) (m : Mode) (low : ℕ) → OrderedFrom low xs → T (sub_attrs m xs xs)
  sub_attrs-refl nil m low o = tt
  sub_attrs-refl (attr n r t xs) m low o =
      and_T (maybe false (λ x. sub_flag m x.0 r && sub m x.1 t) (find n (attr n r t xs))) (sub_attrs m (attr n r t xs) xs)
      (rw (eqb-true n) (and_T (sub_flag m r r) (sub m t t) (sub_flag-refl m r) (sub_refl t m o.1)))
      (rw (sub_attrs-skip xs m n (suc n) r t xs (le_refl (suc n)) o.2) (sub_attrs-refl xs m (suc n) o.2))

-- One atom under another.
abbrev atom_under : Atom → Atom → Bool
atom_under j k = is j never || (is j k || (is k bool && (is j true' || is j false')))

under-least : (j k : Atom) → (T (atom_under k never) → ⊥) → T (is j never || (is j k || false)) → T (atom_under k j) → j ≡ k
under-least j k n q p = elim (T-or (is j never) (is j k || false) q) [
  | inl a ↦ absurd (n (subst (λ (i : Atom). T (atom_under k i)) (is→eq j never a) p))
  | inr b ↦ is→eq j k (or-false (is j k) b)
]

under-anti : (k j : Atom) → T (atom_under k j) → T (atom_under j k) → j ≡ k
under-anti never j p q = elim (T-or (is j never) (is j never || false) q) [ inl a ↦ is→eq j never a | inr b ↦ is→eq j never (or-false (is j never) b) ]
under-anti true' j p q = under-least j true' (λ n. n) q p
under-anti false' j p q = under-least j false' (λ n. n) q p
under-anti bool never p q = absurd p
under-anti bool true' p q = absurd p
under-anti bool false' p q = absurd p
under-anti bool bool p q = refl
under-anti bool long p q = absurd p
under-anti bool string p q = absurd p
under-anti bool anyset p q = absurd p
under-anti bool anyent p q = absurd p
under-anti long j p q = under-least j long (λ n. n) q p
under-anti string j p q = under-least j string (λ n. n) q p
under-anti anyset j p q = under-least j anyset (λ n. n) q p
under-anti anyent j p q = under-least j anyent (λ n. n) q p

is-both : (k i j : Atom) → T (is k i) → T (is k j) → i ≡ j
is-both k i j p q = sym (is→eq k i p) ∙ is→eq k j q

never≢anyset : never ≡ anyset → ⊥
never≢anyset e = let z : ◌≡◌ {A = ℕ} 0 1 = cc in omega arith

never≢anyent : never ≡ anyent → ⊥
never≢anyent e = let z : ◌≡◌ {A = ℕ} 0 1 = cc in omega arith

-- An atom and a type under each other are the same.
pub atom-anti : (m : Mode) (k : Atom) (b : Ty) → T (sub m (atom k) b) → T (sub m b (atom k)) → b ≡ atom k
unfolding sub same
atom-anti m k (atom j) p q = ap atom (under-anti k j p q)
atom-anti m k (set u) p q = absurd (never≢anyset (is-both k never anyset (or-false (is k never) p) q))
atom-anti m k (rec o xs) p q = absurd q
atom-anti m k (act n xs) p q = absurd (never≢anyent (is-both k never anyent (or-false (is k never) p) (T_and (is k anyent) (is_permissive m) q).0))
atom-anti m k (ent ns) p q = absurd (never≢anyent (is-both k never anyent (or-false (is k never) p) (T_and (is k anyent) (is_permissive m) q).0))
atom-anti m k (ext n) p q = absurd q

-- An extension and a type under each other are the same.
pub ext-anti : (m : Mode) (n : ℕ) (b : Ty) → T (sub m (ext n) b) → T (sub m b (ext n)) → b ≡ ext n
unfolding sub same
ext-anti m n (atom k) p q = absurd p
ext-anti m n (set u) p q = absurd p
ext-anti m n (rec o xs) p q = absurd p
ext-anti m n (act k xs) p q = absurd p
ext-anti m n (ent ns) p q = absurd p
ext-anti m n (ext k) p q = same→eq (ext k) (ext n) q

-- Never is under every type.
pub never-sub : (m : Mode) (a b : Ty) → T (is_never a) → T (sub m a b)
unfolding sub
never-sub m a (atom k) h = or_inl (is_never a) (sub_atom m a k) h
never-sub m a (set u) h = or_inl (is_never a) (maybe false (λ t. sub m t u) (as_set a)) h
never-sub m a (rec p ys) h = or_inl (is_never a) (maybe false (λ x. sub_record m x p ys && sub_attrs m x.1 ys) (as_rec a)) h
never-sub m a (act n ys) h = or_inl (is_never a) (same a (act n ys)) h
never-sub m a (ent ks) h = or_inl (is_never a) (maybe false (λ ns. sub_names m ns ks) (as_ent a)) h
never-sub m a (ext n) h = or_inl (is_never a) (same a (ext n)) h

under-never : (m : Mode) (a : Ty) → T (sub m a (atom never)) → T (is_never a)
unfolding sub
under-never m (atom j) p = elim (T-or (is j never) (is j never || false) p) [ inl q ↦ q | inr q ↦ or-false (is j never) q ]
under-never m (set t) p = p
under-never m (rec o xs) p = p
under-never m (act n xs) p = p
under-never m (ent ns) p = p
under-never m (ext n) p = p

-- Only Never is under Never.
pub sub_never : (m : Mode) (a b : Ty) → T (is_never b) → T (sub m a b) → T (is_never a)
sub_never m a (atom k) h p = under-never m a (subst (λ (i : Atom). T (sub m a (atom i))) (is→eq k never h) p)
sub_never m a (set u) h p = absurd h
sub_never m a (rec q ys) h p = absurd h
sub_never m a (act n ys) h p = absurd h
sub_never m a (ent ks) h p = absurd h
sub_never m a (ext n) h p = absurd h

-- What is above Bool, the untyped set or any entity is itself.
over-bool : (k : Atom) → T (atom_under bool k) → T (is k bool)
over-bool never p = p
over-bool true' p = p
over-bool false' p = p
over-bool bool p = tt
over-bool long p = p
over-bool string p = p
over-bool anyset p = p
over-bool anyent p = p

over-anyset : (k : Atom) → T (atom_under anyset k) → T (is k anyset)
over-anyset never p = p
over-anyset true' p = p
over-anyset false' p = p
over-anyset bool p = p
over-anyset long p = p
over-anyset string p = p
over-anyset anyset p = tt
over-anyset anyent p = p

over-anyent : (k : Atom) → T (atom_under anyent k) → T (is k anyent)
over-anyent never p = p
over-anyent true' p = p
over-anyent false' p = p
over-anyent bool p = p
over-anyent long p = p
over-anyent string p = p
over-anyent anyset p = p
over-anyent anyent p = tt

under-trans : (i j k : Atom) → T (atom_under i j) → T (atom_under j k) → T (atom_under i k)
under-trans i j k p q = elim (T-or (is i never) (is i j || (is j bool && (is i true' || is i false'))) p) [
  | inl a ↦ or_inl (is i never) (is i k || (is k bool && (is i true' || is i false'))) a
  | inr a ↦ elim (T-or (is i j) (is j bool && (is i true' || is i false')) a) [
    | inl b ↦ subst (λ (z : Atom). T (atom_under z k)) (sym (is→eq i j b)) q
    | inr b ↦
        let (b₁, b₂) = T_and (is j bool) (is i true' || is i false') b in
        or_inr (is i never) (is i k || (is k bool && (is i true' || is i false')))
        (or_inr (is i k) (is k bool && (is i true' || is i false'))
        (and_T (is k bool) (is i true' || is i false') (over-bool k (subst (λ (z : Atom). T (atom_under z k)) (is→eq j bool b₁) q)) b₂))
  ]
]

-- An atom above an atom that is above a type is above the type.
above-atom : (m : Mode) (a : Ty) (j k : Atom) → T (sub m a (atom j)) → T (atom_under j k) → T (sub m a (atom k))
unfolding sub
above-atom m (atom i) j k p q = under-trans i j k p q
above-atom m (set t) j k p q = over-anyset k (subst (λ (z : Atom). T (atom_under z k)) (is→eq j anyset p) q)
above-atom m (rec o xs) j k p q = p
above-atom m (act n xs) j k p q = let (p₁, p₂) = T_and (is j anyent) (is_permissive m) p in
    and_T (is k anyent) (is_permissive m) (over-anyent k (subst (λ (z : Atom). T (atom_under z k)) (is→eq j anyent p₁) q)) p₂
above-atom m (ent ns) j k p q = let (p₁, p₂) = T_and (is j anyent) (is_permissive m) p in
    and_T (is k anyent) (is_permissive m) (over-anyent k (subst (λ (z : Atom). T (atom_under z k)) (is→eq j anyent p₁) q)) p₂
above-atom m (ext n) j k p q = p

sub_flag-trans : (m : Mode) (q r s : Bool) → T (sub_flag m q r) → T (sub_flag m r s) → T (sub_flag m q s)
sub_flag-trans m q r s f g = sub_flag-of m q s (λ t. sub_flag-required m q r f (sub_flag-required m r s g t))
    (λ n. sub_flag-equal m q r n f ∙ sub_flag-equal m r s n g)

sub_names-trans : (m : Mode) (ns ks ls : List ℕ) → T (sub_names m ns ks) → T (sub_names m ks ls) → T (sub_names m ns ls)
sub_names-trans m ns ks ls f g = sub_names-of m ns ls (λ x i. sub_names-In m ks ls g x (sub_names-In m ns ks f x i))
    (λ n. sub_names-equal m ns ks n f ∙ sub_names-equal m ks ls n g)

open-trans : (m : Mode) (o p q : Bool) (a b c : Bool) → (T a → T b → T c) → T ((not o || p) && (a || (is_permissive m && p))) →
    T ((not p || q) && (b || (is_permissive m && q))) → T ((not o || q) && (c || (is_permissive m && q)))
open-trans m o p q a b c f h k =
    let (h₁, h₂) = T_and (not o || p) (a || (is_permissive m && p)) h in
    let (k₁, k₂) = T_and (not p || q) (b || (is_permissive m && q)) k in
    and_T (not o || q) (c || (is_permissive m && q)) (chain o h₁ k₁)
    (elim (T-or b (is_permissive m && q) k₂) [
      | inl y ↦ elim (T-or a (is_permissive m && p) h₂) [
        | inl x ↦ or_inl c (is_permissive m && q) (f x y)
        | inr x ↦ let (x₁, x₂) = T_and (is_permissive m) p x in or_inr c (is_permissive m && q) (and_T (is_permissive m) q x₁ (not-or→ p q k₁ x₂))
      ]
      | inr y ↦ or_inr c (is_permissive m && q) y
    ])
  where
    chain : (o : Bool) → T (not o || p) → T (not p || q) → T (not o || q)
    chain true h k = not-or→ p q k h
    chain false h k = tt

sub_record-trans : (m : Mode) (o p q : Bool) (xs ys zs : Attrs) → T (sub_record m (o, xs) p ys) → T (sub_record m (p, ys) q zs) → T (sub_record m (o, xs) q zs)
sub_record-trans m o p q xs ys zs h k = open-trans m o p q (eq_names (names xs) (names ys)) (eq_names (names ys) (names zs)) (eq_names (names xs) (names zs))
    (λ f g. subst (λ (l : List ℕ). T (eq_names l (names zs))) (sym (eq_names→eq (names xs) (names ys) f)) g) h k

-- A name of the upper list stands in the lower one, there with a flag and a type below.
pub sub_attrs-find : {C : Type 0} (ys : Attrs) (m : Mode) (xs : Attrs) (n : ℕ) (y : Bool × Ty) → T (sub_attrs m xs ys) → find n ys ≡ some y
    → ((x : Bool × Ty) → find n xs ≡ some x → T (sub_flag m x.0 y.0) → T (sub m x.1 y.1) → C) → C
unfolding sub
sub_attrs-find nil m xs n y h e k = none-some e
sub_attrs-find (attr i s u ys) m xs n y h e k =
    let (h₁, h₂) = T_and (maybe false (λ x. sub_flag m x.0 s && sub m x.1 u) (find i xs)) (sub_attrs m xs ys) h in
    cond-case (eqb n i) e
    (λ t p. found m s u (find i xs) h₁ λ x ex f g.
    let q = some-injective _ _ p in
    k x (ap (λ (z : ℕ). find z xs) (eqb→eq n i t) ∙ ex) (subst (λ (z : Bool × Ty). T (sub_flag m x.0 z.0)) q f)
    (subst (λ (z : Bool × Ty). T (sub m x.1 z.1)) q g))
    (λ t p. sub_attrs-find ys m xs n y h₂ p k)

mutual
  unfolding sub

  -- Subtype is transitive.
  pub sub_trans : (c : Ty) (m : Mode) (a b : Ty) → T (sub m a b) → T (sub m b c) → T (sub m a c)
  sub_trans (atom k) m a (atom j) p q = above-atom m a j k p q
  sub_trans (atom k) m a (set u) p q = elim (T-or (is_never a) (maybe false (λ t. sub m t u) (as_set a)) p) [
    | inl h ↦ never-sub m a (atom k) h
    | inr h ↦ maybe-T (as_set a) (λ t. sub m t u) h λ t e s. subst (λ (z : Ty). T (sub m z (atom k))) (sym (as_set-some a t e)) q
  ]
  sub_trans (atom k) m a (rec o ys) p q = absurd q
  sub_trans (atom k) m a (act n ys) p q = elim (T-or (is_never a) (same a (act n ys)) p) [
    | inl h ↦ never-sub m a (atom k) h
    | inr h ↦ subst (λ (z : Ty). T (sub m z (atom k))) (sym (same→eq a (act n ys) h)) q
  ]
  sub_trans (atom k) m a (ent ks) p q = elim (T-or (is_never a) (maybe false (λ ns. sub_names m ns ks) (as_ent a)) p) [
    | inl h ↦ never-sub m a (atom k) h
    | inr h ↦ maybe-T (as_ent a) (λ ns. sub_names m ns ks) h λ ns e s. subst (λ (z : Ty). T (sub m z (atom k))) (sym (as_ent-some a ns e)) q
  ]
  sub_trans (atom k) m a (ext n) p q = absurd q
  sub_trans (set w) m a b p q = elim (T-or (is_never b) (maybe false (λ u. sub m u w) (as_set b)) q) [
    | inl h ↦ never-sub m a (set w) (sub_never m a b h p)
    | inr h ↦ maybe-T (as_set b) (λ u. sub m u w) h λ u eu s.
        elim (T-or (is_never a) (maybe false (λ t. sub m t u) (as_set a)) (subst (λ (z : Ty). T (sub m a z)) (as_set-some b u eu) p)) [
          | inl i ↦ never-sub m a (set w) i
          | inr i ↦ maybe-T (as_set a) (λ t. sub m t u) i λ t et r. or_inr (is_never a) (maybe false (λ v. sub m v w) (as_set a))
              (T-maybe (λ v. sub m v w) et (sub_trans w m t u r s))
        ]
  ]
  sub_trans (rec q zs) m a b p h = elim (T-or (is_never b) (maybe false (λ y. sub_record m y q zs && sub_attrs m y.1 zs) (as_rec b)) h) [
    | inl i ↦ never-sub m a (rec q zs) (sub_never m a b i p)
    | inr i ↦ maybe-T (as_rec b) (λ y. sub_record m y q zs && sub_attrs m y.1 zs) i λ y ey s.
        elim (T-or (is_never a) (maybe false (λ x. sub_record m x y.0 y.1 && sub_attrs m x.1 y.1) (as_rec a))
        (subst (λ (z : Ty). T (sub m a z)) (as_rec-some b y ey) p)) [
          | inl j ↦ never-sub m a (rec q zs) j
          | inr j ↦ maybe-T (as_rec a) (λ x. sub_record m x y.0 y.1 && sub_attrs m x.1 y.1) j λ x ex r.
              let (s₁, s₂) = T_and (sub_record m y q zs) (sub_attrs m y.1 zs) s in
              let (r₁, r₂) = T_and (sub_record m x y.0 y.1) (sub_attrs m x.1 y.1) r in
              or_inr (is_never a) (maybe false (λ v. sub_record m v q zs && sub_attrs m v.1 zs) (as_rec a))
              (T-maybe (λ v. sub_record m v q zs && sub_attrs m v.1 zs) ex
              (and_T (sub_record m x q zs) (sub_attrs m x.1 zs) (sub_record-trans m x.0 y.0 q x.1 y.1 zs r₁ s₁)
              (sub_attrs-trans zs m x.1 y.1 r₂ s₂)))
        ]
  ]
  sub_trans (act n zs) m a b p q = elim (T-or (is_never b) (same b (act n zs)) q) [
    | inl h ↦ never-sub m a (act n zs) (sub_never m a b h p)
    | inr h ↦ subst (λ (z : Ty). T (sub m a z)) (same→eq b (act n zs) h) p
  ]
  sub_trans (ent ls) m a b p q = elim (T-or (is_never b) (maybe false (λ ks. sub_names m ks ls) (as_ent b)) q) [
    | inl h ↦ never-sub m a (ent ls) (sub_never m a b h p)
    | inr h ↦ maybe-T (as_ent b) (λ ks. sub_names m ks ls) h λ ks ek s.
        elim (T-or (is_never a) (maybe false (λ ns. sub_names m ns ks) (as_ent a)) (subst (λ (z : Ty). T (sub m a z)) (as_ent-some b ks ek) p)) [
          | inl i ↦ never-sub m a (ent ls) i
          | inr i ↦ maybe-T (as_ent a) (λ ns. sub_names m ns ks) i λ ns en r. or_inr (is_never a) (maybe false (λ v. sub_names m v ls) (as_ent a))
              (T-maybe (λ v. sub_names m v ls) en (sub_names-trans m ns ks ls r s))
        ]
  ]
  sub_trans (ext n) m a b p q = elim (T-or (is_never b) (same b (ext n)) q) [
    | inl h ↦ never-sub m a (ext n) (sub_never m a b h p)
    | inr h ↦ subst (λ (z : Ty). T (sub m a z)) (same→eq b (ext n) h) p
  ]

  -- So it is on attribute lists.
  pub sub_attrs-trans : (zs : Attrs) (m : Mode) (xs ys : Attrs) → T (sub_attrs m xs ys) → T (sub_attrs m ys zs) → T (sub_attrs m xs zs)
  sub_attrs-trans nil m xs ys p q = tt
  sub_attrs-trans (attr n s w zs) m xs ys p q =
      let (q₁, q₂) = T_and (maybe false (λ y. sub_flag m y.0 s && sub m y.1 w) (find n ys)) (sub_attrs m ys zs) q in
      and_T (maybe false (λ x. sub_flag m x.0 s && sub m x.1 w) (find n xs)) (sub_attrs m xs zs)
      (found m s w (find n ys) q₁ λ y ey f g. sub_attrs-find ys m xs n y p ey λ x ex h i.
      T-maybe (λ x. sub_flag m x.0 s && sub m x.1 w)
      ex (and_T (sub_flag m x.0 s) (sub m x.1 w) (sub_flag-trans m x.0 y.0 s h f) (sub_trans w m x.1 y.1 i g)))
      (sub_attrs-trans zs m xs ys p q₂)

-- Each name of the upper list is one of the lower.
pub sub_attrs-names : (m : Mode) (xs ys : Attrs) → T (sub_attrs m xs ys) → (n : ℕ) → In n (names ys) → In n (names xs)
sub_attrs-names m xs ys h n i = present-some (find n ys) (subst T (sym (find-mem ys n)) i) λ y e.
    sub_attrs-find ys m xs n y h e λ x ex f g. subst T (ap (λ (o : Option (Bool × Ty)). present o) (sym ex) ∙ find-mem xs n) tt

sub_flag-anti : (m : Mode) (r s : Bool) → T (sub_flag m r s) → T (sub_flag m s r) → r ≡ s
sub_flag-anti m r s f g = T-ext r s (sub_flag-required m s r g) (sub_flag-required m r s f)

sub_names-anti : (m : Mode) (ns ks : List ℕ) → Ascend 0 ns → Ascend 0 ks → T (sub_names m ns ks) → T (sub_names m ks ns) → ns ≡ ks
sub_names-anti m ns ks a b f g = ascend-ext 0 ns ks a b (sub_names-In m ns ks f) (sub_names-In m ks ns g)

open-anti : (o p : Bool) → T (not o || p) → T (not p || o) → o ≡ p
open-anti true true f g = refl
open-anti true false f g = absurd f
open-anti false true f g = absurd g
open-anti false false f g = refl

no_names : {C : Type 0} {n : ℕ} {ns : List ℕ} → [] ≡ n ∷ ns → C
no_names e = absurd (let z = ap length e in omega arith)

-- What the first attributes of two lists say, one list under the other.
first_under : {C : Type 0} (m : Mode) (n k : ℕ) (r s : Bool) (t u : Ty) (xs ys : Attrs) → n ≡ k → T (sub_attrs m (attr n r t xs) (attr k s u ys)) →
    (T (sub_flag m r s) → T (sub m t u) → C) → C
first_under m n k r s t u xs ys e h c = sub_attrs-find (attr k s u ys) m (attr n r t xs) k (s, u) h (find-equal k k s u ys refl) λ x ex f g.
    let q : (r, t) ≡ x = some-injective _ _ (sym (find-equal k n r t xs (sym e)) ∙ ex) in
    c (subst (λ (z : Bool × Ty). T (sub_flag m z.0 s)) (sym q) f) (subst (λ (z : Bool × Ty). T (sub m z.1 u)) (sym q) g)

rest_under : (m : Mode) (n k : ℕ) (r s : Bool) (t u : Ty) (xs ys : Attrs) → n ≡ k → OrderedFrom (suc k) ys → T (sub_attrs m (attr n r t xs) (attr k s u ys)) →
    T (sub_attrs m xs ys)
unfolding sub
rest_under m n k r s t u xs ys e o h = subst T (sub_attrs-skip ys m n (suc k) r t xs (omega arith) o)
    (T_and (maybe false (λ x. sub_flag m x.0 s && sub m x.1 u) (find k (attr n r t xs))) (sub_attrs m (attr n r t xs) ys) h).1

mutual
  unfolding sub same Ordered

  -- Two types in order under each other are the same.
  pub sub_anti : (a : Ty) (m : Mode) (b : Ty) → Ordered a → Ordered b → T (sub m a b) → T (sub m b a) → a ≡ b
  sub_anti (atom k) m b oa ob p q = sym (atom-anti m k b p q)
  sub_anti (set t) m (atom j) oa ob p q = atom-anti m j (set t) q p
  sub_anti (set t) m (set u) oa ob p q = ap set (sub_anti t m u oa ob p q)
  sub_anti (set t) m (rec o ys) oa ob p q = absurd p
  sub_anti (set t) m (act k ys) oa ob p q = absurd p
  sub_anti (set t) m (ent ks) oa ob p q = absurd p
  sub_anti (set t) m (ext k) oa ob p q = absurd p
  sub_anti (rec o xs) m (atom j) oa ob p q = atom-anti m j (rec o xs) q p
  sub_anti (rec o xs) m (set u) oa ob p q = absurd p
  sub_anti (rec o xs) m (rec r ys) oa ob p q =
      let (p₁, p₂) = T_and (sub_record m (o, xs) r ys) (sub_attrs m xs ys) p in
      let (q₁, q₂) = T_and (sub_record m (r, ys) o xs) (sub_attrs m ys xs) q in
      ap₂ rec
      (open-anti o r (T_and (not o || r) (eq_names (names xs) (names ys) || (is_permissive m && r)) p₁).0
      (T_and (not r || o) (eq_names (names ys) (names xs) || (is_permissive m && o)) q₁).0)
      (attrs-anti xs m ys 0 oa ob
      (ascend-ext 0 (names xs) (names ys) (ascend-names xs 0 oa) (ascend-names ys 0 ob) (sub_attrs-names m ys xs q₂) (sub_attrs-names m xs ys p₂)) p₂ q₂)
  sub_anti (rec o xs) m (act k ys) oa ob p q = absurd p
  sub_anti (rec o xs) m (ent ks) oa ob p q = absurd p
  sub_anti (rec o xs) m (ext k) oa ob p q = absurd p
  sub_anti (act n xs) m (atom j) oa ob p q = atom-anti m j (act n xs) q p
  sub_anti (act n xs) m (set u) oa ob p q = absurd p
  sub_anti (act n xs) m (rec r ys) oa ob p q = absurd p
  sub_anti (act n xs) m (act k ys) oa ob p q = same→eq (act n xs) (act k ys) p
  sub_anti (act n xs) m (ent ks) oa ob p q = absurd p
  sub_anti (act n xs) m (ext k) oa ob p q = absurd p
  sub_anti (ent ns) m (atom j) oa ob p q = atom-anti m j (ent ns) q p
  sub_anti (ent ns) m (set u) oa ob p q = absurd p
  sub_anti (ent ns) m (rec r ys) oa ob p q = absurd p
  sub_anti (ent ns) m (act k ys) oa ob p q = absurd p
  sub_anti (ent ns) m (ent ks) oa ob p q = ap ent (sub_names-anti m ns ks oa.1 ob.1 p q)
  sub_anti (ent ns) m (ext k) oa ob p q = absurd p
  sub_anti (ext n) m b oa ob p q = sym (ext-anti m n b p q)

  attrs-anti : (xs : Attrs) (m : Mode) (ys : Attrs) (low : ℕ) → OrderedFrom low xs → OrderedFrom low ys → names xs ≡ names ys → T (sub_attrs m xs ys) →
      T (sub_attrs m ys xs) → xs ≡ ys
  attrs-anti nil m nil low ox oy e p q = refl
  attrs-anti nil m (attr k s u ys) low ox oy e p q = no_names e
  attrs-anti (attr n r t xs) m nil low ox oy e p q = no_names (sym e)
  attrs-anti (attr n r t xs) m (attr k s u ys) low ox oy e p q =
      let h : n ≡ k = cc in
      let i : names xs ≡ names ys = cc in
      first_under m n k r s t u xs ys h p λ f g.
      first_under m k n s r u t ys xs (sym h) q λ f' g'.
      attr-equal h (sub_flag-anti m r s f f') (sub_anti t m u ox.1 oy.1 g g')
      (attrs-anti xs m ys (suc n) ox.2 (subst (λ (z : ℕ). OrderedFrom (suc z) ys) (sym h) oy.2) i (rest_under m n k r s t u xs ys h oy.2 p)
      (rest_under m k n s r u t ys xs (sym h) ox.2 q))
