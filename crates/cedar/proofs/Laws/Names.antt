-- Laws of ascending name lists: two with the same members are equal, and `union` has the members of both.
use Rattle.std.specs.Prelude.{ℕ, suc, ◌≤◌, ◌<◌, List, [], ◌∷◌, ◌++◌, not, ◌≡◌, refl, ◌⊎◌, T, eqb, ltb, length}
use Rattle.std.proofs.Common.{suc-le-suc, zero-le, le_trans, le_refl, arith, sym, ap₂, subst, inl, inr, eqb→eq, ltb→lt, nltb→le}
use Rattle.std.proofs.Math.Dec.{eqb_refl}
use Rattle.cedar.specs.Types.{mem}
use Rattle.cedar.specs.Laws.Shape.{Ascend}
use Rattle.cedar.specs.Subtype.{subset}
use Rattle.cedar.specs.Bound.{insert, union}
use Rattle.cedar.proofs.Laws.Tests.{T_and, and_T, T-or, or_inl, or_inr, cond_both, compare-names, eqb-equal, eqb-differ}

-- Membership as a fact.
abbrev pub In : ℕ → List ℕ → Type 0
In x ns = T (mem x ns)

-- The first name is a member.
pub In-here : (n : ℕ) (ns : List ℕ) → In n (n ∷ ns)
In-here n ns = or_inl (eqb n n) (mem n ns) (eqb_refl n)

-- A member of the rest is a member.
pub In-there : (x n : ℕ) (ns : List ℕ) → In x ns → In x (n ∷ ns)
In-there x n ns h = or_inr (eqb x n) (mem x ns) h

-- A member is the first or one of the rest.
pub In-cases : (x n : ℕ) (ns : List ℕ) → In x (n ∷ ns) → (x ≡ n) ⊎ In x ns
In-cases x n ns h = elim (T-or (eqb x n) (mem x ns) h) [ inl e ↦ inl (eqb→eq x n e) | inr i ↦ inr i ]

-- A member of two lists one after the other is a member of one of them.
pub In-append : (x : ℕ) (ns ks : List ℕ) → In x (ns ++ ks) → In x ns ⊎ In x ks
In-append x [] ks h = inr h
In-append x (n ∷ ns) ks h = elim (T-or (eqb x n) (mem x (ns ++ ks)) h) [
  | inl e ↦ inl (or_inl (eqb x n) (mem x ns) e)
  | inr i ↦ elim (In-append x ns ks i) [ inl j ↦ inl (In-there x n ns j) | inr j ↦ inr j ]
]

-- No member is below the first.
pub In-least : (x low : ℕ) (ns : List ℕ) → Ascend low ns → In x ns → low ≤ x
In-least x low [] a h = absurd h
In-least x low (n ∷ ns) a h = let f = a.0 in elim (In-cases x n ns h) [
  | inl e ↦ omega arith
  | inr i ↦ let g = In-least x (suc n) ns a.1 i in omega arith
]

-- Two ascending lists with the same members are equal.
pub ascend-ext : (low : ℕ) (ns ks : List ℕ) → Ascend low ns → Ascend low ks → ((x : ℕ) → In x ns → In x ks) → ((x : ℕ) → In x ks → In x ns) → ns ≡ ks
ascend-ext low [] [] a b f g = refl
ascend-ext low [] (k ∷ ks) a b f g = absurd (g k (In-here k ks))
ascend-ext low (n ∷ ns) [] a b f g = absurd (f n (In-here n ns))
ascend-ext low (n ∷ ns) (k ∷ ks) a b f g = ap₂ {C = List ℕ} (λ x l. x ∷ l) head (ascend-ext (suc n) ns ks a.1 tail-b (λ x h. down x h) (λ x h. up x h))
  where
    head : n ≡ k
    head = let p = In-least n k (k ∷ ks) (le_refl k, b.1) (f n (In-here n ns)) in
        let q = In-least k n (n ∷ ns) (le_refl n, a.1) (g k (In-here k ks)) in omega arith

    tail-b : Ascend (suc n) ks
    tail-b = subst (λ (i : ℕ). Ascend (suc i) ks) (sym head) b.1

    down : (x : ℕ) → In x ns → In x ks
    down x h =
        elim (In-cases x k ks (f x (In-there x n ns h))) [ inl e ↦ absurd (let l = In-least x (suc n) ns a.1 h in let q = head in omega arith) | inr i ↦ i ]

    up : (x : ℕ) → In x ks → In x ns
    up x h =
        elim (In-cases x n ns (g x (In-there x k ks h))) [ inl e ↦ absurd (let l = In-least x (suc k) ks b.1 h in let q = head in omega arith) | inr i ↦ i ]

-- `insert` adds one member, and keeps the order.
insert-cases : (x n : ℕ) (ks : List ℕ) → In x (insert n ks) → (x ≡ n) ⊎ In x ks
insert-cases x n [] = λ h. In-cases x n [] h
insert-cases x n (k ∷ ks) = cond_both (λ (l : List ℕ). In x l → (x ≡ n) ⊎ In x (k ∷ ks)) (ltb n k)
    (λ t h. In-cases x n (k ∷ ks) h)
    (λ t. cond_both (λ (l : List ℕ). In x l → (x ≡ n) ⊎ In x (k ∷ ks)) (eqb n k)
    (λ e h. inr h)
    (λ e h. elim (In-cases x k (insert n ks) h) [
      | inl q ↦ inr (or_inl (eqb x k) (mem x ks) (eqb-equal x k q))
      | inr i ↦ elim (insert-cases x n ks i) [ inl q ↦ inl q | inr j ↦ inr (In-there x k ks j) ]
    ]))

insert-new : (n : ℕ) (ks : List ℕ) → In n (insert n ks)
insert-new n [] = In-here n []
insert-new n (k ∷ ks) = cond_both (In n) (ltb n k) (λ t. In-here n (k ∷ ks))
    (λ t. cond_both (In n) (eqb n k) (λ e. or_inl (eqb n k) (mem n ks) e) (λ e. In-there n k (insert n ks) (insert-new n ks)))

insert-old : (x n : ℕ) (ks : List ℕ) → In x ks → In x (insert n ks)
insert-old x n [] h = absurd h
insert-old x n (k ∷ ks) h = cond_both (In x) (ltb n k) (λ t. In-there x n (k ∷ ks) h)
    (λ t. cond_both (In x) (eqb n k) (λ e. h) (λ e. elim (T-or (eqb x k) (mem x ks) h) [
      | inl q ↦ or_inl (eqb x k) (mem x (insert n ks)) q
      | inr i ↦ In-there x k (insert n ks) (insert-old x n ks i)
    ]))

insert-ascend : (low n : ℕ) (ks : List ℕ) → low ≤ n → Ascend low ks → Ascend low (insert n ks)
insert-ascend low n [] l a = (l, tt)
insert-ascend low n (k ∷ ks) l a = cond_both (Ascend low) (ltb n k) (λ t. (l, (ltb→lt n k t, a.1)))
    (λ t. cond_both (Ascend low) (eqb n k) (λ e. a) (λ e. (a.0, insert-ascend (suc k) n ks (above t e) a.1)))
  where
    above : T (not (ltb n k)) → T (not (eqb n k)) → k < n
    above t e = let p = nltb→le n k t in let q = eqb-differ n k e in omega arith

-- A member of a union is a member of one of its lists.
pub union-cases : (x : ℕ) (ns ks : List ℕ) → In x (union ns ks) → In x ns ⊎ In x ks
union-cases x [] ks h = inr h
union-cases x (n ∷ ns) ks h = elim (insert-cases x n (union ns ks) h) [
  | inl e ↦ inl (or_inl (eqb x n) (mem x ns) (eqb-equal x n e))
  | inr i ↦ elim (union-cases x ns ks i) [ inl j ↦ inl (In-there x n ns j) | inr j ↦ inr j ]
]

-- A member of the first list is one of the union.
pub union_left : (x : ℕ) (ns ks : List ℕ) → In x ns → In x (union ns ks)
union_left x [] ks h = absurd h
union_left x (n ∷ ns) ks h = elim (In-cases x n ns h) [
  | inl e ↦ subst (λ (i : ℕ). In i (insert n (union ns ks))) (sym e) (insert-new n (union ns ks))
  | inr i ↦ insert-old x n (union ns ks) (union_left x ns ks i)
]

-- A member of the second list is one of the union.
pub union_right : (x : ℕ) (ns ks : List ℕ) → In x ks → In x (union ns ks)
union_right x [] ks h = h
union_right x (n ∷ ns) ks h = insert-old x n (union ns ks) (union_right x ns ks h)

-- A list ascends from any lower name on.
pub ascend-down : (low low' : ℕ) (ns : List ℕ) → low' ≤ low → Ascend low ns → Ascend low' ns
ascend-down low low' [] h a = tt
ascend-down low low' (n ∷ ns) h a = (le_trans h a.0, a.1)

-- The union of ascending lists ascends.
pub union-ascend : (low : ℕ) (ns ks : List ℕ) → Ascend low ns → Ascend low ks → Ascend low (union ns ks)
union-ascend low [] ks a b = b
union-ascend low (n ∷ ns) ks a b =
    insert-ascend low n (union ns ks) a.0 (union-ascend low ns ks (ascend-down (suc n) low ns (let l = a.0 in omega arith) a.1) b)

-- A subset's members are members.
pub subset-In : (x : ℕ) (ns ks : List ℕ) → T (subset ns ks) → In x ns → In x ks
subset-In x [] ks s h = absurd h
subset-In x (n ∷ ns) ks s h = let (s₁, s₂) = T_and (mem n ks) (subset ns ks) s in elim (In-cases x n ns h) [
  | inl e ↦ subst (λ (i : ℕ). In i ks) (sym e) s₁
  | inr i ↦ subset-In x ns ks s₂ i
]

-- The union with a list that holds the first is that list.
pub union-upper : (ns ks : List ℕ) → Ascend 0 ns → Ascend 0 ks → T (subset ns ks) → union ns ks ≡ ks
union-upper ns ks a b s = ascend-ext 0 (union ns ks) ks (union-ascend 0 ns ks a b) b
    (λ x h. elim (union-cases x ns ks h) [ inl i ↦ subset-In x ns ks s i | inr i ↦ i ]) (λ x h. union_right x ns ks h)

-- The union with a list that the first holds is the first.
pub union-lower : (ns ks : List ℕ) → Ascend 0 ns → Ascend 0 ks → T (subset ks ns) → union ns ks ≡ ns
union-lower ns ks a b s = ascend-ext 0 (union ns ks) ns (union-ascend 0 ns ks a b) a
    (λ x h. elim (union-cases x ns ks h) [ inl i ↦ i | inr i ↦ subset-In x ks ns s i ]) (λ x h. union_left x ns ks h)

-- A list of members is a subset.
pub In-subset : (ns ks : List ℕ) → ((x : ℕ) → In x ns → In x ks) → T (subset ns ks)
In-subset [] ks f = tt
In-subset (n ∷ ns) ks f = and_T (mem n ks) (subset ns ks) (f n (In-here n ns)) (In-subset ns ks (λ x i. f x (In-there x n ns i)))

-- A union has a member where its second list has.
pub union_nonempty : (ns ks : List ℕ) → 1 ≤ length ks → 1 ≤ length (union ns ks)
union_nonempty [] ks h = h
union_nonempty (n ∷ ns) ks h = insert_nonempty n (union ns ks)
  where
    insert_nonempty : (n : ℕ) (ks : List ℕ) → 1 ≤ length (insert n ks)
    insert_nonempty n [] = suc-le-suc zero-le
    insert_nonempty n (k ∷ ks) = cond_both (λ (l : List ℕ). 1 ≤ length l) (ltb n k) (λ h. suc-le-suc zero-le)
        (λ h. cond_both (λ (l : List ℕ). 1 ≤ length l) (eqb n k) (λ i. suc-le-suc zero-le) (λ i. suc-le-suc zero-le))

-- Of two ascending lists, one within the other: it is no longer, and if it is as long it is the other.
pub ascend-within : (ks : List ℕ) (low : ℕ) (ns : List ℕ) → Ascend low ns → Ascend low ks → ((x : ℕ) → In x ns → In x ks) →
    (length ns ≤ length ks) × (length ns ≡ length ks → ns ≡ ks)
ascend-within [] low [] a b f = (zero-le, λ e. refl)
ascend-within [] low (n ∷ ns) a b f = absurd (f n (In-here n ns))
ascend-within (k ∷ ks) low [] a b f = (zero-le, λ e. absurd (omega arith))
ascend-within (k ∷ ks) low (n ∷ ns) a b f = compare-names n k
    (λ l. absurd (let g = In-least n k (k ∷ ks) (le_refl k, b.1) (f n (In-here n ns)) in omega arith))
    (λ e.
    let (i, j) = ascend-within ks (suc n) ns a.1 (subst (λ (z : ℕ). Ascend (suc z) ks) (sym e) b.1)
    (λ x h. elim (In-cases x k ks (f x (In-there x n ns h))) [
      | inl q ↦ absurd (let g = In-least x (suc n) ns a.1 h in omega arith)
      | inr q ↦ q
    ]) in
    (suc-le-suc i, λ q. ap₂ {C = List ℕ} (λ z l. z ∷ l) e (j (omega arith))))
    (λ l.
    let (i, j) = ascend-within ks (suc k) (n ∷ ns) (l, a.1) b.1 (λ x h. elim (In-cases x k ks (f x h)) [
      | inl q ↦ absurd (let g = In-least x n (n ∷ ns) (le_refl n, a.1) h in omega arith)
      | inr q ↦ q
    ]) in
    (omega arith, λ q. absurd (omega arith)))
