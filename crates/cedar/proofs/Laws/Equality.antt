-- The equality tests decide equality, and a type is made of the parts that it shows.
use Rattle.std.specs.Prelude.{ℕ, List, [], ◌∷◌, Bool, true, false, not, ◌&&◌, ◌≡◌, refl, T, eqb}
use Rattle.std.proofs.Common.{sym, ap, ap₂, ◌∙◌, subst, eqb→eq}
use Rattle.std.proofs.Math.Option.{some, some-injective}
use Rattle.std.proofs.Math.Dec.{eqb_refl}
use Rattle.cedar.specs.Types.{Atom, Atom-discrete, Ty, atom, set, rec, act, ent, ext, Attrs, nil, attr}
use Rattle.cedar.specs.Types.{present, is, eq_flag, eq_names, as_atom, as_set, as_rec, as_act, as_ent, as_ext, first, same, same_attrs}
use Rattle.cedar.proofs.Laws.Tests.{T_and, and_T, maybe-T, does→, →does, none-some}

-- Flags that pass the test are equal.
pub eq_flag→eq : (r s : Bool) → T (eq_flag r s) → r ≡ s
eq_flag→eq true true h = refl
eq_flag→eq true false h = absurd h
eq_flag→eq false true h = absurd h
eq_flag→eq false false h = refl

-- A flag is equal to itself.
pub eq_flag-refl : (r : Bool) → T (eq_flag r r)
eq_flag-refl true = tt
eq_flag-refl false = tt

-- Atoms that pass the test are equal.
pub is→eq : (j k : Atom) → T (is j k) → j ≡ k
is→eq j k h = does→ (Atom-discrete j k) h

-- An atom is itself.
pub is-refl : (k : Atom) → T (is k k)
is-refl k = →does (Atom-discrete k k) refl

-- Name lists that pass the test are equal.
pub eq_names→eq : (ns ks : List ℕ) → T (eq_names ns ks) → ns ≡ ks
eq_names→eq [] [] h = refl
eq_names→eq [] (k ∷ ks) h = absurd h
eq_names→eq (n ∷ ns) [] h = absurd h
eq_names→eq (n ∷ ns) (k ∷ ks) h = let p = T_and (eqb n k) (eq_names ns ks) h in ap₂ {C = List ℕ} (λ a l. a ∷ l) (eqb→eq n k p.0) (eq_names→eq ns ks p.1)

-- A name list is equal to itself.
pub eq_names-refl : (ns : List ℕ) → T (eq_names ns ns)
eq_names-refl [] = tt
eq_names-refl (n ∷ ns) = and_T (eqb n n) (eq_names ns ns) (eqb_refl n) (eq_names-refl ns)

-- The test on name lists is symmetric.
pub eq_names-sym : (ns ks : List ℕ) → T (eq_names ns ks) → T (eq_names ks ns)
eq_names-sym ns ks h = subst (λ (l : List ℕ). T (eq_names ks l)) (sym (eq_names→eq ns ks h)) (eq_names-refl ks)

-- A type that shows an atom is it.
pub as_atom-some : (b : Ty) (y : Atom) → as_atom b ≡ some y → b ≡ atom y
as_atom-some (atom k) y e = ap atom (some-injective _ _ e)
as_atom-some (set t) y e = none-some e
as_atom-some (rec o xs) y e = none-some e
as_atom-some (act n xs) y e = none-some e
as_atom-some (ent ns) y e = none-some e
as_atom-some (ext n) y e = none-some e

-- A type that shows an element is a set of it.
pub as_set-some : (b : Ty) (y : Ty) → as_set b ≡ some y → b ≡ set y
as_set-some (atom k) y e = none-some e
as_set-some (set t) y e = ap set (some-injective _ _ e)
as_set-some (rec o xs) y e = none-some e
as_set-some (act n xs) y e = none-some e
as_set-some (ent ns) y e = none-some e
as_set-some (ext n) y e = none-some e

-- A type that shows a record's parts is that record.
pub as_rec-some : (b : Ty) (y : Bool × Attrs) → as_rec b ≡ some y → b ≡ rec y.0 y.1
as_rec-some (atom k) y e = none-some e
as_rec-some (set t) y e = none-some e
as_rec-some (rec o xs) y e = ap (λ (z : Bool × Attrs). rec z.0 z.1) (some-injective _ _ e)
as_rec-some (act n xs) y e = none-some e
as_rec-some (ent ns) y e = none-some e
as_rec-some (ext n) y e = none-some e

-- A type that shows an action's parts is that action.
pub as_act-some : (b : Ty) (y : ℕ × Attrs) → as_act b ≡ some y → b ≡ act y.0 y.1
as_act-some (atom k) y e = none-some e
as_act-some (set t) y e = none-some e
as_act-some (rec o xs) y e = none-some e
as_act-some (act n xs) y e = ap (λ (z : ℕ × Attrs). act z.0 z.1) (some-injective _ _ e)
as_act-some (ent ns) y e = none-some e
as_act-some (ext n) y e = none-some e

-- A type that shows an entity's names is that entity.
pub as_ent-some : (b : Ty) (y : List ℕ) → as_ent b ≡ some y → b ≡ ent y
as_ent-some (atom k) y e = none-some e
as_ent-some (set t) y e = none-some e
as_ent-some (rec o xs) y e = none-some e
as_ent-some (act n xs) y e = none-some e
as_ent-some (ent ns) y e = ap ent (some-injective _ _ e)
as_ent-some (ext n) y e = none-some e

-- A type that shows an extension's name is that extension.
pub as_ext-some : (b : Ty) (y : ℕ) → as_ext b ≡ some y → b ≡ ext y
as_ext-some (atom k) y e = none-some e
as_ext-some (set t) y e = none-some e
as_ext-some (rec o xs) y e = none-some e
as_ext-some (act n xs) y e = none-some e
as_ext-some (ent ns) y e = none-some e
as_ext-some (ext n) y e = ap ext (some-injective _ _ e)

-- A list that shows a first attribute begins with it.
pub first_some : (ys : Attrs) (y : (ℕ × Bool) × Ty × Attrs) → first ys ≡ some y → ys ≡ attr y.0.0 y.0.1 y.1 y.2
first_some nil y e = none-some e
first_some (attr n r t xs) y e = ap (λ (z : (ℕ × Bool) × Ty × Attrs). attr z.0.0 z.0.1 z.1 z.2) (some-injective _ _ e)

no-first : (ys : Attrs) → T (not (present (first ys))) → nil ≡ ys
no-first nil h = refl
no-first (attr n r t xs) h = absurd h

-- Equal parts make equal lists.
pub attr-equal : {n k : ℕ} {r s : Bool} {t u : Ty} {xs ys : Attrs} → n ≡ k → r ≡ s → t ≡ u → xs ≡ ys → attr n r t xs ≡ attr k s u ys
attr-equal a b c d = cc

mutual
  unfolding same

  -- Types that pass the test are equal.
  pub same→eq : (a b : Ty) → T (same a b) → a ≡ b
  same→eq (atom k) b h = maybe-T (as_atom b) (λ j. is k j) h λ j e t. ap atom (is→eq k j t) ∙ sym (as_atom-some b j e)
  same→eq (set t) b h = maybe-T (as_set b) (λ u. same t u) h λ u e s. ap set (same→eq t u s) ∙ sym (as_set-some b u e)
  same→eq (rec o xs) b h = maybe-T (as_rec b) (λ y. eq_flag o y.0 && same_attrs xs y.1) h λ y e s.
      let (s₁, s₂) = T_and (eq_flag o y.0) (same_attrs xs y.1) s in
      ap₂ rec (eq_flag→eq o y.0 s₁) (same_attrs→eq xs y.1 s₂) ∙ sym (as_rec-some b y e)
  same→eq (act n xs) b h = maybe-T (as_act b) (λ y. eqb n y.0 && same_attrs xs y.1) h λ y e s.
      let (s₁, s₂) = T_and (eqb n y.0) (same_attrs xs y.1) s in
      ap₂ act (eqb→eq n y.0 s₁) (same_attrs→eq xs y.1 s₂) ∙ sym (as_act-some b y e)
  same→eq (ent ns) b h = maybe-T (as_ent b) (λ ks. eq_names ns ks) h λ ks e s. ap ent (eq_names→eq ns ks s) ∙ sym (as_ent-some b ks e)
  same→eq (ext n) b h = maybe-T (as_ext b) (λ k. eqb n k) h λ k e s. ap ext (eqb→eq n k s) ∙ sym (as_ext-some b k e)

  -- Attribute lists that pass the test are equal.
  pub same_attrs→eq : (xs ys : Attrs) → T (same_attrs xs ys) → xs ≡ ys
  same_attrs→eq nil ys h = no-first ys h
  same_attrs→eq (attr n r t xs) ys h =
      maybe-T (first ys) (λ y. eqb n y.0.0 && (eq_flag r y.0.1 && (same t y.1 && same_attrs xs y.2))) h λ y e s.
      let (s₁, p) = T_and (eqb n y.0.0) (eq_flag r y.0.1 && (same t y.1 && same_attrs xs y.2)) s in
      let (s₂, q) = T_and (eq_flag r y.0.1) (same t y.1 && same_attrs xs y.2) p in
      let (s₃, s₄) = T_and (same t y.1) (same_attrs xs y.2) q in
      attr-equal (eqb→eq n y.0.0 s₁) (eq_flag→eq r y.0.1 s₂) (same→eq t y.1 s₃) (same_attrs→eq xs y.2 s₄) ∙ sym (first_some ys y e)

mutual
  unfolding same

  -- A type is equal to itself.
  pub same_refl : (a : Ty) → T (same a a)
  same_refl (atom k) = is-refl k
  same_refl (set t) = same_refl t
  same_refl (rec o xs) = and_T (eq_flag o o) (same_attrs xs xs) (eq_flag-refl o) (same_attrs-refl xs)
  same_refl (act n xs) = and_T (eqb n n) (same_attrs xs xs) (eqb_refl n) (same_attrs-refl xs)
  same_refl (ent ns) = eq_names-refl ns
  same_refl (ext n) = eqb_refl n

  -- An attribute list is equal to itself.
  pub same_attrs-refl : (xs : Attrs) → T (same_attrs xs xs)
  same_attrs-refl nil = tt
  same_attrs-refl (attr n r t xs) = and_T (eqb n n) (eq_flag r r && (same t t && same_attrs xs xs)) (eqb_refl n)
      (and_T (eq_flag r r) (same t t && same_attrs xs xs) (eq_flag-refl r) (and_T (same t t) (same_attrs xs xs) (same_refl t) (same_attrs-refl xs)))
