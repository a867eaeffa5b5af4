-- Subtypes by what a form shows before its parts. Assumes nothing.
use Rattle.std.specs.Prelude.{◌≡◌, List, Bool, true, false, not, ◌||◌, cond, ◌&&◌, ℕ, T, eqb, zero, suc, ◌≤◌, ◌<◌, leb}
use Rattle.std.proofs.Math.Path.{refl}
use Rattle.std.proofs.Common.{ap, sym, ◌∙◌, eqb→eq, arith}
use borrow.Author.Tests.{ne_eqb, eqb-false, eq-eqb}
use Rattle.cedar.specs.Types.{is_never, Mode, is_permissive, Atom, never, true', false', bool, long, as_set, as_rec, as_ent, same, eq_flag}
use Rattle.cedar.specs.Types.{string, anyset, anyent, Ty, atom, set, rec, act, ent, ext, is, eq_names}
use Rattle.cedar.specs.Subtype.{sub_atom, sub_flag, sub}
use Rattle.cedar.specs.TypeForm.{one, kind_of, atom_code}
use Rattle.cedar.proofs.Laws.Tests.{T-ext, eqb-equal, not-T→false}
use Rattle.cedar.proofs.Laws.Equality.{is→eq, is-refl, same→eq}
use Rattle.relations.specs.Under.{kind_under, record_under}
use Rattle.forms.specs.Laws.Codes.{no-set-code}
use Rattle.forms.specs.Codes.{code}
use Rattle.std.proofs.Math.Option.{none}

-- Kinds, as `kind_under` tests them.
module _ (m : Mode) (j k : ℕ) where
  pub under-never : j ≡ 0 → true ≡ kind_under m j k
  unfolding kind_under
  under-never e = rw (eq-eqb j 0 e) refl

  pub under-bool : k ≡ 3 → kind_under m j k ≡ (eqb j 0 || (eqb j 1 || eqb j 2))
  unfolding kind_under
  under-bool e = rw e refl

  pub under-set : k ≡ 6 → kind_under m j k ≡ (eqb j 0 || eqb j 7)
  unfolding kind_under
  under-set e = rw e refl

  pub under-entity : k ≡ 9 → kind_under m j k ≡ (eqb j 0 || ((eqb j 10 || eqb j 11) && is_permissive m))
  unfolding kind_under
  under-entity e = rw e refl

  pub under-other : (k ≡ 3 → ⊥) → (k ≡ 6 → ⊥) → (k ≡ 9 → ⊥) → eqb j 0 ≡ kind_under m j k
  unfolding kind_under
  under-other p q r = rw (ne_eqb k 3 p, ne_eqb k 6 q, ne_eqb k 9 r) (go (eqb j 0))
    where
      go : (x : Bool) → x ≡ x || false
      go true = refl
      go false = refl

-- Records, as `record_under` tests them.
module _ (m : Mode) (o : Bool) (ns ks : List ℕ) where
  pub open-permissive : is_permissive m ≡ true → true ≡ record_under m o ns true ks
  unfolding record_under
  open-permissive h = rw h (go o (eq_names ns ks))
    where
      go : (o e : Bool) → true ≡ (not o || true) && (e || (true && true))
      go true true = refl
      go true false = refl
      go false true = refl
      go false false = refl

  pub open-strict : is_permissive m ≡ false → eq_names ns ks ≡ record_under m o ns true ks
  unfolding record_under
  open-strict h = rw h (go o (eq_names ns ks))
    where
      go : (o e : Bool) → e ≡ (not o || true) && (e || (false && true))
      go true true = refl
      go true false = refl
      go false true = refl
      go false false = refl

  pub closed-under : o ≡ false → eq_names ns ks ≡ record_under m o ns false ks
  unfolding record_under
  closed-under h = rw h (go (is_permissive m) (eq_names ns ks))
    where
      go : (x e : Bool) → e ≡ (not false || false) && (e || (x && false))
      go true true = refl
      go true false = refl
      go false true = refl
      go false false = refl

-- What holds of each atom.
pub by-atom : (P : Atom → Type 0) → P never → P true' → P false' → P bool → P long → P string → P anyset → P anyent → (k : Atom) → P k
by-atom P a b c d e f g h never = a
by-atom P a b c d e f g h true' = b
by-atom P a b c d e f g h false' = c
by-atom P a b c d e f g h bool = d
by-atom P a b c d e f g h long = e
by-atom P a b c d e f g h string = f
by-atom P a b c d e f g h anyset = g
by-atom P a b c d e f g h anyent = h

-- Atoms are equal where their bytes are.
pub atom-kind : (a : Atom) → kind_of (atom_code a) ≡ one a
atom-kind a = by-atom (λ a. kind_of (atom_code a) ≡ one a) refl refl refl refl refl refl refl refl a

pub one-injective : {a b : Atom} → one a ≡ one b → a ≡ b
one-injective e = cc

pub is_code : (j k : Atom) → is j k ≡ eqb (atom_code j) (atom_code k)
is_code j k =
    T-ext (is j k) (eqb (atom_code j) (atom_code k))
    (λ t. eqb-equal (atom_code j) (atom_code k) (ap atom_code (is→eq j k t)))
    (λ t. let e = one-injective (sym (atom-kind j) ∙ ap kind_of (eqb→eq (atom_code j) (atom_code k) t) ∙ atom-kind k) in go e)
  where
    go : j ≡ k → T (is j k)
    go e = rw e (is-refl k)

-- Never, by its first byte.
pub never-code : (a : Ty) → is_never a ≡ eqb (code a) 0
never-code (atom k) = is_code k never
never-code (set t) = refl
never-code (rec o xs) = refl
never-code (act n xs) = refl
never-code (ent ns) = refl
never-code (ext n) = refl

-- The bytes of kinds with parts are not those of atoms: 7, 8, 10, 11, 12.
abbrev NotParts : ℕ → Type 0
NotParts k = (eqb k 7 ≡ false) × (eqb k 8 ≡ false) × (eqb k 10 ≡ false) × (eqb k 11 ≡ false) × (eqb k 12 ≡ false)

pub not-parts : (a : Atom) → NotParts (atom_code a)
not-parts a =
    by-atom (λ a. NotParts (atom_code a)) (refl, refl, refl, refl, refl) (refl, refl, refl, refl, refl) (refl, refl, refl, refl, refl) (
      refl,
      refl,
      refl,
      refl,
      refl,
    )
    (refl, refl, refl, refl, refl) (refl, refl, refl, refl, refl) (refl, refl, refl, refl, refl) (refl, refl, refl, refl, refl) a

pub not_code : (a : Atom) (c : ℕ) → eqb (atom_code a) c ≡ false → c ≡ atom_code a → ⊥
not_code a c h e = eqb-false (atom_code a) c h (sym e)

-- A type of an atom's kind is that atom.
pub atom-of : (a : Ty) (k : Atom) → code a ≡ atom_code k → a ≡ atom k
atom-of (atom j) k e = ap atom (one-injective (sym (atom-kind j) ∙ ap kind_of e ∙ atom-kind k))
atom-of (set t) k e = absurd (not_code k 7 (not-parts k).0 e)
atom-of (rec o xs) k e = absurd (not_code k 8 (not-parts k).1 e)
atom-of (act i xs) k e = absurd (not_code k 11 (not-parts k).3 e)
atom-of (ent ns) k e = absurd (not_code k 10 (not-parts k).2 e)
atom-of (ext i) k e = absurd (not_code k 12 (not-parts k).4 e)

-- A type of another kind than an atom's, under it.
pub under-atom : (m : Mode) (a : Ty) (k : Atom) → (code a ≡ atom_code k → ⊥) → is_never a || sub_atom m a k ≡ kind_under m (code a) (atom_code k)
unfolding kind_under
under-atom m (atom j) k n =
    rw (is_code j never, is_code j k, ne_eqb (atom_code j) (atom_code k) n, is_code k bool, is_code j true', is_code j false')
    (ap (λ (z : Bool). eqb (atom_code j) 0 || z) (go j k))
  where
    go : (j k : Atom) → eqb (atom_code k) 3 && (eqb (atom_code j) 1 || eqb (atom_code j) 2)
        ≡ cond (eqb (atom_code k) 3) (eqb (atom_code j) 1 || eqb (atom_code j) 2)
        (cond (eqb (atom_code k) 6) (eqb (atom_code j) 7) (eqb (atom_code k) 9 && ((eqb (atom_code j) 10 || eqb (atom_code j) 11) && is_permissive m)))
    go j k =
        let p = not-parts j in
        rw (p.0, p.2, p.3)
        (by-atom (λ k. eqb (atom_code k) 3 && (eqb (atom_code j) 1 || eqb (atom_code j) 2) ≡ cond (eqb (atom_code k) 3) (eqb (atom_code j) 1 || eqb (atom_code j) 2)
        (cond (eqb (atom_code k) 6) false (eqb (atom_code k) 9 && (false && is_permissive m))))
        refl refl refl refl refl refl refl refl k)
under-atom m (set t) k n = by-atom (λ k. is k anyset ≡ kind_under m 7 (atom_code k)) refl refl refl refl refl refl refl refl k
under-atom m (rec o xs) k n = by-atom (λ k. false ≡ kind_under m 8 (atom_code k)) refl refl refl refl refl refl refl refl k
under-atom m (act i xs) k n = by-atom (λ k. is k anyent && is_permissive m ≡ kind_under m 11 (atom_code k)) refl refl refl refl refl refl refl refl k
under-atom m (ent ns) k n = by-atom (λ k. is k anyent && is_permissive m ≡ kind_under m 10 (atom_code k)) refl refl refl refl refl refl refl refl k
under-atom m (ext i) k n = by-atom (λ k. false ≡ kind_under m 12 (atom_code k)) refl refl refl refl refl refl refl refl k

-- Types of unlike kinds show unlike parts.
pub no-set-of : (a : Ty) → (code a ≡ 7 → ⊥) → as_set a ≡ none
no-set-of = no-set-code

pub no_record : (a : Ty) → (code a ≡ 8 → ⊥) → as_rec a ≡ none
no_record (atom k) n = refl
no_record (set t) n = refl
no_record (rec o xs) n = absurd (n refl)
no_record (act i xs) n = refl
no_record (ent ns) n = refl
no_record (ext i) n = refl

pub no-entity-of : (a : Ty) → (code a ≡ 10 → ⊥) → as_ent a ≡ none
no-entity-of (atom k) n = refl
no-entity-of (set t) n = refl
no-entity-of (rec o xs) n = refl
no-entity-of (act i xs) n = refl
no-entity-of (ent ns) n = absurd (n refl)
no-entity-of (ext i) n = refl

pub unlike : (a b : Ty) → (code a ≡ code b → ⊥) → same a b ≡ false
unlike a b n = not-T→false (same a b) (λ t. n (ap code (same→eq a b t)))

-- Types of unlike kinds, by their first bytes.
pub sub-kinds : (m : Mode) (a b : Ty) → (code a ≡ code b → ⊥) → sub m a b ≡ kind_under m (code a) (code b)
unfolding sub kind_under
sub-kinds m a (atom k) n = under-atom m a k n
sub-kinds m a (set u) n = rw (no-set-of a n, never-code a) refl
sub-kinds m a (rec p ys) n = rw (no_record a n, never-code a) refl
sub-kinds m a (act i ys) n = rw (unlike a (act i ys) n, never-code a) refl
sub-kinds m a (ent ks) n = rw (no-entity-of a n, never-code a) refl
sub-kinds m a (ext i) n = rw (unlike a (ext i) n, never-code a) refl

-- Flags, by their bytes.
module _ (m : Mode) where
  pub flag-permissive : (r s : ℕ) → r ≤ 1 → s ≤ 1 → is_permissive m ≡ true → leb s r ≡ sub_flag m (eqb r 1) (eqb s 1)
  flag-permissive r s p q e = rw e (go r s p q)
    where
      go : (r s : ℕ) → r ≤ 1 → s ≤ 1 → leb s r ≡ (eqb r 1 || not (eqb s 1))
      go zero zero p q = refl
      go zero (suc zero) p q = refl
      go zero (suc (suc s)) p q = absurd (omega arith)
      go (suc zero) zero p q = refl
      go (suc zero) (suc zero) p q = refl
      go (suc zero) (suc (suc s)) p q = absurd (omega arith)
      go (suc (suc r)) s p q = absurd (omega arith)

  pub flag-strict : (r s : ℕ) → r ≤ 1 → s ≤ 1 → is_permissive m ≡ false → eqb r s ≡ sub_flag m (eqb r 1) (eqb s 1)
  flag-strict r s p q e = rw e (go r s p q)
    where
      go : (r s : ℕ) → r ≤ 1 → s ≤ 1 → eqb r s ≡ eq_flag (eqb r 1) (eqb s 1)
      go zero zero p q = refl
      go zero (suc zero) p q = refl
      go zero (suc (suc s)) p q = absurd (omega arith)
      go (suc zero) zero p q = refl
      go (suc zero) (suc zero) p q = refl
      go (suc zero) (suc (suc s)) p q = absurd (omega arith)
      go (suc (suc r)) s p q = absurd (omega arith)

  -- Records, by the bytes of their flags.
  module _ (o p : ℕ) (ns ks : List ℕ) where
    pub open_no : o ≤ 1 → p < o → false ≡ record_under m (eqb o 1) ns (eqb p 1) ks
    unfolding record_under
    open_no h g = rw (eq-eqb o 1 (omega arith), ne_eqb p 1 (λ e. omega arith)) refl

    module _ (h : p ≤ 1) (g : o ≤ p) where
      opens : not (eqb o 1) || eqb p 1 ≡ true
      opens = go o p h g
        where
          go : (o p : ℕ) → p ≤ 1 → o ≤ p → not (eqb o 1) || eqb p 1 ≡ true
          go zero p h g = refl
          go (suc zero) zero h g = absurd (omega arith)
          go (suc zero) (suc zero) h g = refl
          go (suc zero) (suc (suc p)) h g = absurd (omega arith)
          go (suc (suc o)) p h g = absurd (omega arith)

      pub open-same : eq_names ns ks ≡ true → true ≡ record_under m (eqb o 1) ns (eqb p 1) ks
      unfolding record_under
      open-same e = rw (opens, e) refl

      pub open_more : eq_names ns ks ≡ false → is_permissive m ≡ true → eqb p 1 ≡ record_under m (eqb o 1) ns (eqb p 1) ks
      unfolding record_under
      open_more e f = rw (opens, e, f) refl

      pub open-unlike : eq_names ns ks ≡ false → is_permissive m ≡ false → false ≡ record_under m (eqb o 1) ns (eqb p 1) ks
      unfolding record_under
      open-unlike e f = rw (opens, e, f) refl
