-- Plain types and consistency, by what a form shows before its parts. Assumes nothing.
use Rattle.std.specs.Prelude.{◌≡◌, List, [], ◌∷◌, Bool, true, false, ◌||◌, ℕ, ◌-◌, ◌/◌, ◌≤◌, ◌<◌, eqb, leb, length}
use Rattle.std.proofs.Math.Path.{refl}
use Rattle.std.proofs.Common.{ap, ap₂, sym, ◌∙◌, arith}
use borrow.Author.Tests.{ne_eqb, le-leb, lt-leb, eq-eqb}
use Rattle.cedar.specs.Types.{Atom, true', false', anyset, anyent, Ty, Attrs, atom, set, rec, act, ent, ext, is, mem}
use Rattle.cedar.specs.TypeForm.{atom_code, kind_of}
use Rattle.cedar.specs.Disjoint.{shares}
use Rattle.cedar.specs.Consistency.{plain, consistent_atom, consistent_entity, consistent}
use Rattle.forms.specs.Parts.{part, rest, rd}
use Rattle.forms.specs.TypeBytes.{names_by}
use Rattle.forms.specs.TypeForms.{IsPlain}
use Rattle.forms.specs.Names.{names_in}
use Rattle.forms.specs.Laws.Sure.{eqb_same}
use Rattle.forms.specs.Laws.Names.{names-first}
use Rattle.forms.specs.Laws.TypeForms.{plain-code}
use Rattle.relations.specs.Laws.Names.{one-name-is}
use Rattle.relations.specs.Meets.{plain_kind, kind_meets}
use Rattle.std.proofs.Math.Decide.{dec_lt}
use Rattle.forms.specs.Kinds.{kind_number}
use Rattle.forms.specs.declared.kinds.Kind.{Kind}
use Rattle.forms.specs.declared.kinds.Kind.TheVariants as is_kind
use Rattle.forms.specs.Laws.Kinds.{kind-differs}
use Rattle.forms.specs.Codes.{code}
use Rattle.relations.specs.Laws.Under.{by-atom, is_code, not-parts, one-injective, atom-kind, not_code, no-set-of, no_record, unlike}

-- Plain kinds.
pub plain-low : (k : ℕ) → k < 3 → false ≡ plain_kind k
unfolding plain_kind
plain-low k h = rw (lt-leb 3 k h) refl

pub plain-high : (k : ℕ) → 3 ≤ k → leb k 6 ≡ plain_kind k
unfolding plain_kind
plain-high k h = rw (le-leb 3 k h) refl

-- A kind that is none of the four.
pub not_plain-kind : (k : Kind) → (k ≡ is_kind.Bool → ⊥) → (k ≡ is_kind.Long → ⊥) → (k ≡ is_kind.String → ⊥) → (k ≡ is_kind.AnySet → ⊥) → false ≡ plain_kind (kind_number k)
not_plain-kind k b l s a = go (dec_lt (kind_number k) 3)
  where
    go : Dec (kind_number k < 3) → false ≡ plain_kind (kind_number k)
    go (yes h) = plain-low (kind_number k) h
    go (no h) =
        let p3 : kind_number k ≡ 3 → ⊥ = kind-differs k is_kind.Bool b in
        let p4 : kind_number k ≡ 4 → ⊥ = kind-differs k is_kind.Long l in
        let p5 : kind_number k ≡ 5 → ⊥ = kind-differs k is_kind.String s in
        let p6 : kind_number k ≡ 6 → ⊥ = kind-differs k is_kind.AnySet a in
        sym (lt-leb (kind_number k) 6 (omega arith)) ∙ plain-high (kind_number k) (omega arith)

-- An atom, by its kind.
pub plain-atom : (k : Atom) → plain_kind (atom_code k) ≡ plain (atom k)
unfolding plain plain_kind
plain-atom k = by-atom (λ k. plain_kind (atom_code k) ≡ plain (atom k)) refl refl refl refl refl refl refl refl k

-- A type without parts, and an action, by its first byte.
pub plain_code : (t : Ty) → (code t ≡ 7 → ⊥) → (code t ≡ 8 → ⊥) → (code t ≡ 10 → ⊥) → (code t ≡ 12 → ⊥) → plain_kind (code t) ≡ plain t
unfolding plain plain_kind
plain_code (atom k) p q r s = by-atom (λ k. plain_kind (atom_code k) ≡ plain (atom k)) refl refl refl refl refl refl refl refl k
plain_code (set t) p q r s = absurd (p refl)
plain_code (rec o xs) p q r s = absurd (q refl)
plain_code (act n xs) p q r s = refl
plain_code (ent ns) p q r s = absurd (r refl)
plain_code (ext n) p q r s = absurd (s refl)

-- Unlike kinds, as `kind_consistent` tests them.
module _ (j k : ℕ) where
  pub meets-bool : k ≡ 3 → kind_meets j k ≡ (eqb j 1 || eqb j 2)
  unfolding kind_meets
  meets-bool e = rw e refl

  pub meets-set : k ≡ 6 → kind_meets j k ≡ eqb j 7
  unfolding kind_meets
  meets-set e = rw e refl

  pub meets-other : (k ≡ 3 → ⊥) → (k ≡ 6 → ⊥) → false ≡ kind_meets j k
  unfolding kind_meets
  meets-other p q = rw (ne_eqb k 3 p, ne_eqb k 6 q) refl

-- Two atoms that differ, and one with itself.
atoms-meet : (j k : Atom) → is j k ≡ false → consistent_atom (atom j) k ≡ kind_meets (atom_code j) (atom_code k)
unfolding kind_meets
atoms-meet j k h = by-atom (λ k. is j k ≡ false → consistent_atom (atom j) k ≡ kind_meets (atom_code j) (atom_code k)) (λ h. refl) (λ h. refl) (λ h. refl)
    (λ h. rw (h, is_code j true', is_code j false') (go (eqb (atom_code j) 1) (eqb (atom_code j) 2)))
    (λ h. h) (λ h. h) (λ h. rw h (sym (not-parts j).0)) (λ h. refl) k h
  where
    go : (x y : Bool) → (x || y || false) || false ≡ x || y
    go true y = refl
    go false true = refl
    go false false = refl

pub atom-meets : (k : Atom) → plain_kind (atom_code k) ≡ consistent_atom (atom k) k
unfolding plain_kind
atom-meets k = by-atom (λ k. plain_kind (atom_code k) ≡ consistent_atom (atom k) k) refl refl refl refl refl refl refl refl k

-- A type of another kind than an atom's, with it.
pub meets-atom : (a : Ty) (k : Atom) → (code a ≡ atom_code k → ⊥) → consistent_atom a k ≡ kind_meets (code a) (atom_code k)
unfolding kind_meets
meets-atom (atom j) k n = atoms-meet j k (is_code j k ∙ ne_eqb (atom_code j) (atom_code k) n)
meets-atom (set t) k n = by-atom (λ k. is k anyset ≡ kind_meets 7 (atom_code k)) refl refl refl refl refl refl refl refl k
meets-atom (rec o xs) k n = by-atom (λ k. false ≡ kind_meets 8 (atom_code k)) refl refl refl refl refl refl refl refl k
meets-atom (act i xs) k n = by-atom (λ k. false ≡ kind_meets 11 (atom_code k)) refl refl refl refl refl refl refl refl k
meets-atom (ent ns) k n = by-atom (λ k. false ≡ kind_meets 10 (atom_code k)) refl refl refl refl refl refl refl refl k
meets-atom (ext i) k n = by-atom (λ k. false ≡ kind_meets 12 (atom_code k)) refl refl refl refl refl refl refl refl k

-- Types of unlike kinds, by their first bytes.
pub consistent-kinds : (a b : Ty) → (code a ≡ code b → ⊥) → (code b ≡ 10 → ⊥) → consistent a b ≡ kind_meets (code a) (code b)
unfolding consistent kind_meets
consistent-kinds a (atom k) n p = meets-atom a k n
consistent-kinds a (set u) n p = rw (no-set-of a n) refl
consistent-kinds a (rec o ys) n p = rw (no_record a n) refl
consistent-kinds a (act i ys) n p = refl
consistent-kinds a (ent ks) n p = absurd (p refl)
consistent-kinds a (ext i) n p = unlike a (ext i) n

-- Types of one kind without parts, and an action, which is no core type.
pub kinds-meet : (a b : Ty) → code a ≡ code b → (code b ≡ 7 → ⊥) → (code b ≡ 8 → ⊥) → (code b ≡ 10 → ⊥) → (code b ≡ 12 → ⊥) →
    plain_kind (code b) ≡ consistent a b
unfolding consistent plain_kind
kinds-meet a (atom k) e p q r s = go a e
  where
    go : (a : Ty) → code a ≡ atom_code k → plain_kind (atom_code k) ≡ consistent_atom a k
    go (atom j) e =
        let z : j ≡ k = one-injective (sym (atom-kind j) ∙ ap kind_of e ∙ atom-kind k) in
        atom-meets k ∙ ap (λ (i : Atom). consistent_atom (atom i) k) (sym z)
    go (set t) e = absurd (not_code k 7 (not-parts k).0 e)
    go (rec o xs) e = absurd (not_code k 8 (not-parts k).1 e)
    go (act i xs) e = absurd (not_code k 11 (not-parts k).3 e)
    go (ent ns) e = absurd (not_code k 10 (not-parts k).2 e)
    go (ext i) e = absurd (not_code k 12 (not-parts k).4 e)
kinds-meet a (set u) e p q r s = absurd (p refl)
kinds-meet a (rec o ys) e p q r s = absurd (q refl)
kinds-meet a (act i ys) e p q r s = refl
kinds-meet a (ent ks) e p q r s = absurd (r refl)
kinds-meet a (ext i) e p q r s = absurd (s refl)

-- One name of a list.
shares-one : (ns : List ℕ) (k : ℕ) → shares ns (k ∷ []) ≡ mem k ns
shares-one [] k = refl
shares-one (n ∷ ns) k = ap₂ (λ (x y : Bool). x || y) (or-none (eqb n k) ∙ eqb_same n k k n (λ e. sym e) (λ e. sym e)) (shares-one ns k)
  where
    or-none : (x : Bool) → x || false ≡ x
    or-none true = refl
    or-none false = refl

-- Any type with an entity of some names, by its first byte.
pub no-entities : (a : Ty) (k : ℕ) (ks : List ℕ) → (code a ≡ 9 → ⊥) → (code a ≡ 10 → ⊥) → (code a ≡ 11 → ⊥) → false ≡ consistent_entity a (k ∷ ks)
no-entities (atom j) k ks p q r = sym (is_code j anyent ∙ ne_eqb (atom_code j) 9 p)
no-entities (set t) k ks p q r = refl
no-entities (rec o xs) k ks p q r = refl
no-entities (act i xs) k ks p q r = absurd (r refl)
no-entities (ent ns) k ks p q r = absurd (q refl)
no-entities (ext i) k ks p q r = refl

pub any-entity : (a : Ty) (k : ℕ) (ks : List ℕ) → code a ≡ 9 → true ≡ consistent_entity a (k ∷ ks)
any-entity (atom j) k ks e = sym (is_code j anyent ∙ eq-eqb (atom_code j) 9 e)
any-entity (set t) k ks e = absurd (let z : ◌≡◌ {A = ℕ} 7 9 = e in omega arith)
any-entity (rec o xs) k ks e = absurd (let z : ◌≡◌ {A = ℕ} 8 9 = e in omega arith)
any-entity (act i xs) k ks e = absurd (let z : ◌≡◌ {A = ℕ} 11 9 = e in omega arith)
any-entity (ent ns) k ks e = absurd (let z : ◌≡◌ {A = ℕ} 10 9 = e in omega arith)
any-entity (ext i) k ks e = absurd (let z : ◌≡◌ {A = ℕ} 12 9 = e in omega arith)

-- A type with an entity, as `entity_consistent` tests them.
module _ (a : Ty) (b : List ℕ) (h : 2 ≤ length b) where
  heads : names_in b ≡ rd b 0 ∷ names_by 2 (length b / 2 - 1) (rest 2 b)
  heads = names-first 2 (length b / 2) b (omega (arith, h))

  pub entity-plain : {k : Kind} → IsPlain a k → eqb (kind_number k) 9 ≡ consistent_entity a (names_in b)
  entity-plain p = rw (heads, p.is, ← plain-code p) (sym (is_code p.which anyent))

  pub entity-any : code a ≡ 9 → true ≡ consistent_entity a (names_in b)
  entity-any e = rw heads (any-entity a (rd b 0) (names_by 2 (length b / 2 - 1) (rest 2 b)) e)

  pub entity-other : (code a ≡ 9 → ⊥) → (code a ≡ 10 → ⊥) → (code a ≡ 11 → ⊥) → false ≡ consistent_entity a (names_in b)
  entity-other p q r = rw heads (no-entities a (rd b 0) (names_by 2 (length b / 2 - 1) (rest 2 b)) p q r)

  pub entity-name : (ns : List ℕ) → a ≡ ent (names_in ns) → (r : Bool) → r ≡ shares (names_in ns) (names_in (part 0 2 b)) → r ≡ consistent_entity a (names_in b)
  entity-name ns e r t = t ∙ rw (heads, e) (ap (shares (names_in ns)) (one-name-is 0 b h) ∙ shares-one (names_in ns) (rd b 0))

  pub entity-action : {n : ℕ} {xs : Attrs} → a ≡ act n xs → (x : ℕ) → x ≡ rd b 0 → eqb n x ≡ consistent_entity a (names_in b)
  entity-action {n} e x q = rw (heads, e, q) (eqb_same n (rd b 0) (rd b 0) n (λ z. sym z) (λ z. sym z))
