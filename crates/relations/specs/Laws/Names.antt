-- Walks over two ascending lists of names. Assumes nothing.
use Rattle.std.specs.Prelude.{◌≡◌, refl, List, [], ◌∷◌, Bool, true, false, ◌||◌, ◌&&◌, ℕ, suc, ◌+◌, ◌-◌, ◌/◌, ◌≤◌, ◌<◌, length, drop}
use Rattle.std.proofs.Common.{ap, ap₂, sym, ◌∙◌, add-one, arith, le-leb, lt-ltb, le-ltb, eq-eqb, ne_eqb}
use Rattle.std.proofs.Math.Decide.{dec_lt}
use Rattle.cedar.specs.Types.{mem, ent}
use Rattle.cedar.specs.Laws.Shape.{Ascend}
use Rattle.cedar.specs.Disjoint.{shares}
use Rattle.cedar.specs.Subtype.{subset}
use Rattle.forms.specs.Codes.{code}
use Rattle.forms.specs.Parts.{part, rest, rd}
use Rattle.forms.specs.TypeForms.{type_of}
use Rattle.forms.specs.declared.type_forms.TypeForm.{TypeForm}
use Rattle.forms.specs.TypeBytes.{names_up, names_by}
use Rattle.forms.specs.Names.{names_in, Ascending}
use Rattle.forms.specs.Laws.Parts.{length_part, length_rest, rd-take}
use Rattle.forms.specs.Laws.Sure.{rd-drop}
use Rattle.forms.specs.Laws.Types.{names-up}
use Rattle.forms.specs.Laws.Names.{names-first, names-ascend, names-length}
use Rattle.forms.specs.Laws.TypeForms.{as_entity, kind-said}
use Rattle.forms.specs.Laws.NamesIn.{names-over}
use Rattle.relations.specs.Names.{from_name}

-- A name below all names of a list is not in it.
pub mem_below : (x low : ℕ) (ks : List ℕ) → Ascend low ks → x < low → mem x ks ≡ false
mem_below x low [] a h = refl
mem_below x low (k ∷ ks) a h = rw (ne_eqb x k (λ e. let p = a.0 in omega arith)) (mem_below x (suc k) ks a.1 (let p = a.0 in omega arith))

-- A name of the second list that is below all of the first does not count.
pub shares-skip : (y low : ℕ) (ns ks : List ℕ) → Ascend low ns → y < low → shares ns (y ∷ ks) ≡ shares ns ks
shares-skip y low [] ks a h = refl
shares-skip y low (n ∷ ns) ks a h =
    rw (ne_eqb n y (λ e. let p = a.0 in omega arith)) (ap (λ (z : Bool). mem n ks || z) (shares-skip y (suc n) ns ks a.1 (let p = a.0 in omega arith)))

pub subset-skip : (y low : ℕ) (ns ks : List ℕ) → Ascend low ns → y < low → subset ns (y ∷ ks) ≡ subset ns ks
subset-skip y low [] ks a h = refl
subset-skip y low (n ∷ ns) ks a h =
    rw (ne_eqb n y (λ e. let p = a.0 in omega arith)) (ap (λ (z : Bool). mem n ks && z) (subset-skip y (suc n) ns ks a.1 (let p = a.0 in omega arith)))

-- The first name of a list, and the others, which are above it.
pub record FirstName (b : List ℕ) : Type 0 where
  pub is : names_in b ≡ rd b 0 ∷ names_in (rest 2 b)
  pub above : Ascend (suc (rd b 0)) (names_in (rest 2 b))
  pub more : Ascending (rest 2 b)
  pub some : 2 ≤ length b

pub first-name : {b : List ℕ} → Ascending b → (length b ≡ 0 → ⊥) → FirstName b
first-name {b} s p =
    let n : length (rest 2 b) / 2 ≡ length b / 2 - 1 = omega (arith, length_rest 2 b, s.even) in
    let some : 0 < length b / 2 = omega (arith, s.even, pos b p) in
    let u = (names-up (length b / 2) s.low b some s.up).1 in
    record {
      is = names-first 2 (length b / 2) b some ∙ ap (λ (k : ℕ). rd b 0 ∷ names_by 2 k (rest 2 b)) (sym n);
      above = rw n (names-ascend (length b / 2 - 1) (suc (rd b 0)) (rest 2 b) (rw (add-one (rd b 0)) at u));
      more = record { low = rd b 0 + 1; even = omega (arith, length_rest 2 b, s.even); up = rw n u };
      some = omega (arith, some);
    }
  where
    pos : (b : List ℕ) → (length b ≡ 0 → ⊥) → 0 < length b
    pos [] h = absurd (h refl)
    pos (x ∷ b) h = omega arith

-- An entity has a name.
pub entity-named : (t : TypeForm) (ns : List ℕ) → type_of t ≡ ent (names_in ns) → 2 ≤ length ns
entity-named t ns e =
    let s = as_entity t (sym (kind-said t) ∙ ap code e) in
    let same : names_by 2 (rd t.bytes.now 1) (rest 3 t.bytes.now) ≡ names_in ns = ent-injective (sym s.is ∙ e) in
    let count : rd t.bytes.now 1 ≡ length ns / 2 =
    sym (names-length 2 (rd t.bytes.now 1) (rest 3 t.bytes.now)) ∙ ap length same ∙ names-length 2 (length ns / 2) ns in
    omega (arith, s.many, count)
  where
    ent-injective : {ks ms : List ℕ} → ent ks ≡ ent ms → ks ≡ ms
    ent-injective q = cc

-- One name, which ascends.
module _ (a : ℕ) (b : List ℕ) (h : a + 2 ≤ length b) where
  one : length (part a (a + 2) b) / 2 ≡ 1
  one = omega (arith, length_part a (a + 2) b h)

  pub one-name : Ascending (part a (a + 2) b)
  unfolding names_up
  one-name =
      record {
        low = 0;
        even = omega (arith, length_part a (a + 2) b h);
        up = rw one (rw (le-leb 0 (rd (part a (a + 2) b) 0) (omega arith)) refl);
      }

  pub one-name-is : names_in (part a (a + 2) b) ≡ rd b a ∷ []
  unfolding names_by
  one-name-is =
      let z : a + 0 ≡ a = omega arith in
      ap (λ (n : ℕ). names_by 2 n (part a (a + 2) b)) one ∙
      ap (λ (x : ℕ). x ∷ []) (rd-take (a + 2 - a) (drop a b) 0 (omega arith) ∙ rd-drop a b 0 ∙ ap (rd b) z)

-- A walk that has come so far: what is left answers for the whole.
pub record Walk (f : List ℕ → List ℕ → Bool) (ns ks a b : List ℕ) : Type 0 where
  pub first : Ascending a
  pub second : Ascending b
  pub same : f (names_in ns) (names_in ks) ≡ f (names_in a) (names_in b)

pub walk_start : {f : List ℕ → List ℕ → Bool} {ns ks : List ℕ} → Ascending ns → Ascending ks → Walk f ns ks ns ks
walk_start s t = record { first = s; second = t; same = refl }

-- What the second list has below the first does not count.
abbrev Skips : (List ℕ → List ℕ → Bool) → Type 0
Skips f = (y low : ℕ) (ns ks : List ℕ) → Ascend low ns → y < low → f ns (y ∷ ks) ≡ f ns ks

-- Both lists have a first name.
module _ {f : List ℕ → List ℕ → Bool} {ns ks a b : List ℕ} (i : Walk f ns ks a b) (p : length a ≡ 0 → ⊥) (q : length b ≡ 0 → ⊥) where
  both : f (names_in a) (names_in b) ≡ f (rd a 0 ∷ names_in (rest 2 a)) (rd b 0 ∷ names_in (rest 2 b))
  both = ap₂ f (first-name i.first p).is (first-name i.second q).is

  pub walk-second : Skips f → rd b 0 < rd a 0 → Walk f ns ks a (rest 2 b)
  walk-second s h =
      let u = first-name i.first p in
      record {
        first = i.first;
        second = (first-name i.second q).more;
        same =
            i.same ∙ both ∙ s (rd b 0) (rd a 0) (rd a 0 ∷ names_in (rest 2 a)) (names_in (rest 2 b)) (omega arith, u.above) h
            ∙ ap (λ (z : List ℕ). f z (names_in (rest 2 b))) (sym u.is);
      }

  -- The first name of the first list is not in the second.
  above-all : rd a 0 < rd b 0 → mem (rd a 0) (names_in b) ≡ false
  above-all h =
      let v = first-name i.second q in
      ap (mem (rd a 0)) v.is ∙ mem_below (rd a 0) (rd b 0) (rd b 0 ∷ names_in (rest 2 b)) (omega arith, v.above) h

shares-nothing : (ns : List ℕ) → shares ns [] ≡ false
shares-nothing [] = refl
shares-nothing (n ∷ ns) = shares-nothing ns

-- What is below the first name of the first list is passed.
shares-from : (low : ℕ) (ns ks : List ℕ) → Ascend low ns → shares ns (from_name low ks) ≡ shares ns ks
unfolding from_name
shares-from low ns [] a = refl
shares-from low ns (k ∷ ks) a = go (dec_lt k low) (shares-from low ns ks a)
  where
    go : Dec (k < low) → shares ns (from_name low ks) ≡ shares ns ks → shares ns (from_name low (k ∷ ks)) ≡ shares ns (k ∷ ks)
    go (yes h) e = rw (lt-ltb k low h) (e ∙ sym (shares-skip k low ns ks a h))
    go (no h) e = rw (le-ltb k low (omega arith)) refl

from-above : (low : ℕ) (ks : List ℕ) (k : ℕ) (others : List ℕ) → from_name low ks ≡ k ∷ others → low ≤ k
unfolding from_name
from-above low [] k others e = absurd (let z : ◌≡◌ {A = ℕ} 0 1 = cc in omega arith)
from-above low (n ∷ ks) k others e = go (dec_lt n low) (from-above low ks k others)
  where
    go : Dec (n < low) → (from_name low ks ≡ k ∷ others → low ≤ k) → low ≤ k
    go (yes h) f = f (rw (lt-ltb n low h) at e)
    go (no h) f =
        let g : n ∷ ks ≡ k ∷ others = rw (le-ltb n low (omega arith)) at e in
        let z : n ≡ k = cc in
        omega arith

-- The loop of `from_name`.
module _ (name : ℕ) (ns b : List ℕ) (s : Ascending b) (i : from_name name (names_in ns) ≡ from_name name (names_in b)) where
  pub from-end : length b ≡ 0 → names_in b ≡ from_name name (names_in ns)
  unfolding from_name
  from-end h = let e = names-over b (omega (arith, h)) in e ∙ sym (i ∙ ap (from_name name) e)

  module _ (p : length b ≡ 0 → ⊥) where
    pub from-here : name ≤ rd b 0 → names_in b ≡ from_name name (names_in ns)
    unfolding from_name
    from-here h =
        let u = first-name s p in
        sym (i ∙ ap (from_name name) u.is ∙ rw (le-ltb (rd b 0) name h) (sym u.is))

    pub from-again : rd b 0 < name → from_name name (names_in ns) ≡ from_name name (names_in (rest 2 b))
    unfolding from_name
    from-again h =
        let u = first-name s p in
        i ∙ ap (from_name name) u.is ∙ rw (lt-ltb (rd b 0) name h) refl

-- The search for a name in common.
module _ {ns ks a b : List ℕ} (i : Walk shares ns ks a b) where
  pub share-end : length a ≡ 0 → false ≡ shares (names_in ns) (names_in ks)
  share-end h = sym (i.same ∙ ap (λ (z : List ℕ). shares z (names_in b)) (names-over a (omega (arith, h))))

  pub share-over : length b ≡ 0 → false ≡ shares (names_in ns) (names_in ks)
  share-over h = sym (i.same ∙ ap (shares (names_in a)) (names-over b (omega (arith, h))) ∙ shares-nothing (names_in a))

  module _ (p : length a ≡ 0 → ⊥) where
    pub share-from : (c : List ℕ) → Ascending c → names_in c ≡ from_name (rd a 0) (names_in b) → Walk shares ns ks a c
    share-from c s e =
        let u = first-name i.first p in
        record {
          first = i.first;
          second = s;
          same =
              i.same ∙ ap (λ (z : List ℕ). shares z (names_in b)) u.is
              ∙ sym (shares-from (rd a 0) (rd a 0 ∷ names_in (rest 2 a)) (names_in b) (omega arith, u.above))
              ∙ ap₂ shares (sym u.is) (sym e);
        }

    -- Where the second list has no names left, no name of the first is in it.
    pub share-none : length b ≡ 0 → Walk shares ns ks (rest 2 a) b
    share-none h =
        let e = names-over b (omega (arith, h)) in
        record {
          first = (first-name i.first p).more;
          second = i.second;
          same =
              i.same ∙ ap (shares (names_in a)) e ∙ shares-nothing (names_in a) ∙ sym (shares-nothing (names_in (rest 2 a)))
              ∙ ap (shares (names_in (rest 2 a))) (sym e);
        }

    module _ (q : length b ≡ 0 → ⊥) where
      pub share-hit : rd a 0 ≡ rd b 0 → true ≡ shares (names_in ns) (names_in ks)
      share-hit h = sym (i.same ∙ both i p q ∙ rw (eq-eqb (rd a 0) (rd b 0) h) refl)

      pub share-past : rd a 0 < rd b 0 → Walk shares ns ks (rest 2 a) b
      share-past h =
          let u = first-name i.first p in
          record {
            first = u.more;
            second = i.second;
            same =
                i.same ∙ ap (λ (z : List ℕ). shares z (names_in b)) u.is ∙
                ap (λ (z : Bool). z || shares (names_in (rest 2 a)) (names_in b)) (above-all i p q h);
          }

-- The first name of what is left is not below the name.
pub from-first : (name : ℕ) (b c : List ℕ) → names_in c ≡ from_name name (names_in b) → Ascending c → (length c ≡ 0 → ⊥) → name ≤ rd c 0
from-first name b c e s p = let u = first-name s p in from-above name (names_in b) (rd c 0) (names_in (rest 2 c)) (sym e ∙ u.is)

-- Each name of the first list is looked for in the second.
module _ {ns ks a b : List ℕ} (i : Walk subset ns ks a b) where
  pub subset-end : length a ≡ 0 → true ≡ subset (names_in ns) (names_in ks)
  subset-end h = sym (i.same ∙ ap (λ (z : List ℕ). subset z (names_in b)) (names-over a (omega (arith, h))))

  module _ (p : length a ≡ 0 → ⊥) where
    subset-absent : mem (rd a 0) (names_in b) ≡ false → false ≡ subset (names_in ns) (names_in ks)
    subset-absent h =
        sym (i.same ∙ ap (λ (z : List ℕ). subset z (names_in b)) (first-name i.first p).is ∙
        ap (λ (z : Bool). z && subset (names_in (rest 2 a)) (names_in b)) h)

    pub subset-over : length b ≡ 0 → false ≡ subset (names_in ns) (names_in ks)
    subset-over h = subset-absent (ap (mem (rd a 0)) (names-over b (omega (arith, h))))

    module _ (q : length b ≡ 0 → ⊥) where
      pub subset-past : rd a 0 < rd b 0 → false ≡ subset (names_in ns) (names_in ks)
      subset-past h = subset-absent (above-all i p q h)

      pub subset-both : rd a 0 ≡ rd b 0 → Walk subset ns ks (rest 2 a) (rest 2 b)
      subset-both h =
          let u = first-name i.first p in
          record {
            first = u.more;
            second = (first-name i.second q).more;
            same =
                i.same ∙ both i p q ∙ rw (eq-eqb (rd a 0) (rd b 0) h) refl
                ∙ subset-skip (rd b 0) (suc (rd a 0)) (names_in (rest 2 a)) (names_in (rest 2 b)) u.above (omega arith);
          }
