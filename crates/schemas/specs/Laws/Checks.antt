-- The answers of `counts_within`, `sections_within` and `check_schema`. Assumes nothing.
use Rattle.std.specs.Prelude.{Option, Some, None, ◌≡◌, refl, List, [], ◌∷◌, Bool, true, false, not, ◌&&◌, cond, ℕ, ◌≤◌, ◌<◌, leb, length}
use Rattle.std.proofs.Math.Path.{ap, sym}
use Rattle.std.proofs.Common.{subst, ◌∙◌, arith}
use Rattle.std.proofs.Math.Bool.{and-false}
use borrow.Author.Tests.{leb-true, lt-leb, le-leb, eq-eqb, ne_eqb, not-true, not-false}
use Rattle.cedar.specs.Types.{present}
use Rattle.cedar.specs.Limits.{allowed}
use Rattle.cedar.specs.Whole.{whole_schema}
use Rattle.forms.specs.Limits.{as_limits}
use Rattle.forms.specs.Parts.{rd}
use Rattle.forms.specs.declared.limits.Limits.{Limits as LimitsStruct}
use Rattle.forms.specs.Laws.Parts.{and_l, and_r, and-not-l, and_yes}
use Rattle.forms.specs.Laws.Sure.{sure-present}
use Rattle.schemas.specs.SchemaBytes.{row_of, section_fits, section_end, entries_end, section_at, entity_section, action_section, function_section, sections_of}
use Rattle.schemas.specs.SchemaBytes.{head_fits, sections_fit, whole_s, Inside, passed_by, checked_within, checked}
use Rattle.schemas.specs.Laws.Walks.{section-ends, passed-broken, passed_to}
use Rattle.schemas.specs.Laws.SchemaTwin.{whole-schema-twin}
use Rattle.schemas.specs.declared.kinds.SectionKind.{SectionKind}
use Rattle.schemas.specs.declared.kinds.SectionKind.TheVariants.{Entities, Actions, Functions}
use Rattle.schemas.specs.declared.sections.Section.{Section}
use Rattle.schemas.specs.declared.sections.Sections.{Sections}

-- The counts.
module _ (b : List ℕ) where
  pub head-short : length b < 6 → false ≡ head_fits b
  head-short h = rw (lt-leb 6 (length b) h) refl

  module _ (m : ℕ) (p : m ≡ rd b 0) where
    pub head-entities : 256 < m → false ≡ head_fits b
    head-entities h = rw (lt-leb (rd b 0) 256 (omega arith)) (sym (and-false (leb 6 (length b))))

    module _ (n : ℕ) (q : n ≡ rd b 2) where
      pub head-actions : 256 < n → false ≡ head_fits b
      head-actions h = rw (lt-leb (rd b 2) 256 (omega arith), and-false (leb (rd b 0) 256)) (sym (and-false (leb 6 (length b))))

      module _ (k : ℕ) (r : k ≡ rd b 4) where
        pub head-functions : 64 < k → false ≡ head_fits b
        head-functions h =
            rw (lt-leb (rd b 4) 64 (omega arith), and-false (leb (rd b 2) 256), and-false (leb (rd b 0) 256)) (sym (and-false (leb 6 (length b))))

        pub head-open : 6 ≤ length b → m ≤ 256 → n ≤ 256 → k ≤ 64 → (end : ℕ) → end ≡ entries_end b → leb end (length b) ≡ head_fits b
        head-open h e f g end i =
            rw (le-leb 6 (length b) h, le-leb (rd b 0) 256 (omega arith), le-leb (rd b 2) 256 (omega arith), le-leb (rd b 4) 64 (omega arith), i) refl

-- The counts of bytes that go on.
pub record Head (b : List ℕ) : Type 0 where
  pub some : 6 ≤ length b
  pub entities : rd b 0 ≤ 256
  pub actions : rd b 2 ≤ 256
  pub functions : rd b 4 ≤ 64
  pub fit : entries_end b ≤ length b

pub head : (b : List ℕ) → head_fits b ≡ true → Head b
head b h =
    let f = leb (entries_end b) (length b) in
    let c = leb (rd b 2) 256 && leb (rd b 4) 64 in
    let h₁ = and_r (leb 6 (length b)) ((leb (rd b 0) 256 && c) && f) h in
    let h₂ = and_l (leb (rd b 0) 256 && c) f h₁ in
    let h₃ = and_r (leb (rd b 0) 256) c h₂ in
    record {
      some = leb-true 6 (length b) (and_l (leb 6 (length b)) ((leb (rd b 0) 256 && c) && f) h);
      entities = leb-true (rd b 0) 256 (and_l (leb (rd b 0) 256) c h₂);
      actions = leb-true (rd b 2) 256 (and_l (leb (rd b 2) 256) (leb (rd b 4) 64) h₃);
      functions = leb-true (rd b 4) 64 (and_r (leb (rd b 2) 256) (leb (rd b 4) 64) h₃);
      fit = leb-true (entries_end b) (length b) (and_r (leb (rd b 0) 256 && c) f h₁);
    }

-- A schema that is too long, or not whole.
pub check-over : (l : LimitsStruct) (b : List ℕ) → 32768 < length b → None ≡ checked_within l b
unfolding checked_within
check-over l b h = rw (lt-leb (length b) 32768 h) refl

not-whole : (l : LimitsStruct) (b : List ℕ) → whole_s (as_limits l) b ≡ false → None ≡ checked_within l b
unfolding checked_within
not-whole l b h = rw (h, and-false (leb (length b) 32768)) refl

pub check-head : (l : LimitsStruct) (b : List ℕ) (y : Bool) → y ≡ head_fits b → not y ≡ true → None ≡ checked_within l b
check-head l b y q h = not-whole l b (unfold whole_s in sym (and-not-l (head_fits b) _ (sym q ∙ not-true y h)))

-- The sections of some kinds are ahead, the first one's bodies at p: they answer for the schema.
pub record Ahead (l : LimitsStruct) (b : List ℕ) (ks : List SectionKind) (p : ℕ) : Type 0 where
  pub counts : Head b
  pub same : whole_s (as_limits l) b ≡ sections_fit (as_limits l) ks p b
  pub inside : p ≤ length b

pub ahead : (l : LimitsStruct) (b : List ℕ) → head_fits b ≡ true → (p : ℕ) → p ≡ entries_end b → Ahead l b (Entities ∷ Actions ∷ Functions ∷ []) p
unfolding whole_s
ahead l b t p e = let c = head b t in record { counts = c; same = rw (t, e) refl; inside = omega (arith, e, c.fit) }

-- A section was passed, whose bodies are from p to n: the others are ahead.
pub record Past (l : LimitsStruct) (b : List ℕ) (k : SectionKind) (ks : List SectionKind) (p n : ℕ) : Type 0 where
  pub ahead : Ahead l b ks n
  pub ends : n ≡ section_end (row_of k).width (section_at k p b) b

-- The next section.
module _ {l : LimitsStruct} {b : List ℕ} {k : SectionKind} {ks : List SectionKind} {p : ℕ} (a : Ahead l b (k ∷ ks) p) (x : Section)
    (x-is : x ≡ section_at k p b) where
  pub ahead-inside : Inside (row_of k).width x b
  ahead-inside = subst (λ (z : Section). Inside (row_of k).width z b) (sym x-is) (at k a.inside)
    where
      at : (j : SectionKind) → p ≤ length b → Inside (row_of j).width (section_at j p b) b
      at Entities h = record { entries = omega (arith, a.counts.fit); bodies = h }
      at Actions h = record { entries = omega (arith, a.counts.fit); bodies = h }
      at Functions h = record { entries = omega (arith, a.counts.fit); bodies = h }

  module _ (w : Option ℕ) (q : w ≡ passed_by (as_limits l) k x b) where
    at-section : w ≡ passed_by (as_limits l) k (section_at k p b) b
    at-section = q ∙ ap (λ (z : Section). passed_by (as_limits l) k z b) x-is

    pub ahead-broken : w ≡ None → None ≡ checked_within l b
    ahead-broken e =
        not-whole l b
        (a.same ∙ sym (and-not-l (section_fits (as_limits l) k (section_at k p b) b) _ (passed-broken (as_limits l) k (section_at k p b) b w at-section e)))

    pub past : (n : ℕ) → w ≡ Some n → Past l b k ks p n
    past n e =
        let t = passed_to (as_limits l) k (section_at k p b) b w at-section n e in
        record {
          ahead =
              record {
                counts = a.counts;
                same =
                    a.same ∙ and_yes (section_fits (as_limits l) k (section_at k p b) b) _ t.0 ∙ ap (λ (j : ℕ). sections_fit (as_limits l) ks j b) (sym t.1);
                inside = omega (arith, t.1, section-ends (as_limits l) k (section_at k p b) b t.0 a.inside);
              };
          ends = t.1;
        }

-- Sections whose bodies start where they must are the schema's.
pub sections-are : (l : LimitsStruct) (b : List ℕ) (p q r : ℕ) → p ≡ (entity_section b).bodies → q ≡ (action_section b).bodies → r ≡ (function_section b).bodies →
    (u v w : Section) →
    u ≡ section_at Entities p b → v ≡ section_at Actions q b → w ≡ section_at Functions r b →
    record { limits = l; entities = u; actions = v; functions = w } ≡ sections_of l b
unfolding sections_of
sections-are l b p q r pe qe re u v w ue ve we = rw (ue, ve, we, pe, qe, re) refl

-- The end.
pub ahead-over : {l : LimitsStruct} {b : List ℕ} {end : ℕ} → Ahead l b [] end → (end ≡ length b → ⊥) → None ≡ checked_within l b
ahead-over {l} {b} {end} a h = not-whole l b (a.same ∙ ne_eqb end (length b) h)

module _ {l : LimitsStruct} {b : List ℕ} {end : ℕ} (a : Ahead l b [] end) (few : length b ≤ 32768) (h : end ≡ length b) where
  pub ahead-whole : (p q r : ℕ) → p ≡ entries_end b → q ≡ section_end 5 (section_at Entities p b) b → r ≡ section_end 6 (section_at Actions q b) b →
      (u v w : Section) →
      u ≡ section_at Entities p b → v ≡ section_at Actions q b → w ≡ section_at Functions r b →
      Some (record { limits = l; entities = u; actions = v; functions = w }) ≡ checked_within l b
  unfolding checked_within
  ahead-whole p q r pe qe re u v w ue ve we =
      let second = qe ∙ ap (λ (j : ℕ). section_end 5 (section_at Entities j b) b) pe in
      let third = re ∙ ap (λ (j : ℕ). section_end 6 (section_at Actions j b) b) second in
      rw (le-leb (length b) 32768 few, a.same ∙ eq-eqb end (length b) h) (ap Some (sections-are l b p q r pe second third u v w ue ve we))

-- Under limits out of their ranges nothing is whole; under others the walk tells.
pub check-refused : (l : LimitsStruct) (b : List ℕ) (y : Bool) → y ≡ allowed (as_limits l) → not y ≡ true → None ≡ checked l b
unfolding checked
check-refused l b y q h = rw (sym q ∙ not-true y h) refl

pub check-allowed : (l : LimitsStruct) (b : List ℕ) (y : Bool) → y ≡ allowed (as_limits l) → not y ≡ false → (r : Option Sections) →
    r ≡ checked_within l b → r ≡ checked l b
unfolding checked
check-allowed l b y q h r e = e ∙ rw (sym q ∙ not-false y h) refl

-- A schema that is not whole under limits that are allowed.
is-broken : (l : LimitsStruct) (b : List ℕ) → allowed (as_limits l) ≡ true → checked l b ≡ None → leb (length b) 32768 && whole_s (as_limits l) b ≡ false
unfolding checked checked_within
is-broken l b fair h = go (leb (length b) 32768 && whole_s (as_limits l) b) (sym (rw fair refl) ∙ h)
  where
    go : (z : Bool) → cond z (Some (sections_of l b)) None ≡ None → z ≡ false
    go true e = absurd (let z : ◌≡◌ {A = ℕ} 0 1 = cc in omega arith)
    go false e = refl

pub checked-broken : (l : LimitsStruct) (b : List ℕ) → allowed (as_limits l) ≡ true → checked l b ≡ None → false ≡ present (whole_schema (as_limits l) b)
checked-broken l b fair h = sym (sure-present (whole-schema-twin (as_limits l) b) ∙ is-broken l b fair h)

-- A schema that was checked, with its sections: what every search asks.
pub checked-whole : (l : LimitsStruct) (b : List ℕ) (x : Sections) → checked l b ≡ Some x →
    (allowed (as_limits l) ≡ true) × (leb (length b) 32768 && whole_s (as_limits l) b ≡ true) × (x ≡ sections_of l b)
unfolding checked checked_within
checked-whole l b x h = outer (allowed (as_limits l)) (sym h)
  where
    inner : (z : Bool) → Some x ≡ cond z (Some (sections_of l b)) None → (z ≡ true) × (x ≡ sections_of l b)
    inner true e = (refl, (cc))
    inner false e = absurd (let z : ◌≡◌ {A = ℕ} 0 1 = cc in omega arith)

    outer : (z : Bool) → Some x ≡ cond z (checked_within l b) None →
        (z ≡ true) × (leb (length b) 32768 && whole_s (as_limits l) b ≡ true) × (x ≡ sections_of l b)
    outer true e = let t = inner (leb (length b) 32768 && whole_s (as_limits l) b) e in (refl, t.0, t.1)
    outer false e = absurd (let z : ◌≡◌ {A = ℕ} 0 1 = cc in omega arith)

-- The sections that a check finds hold its limits.
pub checked-limits : (l : LimitsStruct) (b : List ℕ) (x : Sections) → checked l b ≡ Some x → x.limits ≡ l
unfolding sections_of
checked-limits l b x h = ap (λ (z : Sections). z.limits) (checked-whole l b x h).2
