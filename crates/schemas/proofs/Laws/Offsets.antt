-- What is kept of a check, and the check of it. Assumes nothing.
use Rattle.std.specs.Prelude.{ℕ, ◌≤◌, List, ◌≡◌, length, Option as Maybe, Some, None}
use Rattle.std.proofs.Common.{arith, ◌∙◌}
use Rattle.std.proofs.Math.Path.{refl, ap, sym}
use Rattle.cedar.specs.Limits.{block_bytes}
use Rattle.schemas.specs.SchemaBytes.{entries_end, section_at, sections_of, checked}
use Rattle.schemas.specs.Offsets.{starts_of, offsets_of}
use Rattle.schemas.specs.Laws.Checks.{sections-are}
use Rattle.schemas.specs.Laws.Finders.{kept, kept-counts, actions-laid, functions-laid}
use Rattle.forms.specs.declared.limits.Limits.{Limits as LimitsStruct}
use Rattle.schemas.specs.declared.kinds.SectionKind.TheVariants.{Entities, Actions, Functions}
use Rattle.schemas.specs.declared.offsets.Offsets.{Offsets}
use Rattle.schemas.specs.declared.sections.Section.{Section}
use Rattle.schemas.specs.declared.sections.Sections.{Sections}

-- The offsets of a whole schema stand behind its counts and within its bytes.
pub record Stands (b : List ℕ) (o : Offsets) : Type 0 where
  pub few : length b ≤ block_bytes
  pub room : 6 ≤ length b
  pub first : o.entities ≡ entries_end b
  pub behind : o.entities ≤ o.actions
  pub second : o.actions ≤ length b
  pub third : o.functions ≤ length b

pub stands : (l : LimitsStruct) (b : List ℕ) (x : Sections) → checked l b ≡ Some x → Stands b (starts_of x)
unfolding sections_of
stands l b x e =
    let k = (kept l b x e).0 in
    let p = ap (λ (y : Sections). y.entities.bodies) k.is in
    let q = ap (λ (y : Sections). y.actions.bodies) k.is in
    record {
      few = k.few;
      room = (kept-counts k).some;
      first = p;
      behind = omega (arith, p, q);
      second = omega (arith, (actions-laid k).room);
      third = omega (arith, (functions-laid k).room);
    }

-- Offsets that are a schema's own are those of the sections that its check found.
pub found : (l : LimitsStruct) (b : List ℕ) (o : Offsets) → Some o ≡ offsets_of (checked l b) → (x : Sections) × (checked l b ≡ Some x) × (o ≡ starts_of x)
found l b o own = go (checked l b) refl own
  where
    go : (y : Maybe Sections) → checked l b ≡ y → Some o ≡ offsets_of y → (x : Sections) × (y ≡ Some x) × (o ≡ starts_of x)
    go None e n = absurd (let z : ◌≡◌ {A = ℕ} 0 1 = cc in omega arith)
    go (Some x) e n = (x, refl, (cc))

module _ (l : LimitsStruct) (b : List ℕ) (o : Offsets) (own : Some o ≡ offsets_of (checked l b)) where
  -- The counts can be read.
  pub again-room : 6 ≤ length b
  again-room = let (x, e, n) = found l b o own in (stands l b x e).room

  pub again-whole : (u v w : Section) → u ≡ section_at Entities o.entities b → v ≡ section_at Actions o.actions b →
      w ≡ section_at Functions o.functions b →
      Some (record { limits = l; entities = u; actions = v; functions = w }) ≡ checked l b
  unfolding sections_of
  again-whole u v w ue ve we =
      let (x, e, n) = found l b o own in
      let k = kept l b x e in
      let p = ap (λ (y : Offsets). y.entities) n ∙ ap (λ (y : Sections). y.entities.bodies) k.0.is in
      let q = ap (λ (y : Offsets). y.actions) n ∙ ap (λ (y : Sections). y.actions.bodies) k.0.is in
      let r = ap (λ (y : Offsets). y.functions) n ∙ ap (λ (y : Sections). y.functions.bodies) k.0.is in
      ap Some
      (sections-are l b o.entities o.actions o.functions p q r u v w ue ve we ∙ ap (λ (m : LimitsStruct). sections_of m b) (sym k.1) ∙ sym k.0.is)
      ∙ sym e

-- Where none are kept, the check found no whole schema.
pub none-found : (y : Maybe Sections) → None ≡ offsets_of y → None ≡ y
none-found None e = refl
none-found (Some x) e = absurd (let z : ◌≡◌ {A = ℕ} 0 1 = cc in omega arith)
