-- What the finders of a whole schema find: cedar's entries. Assumes nothing.
use Rattle.std.specs.Prelude.{◌≡◌, List, [], ◌∷◌, ◌&&◌, ℕ, ◌+◌, ◌*◌, ◌≤◌, leb, length, get_or, Option as Maybe, Some, None, option_map}
use Rattle.std.proofs.Math.Path.{refl, ap, ap₂, subst}
use Rattle.std.proofs.Common.{sym, ◌∙◌, arith, get_or-take}
use Rattle.std.proofs.Math.Bool.{Bool, true, false, cond}
use Rattle.std.proofs.Math.Option.{Option, none, some}
use Rattle.std.proofs.Math.Dec.{eqb}
use borrow.Author.Tests.{leb-true, eqb-true}
use Rattle.cedar.specs.Bytes.{Bytes}
use Rattle.cedar.specs.Types.{Attrs, Arg, maybe}
use Rattle.cedar.specs.Limits.{Limits, allowed, block_bytes}
use Rattle.cedar.specs.SchemaForm.{entities_of, actions_of, functions_of}
use Rattle.cedar.specs.Attribute.{entity_in, entity_of}
use Rattle.cedar.specs.Literal.{action_in, action_of}
use Rattle.cedar.specs.Conformance.{function_in, function_of}
use Rattle.forms.specs.Limits.{as_limits}
use Rattle.forms.specs.Parts.{part, rest, rd, kind}
use Rattle.forms.specs.declared.limits.Limits.{Limits as LimitsStruct}
use Rattle.forms.specs.Laws.Bytes.{Bytes-part}
use Rattle.forms.specs.TypeBytes.{whole}
use Rattle.forms.specs.declared.rows.Row.{Row}
use Rattle.forms.specs.Laws.Parts.{and_l, and_r, length_rest, rd-take}
use Rattle.forms.specs.Laws.Views.{IsRecord, is-record}
use Rattle.schemas.specs.SchemaBytes.{entity_row, action_row, function_row, body_test, body_fits, body_of, record_of, args_fit, args_of}
use Rattle.schemas.specs.SchemaBytes.{section_fits, section_of, section_end, entity_section, action_section, function_section, sections_of, head_fits, whole_s}
use Rattle.schemas.specs.SchemaBytes.{dec_s, checked}
use Rattle.schemas.specs.Entries.{entry_at, row_bytes, signature_of, function_at, signature_bytes, returns_of, LaidIn, Sectioned, open_at, body_attrs}
use Rattle.schemas.specs.Laws.Walks.{section-ends}
use Rattle.schemas.specs.Laws.Bodies.{is_body}
use Rattle.schemas.specs.Laws.Checks.{Head, head, checked-whole, checked-limits}
use Rattle.schemas.specs.Laws.Entries.{entry-bytes, lookup, FoundIn, found_in, FoundAt, found-at}
use Rattle.schemas.specs.declared.kinds.SectionKind.TheVariants.{Entities, Actions, Functions}
use Rattle.schemas.specs.declared.sections.Section.{Section}
use Rattle.schemas.specs.declared.sections.Sections.{Sections}
use Rattle.schemas.specs.declared.entries.Key.TheVariants.{Name, Uid}
use Rattle.schemas.specs.declared.entries.Signature.{Signature}
use Rattle.schemas.specs.declared.checked.Checked.{Checked}

-- What an entry says stands in its own bytes.
entity-own : (es : List ℕ) → entity_row.head (part 0 5 es) ≡ entity_row.head es
entity-own es = rw (rd-take 5 es 0 (omega arith), get_or-take 5 es 2 0 (omega arith)) refl

action-own : (es : List ℕ) → action_row.head (part 0 6 es) ≡ action_row.head es
action-own es = rw (rd-take 6 es 0 (omega arith), rd-take 6 es 2 (omega arith)) refl

function-own : (es : List ℕ) → function_row.head (part 0 7 es) ≡ function_row.head es
function-own es = rw (rd-take 7 es 0 (omega arith), get_or-take 7 es 2 0 (omega arith), rd-take 7 es 3 (omega arith)) refl

returns-says : (z : Bool) (e : ℕ) → ◌≡◌ {A = Option ℕ} (cond z (some e) none) (returns_of (cond z (Some e) None))
returns-says true e = refl
returns-says false e = refl

-- Checking a schema keeps it.
pub kept : (l : LimitsStruct) (b : List ℕ) (x : Sections) → checked l b ≡ Some x → Sectioned b x × (x.limits ≡ l)
unfolding sections_of
kept l b x h =
    let t = checked-whole l b x h in
    let own : x.limits ≡ l = ap (λ (z : Sections). z.limits) t.2 in (
      record {
        fair = ap (λ (m : LimitsStruct). allowed (as_limits m)) own ∙ t.0;
        few = leb-true (length b) block_bytes (and_l (leb (length b) block_bytes) (whole_s (as_limits l) b) t.1);
        yes = ap (λ (m : LimitsStruct). whole_s (as_limits m) b) own ∙ and_r (leb (length b) block_bytes) (whole_s (as_limits l) b) t.1;
        is = t.2 ∙ ap (λ (m : LimitsStruct). sections_of m b) (sym own);
      },
      own,
    )

-- The sections of a schema that was checked hold its limits.
pub sections-limits : (c : Checked) (x : Sections) → c.sections ≡ Some x → x.limits ≡ c.limits
sections-limits c x h = checked-limits c.limits c.bytes.now x (sym c.own_check ∙ h)

-- The three sections of a whole schema.
record Parts (lim : Limits) (b : List ℕ) : Type 0 where
  pub counts : Head b
  pub first : section_fits lim Entities (entity_section b) b ≡ true
  pub second : section_fits lim Actions (action_section b) b ≡ true
  pub third : section_fits lim Functions (function_section b) b ≡ true
  pub end₀ : (action_section b).bodies ≤ length b
  pub end₁ : (function_section b).bodies ≤ length b
  pub end₂ : section_end 7 (function_section b) b ≤ length b

parts : (lim : Limits) (b : List ℕ) → whole_s lim b ≡ true → Parts lim b
unfolding whole_s
parts lim b h =
    let c = head b (and_l (head_fits b) _ h) in
    let h₀ = and_r (head_fits b) _ h in
    let h₁ = and_r (section_fits lim Entities (entity_section b) b) _ h₀ in
    let h₂ = and_r (section_fits lim Actions (action_section b) b) _ h₁ in
    let f₀ = and_l (section_fits lim Entities (entity_section b) b) _ h₀ in
    let f₁ = and_l (section_fits lim Actions (action_section b) b) _ h₁ in
    let f₂ = and_l (section_fits lim Functions (function_section b) b) _ h₂ in
    let e₀ = section-ends lim Entities (entity_section b) b f₀ c.fit in
    let e₁ = section-ends lim Actions (action_section b) b f₁ e₀ in
    let e₂ = section-ends lim Functions (function_section b) b f₂ e₁ in
    record { counts = c; first = f₀; second = f₁; third = f₂; end₀ = e₀; end₁ = e₁; end₂ = e₂ }

-- A body that was found: a whole record form within the limits.
pub record BodyAt (lim : Limits) (c : List ℕ) : Type 0 where
  pub few : length c ≤ lim.bytes
  pub good : whole lim.levels c ≡ true
  pub kind-is : kind c ≡ 8
  pub view : IsRecord lim.levels c

-- An entity type of the name has the body.
pub record EntityAt (lim : Limits) (b : List ℕ) (name : ℕ) (c : List ℕ) : Type 0 where
  pub body : BodyAt lim c
  pub enumerated : Bool
  pub is : entity_of (dec_s lim b) name ≡ some (record { name = name; enumerated = enumerated; is_open = open_at c; attrs = body_attrs lim c })

-- An action of the type and id has the body.
pub record ActionAt (lim : Limits) (b : List ℕ) (k i : ℕ) (c : List ℕ) : Type 0 where
  pub body : BodyAt lim c
  pub bytes : Bytes b → Bytes c
  pub is : action_of (dec_s lim b) k i ≡ some (record { type = k; id = i; attrs = body_attrs lim c })

-- A function of the name has the signature.
pub record FunctionAt (lim : Limits) (b : List ℕ) (name : ℕ) (f : Signature) : Type 0 where
  pub args : args_fit f.arguments.now ≡ true
  pub is : function_of (dec_s lim b) name ≡ some (record { name = name; returns = returns_of f.returns; args = args_of f.arguments.now })

-- Bytes that stand in others, from one place to another.
pub record StandsIn (b c : List ℕ) : Type 0 where
  pub from : ℕ
  pub to : ℕ
  pub order : from ≤ to
  pub inside : to ≤ length b
  pub bytes : c ≡ part from to b

body_at : (lim : Limits) (c : List ℕ) (closed : Bool) → body_fits lim closed c ≡ true → BodyAt lim c
body_at lim c closed h =
    let v = is_body lim closed c h in
    record { few = v.few; good = v.good; kind-is = v.kind-is; view = is-record lim.levels c v.good v.kind-is }

body-says : {lim : Limits} {c : List ℕ} → BodyAt lim c → body_of lim c ≡ (open_at c, body_attrs lim c)
unfolding body_of
body-says v = ap record_of v.view.is

-- Cedar's searches go down the rows, for each section.
module _ {H A E : Type 0} (q : H → Bool) (make : H × A → E) (find : List (H × A) → Option E) (stop : find [] ≡ none)
    (step : (x : H × A) (xs : List (H × A)) → find (x ∷ xs) ≡ cond (q x.0) (some (make x)) (find xs)) where
  rows-find : (xs : List (H × A)) → find xs ≡ maybe none (λ y. some (make y)) (lookup q xs)
  rows-find [] = stop
  rows-find (x ∷ xs) = step x xs ∙ go (q x.0) (find xs) (lookup q xs) (rows-find xs)
    where
      go : (z : Bool) (o : Option E) (p : Option (H × A)) → o ≡ maybe none (λ y. some (make y)) p →
          cond z (some (make x)) o ≡ maybe none (λ y. some (make y)) (cond z (some x) p)
      go true o p e = refl
      go false o p e = e

  rows-some : (xs : List (H × A)) (y : H × A) → lookup q xs ≡ some y → find xs ≡ some (make y)
  rows-some xs y e = rows-find xs ∙ ap (λ (o : Option (H × A)). maybe none (λ z. some (make z)) o) e

  rows_none : (xs : List (H × A)) → lookup q xs ≡ none → find xs ≡ none
  rows_none xs e = rows-find xs ∙ ap (λ (o : Option (H × A)). maybe none (λ z. some (make z)) o) e

-- The rows of a schema.
abbrev entity_rows : Limits → List ℕ → List ((ℕ × Bool) × (Bool × Attrs))
entity_rows lim b = section_of entity_row (λ h. body_of lim) (entity_section b) b

abbrev action_rows : Limits → List ℕ → List ((ℕ × ℕ) × (Bool × Attrs))
action_rows lim b = section_of action_row (λ h. body_of lim) (action_section b) b

abbrev function_rows : List ℕ → List ((ℕ × Option ℕ) × List Arg)
function_rows b = section_of function_row (λ h. args_of) (function_section b) b

module _ {b : List ℕ} {x : Sections} (k : Sectioned b x) where
  abbrev lim : Limits
  lim = as_limits x.limits

  kept-parts : Parts lim b
  kept-parts = parts lim b k.yes

  pub kept-counts : Head b
  kept-counts = kept-parts.counts

  -- Where the sections lie.
  entities-is : x.entities ≡ entity_section b
  unfolding sections_of
  entities-is = ap (λ (y : Sections). y.entities) k.is

  actions-is : x.actions ≡ action_section b
  unfolding sections_of
  actions-is = ap (λ (y : Sections). y.actions) k.is

  functions-is : x.functions ≡ function_section b
  unfolding sections_of
  functions-is = ap (λ (y : Sections). y.functions) k.is

  pub entities-laid : LaidIn 5 x.entities b
  entities-laid = subst (λ (y : Section). LaidIn 5 y b) (sym entities-is) (record { entries = omega (arith, kept-parts.counts.fit); room = kept-parts.end₀ })

  pub actions-laid : LaidIn 6 x.actions b
  actions-laid = subst (λ (y : Section). LaidIn 6 y b) (sym actions-is) (record { entries = omega (arith, kept-parts.counts.fit); room = kept-parts.end₁ })

  pub functions-laid : LaidIn 7 x.functions b
  functions-laid =
      subst (λ (y : Section). LaidIn 7 y b) (sym functions-is) (record { entries = omega (arith, kept-parts.counts.fit); room = kept-parts.end₂ })

  -- An entity type.
  module _ (name : ℕ) (o : Maybe Row) (q : option_map row_bytes o ≡ entry_at 5 (Name name) x.entities b) where
    abbrev EntityFound : Maybe (List ℕ × List ℕ) → Type 0
    EntityFound = FoundIn entity_row (body_test lim Entities) (λ h. body_of lim) (Name name) (λ h. eqb name h.0) (entity_rows lim b)

    entity-found : EntityFound (option_map row_bytes o)
    entity-found =
        subst EntityFound (sym (q ∙ ap (λ (z : Section). entry_at 5 (Name name) z b) entities-is))
        (found_in entity_row (body_test lim Entities) (λ h. body_of lim) (Name name) (λ h. eqb name h.0) (λ es. refl) entity-own (rd b 0) 0
        (rest 6 b) (rest (entity_section b).bodies b) (omega (arith, kept-parts.counts.fit, length_rest 6 b)) kept-parts.first)

    pub entity-at : (r : Row) → o ≡ Some r → EntityAt lim b name r.body.now
    unfolding dec_s
    entity-at r h =
        let f = subst (λ (z : Maybe Row). EntityFound (option_map row_bytes z)) h entity-found in
        let e = eqb (get_or r.head.now 2 0) 1 in
        let v = body_at lim r.body.now e f.body in
        record {
          body = v;
          enumerated = e;
          is =
              rows-some (λ h. eqb name h.0) (λ z. record { name = z.0.0; enumerated = z.0.1; is_open = z.1.0; attrs = z.1.1 })
              (λ xs. entity_in (entities_of xs) name) refl (λ z zs. refl) (entity_rows lim b) _ f.is
              ∙ ap₂ (λ (n : ℕ) (y : Bool × Attrs). some (record { name = n; enumerated = e; is_open = y.0; attrs = y.1 }))
              (sym (eqb-true name (rd r.head.now 0) f.has)) (body-says v);
        }

    abbrev EntityPlaced : Maybe (List ℕ × List ℕ) → Type 0
    EntityPlaced = FoundAt entity_row (body_test lim Entities) (λ h. body_of lim) (Name name) (λ h. eqb name h.0) b (entity_rows lim b)

    -- Its entry and its body stand in the schema.
    pub entity-stands : (r : Row) → o ≡ Some r → StandsIn b r.head.now × StandsIn b r.body.now
    entity-stands r h =
        let f : EntityPlaced (Some (row_bytes r)) =
        subst EntityPlaced (sym (ap (option_map row_bytes) (sym h) ∙ q ∙ ap (λ (z : Section). entry_at 5 (Name name) z b) entities-is))
        (found-at entity_row (body_test lim Entities) (λ h. body_of lim) (Name name) (λ h. eqb name h.0) b (λ es. refl) (rd b 0) 0 6
        (entity_section b).bodies (omega (arith, kept-parts.counts.fit)) kept-parts.counts.fit kept-parts.first) in (
          record { from = f.i; to = f.i + 5; order = omega arith; inside = f.row.room; bytes = f.entry },
          record { from = f.a; to = f.e; order = f.row.order; inside = f.row.inside; bytes = f.bytes },
        )

    pub entity-not : o ≡ None → entity_of (dec_s lim b) name ≡ none
    unfolding dec_s
    entity-not h =
        rows_none (λ h. eqb name h.0) (λ z. record { name = z.0.0; enumerated = z.0.1; is_open = z.1.0; attrs = z.1.1 })
        (λ xs. entity_in (entities_of xs) name) refl (λ z zs. refl) (entity_rows lim b)
        (subst (λ (z : Maybe Row). EntityFound (option_map row_bytes z)) h entity-found)

  -- An action.
  module _ (t d : ℕ) (o : Maybe Row) (q : option_map row_bytes o ≡ entry_at 6 (Uid t d) x.actions b) where
    abbrev ActionFound : Maybe (List ℕ × List ℕ) → Type 0
    ActionFound = FoundIn action_row (body_test lim Actions) (λ h. body_of lim) (Uid t d) (λ h. eqb t h.0 && eqb d h.1) (action_rows lim b)

    action-found : ActionFound (option_map row_bytes o)
    action-found =
        subst ActionFound (sym (q ∙ ap (λ (z : Section). entry_at 6 (Uid t d) z b) actions-is))
        (found_in action_row (body_test lim Actions) (λ h. body_of lim) (Uid t d) (λ h. eqb t h.0 && eqb d h.1) (λ es. refl) action-own (rd b 2) (0, 0)
        (rest (6 + 5 * rd b 0) b) (rest (action_section b).bodies b) (omega (arith, kept-parts.counts.fit, length_rest (6 + 5 * rd b 0) b))
        kept-parts.second)

    pub action-at : (r : Row) → o ≡ Some r → ActionAt lim b t d r.body.now
    unfolding dec_s
    action-at r h =
        let f = subst (λ (z : Maybe Row). ActionFound (option_map row_bytes z)) h action-found in
        let v = body_at lim r.body.now true f.body in
        let h₀ = rd r.head.now 0 in
        let h₁ = rd r.head.now 2 in
        let n = eqb-true t h₀ (and_l (eqb t h₀) (eqb d h₁) f.has) in
        let j = eqb-true d h₁ (and_r (eqb t h₀) (eqb d h₁) f.has) in
        record {
          body = v;
          bytes = λ g.
              entry-bytes 6 (Uid t d) x.actions.count (rest x.actions.entries b) (rest x.actions.bodies b) (Bytes-part x.actions.bodies (length b) b g)
              (row_bytes r) (ap (option_map row_bytes) (sym h) ∙ q);
          is =
              rows-some (λ h. eqb t h.0 && eqb d h.1) (λ z. record { type = z.0.0; id = z.0.1; attrs = z.1.1 }) (λ xs. action_in (actions_of xs) t d)
              refl (λ z zs. refl) (action_rows lim b) _ f.is
              ∙ ap (λ (y : Bool × Attrs). some (record { type = h₀; id = h₁; attrs = y.1 })) (body-says v)
              ∙ ap₂ (λ (l m : ℕ). some (record { type = l; id = m; attrs = body_attrs lim r.body.now })) (sym n) (sym j);
        }

    abbrev ActionPlaced : Maybe (List ℕ × List ℕ) → Type 0
    ActionPlaced = FoundAt action_row (body_test lim Actions) (λ h. body_of lim) (Uid t d) (λ h. eqb t h.0 && eqb d h.1) b (action_rows lim b)

    -- Its entry and its body stand in the schema.
    pub action-stands : (r : Row) → o ≡ Some r → StandsIn b r.head.now × StandsIn b r.body.now
    action-stands r h =
        let f : ActionPlaced (Some (row_bytes r)) =
        subst ActionPlaced (sym (ap (option_map row_bytes) (sym h) ∙ q ∙ ap (λ (z : Section). entry_at 6 (Uid t d) z b) actions-is))
        (found-at action_row (body_test lim Actions) (λ h. body_of lim) (Uid t d) (λ h. eqb t h.0 && eqb d h.1) b (λ es. refl) (rd b 2) (0, 0)
        (6 + 5 * rd b 0) (action_section b).bodies (omega (arith, kept-parts.counts.fit)) kept-parts.end₀ kept-parts.second) in (
          record { from = f.i; to = f.i + 6; order = omega arith; inside = f.row.room; bytes = f.entry },
          record { from = f.a; to = f.e; order = f.row.order; inside = f.row.inside; bytes = f.bytes },
        )

    pub action-not : o ≡ None → action_of (dec_s lim b) t d ≡ none
    unfolding dec_s
    action-not h =
        rows_none (λ h. eqb t h.0 && eqb d h.1) (λ z. record { type = z.0.0; id = z.0.1; attrs = z.1.1 }) (λ xs. action_in (actions_of xs) t d)
        refl (λ z zs. refl) (action_rows lim b) (subst (λ (z : Maybe Row). ActionFound (option_map row_bytes z)) h action-found)

  -- A function.
  module _ (name : ℕ) where
    abbrev EntryFound : Maybe (List ℕ × List ℕ) → Type 0
    EntryFound = FoundIn function_row (body_test lim Functions) (λ h. args_of) (Name name) (λ h. eqb name h.0) (function_rows b)

    entry_found : EntryFound (entry_at 7 (Name name) x.functions b)
    entry_found =
        subst EntryFound (sym (ap (λ (z : Section). entry_at 7 (Name name) z b) functions-is))
        (found_in function_row (body_test lim Functions) (λ h. args_of) (Name name) (λ h. eqb name h.0) (λ es. refl) function-own (rd b 4)
        0 (rest (6 + 5 * rd b 0 + 6 * rd b 2) b) (rest (function_section b).bodies b)
        (omega (arith, kept-parts.counts.fit, length_rest (6 + 5 * rd b 0 + 6 * rd b 2) b)) kept-parts.third)

    -- The entry is there.
    pub function-room : (o : Maybe Row) → option_map row_bytes o ≡ entry_at 7 (Name name) x.functions b → (r : Row) → o ≡ Some r → length r.head.now ≡ 7
    function-room o q r h = (subst EntryFound (sym q ∙ ap (option_map row_bytes) h) entry_found).sized

    abbrev EntryPlaced : Maybe (List ℕ × List ℕ) → Type 0
    EntryPlaced = FoundAt function_row (body_test lim Functions) (λ h. args_of) (Name name) (λ h. eqb name h.0) b (function_rows b)

    entry_placed : EntryPlaced (entry_at 7 (Name name) x.functions b)
    entry_placed =
        subst EntryPlaced (sym (ap (λ (z : Section). entry_at 7 (Name name) z b) functions-is))
        (found-at function_row (body_test lim Functions) (λ h. args_of) (Name name) (λ h. eqb name h.0) b (λ es. refl) (rd b 4)
        0 (6 + 5 * rd b 0 + 6 * rd b 2) (function_section b).bodies (omega (arith, kept-parts.counts.fit)) kept-parts.end₁ kept-parts.third)

    none-says : EntryFound None → function_of (dec_s lim b) name ≡ none
    unfolding dec_s
    none-says v =
        rows_none (λ h. eqb name h.0) (λ z. record { name = z.0.0; returns = z.0.1; args = z.1 }) (λ xs. function_in (functions_of xs) name)
        refl (λ z zs. refl) (function_rows b) v

    module _ (o : Maybe Signature) (q : option_map signature_bytes o ≡ function_at name x.functions b) where
      pub function-at : (f : Signature) → o ≡ Some f → FunctionAt lim b name f
      unfolding dec_s
      function-at f h = go (entry_at 7 (Name name) x.functions b) (ap (option_map signature_bytes) (sym h) ∙ q) entry_found
        where
          go : (g : Maybe (List ℕ × List ℕ)) → Some (signature_bytes f) ≡ option_map signature_of g → EntryFound g → FunctionAt lim b name f
          go (Some y) p v =
              let same : signature_bytes f ≡ signature_of y = cc in
              let returns : f.returns ≡ cond (eqb (get_or y.0 2 0) 1) (Some (rd y.0 3)) None = ap (λ (z : Maybe ℕ × List ℕ). z.0) same in
              let args : f.arguments.now ≡ y.1 = ap (λ (z : Maybe ℕ × List ℕ). z.1) same in
              record {
                args = rw args v.body;
                is =
                    rows-some (λ h. eqb name h.0) (λ z. record { name = z.0.0; returns = z.0.1; args = z.1 }) (λ xs. function_in (functions_of xs) name)
                    refl (λ z zs. refl) (function_rows b) _ v.is
                    ∙ rw (sym (eqb-true name (rd y.0 0) v.has), returns, args)
                    (ap (λ (e : Option ℕ). some (record { name = name; returns = e; args = args_of y.1 })) (returns-says (eqb (get_or y.0 2 0) 1) (rd y.0 3)));
              }
          go None p v = absurd (let z : ◌≡◌ {A = ℕ} 0 1 = cc in omega arith)

      -- Its arguments stand in the schema.
      pub function-stands : (f : Signature) → o ≡ Some f → StandsIn b f.arguments.now
      function-stands f h = go (entry_at 7 (Name name) x.functions b) (ap (option_map signature_bytes) (sym h) ∙ q) entry_placed
        where
          go : (g : Maybe (List ℕ × List ℕ)) → Some (signature_bytes f) ≡ option_map signature_of g → EntryPlaced g → StandsIn b f.arguments.now
          go (Some y) p v =
              let same : signature_bytes f ≡ signature_of y = cc in
              let args : f.arguments.now ≡ y.1 = ap (λ (z : Maybe ℕ × List ℕ). z.1) same in
              record { from = v.a; to = v.e; order = v.row.order; inside = v.row.inside; bytes = args ∙ v.bytes }
          go None p v = absurd (let z : ◌≡◌ {A = ℕ} 0 1 = cc in omega arith)

      pub function-not : o ≡ None → function_of (dec_s lim b) name ≡ none
      function-not h = go (entry_at 7 (Name name) x.functions b) (ap (option_map signature_bytes) (sym h) ∙ q) entry_found
        where
          go : (g : Maybe (List ℕ × List ℕ)) → None ≡ option_map signature_of g → EntryFound g → function_of (dec_s lim b) name ≡ none
          go (Some y) p v = absurd (let z : ◌≡◌ {A = ℕ} 0 1 = cc in omega arith)
          go None p v = none-says v

-- The answers of `find_function`.
pub signature-not : (o : Maybe Row) {g : Maybe (List ℕ × List ℕ)} → option_map row_bytes o ≡ g → o ≡ None →
    None ≡ option_map signature_of g
signature-not o q h = ap (option_map signature_of) (ap (option_map row_bytes) (sym h) ∙ q)
