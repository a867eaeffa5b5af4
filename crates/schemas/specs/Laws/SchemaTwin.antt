-- The schema form as cedar reads it, and as the code walks it. Assumes nothing.
use Rattle.std.specs.Prelude.{◌≡◌, refl, Bool, false, not, ◌&&◌, ◌||◌, cond, ℕ, zero, suc, ◌+◌, ◌*◌, ◌-◌, ◌≤◌, eqb, ltb, length, drop, get_or}
use Rattle.std.proofs.Common.{ap, ap₂, ◌∙◌, add-one, arith, length-drop, drop-drop, leb-true, le-leb}
use Rattle.std.proofs.Math.Path.{sym}
use mathlib.Core.List.{List, [], ◌∷◌}
use Rattle.std.proofs.Math.Bool.{true, and-false, and-true, and_assoc}
use Rattle.std.proofs.Math.Option.{Option, none, some}
use Rattle.std.proofs.Math.Decide.{dec_le}
use Rattle.std.proofs.Math.Dec.{leb}
use Rattle.std.proofs.lemmas.Bool.{lt-leb}
use Rattle.cedar.specs.Types.{Entity, Action, Function, Schema, is_action, maybe, present, as_rec}
use Rattle.cedar.specs.Limits.{Limits, block_bytes, max_entities, max_actions, max_functions}
use Rattle.cedar.specs.SchemaForm.{read_entity, read_action, read_function, ascending_first, ascending_action, read_body, parse_args, entities_of, actions_of}
use Rattle.cedar.specs.SchemaForm.{functions_of, parse_schema}
use Rattle.cedar.specs.Whole.{whole_type, whole_schema}
use Rattle.forms.specs.Parts.{rest, rd}
use Rattle.forms.specs.Rows.{Row, body_length, rows_to, rows_of, left_of, none_left}
use Rattle.forms.specs.Search.{used}
use Rattle.forms.specs.TypeBytes.{dec}
use Rattle.forms.specs.Laws.Parts.{and_same, rest-is, rest_0, rest-rest, length_rest}
use Rattle.forms.specs.Laws.Sure.{Sure, sure-same, bind_to, map-to, guard-to, finish-to, word_at, bit_at, ascending-to, eqb_same, leb-and, leb-under, within-to}
use Rattle.forms.specs.Laws.RowsTwin.{Reads, rows-twin}
use Rattle.forms.specs.Laws.TypeTwin.{whole-type-twin}
use Rattle.schemas.specs.SchemaBytes.{entity_row, action_row, function_row, record_of, body_fits, body_of, args_fit, args_of, low_in, lowest, row_of, body_test, any}
use Rattle.schemas.specs.SchemaBytes.{section_fits, section_end, entries_end, entity_section, action_section, function_section, sections_fit, whole_s, dec_s}
use Rattle.schemas.specs.declared.kinds.SectionKind.{SectionKind}
use Rattle.schemas.specs.declared.kinds.SectionKind.TheVariants.{Entities, Actions, Functions}
use Rattle.schemas.specs.declared.sections.Section.{Section}
use Rattle.schemas.specs.Laws.Walks.{section-ends}

-- Lengths that the last of them implies.
gather : (j k n : ℕ) (g : Bool) → j ≤ k → leb j n && (g && leb k n) ≡ leb k n && g
gather j k n g h = go (dec_le k n)
  where
    go : Dec (k ≤ n) → leb j n && (g && leb k n) ≡ leb k n && g
    go (yes p) = rw (le-leb j n (omega arith), le-leb k n p) (and-true g)
    go (no p) = rw (lt-leb k n (omega arith), and-false g, and-false (leb j n)) refl

-- The entries of the three sections.
pub entity-reads : Reads entity_row read_entity ascending_first
entity-reads =
    record {
      good = λ es. not (is_action (rd es 0)) && leb (get_or es 2 0) 1;
      after = λ low es. leb low (rd es 0);
      ok-is = λ s es. refl;
      reads = λ es. sure-same
          (bind_to _ (word_at es 0) λ q₁.
          bind_to _ (guard-to (not (is_action (rd es 0)))) λ q₂.
          bind_to _ (bit_at es 2) λ q₃.
          map-to (λ y. ((rd es 0, eqb (get_or es 2 0) 1), y.0, y.1)) (word_at es 3))
          (order (length es) (not (is_action (rd es 0))) (leb (get_or es 2 0) 1))
          refl;
      follows = λ low es. ascending-to low (rd es 0);
    }
  where
    order : (n : ℕ) (g k : Bool) → leb 2 n && (g && ((leb 3 n && k) && leb 5 n)) ≡ (leb 5 n && (g && k))
    order n false k = and-false (leb 2 n) ∙ sym (and-false (leb 5 n))
    order n true k = ap (λ (z : Bool). leb 2 n && z) (and_assoc (leb 3 n) k (leb 5 n) ∙ gather 3 5 n k (omega arith)) ∙ under
      where
        under : leb 2 n && (leb 5 n && k) ≡ leb 5 n && k
        under = leb-under 2 5 n k (omega arith)

pub action-reads : Reads action_row read_action ascending_action
action-reads =
    record {
      good = λ es. is_action (rd es 0);
      after = λ low es. ltb low.0 (rd es 0) || (eqb low.0 (rd es 0) && leb low.1 (rd es 2));
      ok-is = λ s es. refl;
      reads = λ es. sure-same
          (bind_to _ (word_at es 0) λ q₁.
          bind_to _ (guard-to (is_action (rd es 0))) λ q₂.
          bind_to _ (word_at es 2) λ q₃.
          map-to (λ y. ((rd es 0, rd es 2), y.0, y.1)) (word_at es 4))
          (order (length es) (is_action (rd es 0)))
          refl;
      follows = λ low es. record { is = rw (add-one (rd es 2)) refl };
    }
  where
    order : (n : ℕ) (g : Bool) → leb 2 n && (g && (leb 4 n && leb 6 n)) ≡ (leb 6 n && g)
    order n g =
        ap (λ (z : Bool). leb 2 n && (g && z)) (leb-and 4 n 6 n 6 n (λ h. (omega arith, h)) (λ a b. b))
        ∙ gather 2 6 n g (omega arith)

pub function-reads : Reads function_row read_function ascending_first
function-reads =
    record {
      good = λ es. leb (get_or es 2 0) 1 && (eqb (get_or es 2 0) 1 || eqb (rd es 3) 0);
      after = λ low es. leb low (rd es 0);
      ok-is = λ s es. refl;
      reads = λ es. sure-same
          (bind_to _ (word_at es 0) λ q₁.
          bind_to _ (bit_at es 2) λ q₂.
          bind_to _ (word_at es 3) λ q₃.
          bind_to _ (guard-to (eqb (get_or es 2 0) 1 || eqb (rd es 3) 0)) λ q₄.
          map-to (λ y. ((rd es 0, cond (eqb (get_or es 2 0) 1) (some (rd es 3)) none), y.0, y.1)) (word_at es 5))
          (order (length es) (leb (get_or es 2 0) 1) (eqb (get_or es 2 0) 1 || eqb (rd es 3) 0))
          refl;
      follows = λ low es. ascending-to low (rd es 0);
    }
  where
    order : (n : ℕ) (k g : Bool) → leb 2 n && ((leb 3 n && k) && (leb 5 n && (g && leb 7 n))) ≡ (leb 7 n && (k && g))
    order n k g =
        ap (λ (z : Bool). leb 2 n && ((leb 3 n && k) && z)) (gather 5 7 n g (omega arith))
        ∙ ap (λ (z : Bool). leb 2 n && z) (and_assoc (leb 3 n) k (leb 7 n && g))
        ∙ last k
      where
        last : (k : Bool) → leb 2 n && (leb 3 n && (k && (leb 7 n && g))) ≡ (leb 7 n && (k && g))
        last true = ap (λ (z : Bool). leb 2 n && z) (leb-under 3 7 n g (omega arith)) ∙ leb-under 2 7 n g (omega arith)
        last false = rw (and-false (leb 3 n), and-false (leb 2 n), and-false (leb 7 n)) refl

-- A step that may fail is sure of what it gives.
option-to : {A : Type 0} (o : Option A) (x : A) → Sure o (present o) (maybe x (λ y. y) o)
option-to none x = record { is = refl }
option-to (some y) x = record { is = refl }

-- The bodies.
pub body-twin : (lim : Limits) (closed : Bool) (b : List ℕ) → Sure (read_body (λ c. whole_type lim c) closed b) (body_fits lim closed b) (body_of lim b)
unfolding body_fits body_of
body-twin lim closed b =
    bind_to _ (whole-type-twin lim b) λ q₁.
    bind_to _ (option-to (as_rec (dec lim.levels b)) _) λ q₂.
    sure-same (map-to (λ u. record_of (dec lim.levels b)) (guard-to (not (closed && (record_of (dec lim.levels b)).0)))) refl refl

pub args-twin : (b : List ℕ) → Sure (parse_args b) (args_fit b) (args_of b)
unfolding args_fit args_of
args-twin b = option-to (parse_args b) []

-- What a section's bodies leave over.
left-used : {S H : Type 0} (r : Row S H) (n : ℕ) (es bs : List ℕ) → left_of r n es bs ≡ rest (used r.width n es) bs
unfolding left_of used
left-used r zero es bs = sym (rest_0 bs)
left-used r (suc n) es bs =
    left-used r n (rest r.width es) (rest (body_length r es) bs) ∙ rest-rest (body_length r es) (used r.width n (rest r.width es)) bs

and-head : {a c : Bool} (z : Bool) → a ≡ c → a && z ≡ c && z
and-head z e = ap (λ (y : Bool). y && z) e

-- Tests in the order of the definition, and in ours.
lay : (a b c n x y z r s t u : Bool) →
    a && (b && (c && (n && ((x && r) && ((y && s) && ((z && t) && u)))))) ≡ (a && (b && c)) && (n && ((x && (y && z)) && (r && (s && (t && u)))))
lay false b c n x y z r s t u = refl
lay true false c n x y z r s t u = refl
lay true true false n x y z r s t u = refl
lay true true true false x y z r s t u = refl
lay true true true true false y z r s t u = refl
lay true true true true true y z false s t u = sym (and-false (y && z))
lay true true true true true false z true s t u = refl
lay true true true true true true z true false t u = sym (and-false z)
lay true true true true true true z true true t u = and_assoc z t u

-- What cedar reads the sections from.
abbrev es₀ : List ℕ → List ℕ
es₀ b = drop 6 b

abbrev es₁ : List ℕ → List ℕ
es₁ b = drop (5 * rd b 0) (es₀ b)

abbrev es₂ : List ℕ → List ℕ
es₂ b = drop (6 * rd b 2) (es₁ b)

abbrev bs₀ : List ℕ → List ℕ
bs₀ b = drop (5 * rd b 0 + 6 * rd b 2 + 7 * rd b 4) (es₀ b)

abbrev bs₁ : List ℕ → List ℕ
bs₁ b = left_of entity_row (rd b 0) (es₀ b) (bs₀ b)

abbrev bs₂ : List ℕ → List ℕ
bs₂ b = left_of action_row (rd b 2) (es₁ b) (bs₁ b)

abbrev bs₃ : List ℕ → List ℕ
bs₃ b = left_of function_row (rd b 4) (es₂ b) (bs₂ b)

-- A section whose entries and bodies are those of ours ends where ours does.
left_is : {S H : Type 0} (r : Row S H) (x : Section) (b es bs : List ℕ) → es ≡ rest x.entries b → bs ≡ rest x.bodies b →
    left_of r x.count es bs ≡ rest (section_end r.width x b) b
left_is r x b es bs p q =
    left-used r x.count es bs
    ∙ ap₂ (λ (e f : List ℕ). rest (used r.width x.count e) f) p q
    ∙ rest-rest x.bodies (used r.width x.count (rest x.entries b)) b

module _ (b : List ℕ) where
  es-is₀ : es₀ b ≡ rest (entity_section b).entries b
  es-is₀ = sym (rest-is 6 b)

  es-is₁ : es₁ b ≡ rest (action_section b).entries b
  es-is₁ = drop-drop (5 * rd b 0) 6 b ∙ sym (rest-is (6 + 5 * rd b 0) b)

  es-is₂ : es₂ b ≡ rest (function_section b).entries b
  es-is₂ =
      ap (λ (l : List ℕ). drop (6 * rd b 2) l) (drop-drop (5 * rd b 0) 6 b) ∙ drop-drop (6 * rd b 2) (6 + 5 * rd b 0) b ∙
      sym (rest-is (6 + 5 * rd b 0 + 6 * rd b 2) b)

  bs-is₀ : bs₀ b ≡ rest (entity_section b).bodies b
  bs-is₀ =
      let e : 6 + (5 * rd b 0 + 6 * rd b 2 + 7 * rd b 4) ≡ 6 + 5 * rd b 0 + 6 * rd b 2 + 7 * rd b 4 = omega arith in
      drop-drop (5 * rd b 0 + 6 * rd b 2 + 7 * rd b 4) 6 b ∙ ap (λ (j : ℕ). drop j b) e ∙ sym (rest-is (6 + 5 * rd b 0 + 6 * rd b 2 + 7 * rd b 4) b)

  bs-is₁ : bs₁ b ≡ rest (action_section b).bodies b
  bs-is₁ = left_is entity_row (entity_section b) b (es₀ b) (bs₀ b) es-is₀ bs-is₀

  bs-is₂ : bs₂ b ≡ rest (function_section b).bodies b
  bs-is₂ = left_is action_row (action_section b) b (es₁ b) (bs₁ b) es-is₁ bs-is₁

  bs-is₃ : bs₃ b ≡ rest (section_end 7 (function_section b) b) b
  bs-is₃ = left_is function_row (function_section b) b (es₂ b) (bs₂ b) es-is₂ bs-is₂

  -- The counts are there.
  head-is : leb 2 (length b) && (leb 4 (length b) && leb 6 (length b)) ≡ leb 6 (length b)
  head-is =
      ap (λ (z : Bool). leb 2 (length b) && z) (leb-and 4 (length b) 6 (length b) 6 (length b) (λ h. (omega arith, h)) (λ g h. h))
      ∙ leb-and 2 (length b) 6 (length b) 6 (length b) (λ h. (omega arith, h)) (λ g h. h)

  -- The entries are there.
  entries-is : 6 ≤ length b → leb (5 * rd b 0) (length (es₀ b)) && (leb (6 * rd b 2) (length (es₁ b)) && leb (7 * rd b 4) (length (es₂ b))) ≡ leb (entries_end b)
      (length b)
  entries-is h =
      let l₀ = length-drop 6 b in
      let l₁ = length-drop (5 * rd b 0) (es₀ b) in
      let l₂ = length-drop (6 * rd b 2) (es₁ b) in
      ap (λ (z : Bool). leb (5 * rd b 0) (length (es₀ b)) && z)
      (leb-and (6 * rd b 2) (length (es₁ b)) (7 * rd b 4) (length (es₂ b)) (6 * rd b 2 + 7 * rd b 4) (length (es₁ b)) (λ g. (omega arith, omega arith))
      (λ g k. omega arith))
      ∙ leb-and (5 * rd b 0) (length (es₀ b)) (6 * rd b 2 + 7 * rd b 4) (length (es₁ b)) (entries_end b) (length b) (λ g. (omega arith, omega arith))
      (λ g k. omega arith)

  -- No byte is over.
  end_is : (end : ℕ) → end ≤ length b → none_left (rest end b) ≡ eqb end (length b)
  end_is end h = rw (length_rest end b) (eqb_same (length b - end) 0 end (length b) (λ q. omega arith) (λ q. omega arith))

schema-equal : {es fs : List Entity} {us vs : List Action} {gs hs : List Function} → es ≡ fs → us ≡ vs → gs ≡ hs →
    ◌≡◌ {A = Schema} (record { entities = es; actions = us; functions = gs }) (record { entities = fs; actions = vs; functions = hs })
schema-equal e f g = cc

module _ (lim : Limits) (b : List ℕ) where
  abbrev counts : Bool
  counts = leb (rd b 0) max_entities && (leb (rd b 2) max_actions && leb (rd b 4) max_functions)

  -- The rows of a section.
  abbrev fit : (k : SectionKind) → ℕ → List ℕ → List ℕ → Bool
  fit k n es bs = rows_to (row_of k) (body_test lim k) any n (low_in k lowest) es bs

  sections-is : entries_end b ≤ length b →
      fit Entities (rd b 0) (es₀ b) (bs₀ b) && (fit Actions (rd b 2) (es₁ b) (bs₁ b) && (fit Functions (rd b 4) (es₂ b) (bs₂ b) && none_left (bs₃ b)))
      ≡ sections_fit lim (Entities ∷ Actions ∷ Functions ∷ []) (entries_end b) b
  sections-is h =
      rw (
        ap₂ (λ (e f : List ℕ). fit Entities (rd b 0) e f) (es-is₀ b) (bs-is₀ b),
        ap₂ (λ (e f : List ℕ). fit Actions (rd b 2) e f) (es-is₁ b) (bs-is₁ b),
        ap₂ (λ (e f : List ℕ). fit Functions (rd b 4) e f) (es-is₂ b) (bs-is₂ b),
        bs-is₃ b,
      )
      (and_same (section_fits lim Entities (entity_section b) b) λ p.
      and_same (section_fits lim Actions (action_section b) b) λ q.
      and_same (section_fits lim Functions (function_section b) b) λ r.
      let p₁ = section-ends lim Entities (entity_section b) b p h in
      let q₁ = section-ends lim Actions (action_section b) b q p₁ in
      end_is b (section_end 7 (function_section b) b) (section-ends lim Functions (function_section b) b r q₁))

  tests : leb 2 (length b) && (leb 4 (length b) && (leb 6 (length b) && (counts
      && ((leb (5 * rd b 0) (length (es₀ b)) && fit Entities (rd b 0) (es₀ b) (bs₀ b))
      && ((leb (6 * rd b 2) (length (es₁ b)) && fit Actions (rd b 2) (es₁ b) (bs₁ b))
      && ((leb (7 * rd b 4) (length (es₂ b)) && fit Functions (rd b 4) (es₂ b) (bs₂ b)) && none_left (bs₃ b)))))))
      ≡ whole_s lim b
  unfolding whole_s
  tests =
      lay (leb 2 (length b)) (leb 4 (length b)) (leb 6 (length b)) counts (leb (5 * rd b 0) (length (es₀ b))) (leb (6 * rd b 2) (length (es₁ b)))
      (leb (7 * rd b 4) (length (es₂ b)))
      (fit Entities (rd b 0) (es₀ b) (bs₀ b)) (fit Actions (rd b 2) (es₁ b) (bs₁ b)) (fit Functions (rd b 4) (es₂ b) (bs₂ b)) (none_left (bs₃ b))
      ∙ and-head _ (head-is b)
      ∙ (and_same (leb 6 (length b)) λ p.
      (and_same counts λ q. and-head _ (entries-is b (leb-true 6 (length b) p)) ∙ and_same (leb (entries_end b) (length b)) λ r.
      sections-is (leb-true (entries_end b) (length b) r))
      ∙ sym (and_assoc counts (leb (entries_end b) (length b)) _))
      ∙ sym (and_assoc (leb 6 (length b)) (counts && leb (entries_end b) (length b)) _)

  -- The law: cedar reads a schema just where the bytes are whole, and it is the one decoded.
  pub schema-twin : Sure (parse_schema (λ c. whole_type lim c) b) (whole_s lim b) (dec_s lim b)
  unfolding dec_s
  schema-twin =
      sure-same
      (bind_to _ (word_at b 0) λ q₁.
      bind_to _ (word_at b 2) λ q₂.
      bind_to _ (word_at b 4) λ q₃.
      bind_to _ (guard-to counts) λ q₄.
      bind_to _ (rows-twin entity_row (body_test lim Entities) (λ h. body_of lim) read_entity ascending_first (λ h. read_body (λ c. whole_type lim c) h.1)
      entity-reads (λ h c. body-twin lim h.1 c) (rd b 0) 0 (es₀ b) (bs₀ b)) λ q₅.
      bind_to _ (rows-twin action_row (body_test lim Actions) (λ h. body_of lim) read_action ascending_action (λ h. read_body (λ c. whole_type lim c) true)
      action-reads (λ h c. body-twin lim true c) (rd b 2) (0, 0) (es₁ b) (bs₁ b)) λ q₆.
      bind_to _ (rows-twin function_row (body_test lim Functions) (λ h. args_of) read_function ascending_first (λ h. parse_args) function-reads (λ h c. args-twin c)
      (rd b 4) 0 (es₂ b) (bs₂ b)) λ q₇.
      finish-to _ (bs₃ b))
      tests
      (schema-equal
      (ap₂ (λ (e f : List ℕ). entities_of (rows_of entity_row (λ h. body_of lim) (rd b 0) e f)) (es-is₀ b) (bs-is₀ b))
      (ap₂ (λ (e f : List ℕ). actions_of (rows_of action_row (λ h. body_of lim) (rd b 2) e f)) (es-is₁ b) (bs-is₁ b))
      (ap₂ (λ (e f : List ℕ). functions_of (rows_of function_row (λ h. args_of) (rd b 4) e f)) (es-is₂ b) (bs-is₂ b)))

  -- Within the limits of a schema.
  pub whole-schema-twin : Sure (whole_schema lim b) (leb (length b) block_bytes && whole_s lim b) (dec_s lim b)
  whole-schema-twin = within-to block_bytes (parse_schema (λ c. whole_type lim c)) b schema-twin
