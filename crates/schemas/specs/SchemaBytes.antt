-- The schema form in the borrow checker's terms: the test that one is whole and a total decoder. Assumes nothing: these are definitions.
use Rattle.std.specs.Prelude.{ℕ, ◌+◌, ◌*◌, ◌≤◌, List, [], ◌∷◌, Bool, true, false, not, ◌&&◌, ◌||◌, cond, eqb, leb, ltb, length, get_or, Option as Maybe, Some, None}
use Rattle.std.proofs.Math.Option.{Option, none, some}
use Rattle.cedar.specs.Types.{Ty, Attrs, nil, Arg, arg_bool, Schema, is_action, maybe, present, as_rec}
use Rattle.cedar.specs.Limits.{Limits, allowed, block_bytes, max_entities, max_actions, max_functions}
use Rattle.cedar.specs.SchemaForm.{arg_of, parse_args, entities_of, actions_of, functions_of}
use Rattle.forms.specs.Limits.{as_limits}
use Rattle.forms.specs.Parts.{rest, rd}
use Rattle.forms.specs.Rows.{Row, rows_to, rows_of}
use Rattle.forms.specs.TypeBytes.{whole, dec}
use Rattle.forms.specs.Search.{used}
use Rattle.forms.specs.declared.limits.Limits.{Limits as LimitsStruct}
use Rattle.schemas.specs.declared.kinds.SectionKind.{SectionKind}
use Rattle.schemas.specs.declared.kinds.SectionKind.TheVariants.{Entities, Actions, Functions}
use Rattle.schemas.specs.declared.order.Low.{Low}
use Rattle.schemas.specs.declared.sections.Section.{Section}
use Rattle.schemas.specs.declared.sections.Sections.{Sections}

-- An entity entry: even name, kind, length. Names ascend strictly.
abbrev pub entity_row : Row ℕ (ℕ × Bool)
entity_row =
    record {
      width = 5;
      ok = λ low es. (not (is_action (rd es 0)) && leb (get_or es 2 0) 1) && leb low (rd es 0);
      next = λ es. rd es 0 + 1;
      head = λ es. (rd es 0, eqb (get_or es 2 0) 1);
    }

-- An action entry: odd type, id, length. Types ascend, and the ids of one type strictly.
abbrev pub action_row : Row (ℕ × ℕ) (ℕ × ℕ)
action_row =
    record {
      width = 6;
      ok = λ low es. is_action (rd es 0) && (ltb low.0 (rd es 0) || (eqb low.0 (rd es 0) && leb low.1 (rd es 2)));
      next = λ es. (rd es 0, rd es 2 + 1);
      head = λ es. (rd es 0, rd es 2);
    }

-- A function entry: name, whether it returns an extension, which (0 if none), length. Names ascend strictly.
abbrev pub function_row : Row ℕ (ℕ × Option ℕ)
function_row =
    record {
      width = 7;
      ok = λ low es. (leb (get_or es 2 0) 1 && (eqb (get_or es 2 0) 1 || eqb (rd es 3) 0)) && leb low (rd es 0);
      next = λ es. rd es 0 + 1;
      head = λ es. (rd es 0, cond (eqb (get_or es 2 0) 1) (some (rd es 3)) none);
    }

-- What a body says, a record form.
abbrev pub record_of : Ty → Bool × Attrs
record_of t = maybe (false, nil) (λ x. x) (as_rec t)

-- A type form within the limits.
abbrev pub type_fits : Limits → List ℕ → Bool
type_fits lim b = leb (length b) lim.bytes && whole lim.levels b

-- A body within the limits is a record form, closed where it must be.
unfoldable pub body_fits : Limits → Bool → List ℕ → Bool
body_fits lim closed b = type_fits lim b && (present (as_rec (dec lim.levels b)) && not (closed && (record_of (dec lim.levels b)).0))

-- Whether it is open, and its attributes.
unfoldable pub body_of : Limits → List ℕ → Bool × Attrs
body_of lim b = record_of (dec lim.levels b)

-- The first argument of a function is one, and what it says.
abbrev pub arg_fits : List ℕ → Bool
arg_fits b = present (arg_of (get_or b 0 0) (rd b 1))

-- What the first argument says.
abbrev pub arg_at : List ℕ → Arg
arg_at b = maybe arg_bool (λ x. x) (arg_of (get_or b 0 0) (rd b 1))

-- Arguments with no byte over, and what they say.
unfoldable pub args_fit : List ℕ → Bool
args_fit b = present (parse_args b)

-- The arguments that the bytes say.
unfoldable pub args_of : List ℕ → List Arg
args_of b = maybe [] (λ x. x) (parse_args b)

-- What the entries of a section go by: entity types and functions by a name, actions by a type and an id.
abbrev pub LowOf : SectionKind → Type 0
LowOf Entities = ℕ
LowOf Actions = ℕ × ℕ
LowOf Functions = ℕ

-- What the code's next entry goes by.
abbrev pub low_in : (k : SectionKind) → Low → LowOf k
low_in Entities low = low.name
low_in Actions low = (low.name, low.id)
low_in Functions low = low.name

-- What the first entry goes by.
abbrev pub lowest : Low
lowest = record { name = 0; id = 0 }

-- What an entry of a section says.
abbrev pub HeadOf : SectionKind → Type 0
HeadOf Entities = ℕ × Bool
HeadOf Actions = ℕ × ℕ
HeadOf Functions = ℕ × Option ℕ

-- How the entries of a section look.
abbrev pub row_of : (k : SectionKind) → Row (LowOf k) (HeadOf k)
row_of Entities = entity_row
row_of Actions = action_row
row_of Functions = function_row

-- What the body of an entry must be: a record form, closed for an enumerated entity type and for an action; a function's arguments.
abbrev pub body_test : Limits → (k : SectionKind) → HeadOf k → List ℕ → Bool
body_test lim Entities = λ h. body_fits lim h.1
body_test lim Actions = λ h. body_fits lim true
body_test lim Functions = λ h. args_fit

-- Whatever is left.
abbrev pub any : List ℕ → Bool
any b = true

-- The entries of a section are in order, and their bodies whole.
abbrev pub section_fits : Limits → SectionKind → Section → List ℕ → Bool
section_fits lim k x b = rows_to (row_of k) (body_test lim k) any x.count (low_in k lowest) (rest x.entries b) (rest x.bodies b)

-- What a section says.
abbrev pub section_of : {S H A : Type 0} → Row S H → (H → List ℕ → A) → Section → List ℕ → List (H × A)
section_of r d x b = rows_of r d x.count (rest x.entries b) (rest x.bodies b)

-- Where the bodies of a section of so wide entries end.
abbrev pub section_end : ℕ → Section → List ℕ → ℕ
section_end w x b = x.bodies + used w x.count (rest x.entries b)

-- Where the entries of all sections end.
abbrev pub entries_end : List ℕ → ℕ
entries_end b = 6 + 5 * rd b 0 + 6 * rd b 2 + 7 * rd b 4

-- How many entries a section has.
abbrev pub count_in : SectionKind → List ℕ → ℕ
count_in Entities b = rd b 0
count_in Actions b = rd b 2
count_in Functions b = rd b 4

-- Where they start: behind the counts, section by section.
abbrev pub entries_in : SectionKind → List ℕ → ℕ
entries_in Entities b = 6
entries_in Actions b = 6 + 5 * rd b 0
entries_in Functions b = 6 + 5 * rd b 0 + 6 * rd b 2

-- A section whose bodies start at p.
abbrev pub section_at : SectionKind → ℕ → List ℕ → Section
section_at k p b = record { count = count_in k b; entries = entries_in k b; bodies = p }

-- The three sections: the bodies of each behind those of the one before, the first behind the entries.
abbrev pub entity_section : List ℕ → Section
entity_section b = section_at Entities (entries_end b) b

-- The actions.
abbrev pub action_section : List ℕ → Section
action_section b = section_at Actions (section_end 5 (entity_section b) b) b

-- The functions.
abbrev pub function_section : List ℕ → Section
function_section b = section_at Functions (section_end 6 (action_section b) b) b

-- All three, of a schema that is checked under these limits.
unfoldable pub sections_of : LimitsStruct → List ℕ → Sections
sections_of l b = record { limits = l; entities = entity_section b; actions = action_section b; functions = function_section b }

-- The counts are there and within their limits, and the entries are there.
abbrev pub head_fits : List ℕ → Bool
head_fits b =
    leb 6 (length b)
    && ((leb (rd b 0) max_entities && (leb (rd b 2) max_actions && leb (rd b 4) max_functions)) && leb (entries_end b) (length b))

-- Sections one after the other, the first one's bodies from p on, with no byte over.
abbrev pub sections_fit : Limits → List SectionKind → ℕ → List ℕ → Bool
sections_fit lim [] p b = eqb p (length b)
sections_fit lim (k ∷ ks) p b = section_fits lim k (section_at k p b) b && sections_fit lim ks (section_end (row_of k).width (section_at k p b) b) b

-- The counts and the three sections, with no byte over.
unfoldable pub whole_s : Limits → List ℕ → Bool
whole_s lim b = head_fits b && sections_fit lim (Entities ∷ Actions ∷ Functions ∷ []) (entries_end b) b

-- The schema that the bytes say.
unfoldable pub dec_s : Limits → List ℕ → Schema
dec_s lim b =
    record {
      entities = entities_of (section_of entity_row (λ h. body_of lim) (entity_section b) b);
      actions = actions_of (section_of action_row (λ h. body_of lim) (action_section b) b);
      functions = functions_of (section_of function_row (λ h. args_of) (function_section b) b);
    }

-- A section's entries and the start of its bodies lie within the bytes.
pub record Inside (w : ℕ) (x : Section) (b : List ℕ) : Type 0 where
  pub entries : x.entries + w * x.count ≤ length b
  pub bodies : x.bodies ≤ length b

-- The answer of a walk over a section: where the bodies of a whole one end.
unfoldable pub passed_by : Limits → SectionKind → Section → List ℕ → Maybe ℕ
passed_by lim k x b = cond (section_fits lim k x b) (Some (section_end (row_of k).width x b)) None

-- What the check of a schema finds within limits that are allowed.
unfoldable pub checked_within : LimitsStruct → List ℕ → Maybe Sections
checked_within l b = cond (leb (length b) block_bytes && whole_s (as_limits l) b) (Some (sections_of l b)) None

-- What the check of a schema finds: its sections, if it is whole within limits that are allowed.
unfoldable pub checked : LimitsStruct → List ℕ → Maybe Sections
checked l b = cond (allowed (as_limits l)) (checked_within l b) None
