-- Whole forms: on bytes, a form is whole just where it is the form of a tree in order within the limits.
use Rattle.std.specs.Prelude.{ℕ, ◌≤◌, List, ◌≡◌, leb, length}
use Rattle.std.proofs.Common.{sym, subst, leb→le, le→leb}
use Rattle.std.proofs.Math.Option.{Option, some}
use Rattle.cedar.specs.Types.{Ty, Value, Schema}
use Rattle.cedar.proofs.Laws.Encoders.{enc_list, enc_schema, enc_job}
use Rattle.cedar.specs.Laws.Shape.{WF, WFValue}
use Rattle.cedar.specs.Bytes.{Bytes}
use Rattle.cedar.specs.TypeForm.{enc}
use Rattle.cedar.specs.ValueForm.{enc_value}
use Rattle.cedar.specs.JobForm.{Job, whole_job}
use Rattle.cedar.specs.Limits.{Limits, block_bytes, max_listed}
use Rattle.cedar.specs.Whole.{within, whole_type, whole_value, whole_list, whole_schema}
use Rattle.cedar.proofs.Laws.Tests.{cond-case, none-some, T→true}
use Rattle.cedar.proofs.Laws.Bytes.{Reads}
use Rattle.cedar.proofs.Laws.TypeForm.{parse-reads}
use Rattle.cedar.proofs.Laws.ValueForm.{parse_value-reads}
use Rattle.cedar.proofs.Laws.ListForm.{Each, parse_list-reads}
use Rattle.cedar.proofs.Laws.SchemaForm.{OrderedSchema, parse_schema-reads}
use Rattle.cedar.proofs.Laws.JobForm.{QuestionsGood, parse_job-reads}

-- What is read within a limit: the same trees, whose forms are not longer.
pub within-reads : {A : Type 0} (most : ℕ) {write : A → List ℕ} {Good : A → Type 0} {p : List ℕ → Option A} → Reads write Good p
    → Reads write (λ a. Good a × (length (write a) ≤ most)) (within most p)
within-reads {A} most {write} {Good} {p} r = record { into = into; back = back }
  where
    into : (b : List ℕ) (a : A) → Bytes b → within most p b ≡ some a → (write a ≡ b) × (Good a × (length (write a) ≤ most))
    into b a h e = cond-case (leb (length b) most) e
        (λ t q. let (w, g) = r.into b a h q in (w, (g, subst (λ (l : List ℕ). length l ≤ most) (sym w) (leb→le (length b) most t))))
        (λ t q. none-some q)

    back : (a : A) → Good a × (length (write a) ≤ most) → within most p (write a) ≡ some a
    back a g = rw (T→true (leb (length (write a)) most) (le→leb (length (write a)) most g.1)) (r.back a g.0)

-- A type within the limits: in order, of so many levels and bytes.
abbrev pub TypeWithin : Limits → Ty → Type 0
TypeWithin lim t = WF lim.levels t × (length (enc t) ≤ lim.bytes)

-- A value within the limits.
abbrev pub ValueWithin : Limits → Value → Type 0
ValueWithin lim v = WFValue lim.levels v × (length (enc_value v) ≤ lim.bytes)

-- A list within the limits, each type too.
abbrev pub ListWithin : Limits → List Ty → Type 0
ListWithin lim ts = (Each (TypeWithin lim) ts × (length ts ≤ max_listed)) × (length (enc_list ts) ≤ block_bytes)

-- A schema within the limits, each body too.
abbrev pub SchemaWithin : Limits → Schema → Type 0
SchemaWithin lim s = OrderedSchema (TypeWithin lim) s × (length (enc_schema s) ≤ block_bytes)

-- A job within the limits.
abbrev pub JobWithin : Job → Type 0
JobWithin j = QuestionsGood j.questions × (length (enc_job j) ≤ block_bytes)

-- The whole type forms are those of the types within the limits.
pub whole_type-reads : (lim : Limits) → Reads enc (TypeWithin lim) (whole_type lim)
whole_type-reads lim = within-reads lim.bytes (parse-reads lim.levels)

-- The whole value forms are those of the values within the limits.
pub whole_value-reads : (lim : Limits) → Reads enc_value (ValueWithin lim) (whole_value lim)
whole_value-reads lim = within-reads lim.bytes (parse_value-reads lim.levels)

-- The whole lists are those of the lists within the limits.
pub whole_list-reads : (lim : Limits) → Reads enc_list (ListWithin lim) (whole_list lim)
whole_list-reads lim = within-reads block_bytes (parse_list-reads (TypeWithin lim) (λ c. whole_type lim c) (whole_type-reads lim))

-- The whole schemas are those of the schemas within the limits.
pub whole_schema-reads : (lim : Limits) → Reads enc_schema (SchemaWithin lim) (whole_schema lim)
whole_schema-reads lim = within-reads block_bytes (parse_schema-reads (TypeWithin lim) (λ c. whole_type lim c) (whole_type-reads lim))

-- The whole jobs are those of the jobs within the limits.
pub whole_job-reads : Reads enc_job JobWithin whole_job
whole_job-reads = within-reads block_bytes parse_job-reads
