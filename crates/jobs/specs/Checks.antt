-- The check of a job's schema. Assumes nothing: these are definitions.
use Rattle.std.specs.Prelude.{ℕ, List, ◌≤◌, ◌≡◌, cond, leb, length, Option, None}
use Rattle.schemas.specs.SchemaBytes.{checked}
use Rattle.schemas.specs.declared.checked.Checked.{Checked}
use Rattle.schemas.specs.declared.sections.Sections.{Sections}
use Rattle.jobs.specs.JobBytes.{bodies_from, schema_of, job_limits}

-- The sections of a job's schema, if it is whole; none where the job is cut short before its bodies.
unfoldable pub job_check : List ℕ → Option Sections
job_check b = cond (leb (bodies_from b) (length b)) (checked job_limits (schema_of b)) None

-- A check is under a job's limits, has these sections, and is of the job's schema where the job is not cut short before its bodies.
abbrev pub JobCheck : List ℕ → Checked → Type 0
JobCheck b c = (c.limits ≡ job_limits) × (bodies_from b ≤ length b → c.bytes.now ≡ schema_of b) × (c.sections ≡ job_check b)
