-- Laws of the check of a job's schema. Assumes nothing.
use Rattle.std.specs.Prelude.{◌≡◌, List, [], ℕ, Bool, true, false, ◌≤◌, ◌<◌, length, None}
use Rattle.std.proofs.Math.Path.{refl, ap₂}
use Rattle.std.proofs.Common.{ap, sym, arith, ◌∙◌, le-leb}
use Rattle.std.proofs.lemmas.Bool.{lt-leb}
use Rattle.forms.specs.Parts.{part}
use Rattle.cedar.specs.Limits.{Limits, standard, allowed}
use Rattle.forms.specs.Limits.{as_limits}
use Rattle.forms.specs.declared.limits.Limits.{Limits as LimitsStruct}
use Rattle.schemas.specs.SchemaBytes.{checked}
use Rattle.schemas.specs.Laws.Checks.{check-head, check-allowed, check-refused}
use Rattle.jobs.specs.JobBytes.{schema_from, bodies_from, schema_of, job_limits}
use Rattle.schemas.specs.declared.checked.Checked.{Checked}
use Rattle.jobs.specs.Checks.{job_check, JobCheck}

-- The schema, as it is cut out of the job.
pub schema-is : (b : List ℕ) {n k : ℕ} → n ≡ schema_from b → k ≡ bodies_from b → part n k b ≡ schema_of b
unfolding schema_of
schema-is b f g = rw (f, g) refl

module _ (b : List ℕ) where
  -- A job that is cut short before its bodies has no sections.
  pub check-cut : length b < bodies_from b → None ≡ job_check b
  unfolding job_check
  check-cut h = rw (lt-leb (bodies_from b) (length b) h) refl

  -- Any other has those of its schema.
  pub check-part : bodies_from b ≤ length b → (n : ℕ) → n ≡ schema_from b → (k : ℕ) → k ≡ bodies_from b → checked job_limits (part n k b) ≡ job_check b
  unfolding job_check schema_of
  check-part h n f k g = rw (le-leb (bodies_from b) (length b) h, f, g) refl

-- The standard limits are a job's.
pub job-limits : (l : LimitsStruct) → as_limits l ≡ standard → l ≡ job_limits
job-limits l e = let p = ap (λ (m : Limits). m.levels) e in let q = ap (λ (m : Limits). m.bytes) e in rw (p, q) refl

-- No bytes are no schema.
pub check-nothing : (l : LimitsStruct) → None ≡ checked l []
check-nothing l = go (allowed (as_limits l)) refl
  where
    go : (y : Bool) → y ≡ allowed (as_limits l) → None ≡ checked l []
    go true e = check-allowed l [] true e refl None (check-head l [] false refl refl)
    go false e = check-refused l [] false e refl

-- A check under a job's limits is the job's: of no bytes where the job is cut short, else of its schema.
module _ (b : List ℕ) (c : Checked) (l : c.limits ≡ job_limits) where
  pub cut-check : c.bytes.now ≡ [] → length b < bodies_from b → JobCheck b c
  cut-check e h = (l, λ g. absurd (omega (arith, h, g)), c.own_check ∙ ap (checked c.limits) e ∙ sym (check-nothing c.limits) ∙ check-cut b h)

  pub part-check : c.bytes.now ≡ schema_of b → bodies_from b ≤ length b → JobCheck b c
  part-check e h =
      let own = ap (checked job_limits) (sym (schema-is b refl refl)) ∙ check-part b h (schema_from b) refl (bodies_from b) refl in
      (l, λ g. e, c.own_check ∙ ap₂ checked l e ∙ own)
