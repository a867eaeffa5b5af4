-- The schema's question. Assumes nothing.
use Rattle.std.specs.Prelude.{◌≡◌, ℕ, List, Bool, true, false, not, leb, length, Some, None}
use Rattle.std.specs.Borrow.{Bor}
use Rattle.std.proofs.Common.{sym, subst, ◌∙◌, le-leb}
use Rattle.std.proofs.Math.Option.{none, some}
use Rattle.std.proofs.lemmas.Bool.{not-true, not-false}
use Rattle.cedar.specs.Limits.{Limits, allowed}
use Rattle.cedar.specs.Whole.{whole_schema}
use Rattle.cedar.proofs.Laws.Tests.{none_of}
use Rattle.forms.specs.Limits.{as_limits}
use Rattle.forms.specs.declared.limits.Limits.{Limits as LimitsStruct}
use Rattle.forms.specs.Laws.Parts.{and_yes}
use Rattle.forms.specs.Laws.Sure.{sure-yes}
use Rattle.schemas.specs.SchemaBytes.{whole_s, dec_s}
use Rattle.schemas.specs.Schema.{limits_in, said_by, OfCheck}
use Rattle.schemas.specs.Laws.SchemaTwin.{whole-schema-twin}
use Rattle.schemas.specs.Laws.Checks.{checked-broken, checked-whole}
use Rattle.schemas.specs.declared.checked.Checked.{Checked}
use Rattle.schemas.specs.declared.schema.Schema.{Schema}
use Rattle.schemas.specs.declared.sections.Sections.{Sections}
use Rattle.schemas.specs.Entries.{Sectioned}

-- The test of the limits.
module _ (lim : Limits) (r : Bool) (q : r ≡ allowed lim) where
  pub limits-bad : not r ≡ true → allowed lim ≡ false
  limits-bad h = sym q ∙ not-true r h

  pub limits-fair : not r ≡ false → allowed lim ≡ true
  limits-fair h = sym q ∙ not-false r h

-- A schema that was checked is whole if its sections were found.
module _ (c : Checked) where
  pub checked-missing : allowed (as_limits c.limits) ≡ true → c.sections ≡ None → whole_schema (as_limits c.limits) c.bytes.now ≡ none
  checked-missing fair h = none_of (whole_schema (as_limits c.limits) c.bytes.now) (sym (checked-broken c.limits c.bytes.now fair (sym c.own_check ∙ h)))

  pub checked-there : (x : Sections) → c.sections ≡ Some x → whole_schema (as_limits c.limits) c.bytes.now ≡ some (dec_s (as_limits c.limits) c.bytes.now)
  checked-there x h =
      sure-yes (whole-schema-twin (as_limits c.limits) c.bytes.now) (checked-whole c.limits c.bytes.now x (sym c.own_check ∙ h)).1

-- A schema with its sections is whole under their limits.
pub sectioned-there : (b : List ℕ) (x : Sections) → Sectioned b x → whole_schema (as_limits x.limits) b ≡ some (dec_s (as_limits x.limits) b)
sectioned-there b x k =
    sure-yes (whole-schema-twin (as_limits x.limits) b) (and_yes (leb (length b) 32768) (whole_s (as_limits x.limits) b) (le-leb (length b) 32768
    k.few) ∙ k.yes)

-- A whole schema is whole under its limits, which are allowed.
pub schema-there : (s : Schema) → whole_schema (limits_in s) s.bytes.now ≡ some (said_by s)
schema-there s =
    sure-yes (whole-schema-twin (limits_in s) s.bytes.now)
    (and_yes (leb (length s.bytes.now) 32768) (whole_s (limits_in s) s.bytes.now) (le-leb (length s.bytes.now) 32768 s.sectioned.few) ∙ s.sectioned.yes)

-- What is said of a check's schema is said of the check.
pub of-check : {c : Checked} {s : Schema} → OfCheck c s → (P : Limits → List ℕ → Type 0) → P (limits_in s) s.bytes.now → P (as_limits c.limits) c.bytes.now
of-check {c} {s} k P p =
    subst (λ (l : LimitsStruct). P (as_limits l) c.bytes.now) k.limits (subst (λ (b : Bor (List ℕ)). P (as_limits s.sections.limits) b.now) k.bytes p)

-- What is said of a check is said of the bytes and the limits that it was made of.
pub of-call : (c : Checked) {l : LimitsStruct} {b : Bor (List ℕ)} → (c.bytes ≡ b) × (c.limits ≡ l) → (P : Limits → List ℕ → Type 0) →
    P (as_limits c.limits) c.bytes.now → P (as_limits l) b.now
of-call c {l} {b} k P p =
    subst (λ (m : LimitsStruct). P (as_limits m) b.now) k.1 (subst (λ (x : Bor (List ℕ)). P (as_limits c.limits) x.now) k.0 p)
