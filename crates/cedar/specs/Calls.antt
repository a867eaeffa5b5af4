-- The calls: any limits, any bytes, any mode number, any room, to an outcome. Each asks its questions in 01's order, 20 first; the first
-- no refuses.
use Rattle.std.specs.Prelude.{ℕ, zero, suc, ◌/◌, min, List, Bool, true, false, leb, length}
use Rattle.std.proofs.Math.Option.{Option, none, some}
use Rattle.cedar.specs.Types.{Mode, strict, permissive, loose, Ty, maybe}
use Rattle.cedar.specs.Bytes.{enc_names, ◌>>=◌, guard}
use Rattle.cedar.specs.TypeForm.{enc}
use Rattle.cedar.specs.ValueForm.{enc_value}
use Rattle.cedar.specs.Levels.{depth, depth_value}
use Rattle.cedar.specs.Limits.{Limits, allowed}
use Rattle.cedar.specs.Whole.{whole_type, whole_value, whole_list, whole_schema}
use Rattle.cedar.specs.Result.{Result, ok, err, bad_mode, bad_schema, bad_first, bad_second, bad_value, not_plain, unknown_function, not_convertible}
use Rattle.cedar.specs.Result.{answer_too_long, bad_text, bad_limits}
use Rattle.cedar.specs.Outcome.{Outcome, refused, said, nothing, measured, typed, attribute, named}
use Rattle.cedar.specs.Text.{textual}
use Rattle.cedar.specs.Disjoint.{disjoint}
use Rattle.cedar.specs.Subtype.{sub}
use Rattle.cedar.specs.Bound.{bound}
use Rattle.cedar.specs.Fold.{fold_types}
use Rattle.cedar.specs.Attribute.{own_attr, lookup, may_have, all_names}
use Rattle.cedar.specs.Consistency.{plain, consistent}
use Rattle.cedar.specs.Conversion.{convert}
use Rattle.cedar.specs.Literal.{literal}
use Rattle.cedar.specs.Conformance.{Verdict, holds, fails, fails_inside, unknown, Counts, shorter, exact, conforms, as_uid}

-- One question: its number where nothing answers it, else the call goes on with the answer.
abbrev pub ask : {A : Type 0} → ℕ → Option A → (A → Outcome) → Outcome
ask n o k = maybe (refused n) k o

-- Mode 0 is strict, 1 permissive, 2 loose.
abbrev pub mode_of : ℕ → Option Mode
mode_of zero = some strict
mode_of (suc zero) = some permissive
mode_of (suc (suc zero)) = some loose
mode_of (suc (suc (suc n))) = none

-- Is an answer of these bytes within the result buffer and the limit on a form's length?
abbrev pub answer_fits : Limits → ℕ → List ℕ → Bool
answer_fits lim room w = leb (length w) (min room lim.bytes)

-- Is a step's bound within half the workspace, rounded down, and the limit on a form's length?
abbrev pub step_fits : Limits → ℕ → Ty → Bool
step_fits lim work t = leb (length (enc t)) (min (work / 2) lim.bytes)

-- An answer's bytes are tested last.
abbrev pub answer : Limits → ℕ → List ℕ → Outcome → Outcome
answer lim room w o = ask answer_too_long (guard (answer_fits lim room w)) λ _. o

-- A type that is written, or the refusal before it.
abbrev pub write_type : Limits → ℕ → Result Ty → Outcome
write_type lim room (ok t) = answer lim room (enc t) (typed t)
write_type lim room (err n) = refused n

-- A looked-up attribute that is written, none, or a refusal.
abbrev pub write_attribute : Limits → ℕ → Result (Option (Bool × Ty)) → Outcome
write_attribute lim room (ok none) = nothing
write_attribute lim room (ok (some y)) = answer lim room (enc y.1) (attribute y.0 y.1)
write_attribute lim room (err n) = refused n

-- A name list that is written, or a refusal.
abbrev pub write_names : Limits → ℕ → Result (List ℕ) → Outcome
write_names lim room (ok ns) = answer lim room (enc_names ns) (named ns)
write_names lim room (err n) = refused n

-- The verdict of conformance: both kinds of no are no.
abbrev pub of_verdict : Verdict → Outcome
of_verdict holds = said true
of_verdict fails = said false
of_verdict fails_inside = said false
of_verdict unknown = refused unknown_function

-- Measuring a type: how long its form is, and how many levels it has.
abbrev pub measure_type_call : Limits → List ℕ → Outcome
measure_type_call lim t =
    ask bad_limits (guard (allowed lim)) λ _.
    ask bad_first (whole_type lim t) λ a.
    measured (length (enc a)) (depth a)

-- Measuring a value.
abbrev pub measure_value_call : Limits → List ℕ → Outcome
measure_value_call lim v =
    ask bad_limits (guard (allowed lim)) λ _.
    ask bad_value (whole_value lim v) λ u.
    ask bad_text (guard (textual u)) λ _.
    measured (length (enc_value u)) (depth_value u)

-- Part 2, `euid_literal`.
abbrev pub literal_call : Limits → List ℕ → List ℕ → ℕ → Outcome
literal_call lim schema v room =
    ask bad_limits (guard (allowed lim)) λ _.
    ask bad_schema (whole_schema lim schema) λ s.
    ask bad_value (whole_value lim v >>= as_uid) λ u.
    maybe nothing (λ t. write_type lim room (ok t)) (literal s u.0 u.1)

-- Part 3, `are_types_disjoint`.
abbrev pub disjoint_call : Limits → List ℕ → List ℕ → Outcome
disjoint_call lim t₀ t₁ =
    ask bad_limits (guard (allowed lim)) λ _.
    ask bad_first (whole_type lim t₀) λ a.
    ask bad_second (whole_type lim t₁) λ b.
    said (disjoint a b)

-- Part 4, `is_subtype`.
abbrev pub subtype_call : Limits → ℕ → List ℕ → List ℕ → List ℕ → Outcome
subtype_call lim mode schema t₀ t₁ =
    ask bad_limits (guard (allowed lim)) λ _.
    ask bad_mode (mode_of mode) λ m.
    ask bad_schema (whole_schema lim schema) λ s.
    ask bad_first (whole_type lim t₀) λ a.
    ask bad_second (whole_type lim t₁) λ b.
    said (sub m a b)

-- Part 5, `least_upper_bound`.
abbrev pub bound_call : Limits → ℕ → List ℕ → List ℕ → List ℕ → ℕ → Outcome
bound_call lim mode schema t₀ t₁ room =
    ask bad_limits (guard (allowed lim)) λ _.
    ask bad_mode (mode_of mode) λ m.
    ask bad_schema (whole_schema lim schema) λ s.
    ask bad_first (whole_type lim t₀) λ a.
    ask bad_second (whole_type lim t₁) λ b.
    write_type lim room (bound m a b)

-- Part 6, `reduce_to_least_upper_bound`.
abbrev pub fold_call : Limits → ℕ → List ℕ → List ℕ → ℕ → ℕ → Outcome
fold_call lim mode schema list room work =
    ask bad_limits (guard (allowed lim)) λ _.
    ask bad_mode (mode_of mode) λ m.
    ask bad_schema (whole_schema lim schema) λ s.
    ask bad_first (whole_list lim list) λ ts.
    write_type lim room (fold_types (step_fits lim work) m ts)

-- Part 7, `lookup_attribute_type`.
abbrev pub lookup_call : Limits → List ℕ → ℕ → List ℕ → ℕ → ℕ → Outcome
lookup_call lim schema a t room work =
    ask bad_limits (guard (allowed lim)) λ _.
    ask bad_schema (whole_schema lim schema) λ s.
    ask bad_first (whole_type lim t) λ u.
    write_attribute lim room (lookup (step_fits lim work) s a u)

-- Part 7, the second entry: a record's or action's attribute, handed back as the part of the caller's own form.
abbrev pub own_attribute_call : Limits → List ℕ → ℕ → List ℕ → Outcome
own_attribute_call lim schema a t =
    ask bad_limits (guard (allowed lim)) λ _.
    ask bad_schema (whole_schema lim schema) λ s.
    ask bad_first (whole_type lim t) λ u.
    maybe nothing (λ y. attribute y.0 y.1) (own_attr a u)

-- Part 7, `may_have_attr`.
abbrev pub may_have_call : Limits → List ℕ → ℕ → List ℕ → Outcome
may_have_call lim schema a t =
    ask bad_limits (guard (allowed lim)) λ _.
    ask bad_schema (whole_schema lim schema) λ s.
    ask bad_first (whole_type lim t) λ u.
    said (may_have s a u)

-- Part 7, `all_attributes`.
abbrev pub names_call : Limits → List ℕ → List ℕ → ℕ → ℕ → Outcome
names_call lim schema t room work =
    ask bad_limits (guard (allowed lim)) λ _.
    ask bad_schema (whole_schema lim schema) λ s.
    ask bad_first (whole_type lim t) λ u.
    write_names lim room (all_names (step_fits lim work) s u)

-- Part 8, `is_consistent_with`.
abbrev pub consistent_call : Limits → List ℕ → List ℕ → Outcome
consistent_call lim t₀ t₁ =
    ask bad_limits (guard (allowed lim)) λ _.
    ask bad_first (whole_type lim t₀) λ a.
    ask bad_second (whole_type lim t₁) λ b.
    ask not_plain (guard (plain b)) λ _.
    said (consistent a b)

-- Part 8, `TryFrom<Type>`.
abbrev pub convert_call : Limits → List ℕ → ℕ → Outcome
convert_call lim t room =
    ask bad_limits (guard (allowed lim)) λ _.
    ask bad_first (whole_type lim t) λ a.
    ask not_convertible (convert a) λ c.
    write_type lim room (ok c)

-- Part 9, by a rule on the number of a call's arguments.
abbrev pub conforms_by : Counts → Limits → List ℕ → List ℕ → List ℕ → Outcome
conforms_by c lim schema t v =
    ask bad_limits (guard (allowed lim)) λ _.
    ask bad_schema (whole_schema lim schema) λ s.
    ask bad_first (whole_type lim t) λ a.
    ask bad_value (whole_value lim v) λ x.
    ask bad_text (guard (textual x)) λ _.
    of_verdict (conforms c s a x)

-- Part 9, `typecheck_restricted_expr`: arguments pairwise to the shorter end.
abbrev pub conforms_call : Limits → List ℕ → List ℕ → List ℕ → Outcome
conforms_call lim schema t v = conforms_by shorter lim schema t v

-- Full conformance: part 9's walk, in which a call with another count than its function declares is a no.
abbrev pub full_call : Limits → List ℕ → List ℕ → List ℕ → Outcome
full_call lim schema t v = conforms_by exact lim schema t v
