-- No call answers with more bytes than a form has under any limits, or with more levels than bytes. Assumes nothing.
use Rattle.std.specs.Prelude.{ℕ, ◌≤◌, min, List, Bool, true, false, ◌≡◌, refl, leb, length}
use Rattle.std.proofs.Common.{le_trans, arith, sym, subst, leb-true}
use Rattle.std.proofs.Math.Option.{Option, none, some}
use Rattle.cedar.specs.Types.{Ty, maybe}
use Rattle.cedar.specs.Bytes.{Bytes, enc_names, ◌>>=◌, guard}
use Rattle.cedar.specs.TypeForm.{enc}
use Rattle.cedar.specs.Limits.{Limits, most_bytes, allowed}
use Rattle.cedar.specs.Whole.{whole_type, whole_value, whole_list, whole_schema}
use Rattle.cedar.specs.Result.{Result, ok, err, bad_limits}
use Rattle.cedar.specs.Outcome.{Outcome, refused, said, nothing, typed, attribute, named}
use Rattle.cedar.specs.Disjoint.{disjoint}
use Rattle.cedar.specs.Subtype.{sub}
use Rattle.cedar.specs.Bound.{bound}
use Rattle.cedar.specs.Fold.{fold_types}
use Rattle.cedar.specs.Attribute.{lookup, may_have, all_names}
use Rattle.cedar.specs.Consistency.{plain, consistent}
use Rattle.cedar.specs.Conversion.{convert}
use Rattle.cedar.specs.Literal.{literal}
use Rattle.cedar.specs.Text.{textual}
use Rattle.cedar.specs.Conformance.{Verdict, holds, fails, fails_inside, unknown, Counts, conforms, as_uid}
use Rattle.cedar.specs.Calls.{ask, mode_of, step_fits, answer, write_type, write_attribute, write_names, of_verdict, literal_call, disjoint_call, subtype_call}
use Rattle.cedar.specs.Calls.{bound_call, fold_call, lookup_call, may_have_call, names_call, consistent_call, convert_call, conforms_by, measure_type_call, measure_value_call}
use Rattle.cedar.proofs.Laws.Limits.{allowed-bytes}
use Rattle.cedar.proofs.Laws.TypeForm.{depth_pos}
use Rattle.cedar.proofs.Laws.Depth.{depth-length, depth_value-length}
use Rattle.cedar.proofs.Laws.Whole.{whole_type-reads, whole_value-reads}
use Rattle.validator.specs.Answers.{answer_of}
use Rattle.validator.specs.declared.answers.Answer.{Answer}
use Rattle.exports.specs.Numbers.{Brief}

-- An outcome whose answer is brief.
pub record Short (o : Outcome) : Type 0 where
  pub few : Brief (answer_of o)

-- What an entry answered.
pub brief : {o : Outcome} (a : Result Answer) → Short o → a ≡ answer_of o → Brief a
brief {o} a h e = subst Brief (sym e) h.few

refused-short : (n : ℕ) → Short (refused n)
refused-short n = record { few = tt }

nothing-short : Short nothing
nothing-short = record { few = tt }

said-short : (b : Bool) → Short (said b)
said-short true = record { few = tt }
said-short false = record { few = tt }

-- A question; an answer that was measured; what is written.
asked_is : {A : Type 0} (n : ℕ) (o : Option A) (k : A → Outcome) → ((a : A) → o ≡ some a → Short (k a)) → Short (ask n o k)
asked_is n none k h = refused-short n
asked_is n (some a) k h = h a refl

asked : {A : Type 0} (n : ℕ) (o : Option A) (k : A → Outcome) → ((a : A) → Short (k a)) → Short (ask n o k)
asked n o k h = asked_is n o k λ a e. h a

-- An attribute's type is told by its flag alone.
attribute-brief-of : (q : Bool) (t : Ty) → length (enc t) ≤ most_bytes → Brief (answer_of (attribute q t))
attribute-brief-of q t l = (l, depth-length t)

-- A call under limits that are allowed.
limited : (lim : Limits) (o : Outcome) → (allowed lim ≡ true → Short o) → Short (ask bad_limits (guard (allowed lim)) (λ _. o))
limited lim o h = go (allowed lim) h
  where
    go : (y : Bool) → (y ≡ true → Short o) → Short (ask bad_limits (guard y) (λ _. o))
    go true k = k refl
    go false k = refused-short bad_limits

module _ (lim : Limits) where
  module _ (most : lim.bytes ≤ most_bytes) (room : ℕ) where
    fits : (w : List ℕ) (o : Outcome) → (length w ≤ most_bytes → Brief (answer_of o)) → Short (answer lim room w o)
    fits w o brief-if = go (leb (length w) (min room lim.bytes)) (leb-true (length w) (min room lim.bytes))
      where
        go : (y : Bool) → (y ≡ true → length w ≤ min room lim.bytes) → Short (ask 10 (guard y) (λ _. o))
        go true h = record { few = brief-if (omega (arith, h refl, most)) }
        go false h = refused-short 10

    type-short : (r : Result Ty) → Short (write_type lim room r)
    type-short (ok t) = fits (enc t) (typed t) λ l. (l, depth-length t, depth_pos t)
    type-short (err n) = refused-short n

    attribute-short : (r : Result (Option (Bool × Ty))) → Short (write_attribute lim room r)
    attribute-short (ok none) = nothing-short
    attribute-short (ok (some y)) = fits (enc y.1) (attribute y.0 y.1) λ l. attribute-brief-of y.0 y.1 l
    attribute-short (err n) = refused-short n

    names-short : (r : Result (List ℕ)) → Short (write_names lim room r)
    names-short (ok ns) = fits (enc_names ns) (named ns) λ l. l
    names-short (err n) = refused-short n

  verdict-short : (d : Verdict) → Short (of_verdict d)
  verdict-short holds = said-short true
  verdict-short fails = said-short false
  verdict-short fails_inside = said-short false
  verdict-short unknown = refused-short 7

  -- A whole form is no longer than the limits say.
  pub measure-type-short : (t : List ℕ) → Bytes t → Short (measure_type_call lim t)
  measure-type-short t bytes =
      limited lim _ λ fair. asked_is _ (whole_type lim t) _ λ a e.
      record { few = (le_trans ((whole_type-reads lim).into t a bytes e).1.1 (allowed-bytes lim fair).1, depth-length a) }

  pub measure-value-short : (v : List ℕ) → Bytes v → Short (measure_value_call lim v)
  measure-value-short v bytes =
      limited lim _ λ fair. asked_is _ (whole_value lim v) _ λ x e. asked _ (guard (textual x)) _ λ _.
      record { few = (le_trans ((whole_value-reads lim).into v x bytes e).1.1 (allowed-bytes lim fair).1, depth_value-length x) }

  pub disjoint-short : (t₀ t₁ : List ℕ) → Short (disjoint_call lim t₀ t₁)
  disjoint-short t₀ t₁ = limited lim _ λ _. asked _ (whole_type lim t₀) _ λ a. asked _ (whole_type lim t₁) _ λ b. said-short (disjoint a b)

  pub consistent-short : (t₀ t₁ : List ℕ) → Short (consistent_call lim t₀ t₁)
  consistent-short t₀ t₁ =
      limited lim _ λ _. asked _ (whole_type lim t₀) _ λ a. asked _ (whole_type lim t₁) _ λ b. asked _ (guard (plain b)) _ λ _. said-short (consistent a b)

  pub convert-short : (t : List ℕ) (room : ℕ) → Short (convert_call lim t room)
  convert-short t room =
      limited lim _ λ fair. asked _ (whole_type lim t) _ λ a. asked _ (convert a) _ λ c. type-short (allowed-bytes lim fair).1 room (ok c)

  pub conforms-short : (rule : Counts) (schema t v : List ℕ) → Short (conforms_by rule lim schema t v)
  conforms-short rule schema t v =
      limited lim _ λ _. asked _ (whole_schema lim schema) _ λ s. asked _ (whole_type lim t) _ λ a. asked _ (whole_value lim v) _ λ x.
      asked _ (guard (textual x)) _ λ _. verdict-short (conforms rule s a x)

  module _ (schema : List ℕ) where
    pub literal-short : (v : List ℕ) (room : ℕ) → Short (literal_call lim schema v room)
    literal-short v room =
        limited lim _ λ fair. asked _ (whole_schema lim schema) _ λ s. asked _ (whole_value lim v >>= as_uid) _ λ u.
        go (allowed-bytes lim fair).1 (literal s u.0 u.1)
      where
        go : lim.bytes ≤ most_bytes → (o : Option Ty) → Short (maybe nothing (λ t. write_type lim room (ok t)) o)
        go most none = nothing-short
        go most (some t) = type-short most room (ok t)

    pub may-have-short : (a : ℕ) (t : List ℕ) → Short (may_have_call lim schema a t)
    may-have-short a t = limited lim _ λ _. asked _ (whole_schema lim schema) _ λ s. asked _ (whole_type lim t) _ λ u. said-short (may_have s a u)

    pub lookup-short : (a : ℕ) (t : List ℕ) (room work : ℕ) → Short (lookup_call lim schema a t room work)
    lookup-short a t room work =
        limited lim _ λ fair. asked _ (whole_schema lim schema) _ λ s. asked _ (whole_type lim t) _ λ u.
        attribute-short (allowed-bytes lim fair).1 room (lookup (step_fits lim work) s a u)

    pub names-call-short : (t : List ℕ) (room work : ℕ) → Short (names_call lim schema t room work)
    names-call-short t room work =
        limited lim _ λ fair. asked _ (whole_schema lim schema) _ λ s. asked _ (whole_type lim t) _ λ u.
        names-short (allowed-bytes lim fair).1 room (all_names (step_fits lim work) s u)

    module _ (mode : ℕ) where
      pub subtype-short : (t₀ t₁ : List ℕ) → Short (subtype_call lim mode schema t₀ t₁)
      subtype-short t₀ t₁ =
          limited lim _ λ _. asked _ (mode_of mode) _ λ m. asked _ (whole_schema lim schema) _ λ s. asked _ (whole_type lim t₀) _ λ a.
          asked _ (whole_type lim t₁) _ λ b. said-short (sub m a b)

      pub bound-short : (t₀ t₁ : List ℕ) (room : ℕ) → Short (bound_call lim mode schema t₀ t₁ room)
      bound-short t₀ t₁ room =
          limited lim _ λ fair. asked _ (mode_of mode) _ λ m. asked _ (whole_schema lim schema) _ λ s. asked _ (whole_type lim t₀) _ λ a.
          asked _ (whole_type lim t₁) _ λ b. type-short (allowed-bytes lim fair).1 room (bound m a b)

      pub fold-short : (list : List ℕ) (room work : ℕ) → Short (fold_call lim mode schema list room work)
      fold-short list room work =
          limited lim _ λ fair. asked _ (mode_of mode) _ λ m. asked _ (whole_schema lim schema) _ λ s. asked _ (whole_list lim list) _ λ ts.
          type-short (allowed-bytes lim fair).1 room (fold_types (step_fits lim work) m ts)
