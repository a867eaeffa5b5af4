-- Kinds and their numbers. Assumes nothing.
use Rattle.std.specs.Prelude.{◌≡◌, List, [], ◌∷◌, true, false, not, Bool, eqb, ℕ, zero, suc, ◌<◌, ◌≤◌, length, get_or}
use Rattle.std.proofs.Math.Path.{refl}
use Rattle.std.proofs.Common.{ap, ap₂, sym, ◌∙◌, arith, eqb-true, ne_eqb}
use denote.Enum.Bare.{sameb}
use denote.Enum.Declared.{tag_of}
use Rattle.std.proofs.lemmas.Bool.{eqb-false, not-true, not-false}
use Rattle.std.proofs.Math.Decide.{dec_le}
use Rattle.cedar.specs.TypeForm.{kind_of}
use Rattle.forms.specs.Parts.{kind}
use Rattle.forms.specs.TypeBytes.{whole_as, whole}
use Rattle.forms.specs.Kinds.{kind_number, value_kind_number}
use Rattle.forms.specs.declared.kinds.ValueKind.{ValueKind}
use Rattle.forms.specs.declared.kinds.ValueKind.TheVariants as value_kind_is
use Rattle.forms.specs.contracts.kinds.Kind.{the_type}
use Rattle.forms.specs.declared.kinds.Kind.{Kind}
use Rattle.forms.specs.declared.kinds.Kind.TheVariants as kind_is
use Rattle.forms.specs.Laws.Parts.{and_r}
use Rattle.forms.specs.Laws.Types.{kind-unknown}
use Rattle.forms.specs.Laws.Views.{false-not, not-empty}

-- A whole form's kind is one of the thirteen.
pub kind-known : (l : ℕ) (b : List ℕ) → whole l b ≡ true → kind b ≤ 12
unfolding whole
kind-known zero b h = false-not h
kind-known (suc l) b h = go (dec_le (kind b) 12) (and_r _ (whole_as (whole l) (kind_of (kind b)) b) h)
  where
    go : Dec (kind b ≤ 12) → whole_as (whole l) (kind_of (kind b)) b ≡ true → kind b ≤ 12
    go (yes q) g = q
    go (no q) g = false-not (rw (kind-unknown (kind b) (omega arith)) at g)

-- What `Kind::of` asks.
pub whole-kind : (l : ℕ) (b : List ℕ) → whole l b ≡ true → (0 < length b) × (kind b ≤ 12)
whole-kind l b h = (not-empty l b h, kind-known l b h)

-- The kind of a number.
abbrev kind_at : ℕ → Kind
kind_at n =
    get_or
    (kind_is.Never ∷ kind_is.True ∷ kind_is.False ∷ kind_is.Bool ∷ kind_is.Long ∷ kind_is.String ∷ kind_is.AnySet
    ∷ kind_is.Set ∷ kind_is.Record ∷ kind_is.AnyEntity ∷ kind_is.Entity ∷ kind_is.Action ∷ [])
    n kind_is.Extension

same_kind : (k : Kind) → kind_at (kind_number k) ≡ k
same_kind kind_is.Never = refl
same_kind kind_is.True = refl
same_kind kind_is.False = refl
same_kind kind_is.Bool = refl
same_kind kind_is.Long = refl
same_kind kind_is.String = refl
same_kind kind_is.AnySet = refl
same_kind kind_is.Set = refl
same_kind kind_is.Record = refl
same_kind kind_is.AnyEntity = refl
same_kind kind_is.Entity = refl
same_kind kind_is.Action = refl
same_kind kind_is.Extension = refl

-- Kinds of one number are one kind.
pub kind-same : (j k : Kind) → kind_number j ≡ kind_number k → j ≡ k
kind-same j k h = sym (same_kind j) ∙ ap kind_at h ∙ same_kind k

-- Kinds that differ have numbers that do.
pub kind-differs : (j k : Kind) → (j ≡ k → ⊥) → kind_number j ≡ kind_number k → ⊥
kind-differs j k h e = h (kind-same j k e)

pub kind-not : (j k : Kind) → (j ≡ k → ⊥) → eqb (kind_number j) (kind_number k) ≡ false
kind-not j k h = ne_eqb (kind_number j) (kind_number k) (kind-differs j k h)

pub kind-most : (k : Kind) → kind_number k ≤ 12
kind-most kind_is.Never = omega arith
kind-most kind_is.True = omega arith
kind-most kind_is.False = omega arith
kind-most kind_is.Bool = omega arith
kind-most kind_is.Long = omega arith
kind-most kind_is.String = omega arith
kind-most kind_is.AnySet = omega arith
kind-most kind_is.Set = omega arith
kind-most kind_is.Record = omega arith
kind-most kind_is.AnyEntity = omega arith
kind-most kind_is.Entity = omega arith
kind-most kind_is.Action = omega arith
kind-most kind_is.Extension = omega arith

-- What `==` of kinds answers.
tag-number : (k : Kind) → tag_of the_type k ≡ kind_number k
tag-number kind_is.Never = refl
tag-number kind_is.True = refl
tag-number kind_is.False = refl
tag-number kind_is.Bool = refl
tag-number kind_is.Long = refl
tag-number kind_is.String = refl
tag-number kind_is.AnySet = refl
tag-number kind_is.Set = refl
tag-number kind_is.Record = refl
tag-number kind_is.AnyEntity = refl
tag-number kind_is.Entity = refl
tag-number kind_is.Action = refl
tag-number kind_is.Extension = refl

pub same-number : (j k : Kind) → sameb the_type j k ≡ eqb (kind_number j) (kind_number k)
same-number j k = ap₂ eqb (tag-number j) (tag-number k)

pub kinds-agree : (j k : Kind) (x : Bool) → x ≡ sameb the_type j k → x ≡ true → kind_number j ≡ kind_number k
kinds-agree j k x q h = eqb-true (kind_number j) (kind_number k) (sym (same-number j k) ∙ sym q ∙ h)

pub kinds-differ : (j k : Kind) (x : Bool) → x ≡ sameb the_type j k → x ≡ false → kind_number j ≡ kind_number k → ⊥
kinds-differ j k x q h = eqb-false (kind_number j) (kind_number k) (sym (same-number j k) ∙ sym q ∙ h)

-- What `!=` of kinds answers.
pub kinds-alike : (j k : Kind) (x : Bool) → x ≡ not (sameb the_type j k) → x ≡ false → kind_number j ≡ kind_number k
kinds-alike j k x q h = eqb-true (kind_number j) (kind_number k) (sym (same-number j k) ∙ not-false (sameb the_type j k) (sym q ∙ h))

pub kinds-unlike : (j k : Kind) (x : Bool) → x ≡ not (sameb the_type j k) → x ≡ true → kind_number j ≡ kind_number k → ⊥
kinds-unlike j k x q h = eqb-false (kind_number j) (kind_number k) (sym (same-number j k) ∙ not-true (sameb the_type j k) (sym q ∙ h))

-- The same of value kinds.
abbrev value_kind_at : ℕ → ValueKind
value_kind_at n =
    get_or
    (value_kind_is.False ∷ value_kind_is.True ∷ value_kind_is.Long ∷ value_kind_is.String ∷ value_kind_is.Uid ∷ value_kind_is.Set ∷ value_kind_is.Record ∷ [])
    n value_kind_is.Call

same_value_kind : (k : ValueKind) → value_kind_at (value_kind_number k) ≡ k
same_value_kind value_kind_is.False = refl
same_value_kind value_kind_is.True = refl
same_value_kind value_kind_is.Long = refl
same_value_kind value_kind_is.String = refl
same_value_kind value_kind_is.Uid = refl
same_value_kind value_kind_is.Set = refl
same_value_kind value_kind_is.Record = refl
same_value_kind value_kind_is.Call = refl

pub value-kind-differs : (j k : ValueKind) → (j ≡ k → ⊥) → value_kind_number j ≡ value_kind_number k → ⊥
value-kind-differs j k h e = h (sym (same_value_kind j) ∙ ap value_kind_at e ∙ same_value_kind k)
