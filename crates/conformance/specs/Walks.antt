-- The parts of forms that walks go down. Assumes nothing: these are definitions.
use Rattle.std.specs.Prelude.{ℕ, ◌≡◌, Bool, true, List, eqb, get_or}
use Rattle.cedar.specs.Types.{Attrs, Values, Pairs, Schema}
use Rattle.cedar.specs.Conformance.{Verdict, Counts, verdict, and_then, each_pair, has_required, conforms_at}
use Rattle.cedar.specs.TypeForm.{rec_kind, attrs_of}
use Rattle.cedar.specs.ValueForm.{record_kind, values_from, pairs_from}
use Rattle.forms.specs.Rows.{table_of}
use Rattle.forms.specs.TypeBytes.{attr_row, whole_as, whole, dec}
use Rattle.forms.specs.ValueBytes.{member_row, pair_row, whole_v_as, whole_v, dec_v}

-- Whether a record form is open, and its attributes, of so many levels.
abbrev pub is_open : List ℕ → Bool
is_open b = eqb (get_or b 1 0) 1

-- The attributes of a record form.
abbrev pub attributes_of : ℕ → List ℕ → Attrs
attributes_of l b = attrs_of (table_of attr_row (λ _. dec l) 2 b)

-- The members of a set form, the pairs of a record form and the arguments of a call form, each of so many levels.
abbrev pub members_of : ℕ → List ℕ → Values
members_of l b = values_from (table_of member_row (λ _. dec_v l) 1 b)

-- The pairs of a record form.
abbrev pub pairs_of : ℕ → List ℕ → Pairs
pairs_of l b = pairs_from (table_of pair_row (λ _. dec_v l) 1 b)

-- The arguments of a call form.
abbrev pub arguments_of : ℕ → List ℕ → Values
arguments_of l b = values_from (table_of member_row (λ _. dec_v l) 3 b)

-- What is said of a record's pairs: each one first, then the required names.
abbrev pub record_said : Counts → Schema → Bool → Attrs → Pairs → Verdict
record_said rule s o xs ps = and_then (each_pair (λ n x. conforms_at rule s o xs n x) ps) (verdict (has_required xs ps))

-- A record type and a record value, whole, with parts of some level.
pub record Records (t v : List ℕ) : Type 0 where
  pub level : ℕ
  pub type : whole_as (whole level) rec_kind t ≡ true
  pub value : whole_v_as (whole_v level) record_kind v ≡ true
