-- Full conformance told apart from conformance, computed; then a run whose values hold calls: full conformance to the types made is
-- drawn from `full-kept`, not computed.
use Rattle.std.specs.Prelude.{ℕ, List, [], ◌∷◌, true, false, ◌≡◌, refl}
use Rattle.std.proofs.Common.{ap}
use Rattle.std.proofs.Math.Option.{Option, some}
use Rattle.cedar.specs.Types.{same}
use Rattle.cedar.specs.Bytes.{Bytes, ◌>>=◌}
use Rattle.cedar.specs.TypeForm.{enc, parse}
use Rattle.cedar.specs.ValueForm.{parse_value}
use Rattle.cedar.specs.Limits.{standard}
use Rattle.cedar.specs.Subtype.{sub}
use Rattle.cedar.specs.Bound.{bound}
use Rattle.cedar.specs.Text.{goes_on, textual}
use Rattle.cedar.specs.Whole.{whole_schema, whole_type, whole_value}
use Rattle.cedar.specs.Conformance.{Verdict, fails, fails_inside, exact, conforms, of_argument}
use Rattle.cedar.specs.Outcome.{Outcome, refused, said}
use Rattle.cedar.specs.Calls.{conforms_call, full_call}
use Rattle.cedar.specs.Sequence.{Listed, Step, standing, EachBytes, run}
use Rattle.cedar.proofs.Laws.SequenceExample.{are_bytes, are_bytes→}
use Rattle.cedar.proofs.Laws.Full.{full-kept}

-- The schema: function 2 takes nothing, function 4 a Long, function 6 an extension 7; each returns extension 7.
abbrev schema : List ℕ
schema =
    0 ∷ 0 ∷ 0 ∷ 0 ∷ 3 ∷ 0 ∷
    2 ∷ 0 ∷ 1 ∷ 7 ∷ 0 ∷ 0 ∷ 0 ∷
    4 ∷ 0 ∷ 1 ∷ 7 ∷ 0 ∷ 3 ∷ 0 ∷
    6 ∷ 0 ∷ 1 ∷ 7 ∷ 0 ∷ 3 ∷ 0 ∷
    2 ∷ 0 ∷ 0 ∷
    4 ∷ 7 ∷ 0 ∷ []

-- Types: extension 7, and a set of it.
abbrev extension : List ℕ
extension = 12 ∷ 7 ∷ 0 ∷ []

abbrev extensions : List ℕ
extensions = 7 ∷ extension

-- Calls: of 2 with nothing, as it declares; of 2 with true; of 4 with nothing; of 9, which is not in the schema.
abbrev right : List ℕ
right = 7 ∷ 2 ∷ 0 ∷ 0 ∷ 0 ∷ []

abbrev too_many : List ℕ
too_many = 7 ∷ 2 ∷ 0 ∷ 1 ∷ 0 ∷ 1 ∷ 0 ∷ 1 ∷ []

abbrev too_few : List ℕ
too_few = 7 ∷ 4 ∷ 0 ∷ 0 ∷ 0 ∷ []

abbrev unheard : List ℕ
unheard = 7 ∷ 9 ∷ 0 ∷ 0 ∷ 0 ∷ []

-- A call of 6 with one argument, of so many bytes.
abbrev around : ℕ → List ℕ → List ℕ
around n v = 7 ∷ 6 ∷ 0 ∷ 1 ∷ 0 ∷ n ∷ 0 ∷ v

-- A set of a call with an argument too many and an unknown call.
abbrev mixed : List ℕ
mixed = 5 ∷ 2 ∷ 0 ∷ 8 ∷ 0 ∷ 5 ∷ 0 ∷ 7 ∷ 2 ∷ 0 ∷ 1 ∷ 0 ∷ 1 ∷ 0 ∷ 1 ∷ 7 ∷ 9 ∷ 0 ∷ 0 ∷ 0 ∷ []

-- What conformance and full conformance come to.
abbrev told : List ℕ → List ℕ → Outcome × Outcome
told t v = (conforms_call standard schema t v, full_call standard schema t v)

-- Too many, too few, and both one call deeper: yes and no. The right count, there too: yes. An unknown function that the walk reaches
-- is 7 for both; inside an argument no for both. The walk stops at the wrong count before it meets the unknown function.
pub told-apart : (told extension too_many ≡ (said true, said false))
    × (told extension too_few ≡ (said true, said false))
    × (told extension (around 8 too_many) ≡ (said true, said false))
    × (told extension (around 5 too_few) ≡ (said true, said false))
    × (told extension (around 5 right) ≡ (said true, said true))
    × (told extension unheard ≡ (refused 7, refused 7))
    × (told extension (around 5 unheard) ≡ (said false, said false))
    × (told extensions mixed ≡ (refused 7, said false))
unfolding parse parse_value conforms of_argument textual goes_on
told-apart = (refl, refl, refl, refl, refl, refl, refl, refl)

-- A call of 6 with an unknown call, and with an argument more.
abbrev unheard_first : List ℕ
unheard_first = 7 ∷ 6 ∷ 0 ∷ 2 ∷ 0 ∷ 5 ∷ 0 ∷ 1 ∷ 0 ∷ 7 ∷ 9 ∷ 0 ∷ 0 ∷ 0 ∷ 1 ∷ []

-- The walk's verdict on bytes, by exact counts.
abbrev walked : List ℕ → List ℕ → Option Verdict
walked t v = do
  s ← whole_schema standard schema
  a ← whole_type standard t
  x ← whole_value standard v
  some (conforms exact s a x)

-- The two kinds of no: a wrong count alone is a plain one; after an unknown function inside an argument the count does not matter.
pub kinds-of-no : (walked extension too_many ≡ some fails)
    × (walked extension (around 5 too_few) ≡ some fails)
    × (walked extension (around 5 unheard) ≡ some fails_inside)
    × (walked extension unheard_first ≡ some fails_inside)
unfolding parse parse_value conforms of_argument textual goes_on
kinds-of-no = (refl, refl, refl, refl)

-- Closed (1: extension 7), closed (1: extension 7, 2: Long) and open (1: extension 7), all required.
abbrev one : List ℕ
one = 8 ∷ 0 ∷ 1 ∷ 0 ∷ 1 ∷ 0 ∷ 1 ∷ 3 ∷ 0 ∷ 12 ∷ 7 ∷ 0 ∷ []

abbrev two : List ℕ
two = 8 ∷ 0 ∷ 2 ∷ 0 ∷ 1 ∷ 0 ∷ 1 ∷ 3 ∷ 0 ∷ 2 ∷ 0 ∷ 1 ∷ 1 ∷ 0 ∷ 12 ∷ 7 ∷ 0 ∷ 4 ∷ []

abbrev opened : List ℕ
opened = 8 ∷ 1 ∷ 1 ∷ 0 ∷ 1 ∷ 0 ∷ 1 ∷ 3 ∷ 0 ∷ 12 ∷ 7 ∷ 0 ∷ []

-- The types given, and two bounds: of the records, permissive, and of that and the first once more.
abbrev given : List (List ℕ)
given = one ∷ two ∷ []

abbrev steps : List Step
steps = record { mode = 1; room = 12; left = 0; right = 1 } ∷ record { mode = 1; room = 12; left = 2; right = 0 } ∷ []

-- The list after the run.
abbrev listed : List Listed
listed =
    record { form = one; made_from = 0 ∷ [] } ∷
    record { form = two; made_from = 1 ∷ [] } ∷
    record { form = opened; made_from = 2 ∷ 0 ∷ 1 ∷ [] } ∷
    record { form = opened; made_from = 3 ∷ 2 ∷ 0 ∷ 1 ∷ 0 ∷ [] } ∷
    []

pub run-example : run standard schema given steps ≡ listed
unfolding parse bound sub enc same
run-example = refl

schema-bytes : Bytes schema
unfolding are_bytes
schema-bytes = are_bytes→ schema tt

given-bytes : EachBytes given
unfolding are_bytes
given-bytes = (are_bytes→ one tt, (are_bytes→ two tt, tt))

-- Records with 1: a call of 6, of 2 with the right count or with one argument too many, and 2: the Long 7.
abbrev fields : List ℕ
fields = 6 ∷ 2 ∷ 0 ∷ 1 ∷ 0 ∷ 12 ∷ 0 ∷ 2 ∷ 0 ∷ 9 ∷ 0 ∷ 7 ∷ 6 ∷ 0 ∷ 1 ∷ 0 ∷ 5 ∷ 0 ∷ 7 ∷ 2 ∷ 0 ∷ 0 ∷ 0 ∷ 2 ∷ 7 ∷ 0 ∷ 0 ∷ 0 ∷ 0 ∷ 0 ∷ 0 ∷ 0 ∷ []

abbrev overfull : List ℕ
overfull = 6 ∷ 1 ∷ 0 ∷ 1 ∷ 0 ∷ 8 ∷ 0 ∷ too_many

-- The first conforms fully to the second type given, so to both types made.
fields-given : full_call standard schema two fields ≡ said true
unfolding parse parse_value conforms of_argument textual goes_on
fields-given = refl

pub keeps-full : full_call standard schema opened fields ≡ said true
keeps-full =
    full-kept standard schema given steps schema-bytes given-bytes 1 3 _ _ (ap (λ (l : List Listed). standing l 1) run-example)
    (ap (λ (l : List Listed). standing l 3) run-example) tt fields fields-given

-- The second conforms to the first type given and to those made, and fully to none of them.
pub not_full : (told one overfull ≡ (said true, said false)) × (told opened overfull ≡ (said true, said false))
unfolding parse parse_value conforms of_argument textual goes_on
not_full = (refl, refl)
