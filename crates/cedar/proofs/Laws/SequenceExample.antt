-- Demand 3 applied: one run with refused and answered calls, computed; what its values carry and what lookup finds; each conclusion
-- drawn from `run-keeps`, none computed; and why kind 11 is left out.
use Rattle.std.specs.Prelude.{ℕ, List, [], ◌∷◌, Bool, true, false, ◌&&◌, ◌≡◌, refl, T, ltb}
use Rattle.std.proofs.Common.{sym, ap, ◌∙◌, inl, inr, ltb→lt}
use Rattle.std.proofs.Math.Option.{none, some}
use Rattle.cedar.specs.Types.{atom, long, string, nil, attr, Schema, present, mem}
use Rattle.cedar.specs.Bytes.{Bytes}
use Rattle.cedar.specs.TypeForm.{enc, parse}
use Rattle.cedar.specs.ValueForm.{enc_value, parse_value}
use Rattle.cedar.specs.Limits.{standard}
use Rattle.cedar.specs.Subtype.{sub}
use Rattle.cedar.specs.Bound.{bound}
use Rattle.cedar.specs.Text.{goes_on, textual}
use Rattle.cedar.specs.Conformance.{shorter, conforms}
use Rattle.cedar.specs.Conforms.{Conforms}
use Rattle.cedar.specs.Outcome.{refused, said}
use Rattle.cedar.specs.Calls.{bound_call, may_have_call}
use Rattle.cedar.specs.Sequence.{Listed, Step, standing, EachBytes, given_from, run, attribute_of, Carries, itself, of_entry, of_missing, LooksUp, Kept}
use Rattle.cedar.proofs.Laws.Tests.{T_and, none-some}
use Rattle.cedar.proofs.Laws.Sequence.{run-keeps}

-- Types: entities 2, 4 and 6; entities 2 and 4 together.
abbrev entity2 : List ℕ
entity2 = 10 ∷ 1 ∷ 0 ∷ 2 ∷ 0 ∷ []

abbrev entity4 : List ℕ
entity4 = 10 ∷ 1 ∷ 0 ∷ 4 ∷ 0 ∷ []

abbrev entity6 : List ℕ
entity6 = 10 ∷ 1 ∷ 0 ∷ 6 ∷ 0 ∷ []

abbrev either : List ℕ
either = 10 ∷ 2 ∷ 0 ∷ 2 ∷ 0 ∷ 4 ∷ 0 ∷ []

-- Closed (1: Long), closed (1: Long, 2: String), open (1: Long), all required.
abbrev one : List ℕ
one = 8 ∷ 0 ∷ 1 ∷ 0 ∷ 1 ∷ 0 ∷ 1 ∷ 1 ∷ 0 ∷ 4 ∷ []

abbrev two : List ℕ
two = 8 ∷ 0 ∷ 2 ∷ 0 ∷ 1 ∷ 0 ∷ 1 ∷ 1 ∷ 0 ∷ 2 ∷ 0 ∷ 1 ∷ 1 ∷ 0 ∷ 4 ∷ 5 ∷ []

abbrev opened : List ℕ
opened = 8 ∷ 1 ∷ 1 ∷ 0 ∷ 1 ∷ 0 ∷ 1 ∷ 1 ∷ 0 ∷ 4 ∷ []

-- Sets of Long and of String, and the untyped set.
abbrev longs : List ℕ
longs = 7 ∷ 4 ∷ []

abbrev strings : List ℕ
strings = 7 ∷ 5 ∷ []

abbrev any_set : List ℕ
any_set = 6 ∷ []

-- Bytes that are no form.
abbrev no_form : List ℕ
no_form = 13 ∷ []

-- The schema: one entity entry, type 2, whose body is closed (1: Long required, 2: String optional). Type 4 has none.
abbrev schema : List ℕ
schema = 1 ∷ 0 ∷ 0 ∷ 0 ∷ 0 ∷ 0 ∷ 2 ∷ 0 ∷ 0 ∷ 16 ∷ 0 ∷ 8 ∷ 0 ∷ 2 ∷ 0 ∷ 1 ∷ 0 ∷ 1 ∷ 1 ∷ 0 ∷ 2 ∷ 0 ∷ 0 ∷ 1 ∷ 0 ∷ 4 ∷ 5 ∷ []

-- The same as a tree.
abbrev tree : Schema
tree = record {
  entities = record { name = 2; enumerated = false; is_open = false; attrs = attr 1 true (atom long) (attr 2 false (atom string) nil) } ∷ [];
  actions = [];
  functions = [];
}

-- Values: a uid of type 2 and one of type 4; the Long 7; the string "a"; sets of one of these; the record with 1: 7 and 2: "a".
abbrev uid2 : List ℕ
uid2 = 4 ∷ 2 ∷ 0 ∷ 9 ∷ 0 ∷ []

abbrev uid4 : List ℕ
uid4 = 4 ∷ 4 ∷ 0 ∷ 9 ∷ 0 ∷ []

abbrev seven : List ℕ
seven = 2 ∷ 7 ∷ 0 ∷ 0 ∷ 0 ∷ 0 ∷ 0 ∷ 0 ∷ 0 ∷ []

abbrev a_string : List ℕ
a_string = 3 ∷ 1 ∷ 0 ∷ 97 ∷ []

abbrev sevens : List ℕ
sevens = 5 ∷ 1 ∷ 0 ∷ 9 ∷ 0 ∷ seven

abbrev some_strings : List ℕ
some_strings = 5 ∷ 1 ∷ 0 ∷ 4 ∷ 0 ∷ a_string

abbrev fields : List ℕ
fields = 6 ∷ 2 ∷ 0 ∷ 1 ∷ 0 ∷ 9 ∷ 0 ∷ 2 ∷ 0 ∷ 4 ∷ 0 ∷ 2 ∷ 7 ∷ 0 ∷ 0 ∷ 0 ∷ 0 ∷ 0 ∷ 0 ∷ 0 ∷ 3 ∷ 1 ∷ 0 ∷ 97 ∷ []

-- The types given, at 0 to 6.
abbrev given : List (List ℕ)
given = entity2 ∷ entity4 ∷ one ∷ two ∷ no_form ∷ longs ∷ strings ∷ []

-- Six calls that add nothing, then five that are answered.
abbrev steps : List Step
steps =
    -- Strict: 13. Mode 3: 1. A room one byte short: 10. Bytes that are no form: 4. Sets, permissive: 15. A position that is not there.
    record { mode = 0; room = 7; left = 0; right = 1 } ∷
    record { mode = 3; room = 7; left = 0; right = 1 } ∷
    record { mode = 1; room = 6; left = 0; right = 1 } ∷
    record { mode = 1; room = 7; left = 0; right = 4 } ∷
    record { mode = 1; room = 7; left = 5; right = 6 } ∷
    record { mode = 1; room = 7; left = 0; right = 7 } ∷
    -- A union of entities; that one twice; a record that becomes open; entity 2 twice; the same sets, loose.
    record { mode = 1; room = 7; left = 0; right = 1 } ∷
    record { mode = 0; room = 7; left = 7; right = 7 } ∷
    record { mode = 1; room = 10; left = 2; right = 3 } ∷
    record { mode = 0; room = 5; left = 0; right = 0 } ∷
    record { mode = 2; room = 1; left = 5; right = 6 } ∷
    []

-- The list after the run.
abbrev listed : List Listed
listed =
    record { form = entity2; made_from = 0 ∷ [] } ∷
    record { form = entity4; made_from = 1 ∷ [] } ∷
    record { form = one; made_from = 2 ∷ [] } ∷
    record { form = two; made_from = 3 ∷ [] } ∷
    record { form = no_form; made_from = 4 ∷ [] } ∷
    record { form = longs; made_from = 5 ∷ [] } ∷
    record { form = strings; made_from = 6 ∷ [] } ∷
    record { form = either; made_from = 7 ∷ 0 ∷ 1 ∷ [] } ∷
    record { form = either; made_from = 8 ∷ 7 ∷ 0 ∷ 1 ∷ 7 ∷ 0 ∷ 1 ∷ [] } ∷
    record { form = opened; made_from = 9 ∷ 2 ∷ 3 ∷ [] } ∷
    record { form = entity2; made_from = 10 ∷ 0 ∷ 0 ∷ [] } ∷
    record { form = any_set; made_from = 11 ∷ 5 ∷ 6 ∷ [] } ∷
    []

-- Why the six add nothing: 7 is not there yet when the last of them asks for it.
pub refusals : (bound_call standard 0 schema entity2 entity4 7 ≡ refused 13)
    × (bound_call standard 3 schema entity2 entity4 7 ≡ refused 1)
    × (bound_call standard 1 schema entity2 entity4 6 ≡ refused 10)
    × (bound_call standard 1 schema entity2 no_form 7 ≡ refused 4)
    × (bound_call standard 1 schema longs strings 7 ≡ refused 15)
    × (standing (given_from 0 given) 7 ≡ none)
unfolding parse bound sub enc
refusals = (refl, refl, refl, refl, refl, refl)

-- The run, computed.
pub run-example : run standard schema given steps ≡ listed
unfolding parse bound sub enc
run-example = refl

-- Bytes, tested.
unfoldable pub are_bytes : List ℕ → Bool
are_bytes [] = true
are_bytes (x ∷ l) = ltb x 256 && are_bytes l

pub are_bytes→ : (l : List ℕ) → T (are_bytes l) → Bytes l
unfolding are_bytes
are_bytes→ [] h = tt
are_bytes→ (x ∷ l) h = let (p, q) = T_and (ltb x 256) (are_bytes l) h in (ltb→lt x 256 p, are_bytes→ l q)

schema-bytes : Bytes schema
unfolding are_bytes
schema-bytes = are_bytes→ schema tt

given-bytes : EachBytes given
unfolding are_bytes
given-bytes = (
  are_bytes→ entity2 tt,
  (are_bytes→ entity4 tt, (are_bytes→ one tt, (are_bytes→ two tt, (are_bytes→ no_form tt, (are_bytes→ longs tt, (are_bytes→ strings tt, tt)))))),
)

fields-bytes : Bytes fields
unfolding are_bytes
fields-bytes = are_bytes→ fields tt

-- Demand 3 of this run: what conforms to the type at i keeps what is said of it for the type at j, made from that one.
kept_at : (i j : ℕ) (x y : Listed) → standing listed i ≡ some x → standing listed j ≡ some y → T (mem i y.made_from)
    → (v : List ℕ) → Conforms standard shorter schema x.form v → Kept standard shorter schema y.form v
kept_at i j x y ei ej =
    run-keeps standard shorter schema given steps schema-bytes given-bytes i j x y (ap (λ (l : List Listed). standing l i) run-example ∙ ei)
    (ap (λ (l : List Listed). standing l j) run-example ∙ ej)

-- The values conform to types given: the uids to entities 2 and 4, the record to (1: Long, 2: String), the sets to theirs.
uid2-given : Conforms standard shorter schema entity2 uid2
unfolding parse parse_value conforms textual goes_on
uid2-given = refl

uid4-given : Conforms standard shorter schema entity4 uid4
unfolding parse parse_value conforms textual goes_on
uid4-given = refl

fields-given : Conforms standard shorter schema two fields
unfolding parse parse_value conforms textual goes_on
fields-given = refl

sevens-given : Conforms standard shorter schema longs sevens
unfolding parse parse_value conforms textual goes_on
sevens-given = refl

strings-given : Conforms standard shorter schema strings some_strings
unfolding parse parse_value conforms textual goes_on
strings-given = refl

-- What they carry: the record its own pairs; the uid of type 2 those of a record that conforms to the body of its entry; the uid of
-- type 4, which has no entry, those of any record.
pub own-pairs : Carries standard shorter schema fields fields
unfolding parse_value
own-pairs = itself tt

pub with-entry : Carries standard shorter schema uid2 fields
unfolding parse parse_value conforms enc textual goes_on
with-entry = of_entry tree 2 9 _ refl refl refl refl

pub without-entry : Carries standard shorter schema uid4 fields
unfolding parse parse_value
without-entry = of_missing tree 4 9 refl refl refl tt

-- What the two entries of lookup find: of open (1: Long), the first and the second; of entity 2, the first.
pub first_entry : LooksUp standard schema 1 opened true (atom long)
unfolding parse enc
first_entry = inl (1, 0, refl)

pub second-entry : LooksUp standard schema 1 opened true (atom long)
unfolding parse
second-entry = inr refl

pub required-of-entry : LooksUp standard schema 1 entity2 true (atom long)
unfolding parse enc
required-of-entry = inl (1, 0, refl)

pub optional-of-entry : LooksUp standard schema 2 entity2 false (atom string)
unfolding parse enc
optional-of-entry = inl (1, 0, refl)

-- The uid of type 2 keeps what is said of it for both entities together, at 8, and for entity 2, at 10; the uid of type 4 for both
-- together; the record for open (1: Long), at 9; both sets for the untyped set, at 11.
uid2-either : Kept standard shorter schema either uid2
uid2-either = kept_at 0 8 _ _ refl refl tt uid2 uid2-given

uid2-entity : Kept standard shorter schema entity2 uid2
uid2-entity = kept_at 0 10 _ _ refl refl tt uid2 uid2-given

uid4-either : Kept standard shorter schema either uid4
uid4-either = kept_at 1 8 _ _ refl refl tt uid4 uid4-given

fields-opened : Kept standard shorter schema opened fields
fields-opened = kept_at 3 9 _ _ refl refl tt fields fields-given

sevens-any : Kept standard shorter schema any_set sevens
sevens-any = kept_at 5 11 _ _ refl refl tt sevens sevens-given

strings-any : Kept standard shorter schema any_set some_strings
strings-any = kept_at 6 11 _ _ refl refl tt some_strings strings-given

-- Conforming: to the type made.
pub keeps-conforming : Conforms standard shorter schema either uid2
keeps-conforming = uid2-either.conforming

-- Conforming, made loose: no set is lost.
pub keeps-longs : Conforms standard shorter schema any_set sevens
keeps-longs = sevens-any.conforming

pub keeps-strings : Conforms standard shorter schema any_set some_strings
keeps-strings = strings-any.conforming

-- Disjoint's yes, the type made given first: the uid is no entity 6.
pub keeps-disjoint-first : Conforms standard shorter schema entity6 uid2 → ⊥
unfolding parse
keeps-disjoint-first = uid2-either.not_disjoint entity6 (inl refl)

-- Given second.
pub keeps-disjoint-second : Conforms standard shorter schema entity6 uid2 → ⊥
unfolding parse
keeps-disjoint-second = uid2-either.not_disjoint entity6 (inr refl)

-- Required, by lookup's first entry: the record has the attribute 1.
pub keeps-required : T (present (attribute_of standard 1 fields))
keeps-required = fields-opened.required tt fields own-pairs 1 (atom long) first_entry

-- Required of the uid with an entry: whatever it carries has the attribute 1, so this record has.
pub keeps-required-of-entry : (w : List ℕ) → Carries standard shorter schema uid2 w → T (present (attribute_of standard 1 w))
keeps-required-of-entry w g = uid2-entity.required tt w g 1 (atom long) required-of-entry

pub keeps-required-there : T (present (attribute_of standard 1 fields))
keeps-required-there = keeps-required-of-entry fields with-entry

-- Typed, by lookup's second entry: what the record has there is a Long.
pub keeps_typed : Conforms standard shorter schema (4 ∷ []) seven
unfolding enc parse_value enc_value
keeps_typed = fields-opened.typed_as tt fields fields-bytes own-pairs 1 true (atom long) second-entry seven refl

-- Typed though optional, of the uid with an entry: what it carries at 2 is a string.
pub keeps-typed-of-entry : Conforms standard shorter schema (5 ∷ []) a_string
unfolding enc parse_value enc_value
keeps-typed-of-entry = uid2-entity.typed_as tt fields fields-bytes with-entry 2 false (atom string) optional-of-entry a_string refl

-- Denied: may-have says no of entity 2 and the attribute 3, and whatever the uid carries lacks it, so this record does.
pub keeps-denied : (w : List ℕ) → Carries standard shorter schema uid2 w → attribute_of standard 3 w ≡ none
unfolding parse
keeps-denied w g = uid2-entity.denied tt w g 3 refl

pub keeps-denied-there : attribute_of standard 3 fields ≡ none
keeps-denied-there = keeps-denied fields with-entry

-- The uid without an entry may carry any attribute, as here 2; so may-have cannot deny it of the two entities together.
pub keeps-undenied : may_have_call standard schema 2 either ≡ said false → ⊥
unfolding parse_value enc_value
keeps-undenied e = none-some (sym (uid4-either.denied tt fields without-entry 2 e))

-- An action type of odd name 1, a uid of that type, a record with the attribute 0, and a schema with nothing in it.
abbrev action1 : List ℕ
action1 = 11 ∷ 1 ∷ 0 ∷ 0 ∷ 0 ∷ []

abbrev uid1 : List ℕ
uid1 = 4 ∷ 1 ∷ 0 ∷ 0 ∷ 0 ∷ []

abbrev holder : List ℕ
holder = 6 ∷ 1 ∷ 0 ∷ 0 ∷ 0 ∷ 1 ∷ 0 ∷ 0 ∷ []

abbrev empty_schema : List ℕ
empty_schema = 0 ∷ 0 ∷ 0 ∷ 0 ∷ 0 ∷ 0 ∷ []

-- Why kind 11 is left out: under the empty schema the uid conforms to the action type, may-have denies that type the attribute 0,
-- and the uid carries the record, which has it.
pub action-carries : Conforms standard shorter empty_schema action1 uid1
    × (may_have_call standard empty_schema 0 action1 ≡ said false)
    × Carries standard shorter empty_schema uid1 holder
    × (attribute_of standard 0 holder ≡ some (0 ∷ []))
unfolding parse parse_value enc_value conforms textual goes_on
action-carries = (refl, refl, of_missing (record { entities = []; actions = []; functions = [] }) 1 0 refl refl refl tt, refl)
