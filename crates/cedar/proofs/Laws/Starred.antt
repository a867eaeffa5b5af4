-- The starred examples of 01, from bytes through the calls, as one theorem.
use Rattle.std.specs.Prelude.{ℕ, List, [], ◌∷◌, true, false, ◌≡◌, refl}
use Rattle.cedar.specs.Limits.{standard}
use Rattle.cedar.specs.TypeForm.{enc, parse}
use Rattle.cedar.specs.ValueForm.{parse_value}
use Rattle.cedar.specs.Types.{same}
use Rattle.cedar.specs.Subtype.{sub}
use Rattle.cedar.specs.Bound.{bound}
use Rattle.cedar.specs.Text.{goes_on, textual}
use Rattle.cedar.specs.Conformance.{conforms, of_argument}
use Rattle.cedar.specs.Outcome.{Outcome, refused, said, nothing, bytes_of}
use Rattle.cedar.specs.Lines.{number_of, answer_text}
use Rattle.cedar.specs.Calls.{subtype_call, bound_call, disjoint_call, fold_call, lookup_call, may_have_call, conforms_call}

-- An outcome as a caller sees it: the refusal's number or 0, the word printed for it, the bytes written.
abbrev pub Seen : Type 0
Seen = ℕ × List ℕ × List ℕ

unfoldable pub seen : Outcome → Seen
seen o = (number_of o, answer_text o, bytes_of o)

unfoldable pub refusal : ℕ → Seen
refusal n = seen (refused n)

unfoldable pub written : List ℕ → Seen
written w = (0, [], w)

-- R(1: Long) is 08 00 01 00 01 00 01 01 00 04.
abbrev r_long : List ℕ
r_long = 8 ∷ 0 ∷ 1 ∷ 0 ∷ 1 ∷ 0 ∷ 1 ∷ 1 ∷ 0 ∷ 4 ∷ []

abbrev r_string : List ℕ
r_string = 8 ∷ 0 ∷ 1 ∷ 0 ∷ 1 ∷ 0 ∷ 1 ∷ 1 ∷ 0 ∷ 5 ∷ []

abbrev r_optional : List ℕ
r_optional = 8 ∷ 0 ∷ 1 ∷ 0 ∷ 1 ∷ 0 ∷ 0 ∷ 1 ∷ 0 ∷ 4 ∷ []

abbrev r_open : List ℕ
r_open = 8 ∷ 1 ∷ 1 ∷ 0 ∷ 1 ∷ 0 ∷ 1 ∷ 1 ∷ 0 ∷ 4 ∷ []

abbrev r_two : List ℕ
r_two = 8 ∷ 0 ∷ 2 ∷ 0 ∷ 1 ∷ 0 ∷ 1 ∷ 1 ∷ 0 ∷ 2 ∷ 0 ∷ 1 ∷ 1 ∷ 0 ∷ 4 ∷ 4 ∷ []

abbrev pub set_long : List ℕ
set_long = 7 ∷ 4 ∷ []

abbrev pub set_string : List ℕ
set_string = 7 ∷ 5 ∷ []

abbrev pub any_set : List ℕ
any_set = 6 ∷ []

abbrev pub entity2 : List ℕ
entity2 = 10 ∷ 1 ∷ 0 ∷ 2 ∷ 0 ∷ []

abbrev entity4 : List ℕ
entity4 = 10 ∷ 1 ∷ 0 ∷ 4 ∷ 0 ∷ []

abbrev pub action3 : List ℕ
action3 = 11 ∷ 3 ∷ 0 ∷ 0 ∷ 0 ∷ []

abbrev action3_long : List ℕ
action3_long = 11 ∷ 3 ∷ 0 ∷ 1 ∷ 0 ∷ 1 ∷ 0 ∷ 1 ∷ 1 ∷ 0 ∷ 4 ∷ []

-- A schema with nothing in it, and one with function 1: it takes a Bool and returns extension 1.
abbrev empty_schema : List ℕ
empty_schema = 0 ∷ 0 ∷ 0 ∷ 0 ∷ 0 ∷ 0 ∷ []

abbrev function_schema : List ℕ
function_schema = 0 ∷ 0 ∷ 0 ∷ 0 ∷ 1 ∷ 0 ∷ 1 ∷ 0 ∷ 1 ∷ 1 ∷ 0 ∷ 3 ∷ 0 ∷ 1 ∷ 0 ∷ 0 ∷ []

-- Extension 1, and a call of function 1 with two Bools.
abbrev extension1 : List ℕ
extension1 = 12 ∷ 1 ∷ 0 ∷ []

abbrev call_of_two : List ℕ
call_of_two = 7 ∷ 1 ∷ 0 ∷ 2 ∷ 0 ∷ 1 ∷ 0 ∷ 1 ∷ 0 ∷ 1 ∷ 0 ∷ []

-- The calls of the table, under the empty schema, with a result buffer of 4,096 bytes and a workspace of 8,192.
joined : ℕ → List ℕ → List ℕ → Seen
joined mode a b = seen (bound_call standard mode empty_schema a b 4096)

below : ℕ → List ℕ → List ℕ → Seen
below mode a b = seen (subtype_call standard mode empty_schema a b)

-- Mode 0 is strict, 1 permissive.
pub asked : List Seen
asked =
    -- R(1: Long) with R(1: String).
    joined 1 r_long r_string ∷ joined 0 r_long r_string ∷
    -- 07 04 with 07 05, and each under 06.
    joined 0 set_long set_string ∷ joined 1 set_long set_string ∷
    below 0 set_long any_set ∷ below 1 set_long any_set ∷ below 0 set_string any_set ∷ below 1 set_string any_set ∷
    -- The fold of nothing.
    seen (fold_call standard 0 empty_schema (0 ∷ 0 ∷ []) 4096 8192) ∷ seen (fold_call standard 1 empty_schema (0 ∷ 0 ∷ []) 4096 8192) ∷
    -- 01 with 02.
    joined 0 (1 ∷ []) (2 ∷ []) ∷ joined 1 (1 ∷ []) (2 ∷ []) ∷
    -- Entities 2 and 4.
    joined 1 entity2 entity4 ∷ joined 0 entity2 entity4 ∷ seen (disjoint_call standard entity2 entity4) ∷
    -- Closed (1, 2: Long) under open (1: Long), and under the closed one.
    below 1 r_two r_open ∷ below 0 r_two r_open ∷ below 0 r_two r_long ∷ below 1 r_two r_long ∷
    -- Required with optional (1: Long).
    joined 0 r_long r_optional ∷ joined 1 r_long r_optional ∷
    -- Actions 3 with {} and (1: Long).
    joined 0 action3 action3_long ∷ joined 1 action3 action3_long ∷
    -- Record with entity.
    joined 0 r_long entity2 ∷ joined 1 r_long entity2 ∷
    -- A missing entity type.
    seen (lookup_call standard empty_schema 1 entity2 4096 8192) ∷ seen (may_have_call standard empty_schema 1 entity2) ∷
    -- A call with an argument too many.
    seen (conforms_call standard function_schema extension1 call_of_two) ∷
    []

pub answers : List Seen
answers =
    written (8 ∷ 1 ∷ 0 ∷ 0 ∷ []) ∷ refusal 15 ∷
    refusal 15 ∷ refusal 15 ∷
    seen (said true) ∷ seen (said true) ∷ seen (said true) ∷ seen (said true) ∷
    written (0 ∷ []) ∷ written (0 ∷ []) ∷
    written (3 ∷ []) ∷ written (3 ∷ []) ∷
    written (10 ∷ 2 ∷ 0 ∷ 2 ∷ 0 ∷ 4 ∷ 0 ∷ []) ∷ refusal 13 ∷ seen (said true) ∷
    seen (said true) ∷ seen (said false) ∷ seen (said false) ∷ seen (said false) ∷
    refusal 11 ∷ written r_optional ∷
    refusal 12 ∷ refusal 12 ∷
    refusal 14 ∷ refusal 14 ∷
    seen nothing ∷ seen (said true) ∷
    seen (said true) ∷
    []

-- Every starred row of 01 holds.
pub starred : asked ≡ answers
unfolding asked answers joined below seen refusal written enc parse parse_value same sub bound conforms of_argument textual goes_on
starred = refl
