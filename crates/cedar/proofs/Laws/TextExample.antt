-- Text from bytes through the calls: the examples of RFC 3629, what is no text, strings that no walk reaches, and 17 beside 5 and 7.
use Rattle.std.specs.Prelude.{ℕ, List, [], ◌∷◌, ◌++◌, true, false, ◌≡◌, refl, length}
use Rattle.cedar.specs.Bytes.{u16}
use Rattle.cedar.specs.Limits.{standard}
use Rattle.cedar.specs.TypeForm.{parse}
use Rattle.cedar.specs.ValueForm.{parse_value}
use Rattle.cedar.specs.Text.{goes_on, textual}
use Rattle.cedar.specs.Conformance.{conforms, of_argument}
use Rattle.cedar.specs.Outcome.{Outcome, refused, said}
use Rattle.cedar.specs.Calls.{conforms_call, full_call, literal_call}

-- A string value.
abbrev str : List ℕ → List ℕ
str l = 3 ∷ u16 (length l) ++ l

-- A set of one value, or two.
abbrev one_of : List ℕ → List ℕ
one_of v = 5 ∷ 1 ∷ 0 ∷ u16 (length v) ++ v

abbrev two_of : List ℕ → List ℕ → List ℕ
two_of v w = 5 ∷ 2 ∷ 0 ∷ u16 (length v) ++ (u16 (length w) ++ (v ++ w))

-- The record with 1: true and 2: a value.
abbrev record_with : List ℕ → List ℕ
record_with v = 6 ∷ 2 ∷ 0 ∷ 1 ∷ 0 ∷ 1 ∷ 0 ∷ 2 ∷ 0 ∷ u16 (length v) ++ (1 ∷ v)

-- A call of a function with true and a value.
abbrev call_with : ℕ → List ℕ → List ℕ
call_with f v = 7 ∷ u16 f ++ (2 ∷ 0 ∷ 1 ∷ 0 ∷ u16 (length v) ++ (1 ∷ v))

-- The schema of function 1, which takes a Bool and returns extension 1.
abbrev schema : List ℕ
schema = 0 ∷ 0 ∷ 0 ∷ 0 ∷ 1 ∷ 0 ∷ 1 ∷ 0 ∷ 1 ∷ 1 ∷ 0 ∷ 3 ∷ 0 ∷ 1 ∷ 0 ∷ 0 ∷ []

-- String, Long, the untyped set, sets of String, open (1: Bool), extension 1.
abbrev string : List ℕ
string = 5 ∷ []

abbrev long : List ℕ
long = 4 ∷ []

abbrev any_set : List ℕ
any_set = 6 ∷ []

abbrev strings : List ℕ
strings = 7 ∷ 5 ∷ []

abbrev opened : List ℕ
opened = 8 ∷ 1 ∷ 1 ∷ 0 ∷ 1 ∷ 0 ∷ 1 ∷ 1 ∷ 0 ∷ 3 ∷ []

abbrev extension1 : List ℕ
extension1 = 12 ∷ 1 ∷ 0 ∷ []

-- A string that is no text: a lone tail.
abbrev broken : List ℕ
broken = str (0x80 ∷ [])

-- Both conformances of a type and a value.
unfoldable pub asked : List ℕ → List ℕ → Outcome × Outcome
asked t v = (conforms_call standard schema t v, full_call standard schema t v)

abbrev both : Outcome → Outcome × Outcome
both o = (o, o)

-- The examples of the RFC, section 7: A, 'not identical to', alpha and a full stop; Korean; Japanese; a byte order mark and a character
-- of four bytes.
pub examples : (asked string (str (0x41 ∷ 0xE2 ∷ 0x89 ∷ 0xA2 ∷ 0xCE ∷ 0x91 ∷ 0x2E ∷ [])) ≡ both (said true))
    × (asked string (str (0xED ∷ 0x95 ∷ 0x9C ∷ 0xEA ∷ 0xB5 ∷ 0xAD ∷ 0xEC ∷ 0x96 ∷ 0xB4 ∷ [])) ≡ both (said true))
    × (asked string (str (0xE6 ∷ 0x97 ∷ 0xA5 ∷ 0xE6 ∷ 0x9C ∷ 0xAC ∷ 0xE8 ∷ 0xAA ∷ 0x9E ∷ [])) ≡ both (said true))
    × (asked string (str (0xEF ∷ 0xBB ∷ 0xBF ∷ 0xF0 ∷ 0xA3 ∷ 0x8E ∷ 0xB4 ∷ [])) ≡ both (said true))
unfolding asked parse parse_value conforms of_argument textual goes_on
examples = (refl, refl, refl, refl)

-- A surrogate; overlong by two, three and four; above 10FFFF; cut at the end; a character of which two strings have a half each.
pub no_text : (asked string (str (0xED ∷ 0xA0 ∷ 0x80 ∷ [])) ≡ both (refused 17))
    × (asked string (str (0xC0 ∷ 0x80 ∷ [])) ≡ both (refused 17))
    × (asked string (str (0xE0 ∷ 0x80 ∷ 0x80 ∷ [])) ≡ both (refused 17))
    × (asked string (str (0xF0 ∷ 0x80 ∷ 0x80 ∷ 0x80 ∷ [])) ≡ both (refused 17))
    × (asked string (str (0xF4 ∷ 0x90 ∷ 0x80 ∷ 0x80 ∷ [])) ≡ both (refused 17))
    × (asked string (str (0x41 ∷ 0xE2 ∷ 0x89 ∷ [])) ≡ both (refused 17))
    × (asked strings (two_of (str (0xC3 ∷ [])) (str (0xA9 ∷ []))) ≡ both (refused 17))
unfolding asked parse parse_value conforms of_argument textual goes_on
no_text = (refl, refl, refl, refl, refl, refl, refl)

-- Where no walk looks: under another kind, under 06, in a pair that an open record does not list, in an argument too many; and that
-- last one with text.
pub not-reached : (asked long broken ≡ both (refused 17))
    × (asked any_set (one_of broken) ≡ both (refused 17))
    × (asked opened (record_with broken) ≡ both (refused 17))
    × (asked extension1 (call_with 1 broken) ≡ both (refused 17))
    × (asked extension1 (call_with 1 (str (0x41 ∷ []))) ≡ (said true, said false))
unfolding asked parse parse_value conforms of_argument textual goes_on
not-reached = (refl, refl, refl, refl, refl)

-- 5 before it: a value that is not whole, and a literal of a string. Before 7: an unknown function with a broken string, and with text.
pub in-turn : (asked string (3 ∷ 2 ∷ 0 ∷ 0x80 ∷ []) ≡ both (refused 5))
    × (literal_call standard schema broken 4096 ≡ refused 5)
    × (asked extension1 (call_with 2 broken) ≡ both (refused 17))
    × (asked extension1 (call_with 2 (str [])) ≡ both (refused 7))
unfolding asked parse parse_value conforms of_argument textual goes_on
in-turn = (refl, refl, refl, refl)
