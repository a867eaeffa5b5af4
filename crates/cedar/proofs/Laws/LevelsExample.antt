-- Levels from bytes through the calls: what is dropped or fails counts for nothing, conversion may lose levels, a literal has its body's,
-- the fold of nothing has one; and what measuring refuses.
use Rattle.std.specs.Prelude.{ℕ, List, [], ◌∷◌, ◌++◌, ◌≡◌, refl, length, replicate}
use Rattle.cedar.specs.Types.{same}
use Rattle.cedar.specs.Bytes.{u16}
use Rattle.cedar.specs.Limits.{standard}
use Rattle.cedar.specs.TypeForm.{parse, enc}
use Rattle.cedar.specs.ValueForm.{parse_value, enc_value}
use Rattle.cedar.specs.Levels.{depth, depth_value}
use Rattle.cedar.specs.Text.{goes_on, textual}
use Rattle.cedar.specs.Subtype.{sub}
use Rattle.cedar.specs.Bound.{bound}
use Rattle.cedar.specs.Conversion.{convert}
use Rattle.cedar.specs.Outcome.{refused, measured, bytes_of, levels_of}
use Rattle.cedar.specs.Calls.{measure_type_call, measure_value_call, bound_call, fold_call, lookup_call, convert_call, literal_call}

-- The closed record with one required attribute, 1.
abbrev with1 : List ℕ → List ℕ
with1 t = 8 ∷ 0 ∷ 1 ∷ 0 ∷ 1 ∷ 0 ∷ 1 ∷ u16 (length t) ++ t

-- The action of type 3 with that attribute.
abbrev action3 : List ℕ → List ℕ
action3 t = 11 ∷ 3 ∷ 0 ∷ 1 ∷ 0 ∷ 1 ∷ 0 ∷ 1 ∷ u16 (length t) ++ t

abbrev long : List ℕ
long = 4 ∷ []

-- So many sets around Long.
abbrev sets : ℕ → List ℕ
sets n = replicate n 7 ++ long

-- Entity types 2 and 4 with 1: two sets around Long and 1: two around Bool; the action (3, 0) with 1: a set of Long.
abbrev schema : List ℕ
schema =
    (2 ∷ 0 ∷ 1 ∷ 0 ∷ 0 ∷ 0 ∷ []) ++ ((2 ∷ 0 ∷ 0 ∷ 12 ∷ 0 ∷ []) ++ ((4 ∷ 0 ∷ 0 ∷ 12 ∷ 0 ∷ []) ++ ((3 ∷ 0 ∷ 0 ∷ 0 ∷ 11 ∷ 0 ∷ []) ++
    (with1 (sets 2) ++ (with1 (7 ∷ 7 ∷ 3 ∷ []) ++ with1 (sets 1))))))

abbrev none : List ℕ
none = 0 ∷ 0 ∷ 0 ∷ 0 ∷ 0 ∷ 0 ∷ []

-- The bound of {1: a set of sets of Long} and {1: Long}, permissive, is open {}: one level;
pub dropped-counts-nothing : levels_of (bound_call standard 1 none (with1 (sets 2)) (with1 long) 4) ≡ 1
unfolding parse bound sub same enc depth
dropped-counts-nothing = refl

-- loose, sets whose elements have no bound are joined to 06: three levels, where both types have four.
pub failed-counts-nothing : levels_of (bound_call standard 2 none (sets 3) (7 ∷ 7 ∷ 7 ∷ 5 ∷ []) 4) ≡ 3
unfolding parse bound sub same enc depth
failed-counts-nothing = refl

-- The fold of nothing: Never, one byte and one level.
pub nothing-folded : (length (bytes_of (fold_call standard 0 none (0 ∷ 0 ∷ []) 1 2)) ≡ 1) × (levels_of (fold_call standard 0 none (0 ∷ 0 ∷ []) 1 2) ≡ 1)
unfolding parse bound sub same enc depth
nothing-folded = (refl, refl)

-- An action of three levels becomes an entity of one; in a set, of two.
pub action-converted : levels_of (convert_call standard (action3 (sets 1)) 8) ≡ 1
unfolding parse convert enc depth
action-converted = refl

pub actions-converted : levels_of (convert_call standard (7 ∷ action3 (sets 1)) 8) ≡ 2
unfolding parse convert enc depth
actions-converted = refl

-- An action's literal has its body's levels, an entity's one.
pub action-literal : levels_of (literal_call standard schema (4 ∷ 3 ∷ 0 ∷ 0 ∷ 0 ∷ []) 16) ≡ 3
unfolding parse parse_value enc depth
action-literal = refl

pub entity-literal : levels_of (literal_call standard schema (4 ∷ 2 ∷ 0 ∷ 9 ∷ 0 ∷ []) 16) ≡ 1
unfolding parse parse_value enc depth
entity-literal = refl

-- A lookup over one type, of three levels.
pub one-looked-up : levels_of (lookup_call standard schema 1 (10 ∷ 1 ∷ 0 ∷ 2 ∷ 0 ∷ []) 16 32) ≡ 3
unfolding parse bound sub same enc depth
one-looked-up = refl

-- Over both types it finds none, and tells none.
pub none-looked-up : levels_of (lookup_call standard schema 1 (10 ∷ 2 ∷ 0 ∷ 2 ∷ 0 ∷ 4 ∷ 0 ∷ []) 16 32) ≡ 0
unfolding parse bound sub same enc depth
none-looked-up = refl

-- Measuring: 16 levels, 17 of 17, and 3 where 16 are allowed.
pub sixteen : measure_type_call standard (sets 15) ≡ measured 16 16
unfolding parse enc depth
sixteen = refl

pub seventeen : measure_type_call standard (sets 16) ≡ refused 3
unfolding parse
seventeen = refl

pub seventeen-allowed : measure_type_call (record { levels = 17; bytes = 64 }) (sets 16) ≡ measured 17 17
unfolding parse enc depth
seventeen-allowed = refl

-- A set of a string that is no text is 17, one that is cut short 5, and limits out of their ranges 20 before all.
pub no_text : measure_value_call standard (5 ∷ 1 ∷ 0 ∷ 4 ∷ 0 ∷ 3 ∷ 1 ∷ 0 ∷ 255 ∷ []) ≡ refused 17
unfolding parse_value textual goes_on
no_text = refl

pub cut_short : measure_value_call standard (5 ∷ 1 ∷ 0 ∷ 4 ∷ 0 ∷ 3 ∷ 2 ∷ 0 ∷ 255 ∷ []) ≡ refused 5
unfolding parse_value textual goes_on
cut_short = refl

pub out_of_range : measure_value_call (record { levels = 0; bytes = 64 }) [] ≡ refused 20
out_of_range = refl

-- A set of an empty set and of a call with a record with a pair: four levels.
pub value-levels : measure_value_call standard
    (5 ∷ 2 ∷ 0 ∷ 3 ∷ 0 ∷ 15 ∷ 0 ∷ 5 ∷ 0 ∷ 0 ∷ 7 ∷ 1 ∷ 0 ∷ 1 ∷ 0 ∷ 8 ∷ 0 ∷ 6 ∷ 1 ∷ 0 ∷ 1 ∷ 0 ∷ 1 ∷ 0 ∷ 1 ∷ []) ≡ measured 25 4
unfolding parse_value textual goes_on enc_value depth_value
value-levels = refl
