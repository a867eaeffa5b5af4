-- The value form: `enc_value` writes a value as bytes, `parse_value` reads one back within a number of levels.
use Rattle.std.specs.Prelude.{ℕ, zero, suc, List, [], ◌∷◌, ◌++◌, Bool, true, false, eqb, length, get_or}
use Rattle.std.proofs.Math.Option.{Option, none, some}
use Rattle.cedar.specs.Bytes.{u16, flag, guard, word, finish, ◌>>=◌}
use Rattle.cedar.specs.Table.{parse_counted, ascending, any_order, read_length}
use Rattle.cedar.specs.Types.{Value, boolean, number, text, uid, set_of, record_of, call, Values, end, value, Pairs, empty, pair}

-- What the first byte of a value form says.
pub data ValueKind : Type 0 where
  bool_kind : Bool → ValueKind
  long_kind string_kind uid_kind set_kind record_kind call_kind no_kind : ValueKind

-- The kind of a first byte: the kinds in the order of their numbers, 0 to 7; false is 0 and true is 1.
abbrev pub value_kind : ℕ → ValueKind
value_kind k = get_or (bool_kind false ∷ bool_kind true ∷ long_kind ∷ string_kind ∷ uid_kind ∷ set_kind ∷ record_kind ∷ call_kind ∷ []) k no_kind

-- The kind number of a Long.
abbrev pub long_code : ℕ
long_code = 2

-- Of a string.
abbrev pub string_code : ℕ
string_code = 3

-- Of a uid.
abbrev pub uid_code : ℕ
uid_code = 4

-- Of a set.
abbrev pub set_of_code : ℕ
set_of_code = 5

-- Of a record.
abbrev pub record_of_code : ℕ
record_of_code = 6

-- Of a call.
abbrev pub call_code : ℕ
call_code = 7

-- How many values.
abbrev pub count_values : Values → ℕ
count_values end = 0
count_values (value v vs) = suc (count_values vs)

-- How many pairs.
abbrev pub count_pairs : Pairs → ℕ
count_pairs empty = 0
count_pairs (pair n v ps) = suc (count_pairs ps)

unfoldable mutual
  -- The bytes of a value.
  pub enc_value : Value → List ℕ
  enc_value (boolean b) = flag b ∷ []
  enc_value (number l) = long_code ∷ l
  enc_value (text l) = string_code ∷ u16 (length l) ++ l
  enc_value (uid k i) = uid_code ∷ u16 k ++ u16 i
  enc_value (set_of vs) = set_of_code ∷ u16 (count_values vs) ++ (lengths vs ++ bodies_of vs)
  enc_value (record_of ps) = record_of_code ∷ u16 (count_pairs ps) ++ (entries_of ps ++ values_of ps)
  enc_value (call f vs) = call_code ∷ u16 f ++ (u16 (count_values vs) ++ (lengths vs ++ bodies_of vs))

  -- The u16 lengths of values.
  pub lengths : Values → List ℕ
  lengths end = []
  lengths (value v vs) = u16 (length (enc_value v)) ++ lengths vs

  -- The values one after another.
  pub bodies_of : Values → List ℕ
  bodies_of end = []
  bodies_of (value v vs) = enc_value v ++ bodies_of vs

  -- The entries of pairs: name, length.
  pub entries_of : Pairs → List ℕ
  entries_of empty = []
  entries_of (pair n v ps) = u16 n ++ u16 (length (enc_value v)) ++ entries_of ps

  -- The values of pairs one after another.
  pub values_of : Pairs → List ℕ
  values_of empty = []
  values_of (pair n v ps) = enc_value v ++ values_of ps

-- A pair's entry: its name and the length of its value.
abbrev pub read_pair : List ℕ → Option (ℕ × ℕ × List ℕ)
read_pair b = do
  (n, b₁) ← word b
  (l, b₂) ← word b₁
  some (n, l, b₂)

-- The values of a table.
abbrev pub values_from : List (Unit {0} × Value) → Values
values_from [] = end
values_from (x ∷ xs) = value x.1 (values_from xs)

-- The pairs of a table.
abbrev pub pairs_from : List (ℕ × Value) → Pairs
pairs_from [] = empty
pairs_from (x ∷ xs) = pair x.0 x.1 (pairs_from xs)

-- A count, so many lengths, and the values; p reads one.
abbrev pub parse_values : (List ℕ → Option Value) → List ℕ → Option Values
parse_values p b = do
  xs ← parse_counted read_length any_order (λ h. p) 2 tt b
  some (values_from xs)

-- A count, so many names and lengths, and the values; p reads one.
abbrev pub parse_pairs : (List ℕ → Option Value) → List ℕ → Option Pairs
parse_pairs p b = do
  xs ← parse_counted read_pair ascending (λ h. p) 4 0 b
  some (pairs_from xs)

-- What follows the first byte; p reads a part.
abbrev pub parse_value_as : (List ℕ → Option Value) → ValueKind → List ℕ → Option Value
parse_value_as p (bool_kind b) l = finish (boolean b) l
parse_value_as p long_kind l = do
  _ ← guard (eqb (length l) 8)
  some (number l)
parse_value_as p string_kind l = do
  (n, s) ← word l
  _ ← guard (eqb (length s) n)
  some (text s)
parse_value_as p uid_kind l = do
  (k, l₁) ← word l
  (i, l₂) ← word l₁
  finish (uid k i) l₂
parse_value_as p set_kind l = do
  vs ← parse_values p l
  some (set_of vs)
parse_value_as p record_kind l = do
  ps ← parse_pairs p l
  some (record_of ps)
parse_value_as p call_kind l = do
  (f, l₁) ← word l
  vs ← parse_values p l₁
  some (call f vs)
parse_value_as p no_kind l = none

-- The value of a form of at most so many levels.
unfoldable pub parse_value : ℕ → List ℕ → Option Value
parse_value zero b = none
parse_value (suc l) [] = none
parse_value (suc l) (k ∷ b) = parse_value_as (parse_value l) (value_kind k) b
