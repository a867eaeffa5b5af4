-- The type form: `enc` writes a type as bytes, `parse` reads one back within a number of levels.
use Rattle.std.specs.Prelude.{ℕ, zero, suc, List, [], ◌∷◌, ◌++◌, Bool, leb, length, get_or}
use Rattle.std.proofs.Math.Option.{Option, none, some}
use Rattle.cedar.specs.Bytes.{u16, flag, guard, word, bit, finish, enc_names, parse_names, ◌>>=◌}
use Rattle.cedar.specs.Table.{parse_counted, ascending}
use Rattle.cedar.specs.Types.{Atom, never, true', false', bool, long, string, anyset, anyent, Ty, atom, set, rec, act, ent, ext, Attrs, nil, attr}

-- What the first byte of a type form says.
pub data Kind : Type 0 where
  one : Atom → Kind
  set_kind rec_kind ent_kind act_kind ext_kind no_kind : Kind

-- The kind of a first byte: the kinds in the order of their numbers, 0 to 12.
abbrev pub kind_of : ℕ → Kind
kind_of k =
    get_or
    (one never ∷ one true' ∷ one false' ∷ one bool ∷ one long ∷ one string ∷ one anyset ∷ set_kind ∷ rec_kind ∷ one anyent ∷ ent_kind ∷ act_kind ∷ ext_kind ∷ [])
    k no_kind

-- The kind number of a set.
abbrev pub set_code : ℕ
set_code = 7

-- Of a record.
abbrev pub record_code : ℕ
record_code = 8

-- Of an entity.
abbrev pub entity_code : ℕ
entity_code = 10

-- Of an action.
abbrev pub action_code : ℕ
action_code = 11

-- Of an extension.
abbrev pub extension_code : ℕ
extension_code = 12

-- Of an atom.
abbrev pub atom_code : Atom → ℕ
atom_code never = 0
atom_code true' = 1
atom_code false' = 2
atom_code bool = 3
atom_code long = 4
atom_code string = 5
atom_code anyset = 6
atom_code anyent = 9

-- How many attributes.
abbrev pub count : Attrs → ℕ
count nil = 0
count (attr n r t xs) = suc (count xs)

unfoldable mutual
  -- The bytes of a type.
  pub enc : Ty → List ℕ
  enc (atom k) = atom_code k ∷ []
  enc (set t) = set_code ∷ enc t
  enc (rec o xs) = record_code ∷ flag o ∷ u16 (count xs) ++ (entries xs ++ bodies xs)
  enc (ent ns) = entity_code ∷ u16 (length ns) ++ enc_names ns
  enc (act n xs) = action_code ∷ u16 n ++ (u16 (count xs) ++ (entries xs ++ bodies xs))
  enc (ext n) = extension_code ∷ u16 n

  -- The entries: name, required byte, length of the body.
  pub entries : Attrs → List ℕ
  entries nil = []
  entries (attr n r t xs) = u16 n ++ (flag r ∷ u16 (length (enc t)) ++ entries xs)

  -- The bodies, in the order of the entries.
  pub bodies : Attrs → List ℕ
  bodies nil = []
  bodies (attr n r t xs) = enc t ++ bodies xs

-- An attribute's entry: name and required byte, then the length of the body.
abbrev pub read_attr : List ℕ → Option ((ℕ × Bool) × ℕ × List ℕ)
read_attr b = do
  (n, b₁) ← word b
  (r, b₂) ← bit b₁
  (l, b₃) ← word b₂
  some ((n, r), l, b₃)

-- The bytes of an attribute's entry: name, required byte, length of the body.
abbrev pub entry_width : ℕ
entry_width = 5

-- Attributes ascend by name.
abbrev pub ascending_attr : ℕ → ℕ × Bool → Option ℕ
ascending_attr low h = ascending low h.0

-- The attribute list of a table.
abbrev pub attrs_of : List ((ℕ × Bool) × Ty) → Attrs
attrs_of [] = nil
attrs_of (x ∷ xs) = attr x.0.0 x.0.1 x.1 (attrs_of xs)

-- A count, so many entries, and their bodies; p reads a body.
abbrev pub parse_attrs : (List ℕ → Option Ty) → List ℕ → Option Attrs
parse_attrs p b = do
  xs ← parse_counted read_attr ascending_attr (λ h. p) entry_width 0 b
  some (attrs_of xs)

-- What follows the first byte; p reads a part.
abbrev pub parse_as : (List ℕ → Option Ty) → Kind → List ℕ → Option Ty
parse_as p (one k) b = finish (atom k) b
parse_as p set_kind b = do
  t ← p b
  some (set t)
parse_as p rec_kind b = do
  (o, b₁) ← bit b
  xs ← parse_attrs p b₁
  some (rec o xs)
parse_as p ent_kind b = do
  (c, b₁) ← word b
  _ ← guard (leb 1 c)
  ns ← parse_names c 0 b₁
  some (ent ns)
parse_as p act_kind b = do
  (n, b₁) ← word b
  xs ← parse_attrs p b₁
  some (act n xs)
parse_as p ext_kind b = do
  (n, b₁) ← word b
  finish (ext n) b₁
parse_as p no_kind b = none

-- The type of a form of at most so many levels.
unfoldable pub parse : ℕ → List ℕ → Option Ty
parse zero b = none
parse (suc l) [] = none
parse (suc l) (k ∷ b) = parse_as (parse l) (kind_of k) b
