-- What forms have in common with trees: their names are in order, within a number of levels.
use Rattle.std.specs.Prelude.{ℕ, suc, ◌≤◌, List, [], ◌∷◌, ◌≡◌, length}
use Rattle.cedar.specs.Types.{Ty, atom, set, rec, act, ent, ext, Attrs, nil, attr}
use Rattle.cedar.specs.Types.{Value, boolean, number, text, uid, set_of, record_of, call, Values, end, value, Pairs, empty, pair}
use Rattle.cedar.specs.Levels.{depth, depth_value}

-- Names ascend strictly, from `low` on.
abbrev pub Ascend : ℕ → List ℕ → Type 0
Ascend low [] = Unit {0}
Ascend low (n ∷ ns) = (low ≤ n) × Ascend (suc n) ns

unfoldable mutual
  -- Names ascend throughout a type, and an entity has a name.
  pub Ordered : Ty → Type 0
  Ordered (atom k) = Unit {0}
  Ordered (set t) = Ordered t
  Ordered (rec o xs) = OrderedFrom 0 xs
  Ordered (act n xs) = OrderedFrom 0 xs
  Ordered (ent ns) = (1 ≤ length ns) × Ascend 0 ns
  Ordered (ext n) = Unit {0}

  -- The names of an attribute list ascend from `low` on.
  pub OrderedFrom : ℕ → Attrs → Type 0
  OrderedFrom low nil = Unit {0}
  OrderedFrom low (attr n r t xs) = (low ≤ n) × Ordered t × OrderedFrom (suc n) xs

-- A type in order, of at most so many levels.
abbrev pub WF : ℕ → Ty → Type 0
WF l t = (depth t ≤ l) × Ordered t

unfoldable mutual
  -- Names ascend throughout a value, and a Long has 8 bytes.
  pub OrderedValue : Value → Type 0
  OrderedValue (boolean b) = Unit {0}
  OrderedValue (number l) = length l ≡ 8
  OrderedValue (text l) = Unit {0}
  OrderedValue (uid k i) = Unit {0}
  OrderedValue (set_of vs) = OrderedValues vs
  OrderedValue (record_of ps) = OrderedPairs 0 ps
  OrderedValue (call f vs) = OrderedValues vs

  -- Each member or argument is in order.
  pub OrderedValues : Values → Type 0
  OrderedValues end = Unit {0}
  OrderedValues (value v vs) = OrderedValue v × OrderedValues vs

  -- The names of pairs ascend from `low` on.
  pub OrderedPairs : ℕ → Pairs → Type 0
  OrderedPairs low empty = Unit {0}
  OrderedPairs low (pair n v ps) = (low ≤ n) × OrderedValue v × OrderedPairs (suc n) ps

-- A value in order, of at most so many levels.
abbrev pub WFValue : ℕ → Value → Type 0
WFValue l v = (depth_value v ≤ l) × OrderedValue v
