-- How many levels a type or a value has: a lone form is level 1, each part one below its holder.
use Rattle.std.specs.Prelude.{ℕ, suc, max, List, [], ◌∷◌}
use Rattle.cedar.specs.Types.{Ty, atom, set, rec, act, ent, ext, Attrs, nil, attr}
use Rattle.cedar.specs.Types.{Value, boolean, number, text, uid, set_of, record_of, call, Values, end, value, Pairs, empty, pair}

unfoldable mutual
  -- The levels of a type.
  pub depth : Ty → ℕ
  depth (atom k) = 1
  depth (set t) = suc (depth t)
  depth (rec o xs) = suc (depths xs)
  depth (act n xs) = suc (depths xs)
  depth (ent ns) = 1
  depth (ext n) = 1

  -- The levels of the deepest attribute.
  pub depths : Attrs → ℕ
  depths nil = 0
  depths (attr n r t xs) = max (depth t) (depths xs)

unfoldable mutual
  -- The levels of a value.
  pub depth_value : Value → ℕ
  depth_value (boolean b) = 1
  depth_value (number l) = 1
  depth_value (text l) = 1
  depth_value (uid k i) = 1
  depth_value (set_of vs) = suc (depth_values vs)
  depth_value (record_of ps) = suc (depth_pairs ps)
  depth_value (call f vs) = suc (depth_values vs)

  -- The levels of the deepest member or argument.
  pub depth_values : Values → ℕ
  depth_values end = 0
  depth_values (value v vs) = max (depth_value v) (depth_values vs)

  -- The levels of the deepest pair.
  pub depth_pairs : Pairs → ℕ
  depth_pairs empty = 0
  depth_pairs (pair n v ps) = max (depth_value v) (depth_pairs ps)

-- The levels of the deepest of some types.
abbrev pub deepest : List Ty → ℕ
deepest [] = 0
deepest (t ∷ ts) = max (depth t) (deepest ts)
