-- Part 8, `TryFrom<Type>` into `CoreSchemaType`, written as a plain form.
use Rattle.std.specs.Prelude.{[], ◌∷◌, cond, eqb, length}
use Rattle.std.proofs.Math.Option.{Option, none, some}
use Rattle.cedar.specs.Types.{Atom, never, true', false', bool, long, string, anyset, anyent, Ty, atom, set, rec, act, ent, ext, Attrs, nil, attr}
use Rattle.cedar.specs.Bytes.{◌>>=◌}

-- Never and any entity cannot be expressed; True and False become Bool.
abbrev pub convert_atom : Atom → Option Ty
convert_atom never = none
convert_atom true' = some (atom bool)
convert_atom false' = some (atom bool)
convert_atom bool = some (atom bool)
convert_atom long = some (atom long)
convert_atom string = some (atom string)
convert_atom anyset = some (atom anyset)
convert_atom anyent = none

unfoldable mutual
  -- The core type; an action becomes an entity of its name, its attributes not looked at; several names cannot be expressed.
  pub convert : Ty → Option Ty
  convert (atom k) = convert_atom k
  convert (set t) = convert t >>= λ c. some (set c)
  convert (rec o xs) = convert_attrs xs >>= λ cs. some (rec o cs)
  convert (act n xs) = some (ent (n ∷ []))
  convert (ent ns) = cond (eqb (length ns) 1) (some (ent ns)) none
  convert (ext n) = some (ext n)

  -- Each attribute's core type.
  pub convert_attrs : Attrs → Option Attrs
  convert_attrs nil = some nil
  convert_attrs (attr n r t xs) = convert t >>= λ c. (convert_attrs xs >>= λ cs. some (attr n r c cs))
