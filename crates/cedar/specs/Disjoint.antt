-- Part 3, `Type::are_types_disjoint`.
use Rattle.std.specs.Prelude.{ℕ, List, [], ◌∷◌, Bool, false, not, ◌||◌}
use Rattle.std.proofs.Math.Option.{Option, none, some}
use Rattle.cedar.specs.Types.{Ty, atom, set, rec, act, ent, ext, maybe, mem}

-- `as_entity_lub`: kind 10 is its names, kind 11 its one name.
abbrev pub type_names : Ty → Option (List ℕ)
type_names (atom k) = none
type_names (set t) = none
type_names (rec o xs) = none
type_names (act n xs) = some (n ∷ [])
type_names (ent ns) = some ns
type_names (ext n) = none

-- Is a name in both lists?
abbrev pub shares : List ℕ → List ℕ → Bool
shares [] ks = false
shares (n ∷ ns) ks = mem n ks || shares ns ks

-- Yes when both have names and none is shared; all else no.
abbrev pub disjoint : Ty → Ty → Bool
disjoint a b = maybe false (λ ns. maybe false (λ ks. not (shares ns ks)) (type_names b)) (type_names a)
