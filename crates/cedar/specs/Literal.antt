-- Part 2, `Type::euid_literal`: the type of a uid.
use Rattle.std.specs.Prelude.{ℕ, List, [], ◌∷◌, ◌&&◌, cond, eqb}
use Rattle.std.proofs.Math.Option.{Option, none, some}
use Rattle.cedar.specs.Types.{Ty, act, ent, Action, Schema, is_action, maybe}
use Rattle.cedar.specs.Attribute.{entity_of}

-- The action entry of a uid, in a list of entries.
abbrev pub action_in : List Action → ℕ → ℕ → Option Action
action_in [] k i = none
action_in (a ∷ xs) k i = cond (eqb k a.type && eqb i a.id) (some a) (action_in xs k i)

-- `get_action_id`.
abbrev pub action_of : Schema → ℕ → ℕ → Option Action
action_of s k i = action_in s.actions k i

-- An action uid: kind 11 with its attributes. Another: kind 10 with its one name. Absent from the schema: none.
abbrev pub literal : Schema → ℕ → ℕ → Option Ty
literal s k i = cond (is_action k) (maybe none (λ a. some (act k a.attrs)) (action_of s k i)) (maybe none (λ e. some (ent (k ∷ []))) (entity_of s k))
