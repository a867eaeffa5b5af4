-- Demand 3, its words and its claim, on bytes: the list of types that bound calls make and what each was made from; what lookup
-- tells; what a value carries; what it keeps; then the claim, which `run-keeps` in Laws/Sequence.antt proves.
use Rattle.std.specs.Prelude.{ℕ, zero, suc, List, [], ◌∷◌, ◌++◌, Bool, true, false, not, cond, ◌≡◌, ◌⊎◌, T, eqb, length, get_or}
use Rattle.std.proofs.Math.Option.{Option, none, some}
use Rattle.cedar.specs.Types.{Ty, Value, uid, Pairs, empty, pair, Entity, Schema, maybe, present, mem}
use Rattle.cedar.specs.Bytes.{◌>>=◌, Bytes}
use Rattle.cedar.specs.TypeForm.{action_code, enc}
use Rattle.cedar.specs.ValueForm.{enc_value}
use Rattle.cedar.specs.SchemaForm.{enc_body}
use Rattle.cedar.specs.Limits.{Limits}
use Rattle.cedar.specs.Whole.{whole_schema, whole_value}
use Rattle.cedar.specs.Attribute.{entity_of}
use Rattle.cedar.specs.Conformance.{Counts, pairs}
use Rattle.cedar.specs.Conforms.{Conforms}
use Rattle.cedar.specs.Outcome.{Outcome, refused, said, nothing, measured, typed, attribute, named}
use Rattle.cedar.specs.Calls.{disjoint_call, bound_call, lookup_call, own_attribute_call, may_have_call}

-- A type on the list: its bytes, and the positions of all that it was made from.
pub record Listed : Type 0 where
  pub form : List ℕ
  pub made_from : List ℕ

-- What stands at a position, if the list reaches so far.
abbrev pub standing : List Listed → ℕ → Option Listed
standing [] i = none
standing (x ∷ xs) zero = some x
standing (x ∷ xs) (suc i) = standing xs i

-- Each type given is any bytes.
abbrev pub EachBytes : List (List ℕ) → Type 0
EachBytes [] = Unit {0}
EachBytes (t ∷ ts) = Bytes t × EachBytes ts

-- The types given, from position i on: each is made from itself.
abbrev pub given_from : ℕ → List (List ℕ) → List Listed
given_from i [] = []
given_from i (t ∷ ts) = record { form = t; made_from = i ∷ [] } ∷ given_from (suc i) ts

-- A bound call: any mode number, any room, and the positions of its two types, or of one twice.
pub record Step : Type 0 where
  pub mode : ℕ
  pub room : ℕ
  pub left : ℕ
  pub right : ℕ

-- The bytes of the type that a call answers with, if it does.
abbrev pub written : Outcome → Option (List ℕ)
written (refused n) = none
written (said b) = none
written nothing = none
written (measured n l) = none
written (typed t) = some (enc t)
written (attribute r t) = none
written (named ns) = none

-- The list after a call on x and y: the caller copies the bytes of its answer to the end, made from itself and from all that the two
-- were made from; a refused call adds nothing.
abbrev pub copied : List Listed → Listed → Listed → Option (List ℕ) → List Listed
copied xs x y none = xs
copied xs x y (some w) = xs ++ (record { form = w; made_from = length xs ∷ (x.made_from ++ y.made_from) } ∷ [])

-- The list after a step; a position that is not there adds nothing.
abbrev pub after_step : Limits → List ℕ → List Listed → Step → List Listed
after_step lim schema xs c =
    maybe xs (λ x. maybe xs (λ y. copied xs x y (written (bound_call lim c.mode schema x.form y.form c.room))) (standing xs c.right))
    (standing xs c.left)

-- The list after some steps.
abbrev pub after_steps : Limits → List ℕ → List Listed → List Step → List Listed
after_steps lim schema xs [] = xs
after_steps lim schema xs (c ∷ cs) = after_steps lim schema (after_step lim schema xs c) cs

-- A run: the list that begins with the types given, after the steps, all under one schema.
abbrev pub run : Limits → List ℕ → List (List ℕ) → List Step → List Listed
run lim schema given cs = after_steps lim schema (given_from 0 given) cs

-- Either entry of lookup finds the attribute a of the type t: required or not, of the type u.
abbrev pub LooksUp : Limits → List ℕ → ℕ → List ℕ → Bool → Ty → Type 0
LooksUp lim schema a t r u =
    ((room : ℕ) × (work : ℕ) × (lookup_call lim schema a t room work ≡ attribute r u)) ⊎ (own_attribute_call lim schema a t ≡ attribute r u)

-- The value of a name among pairs.
abbrev pub pair_of : ℕ → Pairs → Option Value
pair_of a empty = none
pair_of a (pair n v ps) = cond (eqb a n) (some v) (pair_of a ps)

-- The pairs of a whole record value.
abbrev pub record_pairs : Limits → List ℕ → Option Pairs
record_pairs lim w = whole_value lim w >>= pairs

-- The attribute a of a record value, as bytes.
abbrev pub attribute_of : Limits → ℕ → List ℕ → Option (List ℕ)
attribute_of lim a w = do
  ps ← record_pairs lim w
  x ← pair_of a ps
  some (enc_value x)

-- A whole record value.
abbrev pub IsRecord : Limits → List ℕ → Type 0
IsRecord lim w = T (present (record_pairs lim w))

-- The value v carries the pairs of the record value w: its own, if it is a record; if it is a uid, those of any that conforms to
-- the body of its type's entity entry, or of any at all where there is no such entry.
pub data Carries (lim : Limits) (c : Counts) (schema v : List ℕ) : List ℕ → Type 0 where
  itself : IsRecord lim v → Carries lim c schema v v
  of_entry : {w : List ℕ} (s : Schema) (k i : ℕ) (e : Entity) → whole_schema lim schema ≡ some s → whole_value lim v ≡ some (uid k i)
      → entity_of s k ≡ some e → Conforms lim c schema (enc_body (e.is_open, e.attrs)) w → Carries lim c schema v w
  of_missing : {w : List ℕ} (s : Schema) (k i : ℕ) → whole_schema lim schema ≡ some s → whole_value lim v ≡ some (uid k i)
      → entity_of s k ≡ none → IsRecord lim w → Carries lim c schema v w

-- A type of kind 11.
abbrev pub is_action_form : List ℕ → Bool
is_action_form t = eqb (get_or t 0 0) action_code

-- What holds of the value v and the type t, all bytes.
pub record Kept (lim : Limits) (c : Counts) (schema t v : List ℕ) : Type 0 where
  -- The value conforms to the type.
  pub conforming : Conforms lim c schema t v
  -- It conforms to no type that disjoint finds disjoint from t, t given first or second.
  pub not_disjoint : (u : List ℕ) → (disjoint_call lim t u ≡ said true) ⊎ (disjoint_call lim u t ≡ said true) → Conforms lim c schema u v → ⊥
  -- Unless t is of kind 11, of each record value w whose pairs v carries: what lookup calls required is there,
  pub required : T (not (is_action_form t)) → (w : List ℕ) → Carries lim c schema v w
      → (a : ℕ) (y : Ty) → LooksUp lim schema a t true y → T (present (attribute_of lim a w))
  -- what is there conforms to the type looked up,
  pub typed_as : T (not (is_action_form t)) → (w : List ℕ) → Bytes w → Carries lim c schema v w
      → (a : ℕ) (r : Bool) (y : Ty) → LooksUp lim schema a t r y → (x : List ℕ) → attribute_of lim a w ≡ some x → Conforms lim c schema (enc y) x
  -- and what may-have denies is not there.
  pub denied : T (not (is_action_form t)) → (w : List ℕ) → Carries lim c schema v w
      → (a : ℕ) → may_have_call lim schema a t ≡ said false → attribute_of lim a w ≡ none

-- The claim: under one schema, any bytes, in every run from types given, any bytes, a value that conforms to a listed type keeps
-- what is said of it for every listed type that was made from that one. 01's limits are `standard`, its count of arguments `shorter`;
-- full conformance is by `exact`.
abbrev pub RunKeeps : Limits → Type 0
RunKeeps lim = (c : Counts) (schema : List ℕ) (given : List (List ℕ)) (steps : List Step) → Bytes schema → EachBytes given
    → (i j : ℕ) (x y : Listed) → standing (run lim schema given steps) i ≡ some x → standing (run lim schema given steps) j ≡ some y
    → T (mem i y.made_from) → (v : List ℕ) → Conforms lim c schema x.form v → Kept lim c schema y.form v
