-- Part 9, `Type::typecheck_restricted_expr`: does a value have a type?
use Rattle.std.specs.Prelude.{ℕ, List, [], ◌∷◌, Bool, true, false, not, ◌&&◌, ◌||◌, cond, eqb}
use Rattle.std.proofs.Math.Option.{Option, none, some}
use Rattle.cedar.specs.Types.{Atom, never, true', false', bool, long, string, anyset, anyent, Ty, atom, set, rec, act, ent, ext, Attrs, nil, attr}
use Rattle.cedar.specs.Types.{Value, boolean, number, text, uid, set_of, record_of, call, Values, end, value, Pairs, empty, pair, Arg, arg_bool, arg_long}
use Rattle.cedar.specs.Types.{arg_string, arg_ext, Function, Schema}
use Rattle.cedar.specs.Types.{is_action, maybe, present, mem}

-- Yes; no; no, after an unknown function inside an argument; or an unknown function that the walk reaches (7).
pub data Verdict : Type 0 where
  holds fails fails_inside unknown : Verdict

-- A test as a verdict.
abbrev pub verdict : Bool → Verdict
verdict true = holds
verdict false = fails

-- A walk goes on only after a yes.
abbrev pub and_then : Verdict → Verdict → Verdict
and_then holds v = v
and_then fails v = fails
and_then fails_inside v = fails_inside
and_then unknown v = unknown

-- `as_bool`.
abbrev pub as_bool : Value → Option Bool
as_bool (boolean b) = some b
as_bool (number l) = none
as_bool (text l) = none
as_bool (uid k i) = none
as_bool (set_of vs) = none
as_bool (record_of ps) = none
as_bool (call f vs) = none

-- `as_long` gives one.
abbrev pub is_long : Value → Bool
is_long (boolean b) = false
is_long (number l) = true
is_long (text l) = false
is_long (uid k i) = false
is_long (set_of vs) = false
is_long (record_of ps) = false
is_long (call f vs) = false

-- `as_string` gives one.
abbrev pub is_string : Value → Bool
is_string (boolean b) = false
is_string (number l) = false
is_string (text l) = true
is_string (uid k i) = false
is_string (set_of vs) = false
is_string (record_of ps) = false
is_string (call f vs) = false

-- `as_euid`: the type and id of a uid.
abbrev pub as_uid : Value → Option (ℕ × ℕ)
as_uid (boolean b) = none
as_uid (number l) = none
as_uid (text l) = none
as_uid (uid k i) = some (k, i)
as_uid (set_of vs) = none
as_uid (record_of ps) = none
as_uid (call f vs) = none

-- The entity type of a uid.
abbrev pub uid_type : Value → Option ℕ
uid_type v = maybe none (λ u. some u.0) (as_uid v)

-- `as_set_elements`.
abbrev pub members : Value → Option Values
members (boolean b) = none
members (number l) = none
members (text l) = none
members (uid k i) = none
members (set_of vs) = some vs
members (record_of ps) = none
members (call f vs) = none

-- `as_record_pairs`.
abbrev pub pairs : Value → Option Pairs
pairs (boolean b) = none
pairs (number l) = none
pairs (text l) = none
pairs (uid k i) = none
pairs (set_of vs) = none
pairs (record_of ps) = some ps
pairs (call f vs) = none

-- `as_extn_fn_call`: the function and its arguments.
abbrev pub as_call : Value → Option (ℕ × Values)
as_call (boolean b) = none
as_call (number l) = none
as_call (text l) = none
as_call (uid k i) = none
as_call (set_of vs) = none
as_call (record_of ps) = none
as_call (call f vs) = some (f, vs)

-- A value of an atom.
abbrev pub of_atom : Atom → Value → Bool
of_atom never v = false
of_atom true' v = maybe false (λ b. b) (as_bool v)
of_atom false' v = maybe false not (as_bool v)
of_atom bool v = present (as_bool v)
of_atom long v = is_long v
of_atom string v = is_string v
of_atom anyset v = present (members v)
of_atom anyent v = present (uid_type v)

-- The function entry of a name, in a list of entries.
abbrev pub function_in : List Function → ℕ → Option Function
function_in [] n = none
function_in (f ∷ fs) n = cond (eqb n f.name) (some f) (function_in fs n)

-- `Extensions::func`: the schema stands for the extensions.
abbrev pub function_of : Schema → ℕ → Option Function
function_of s n = function_in s.functions n

-- A function returns the extension e.
abbrev pub returns_ext : Function → ℕ → Bool
returns_ext f e = maybe false (eqb e) f.returns

-- An argument that is no call, by its kind of value.
abbrev pub is_arg : Arg → Value → Bool
is_arg arg_bool v = present (as_bool v)
is_arg arg_long v = is_long v
is_arg arg_string v = is_string v
is_arg (arg_ext e) v = false

-- The extension that an argument asks for.
abbrev pub arg_extension : Arg → Option ℕ
arg_extension arg_bool = none
arg_extension arg_long = none
arg_extension arg_string = none
arg_extension (arg_ext e) = some e

-- How many arguments a call may have: any number, both lists being walked to the shorter end, or exactly as many as its function
-- declares.
pub data Counts : Type 0 where
  shorter exact : Counts

-- One list has ended and the other has not.
abbrev pub left_over : Counts → Verdict
left_over shorter = holds
left_over exact = fails

unfoldable mutual
  -- `typecheck_restricted_expr_against_schematype`, the stand-in of 01: the kind of value for 1 to 3; for 4, a call of a known
  -- function that returns the extension and whose arguments fit by this rule; an unknown function is a no.
  pub of_argument : Counts → Schema → Value → Arg → Verdict
  of_argument c s (boolean b) a = verdict (is_arg a (boolean b))
  of_argument c s (number l) a = verdict (is_arg a (number l))
  of_argument c s (text l) a = verdict (is_arg a (text l))
  of_argument c s (uid k i) a = fails
  of_argument c s (set_of vs) a = fails
  of_argument c s (record_of ps) a = fails
  of_argument c s (call f vs) a =
      maybe fails (λ e. maybe fails_inside (λ g. and_then (verdict (returns_ext g e)) (of_arguments c s vs g.args)) (function_of s f)) (arg_extension a)

  -- Arguments pairwise.
  pub of_arguments : Counts → Schema → Values → List Arg → Verdict
  of_arguments c s end [] = holds
  of_arguments c s end (a ∷ ks) = left_over c
  of_arguments c s (value v vs) [] = left_over c
  of_arguments c s (value v vs) (a ∷ ks) = and_then (of_argument c s v a) (of_arguments c s vs ks)

-- Each member, in order.
abbrev pub each_value : (Value → Verdict) → Values → Verdict
each_value f end = holds
each_value f (value v vs) = and_then (f v) (each_value f vs)

-- Each pair, by ascending name.
abbrev pub each_pair : (ℕ → Value → Verdict) → Pairs → Verdict
each_pair f empty = holds
each_pair f (pair n v ps) = and_then (f n v) (each_pair f ps)

-- Does a name stand among the pairs?
abbrev pub has_name : ℕ → Pairs → Bool
has_name n empty = false
has_name n (pair k v ps) = eqb n k || has_name n ps

-- The required names are there.
abbrev pub has_required : Attrs → Pairs → Bool
has_required nil ps = true
has_required (attr n r t xs) ps = (not r || has_name n ps) && has_required xs ps

-- A call as a value of the extension e: a known function, else 7; then the returned extension; then the arguments.
abbrev pub is_extension : Counts → Schema → ℕ → ℕ × Values → Verdict
is_extension c s e x = maybe unknown (λ g. and_then (verdict (returns_ext g e)) (of_arguments c s x.1 g.args)) (function_of s x.0)

unfoldable mutual
  -- `conforms c s t v`: v is of type t under the schema s. A record: its pairs first, then the required names.
  pub conforms : Counts → Schema → Ty → Value → Verdict
  conforms c s (atom k) v = verdict (of_atom k v)
  conforms c s (set t) v = maybe fails (each_value (λ x. conforms c s t x)) (members v)
  conforms c s (rec o xs) v = maybe fails (λ ps. and_then (each_pair (λ n x. conforms_at c s o xs n x) ps) (verdict (has_required xs ps))) (pairs v)
  conforms c s (act n xs) v = verdict (maybe false (λ k. is_action k && eqb k n) (uid_type v))
  conforms c s (ent ns) v = verdict (maybe false (λ k. mem k ns) (uid_type v))
  conforms c s (ext e) v = maybe fails (is_extension c s e) (as_call v)

  -- The value x of the name n: of the name's type; where the type lacks the name, of any if the record is open.
  pub conforms_at : Counts → Schema → Bool → Attrs → ℕ → Value → Verdict
  conforms_at c s o nil n x = verdict o
  conforms_at c s o (attr k r t xs) n x = cond (eqb n k) (conforms c s t x) (conforms_at c s o xs n x)
