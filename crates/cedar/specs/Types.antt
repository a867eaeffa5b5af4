-- The subject: Cedar types, values and schemas as trees. Their byte forms are in TypeForm, ValueForm and SchemaForm.
use Rattle.std.specs.Prelude.{ℕ, ◌%◌, List, [], ◌∷◌, Bool, true, false, not, ◌&&◌, ◌||◌, cond, eqb}
use Rattle.std.proofs.Math.Option.{Option, none, some}

-- `ValidationMode`, 01 part 1: strict or permissive; and loose, which the Rust lacks: as permissive but for sets.
pub data Mode : Type 0 where
  strict permissive loose : Mode

-- Every rule reads the mode through this test and the next.
abbrev pub is_permissive : Mode → Bool
is_permissive strict = false
is_permissive permissive = true
is_permissive loose = true

-- Sets alone ask this one.
abbrev pub is_loose : Mode → Bool
is_loose strict = false
is_loose permissive = false
is_loose loose = true

-- The kinds of type without parts. `anyset` is the untyped set, `anyent` any entity.
pub data Atom : Type 0 where
  never true' false' bool long string anyset anyent : Atom
  deriving Discrete as Atom-discrete

mutual
  -- `Type`: an atom, a set of a type, a record (open?), an action (its entity type), an entity (its types), an extension.
  pub data Ty : Type 0 where
    atom : Atom → Ty
    set : Ty → Ty
    rec : Bool → Attrs → Ty
    act : ℕ → Attrs → Ty
    ent : List ℕ → Ty
    ext : ℕ → Ty

  -- `Attributes`, by ascending name: name, required?, type.
  pub data Attrs : Type 0 where
    nil : Attrs
    attr : ℕ → Bool → Ty → Attrs → Attrs

mutual
  -- A value: a Boolean, a Long (its 8 bytes), a string (its bytes), a uid (type, id), a set, a record, a function call.
  pub data Value : Type 0 where
    boolean : Bool → Value
    number : List ℕ → Value
    text : List ℕ → Value
    uid : ℕ → ℕ → Value
    set_of : Values → Value
    record_of : Pairs → Value
    call : ℕ → Values → Value

  -- The members of a set, the arguments of a call.
  pub data Values : Type 0 where
    end : Values
    value : Value → Values → Values

  -- The pairs of a record, by ascending name.
  pub data Pairs : Type 0 where
    empty : Pairs
    pair : ℕ → Value → Pairs → Pairs

-- What a function's argument is: a Boolean, a Long, a string, or a value of an extension.
pub data Arg : Type 0 where
  arg_bool arg_long arg_string : Arg
  arg_ext : ℕ → Arg

-- `ValidatorEntityType`: name, enumerated?, and the record of its body.
pub record Entity : Type 0 where
  pub name : ℕ
  pub enumerated : Bool
  pub is_open : Bool
  pub attrs : Attrs

-- `ValidatorActionId`: its uid and the attributes of its body.
pub record Action : Type 0 where
  pub type : ℕ
  pub id : ℕ
  pub attrs : Attrs

-- An extension function: its name, the extension that it returns, if any, and its arguments.
pub record Function : Type 0 where
  pub name : ℕ
  pub returns : Option ℕ
  pub args : List Arg

-- `ValidatorSchema`.
pub record Schema : Type 0 where
  pub entities : List Entity
  pub actions : List Action
  pub functions : List Function

-- Odd entity type numbers are action types (`is_action`).
abbrev pub is_action : ℕ → Bool
is_action k = eqb (k % 2) 1

-- What is there put to use, or what stands in for it.
abbrev pub maybe : {A B : Type 0} → B → (A → B) → Option A → B
maybe b f none = b
maybe b f (some a) = f a

-- Is it there?
abbrev pub present : {A : Type 0} → Option A → Bool
present o = maybe false (λ a. true) o

-- A decision as a test.
abbrev pub does : {A : Type 0} → Dec A → Bool
does (yes a) = true
does (no n) = false

-- Equality of two atoms.
abbrev pub is : Atom → Atom → Bool
is j k = does (Atom-discrete j k)

-- Equality of two flags.
abbrev pub eq_flag : Bool → Bool → Bool
eq_flag true true = true
eq_flag true false = false
eq_flag false true = false
eq_flag false false = true

-- Equality of two lists of names.
abbrev pub eq_names : List ℕ → List ℕ → Bool
eq_names [] [] = true
eq_names [] (k ∷ ks) = false
eq_names (n ∷ ns) [] = false
eq_names (n ∷ ns) (k ∷ ks) = eqb n k && eq_names ns ks

-- Does a name stand in a list of names?
abbrev pub mem : ℕ → List ℕ → Bool
mem n [] = false
mem n (k ∷ ks) = eqb n k || mem n ks

-- The names of an attribute list.
abbrev pub names : Attrs → List ℕ
names nil = []
names (attr n r t xs) = n ∷ names xs

-- `Attributes::get_attr`: the attribute of a name, its flag and its type.
abbrev pub find : ℕ → Attrs → Option (Bool × Ty)
find n nil = none
find n (attr k r t xs) = cond (eqb n k) (some (r, t)) (find n xs)

-- Is the type Never?
abbrev pub is_never : Ty → Bool
is_never (atom k) = is k never
is_never (set t) = false
is_never (rec o xs) = false
is_never (act n xs) = false
is_never (ent ns) = false
is_never (ext n) = false

-- The atom, if the type is one.
abbrev pub as_atom : Ty → Option Atom
as_atom (atom k) = some k
as_atom (set t) = none
as_atom (rec o xs) = none
as_atom (act n xs) = none
as_atom (ent ns) = none
as_atom (ext n) = none

-- The element of a typed set.
abbrev pub as_set : Ty → Option Ty
as_set (atom k) = none
as_set (set t) = some t
as_set (rec o xs) = none
as_set (act n xs) = none
as_set (ent ns) = none
as_set (ext n) = none

-- A record: open?, attributes.
abbrev pub as_rec : Ty → Option (Bool × Attrs)
as_rec (atom k) = none
as_rec (set t) = none
as_rec (rec o xs) = some (o, xs)
as_rec (act n xs) = none
as_rec (ent ns) = none
as_rec (ext n) = none

-- An action: entity type, attributes.
abbrev pub as_act : Ty → Option (ℕ × Attrs)
as_act (atom k) = none
as_act (set t) = none
as_act (rec o xs) = none
as_act (act n xs) = some (n, xs)
as_act (ent ns) = none
as_act (ext n) = none

-- An entity: its types.
abbrev pub as_ent : Ty → Option (List ℕ)
as_ent (atom k) = none
as_ent (set t) = none
as_ent (rec o xs) = none
as_ent (act n xs) = none
as_ent (ent ns) = some ns
as_ent (ext n) = none

-- An extension: its name.
abbrev pub as_ext : Ty → Option ℕ
as_ext (atom k) = none
as_ext (set t) = none
as_ext (rec o xs) = none
as_ext (act n xs) = none
as_ext (ent ns) = none
as_ext (ext n) = some n

-- Kinds 9, 10 and 11.
abbrev pub is_entity : Ty → Bool
is_entity (atom k) = is k anyent
is_entity (set t) = false
is_entity (rec o xs) = false
is_entity (act n xs) = true
is_entity (ent ns) = true
is_entity (ext n) = false

-- Kind 8.
abbrev pub is_record : Ty → Bool
is_record t = present (as_rec t)

-- The first attribute and the rest.
abbrev pub first : Attrs → Option ((ℕ × Bool) × Ty × Attrs)
first nil = none
first (attr n r t xs) = some ((n, r), t, xs)

unfoldable mutual
  -- Equality of two types.
  pub same : Ty → Ty → Bool
  same (atom k) b = maybe false (λ j. is k j) (as_atom b)
  same (set t) b = maybe false (λ u. same t u) (as_set b)
  same (rec o xs) b = maybe false (λ y. eq_flag o y.0 && same_attrs xs y.1) (as_rec b)
  same (act n xs) b = maybe false (λ y. eqb n y.0 && same_attrs xs y.1) (as_act b)
  same (ent ns) b = maybe false (λ ks. eq_names ns ks) (as_ent b)
  same (ext n) b = maybe false (λ k. eqb n k) (as_ext b)

  -- Equality of two attribute lists.
  pub same_attrs : Attrs → Attrs → Bool
  same_attrs nil ys = not (present (first ys))
  same_attrs (attr n r t xs) ys = maybe false (λ y. eqb n y.0.0 && (eq_flag r y.0.1 && (same t y.1 && same_attrs xs y.2))) (first ys)
