-- Part 7: `lookup_attribute_type`, `may_have_attr`, `all_attributes`. The schema is reached by `entity_of` alone.
use Rattle.std.specs.Prelude.{ℕ, List, [], ◌∷◌, Bool, true, false, ◌&&◌, ◌||◌, cond, eqb}
use Rattle.std.proofs.Math.Option.{Option, none, some}
use Rattle.cedar.specs.Types.{permissive, never, anyent, Ty, atom, set, rec, act, ent, ext, Entity, Schema, maybe, present, is, names, find}
use Rattle.cedar.specs.Result.{Result, ok, err, bind, step_too_long}
use Rattle.cedar.specs.Bound.{bound}

-- The entity entry of a name, in a list of entries.
abbrev pub entity_in : List Entity → ℕ → Option Entity
entity_in [] n = none
entity_in (e ∷ es) n = cond (eqb n e.name) (some e) (entity_in es n)

-- `get_entity_type`.
abbrev pub entity_of : Schema → ℕ → Option Entity
entity_of s n = entity_in s.entities n

-- An entity type's attribute and its flag; a type missing from the schema has none.
abbrev pub attr_of : Schema → ℕ → ℕ → Option (Bool × Ty)
attr_of s a n = maybe none (λ e. find a e.attrs) (entity_of s n)

-- A step's bound: a missing one drops the attribute, one that is too long is 9.
abbrev pub stepped : (Ty → Bool) → (Ty → Result (Option (Bool × Ty))) → Result Ty → Result (Option (Bool × Ty))
stepped fits k (ok c) = cond (fits c) (k c) (err step_too_long)
stepped fits k (err e) = ok none

-- The fold of an attribute over the rest of an entity's types, until absent or unbounded; required if all are.
abbrev pub fold_attr : (Ty → Bool) → Schema → ℕ → Bool × Ty → List ℕ → Result (Option (Bool × Ty))
fold_attr fits s a x [] = ok (some x)
fold_attr fits s a x (n ∷ ns) = maybe (ok none) (λ y. stepped fits (λ c. fold_attr fits s a (x.0 && y.0, c) ns) (bound permissive x.1 y.1)) (attr_of s a n)

-- The attribute of an entity's types, ascending; the first step joins the first type's with the second's.
abbrev pub lookup_names : (Ty → Bool) → Schema → ℕ → List ℕ → Result (Option (Bool × Ty))
lookup_names fits s a [] = ok none
lookup_names fits s a (n ∷ ns) = maybe (ok none) (λ x. fold_attr fits s a x ns) (attr_of s a n)

-- The attribute of a record or action, found in the type itself; other kinds have none.
abbrev pub own_attr : ℕ → Ty → Option (Bool × Ty)
own_attr a (atom k) = none
own_attr a (set t) = none
own_attr a (rec o xs) = find a xs
own_attr a (act n xs) = find a xs
own_attr a (ent ns) = none
own_attr a (ext n) = none

-- The attribute a of a type, with its required flag.
abbrev pub lookup : (Ty → Bool) → Schema → ℕ → Ty → Result (Option (Bool × Ty))
lookup fits s a (atom k) = ok none
lookup fits s a (set t) = ok none
lookup fits s a (rec o xs) = ok (find a xs)
lookup fits s a (act n xs) = ok (find a xs)
lookup fits s a (ent ns) = lookup_names fits s a ns
lookup fits s a (ext n) = ok none

-- An entity type may have the attribute: it is missing from the schema, open, or lists the name.
abbrev pub may_have_type : Schema → ℕ → ℕ → Bool
may_have_type s a n = maybe true (λ e. e.is_open || present (find a e.attrs)) (entity_of s n)

-- One of an entity's types may have it.
abbrev pub may_have_names : Schema → ℕ → List ℕ → Bool
may_have_names s a [] = false
may_have_names s a (n ∷ ns) = may_have_type s a n || may_have_names s a ns

-- Might a value of the type have the attribute?
abbrev pub may_have : Schema → ℕ → Ty → Bool
may_have s a (atom k) = is k never || is k anyent
may_have s a (set t) = false
may_have s a (rec o xs) = o || present (find a xs)
may_have s a (act n xs) = present (find a xs)
may_have s a (ent ns) = may_have_names s a ns
may_have s a (ext n) = false

-- Of some names, those whose attribute is found.
abbrev pub keep_found : (ℕ → Result (Option (Bool × Ty))) → List ℕ → Result (List ℕ)
keep_found look [] = ok []
keep_found look (a ∷ xs) = bind (look a) (λ o. bind (keep_found look xs) (λ ks. ok (cond (present o) (a ∷ ks) ks)))

-- The names of an entity: those of its first type that its other types keep.
abbrev pub entity_names : (Ty → Bool) → Schema → List ℕ → Result (List ℕ)
entity_names fits s [] = ok []
entity_names fits s (n ∷ ns) = keep_found (λ a. lookup_names fits s a (n ∷ ns)) (maybe [] (λ e. names e.attrs) (entity_of s n))

-- The names of a type's attributes, ascending.
abbrev pub all_names : (Ty → Bool) → Schema → Ty → Result (List ℕ)
all_names fits s (atom k) = ok []
all_names fits s (set t) = ok []
all_names fits s (rec o xs) = ok (names xs)
all_names fits s (act n xs) = ok (names xs)
all_names fits s (ent ns) = entity_names fits s ns
all_names fits s (ext n) = ok []

-- The types that a name has in those of some entity types that list it.
abbrev pub listed_bodies : Schema → ℕ → List ℕ → List Ty
listed_bodies s a [] = []
listed_bodies s a (n ∷ ns) = maybe (listed_bodies s a ns) (λ y. y.1 ∷ listed_bodies s a ns) (attr_of s a n)

-- The bodies that a lookup joins: an entity's, or the one of a record or action.
abbrev pub joined_bodies : Schema → ℕ → Ty → List Ty
joined_bodies s a (atom k) = []
joined_bodies s a (set t) = []
joined_bodies s a (rec o xs) = maybe [] (λ y. y.1 ∷ []) (find a xs)
joined_bodies s a (act n xs) = maybe [] (λ y. y.1 ∷ []) (find a xs)
joined_bodies s a (ent ns) = listed_bodies s a ns
joined_bodies s a (ext n) = []
