-- Part 8, `Type::is_consistent_with`: the Rust's test, case by case; neither its yes nor its no says whether some value has both types.
-- The second is a core type, a plain form.
use Rattle.std.specs.Prelude.{ℕ, List, [], ◌∷◌, Bool, true, false, not, ◌&&◌, ◌||◌, eqb, length}
use Rattle.cedar.specs.Types.{Atom, true', false', bool, long, string, anyset, anyent, Ty, atom, set, rec, act, ent, ext, Attrs, nil, attr}
use Rattle.cedar.specs.Types.{maybe, present, is, same, mem, find, as_set, as_rec}

unfoldable mutual
  -- Plain throughout: kinds 3 to 8, 12, and 10 with one name.
  pub plain : Ty → Bool
  plain (atom k) = is k bool || is k long || is k string || is k anyset
  plain (set t) = plain t
  plain (rec o xs) = plain_attrs xs
  plain (act n xs) = false
  plain (ent ns) = eqb (length ns) 1
  plain (ext n) = true

  -- Each attribute is plain.
  pub plain_attrs : Attrs → Bool
  plain_attrs nil = true
  plain_attrs (attr n r t xs) = plain t && plain_attrs xs

-- A type with a core atom: Bool with True, False and Bool; the untyped set with any set; Long and String with themselves.
abbrev pub consistent_atom : Ty → Atom → Bool
consistent_atom (atom j) k = (is k bool && (is j true' || is j false' || is j bool)) || ((is k long || is k string || is k anyset) && is j k)
consistent_atom (set t) k = is k anyset
consistent_atom (rec o xs) k = false
consistent_atom (act n xs) k = false
consistent_atom (ent ns) k = false
consistent_atom (ext n) k = false

-- A type with a core entity: one of its names, any entity, or an action of the name.
abbrev pub consistent_entity : Ty → List ℕ → Bool
consistent_entity a [] = false
consistent_entity (atom j) (k ∷ ks) = is j anyent
consistent_entity (set t) (k ∷ ks) = false
consistent_entity (rec o xs) (k ∷ ks) = false
consistent_entity (act n xs) (k ∷ ks) = eqb k n
consistent_entity (ent ns) (k ∷ ks) = mem k ns
consistent_entity (ext n) (k ∷ ks) = false

-- Each name of the first list is in the core list, or optional, or the core record is open.
abbrev pub covered_names : Attrs → Bool → Attrs → Bool
covered_names nil p ys = true
covered_names (attr n r t xs) p ys = (present (find n ys) || not r || p) && covered_names xs p ys

unfoldable mutual
  -- `consistent a b`: the type a with the core type b.
  pub consistent : Ty → Ty → Bool
  consistent a (atom k) = consistent_atom a k
  consistent a (set u) = maybe false (λ t. consistent t u) (as_set a)
  consistent a (rec p ys) = maybe false (λ x. consistent_attrs x.0 x.1 ys && covered_names x.1 p ys) (as_rec a)
  consistent a (act n ys) = false
  consistent a (ent ks) = consistent_entity a ks
  consistent a (ext n) = same a (ext n)

  -- Each name of the core list: with consistent types where both have it, else optional or the record open.
  pub consistent_attrs : Bool → Attrs → Attrs → Bool
  consistent_attrs o xs nil = true
  consistent_attrs o xs (attr n s u ys) = maybe (not s || o) (λ x. consistent x.1 u) (find n xs) && consistent_attrs o xs ys
