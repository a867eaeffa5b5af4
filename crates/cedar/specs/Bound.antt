-- Part 5, `Type::least_upper_bound`. Total on trees; sizes are asked afterwards.
use Rattle.std.specs.Prelude.{ℕ, List, [], ◌∷◌, Bool, false, not, ◌&&◌, ◌||◌, cond, eqb, ltb}
use Rattle.cedar.specs.Types.{Mode, strict, is_permissive, is_loose, true', false', bool, anyset, anyent, Ty, atom, set, rec, act, ent, ext, Attrs, nil, attr}
use Rattle.cedar.specs.Types.{maybe, is, eq_flag, eq_names, names, find, as_set, as_rec, as_act, as_ent, is_entity, is_record}
use Rattle.cedar.specs.Result.{Result, ok, err, bind, attribute_qualifier, record_width, entity_type, entity_record, no_bound}
use Rattle.cedar.specs.Subtype.{sub}

-- A name put into an ascending list.
abbrev pub insert : ℕ → List ℕ → List ℕ
insert n [] = n ∷ []
insert n (k ∷ ks) = cond (ltb n k) (n ∷ k ∷ ks) (cond (eqb n k) (k ∷ ks) (k ∷ insert n ks))

-- `EntityLUB::least_upper_bound`: the union of two ascending name lists.
abbrev pub union : List ℕ → List ℕ → List ℕ
union [] ks = ks
union (n ∷ ns) ks = insert n (union ns ks)

-- Two types of which no part is joined: kinds 9, 10, 11 have any entity, strict 13; a record with one of those 14; the rest 15.
abbrev pub apart : Mode → Ty → Ty → Result Ty
apart m a b = cond (is_entity a && is_entity b) (cond (is_permissive m) (ok (atom anyent)) (err entity_type))
    (cond ((is_record a && is_entity b) || (is_entity a && is_record b)) (err entity_record) (err no_bound))

-- True or False.
abbrev pub is_truth : Ty → Bool
is_truth (atom k) = is k true' || is k false'
is_truth (set t) = false
is_truth (rec o xs) = false
is_truth (act n xs) = false
is_truth (ent ns) = false
is_truth (ext n) = false

-- A name of either list was lost.
abbrev pub lost : Attrs → Attrs → Attrs → Bool
lost cs xs ys = not (eq_names (names cs) (names xs) && eq_names (names cs) (names ys))

-- The upper type where subtype holds, else what the parts give.
abbrev pub upper : Mode → Ty → Ty → Result Ty → Result Ty
upper m a b r = cond (sub m a b) (ok b) (cond (sub m b a) (ok a) r)

-- Strict, attribute lists need the same names.
abbrev pub same_names : Mode → Attrs → Attrs → Result Attrs → Result Attrs
same_names m xs ys r = cond (is_permissive m || eq_names (names xs) (names ys)) r (err record_width)

-- A name that the second list lacks: permissive it is dropped, strict it is a refusal.
abbrev pub absent : Mode → Result Attrs → Result Attrs
absent m cs = cond (is_permissive m) cs (err record_width)

-- Strict: the types' bound first, then equal flags.
abbrev pub join_equal : ℕ → Bool → Bool → Result Ty → Result Attrs → Result Attrs
join_equal n r s b cs = bind b (λ c. cond (eq_flag r s) (bind cs (λ l. ok (attr n r c l))) (err attribute_qualifier))

-- Permissive: kept if the types have a bound, and required if both are.
abbrev pub join_kept : ℕ → Bool → Bool → Result Ty → Result Attrs → Result Attrs
join_kept n r s (ok c) cs = bind cs (λ l. ok (attr n (r && s) c l))
join_kept n r s (err e) cs = cs

-- `AttributeType::least_upper_bound`: a name of both lists, with their flags and their types' bound, before the rest.
abbrev pub join_one : Mode → ℕ → Bool → Bool → Result Ty → Result Attrs → Result Attrs
join_one m n r s b cs = cond (is_permissive m) (join_kept n r s b cs) (join_equal n r s b cs)

-- The record with the joined attributes cs: open if either was or a name was lost.
abbrev pub join_record : Bool → Bool → Attrs → Attrs → Attrs → Ty
join_record o p xs ys cs = rec (o || p || lost cs xs ys) cs

-- Set with set: by their elements' bound; loose, where the elements have none, 06.
abbrev pub join_set : Mode → Result Ty → Result Ty
join_set m (ok c) = ok (set c)
join_set m (err e) = cond (is_loose m) (ok (atom anyset)) (err e)

-- Entity with entity: permissive the union, strict 13.
abbrev pub join_names : Mode → List ℕ → List ℕ → Result Ty
join_names m ns ks = cond (is_permissive m) (ok (ent (union ns ks))) (err entity_type)

unfoldable mutual
  -- `bound m a b`: the least upper bound, or why there is none. Actions of one name join strictly in every mode.
  pub bound : Mode → Ty → Ty → Result Ty
  bound m (atom k) b = upper m (atom k) b (cond (is_truth (atom k) && is_truth b) (ok (atom bool)) (apart m (atom k) b))
  bound m (set t) b = upper m (set t) b (maybe (apart m (set t) b) (λ u. join_set m (bound m t u)) (as_set b))
  bound m (rec o xs) b = upper m (rec o xs) b (maybe (apart m (rec o xs) b)
      (λ y. bind (same_names m xs y.1 (join_attrs m xs y.1)) (λ cs. ok (join_record o y.0 xs y.1 cs))) (as_rec b))
  bound m (act n xs) b = upper m (act n xs) b (maybe (apart m (act n xs) b)
      (λ y. cond (eqb n y.0) (bind (same_names strict xs y.1 (join_attrs strict xs y.1)) (λ cs. ok (act n cs))) (apart m (act n xs) b)) (as_act b))
  bound m (ent ns) b = upper m (ent ns) b (maybe (apart m (ent ns) b) (join_names m ns) (as_ent b))
  bound m (ext n) b = upper m (ext n) b (apart m (ext n) b)

  -- `Attributes::least_upper_bound`, the walk over the first list's names.
  pub join_attrs : Mode → Attrs → Attrs → Result Attrs
  join_attrs m nil ys = ok nil
  join_attrs m (attr n r t xs) ys = maybe (absent m (join_attrs m xs ys)) (λ y. join_one m n r y.0 (bound m t y.1) (join_attrs m xs ys)) (find n ys)
