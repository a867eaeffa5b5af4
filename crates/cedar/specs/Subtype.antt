-- Part 4, `Type::is_subtype`.
use Rattle.std.specs.Prelude.{ℕ, List, [], ◌∷◌, Bool, true, false, not, ◌&&◌, ◌||◌, cond}
use Rattle.cedar.specs.Types.{Mode, is_permissive, Atom, true', false', bool, anyset, anyent, Ty, atom, set, rec, act, ent, ext, Attrs, nil, attr}
use Rattle.cedar.specs.Types.{maybe, is, same, eq_flag, eq_names, mem, names, find, is_never, as_set, as_rec, as_ent}

-- A type under an atom: the atom itself, True and False under Bool, any set under the untyped set; permissive, an entity or an
-- action under any entity.
abbrev pub sub_atom : Mode → Ty → Atom → Bool
sub_atom m (atom j) k = is j k || (is k bool && (is j true' || is j false'))
sub_atom m (set t) k = is k anyset
sub_atom m (rec o xs) k = false
sub_atom m (act n xs) k = is k anyent && is_permissive m
sub_atom m (ent ns) k = is k anyent && is_permissive m
sub_atom m (ext n) k = false

-- Required flags: strict, equal; permissive, required also stands under optional.
abbrev pub sub_flag : Mode → Bool → Bool → Bool
sub_flag m r s = cond (is_permissive m) (r || not s) (eq_flag r s)

-- Does each name stand in the other list?
abbrev pub subset : List ℕ → List ℕ → Bool
subset [] ks = true
subset (n ∷ ns) ks = mem n ks && subset ns ks

-- Entity types: strict, equal; permissive, a subset.
abbrev pub sub_names : Mode → List ℕ → List ℕ → Bool
sub_names m ns ks = cond (is_permissive m) (subset ns ks) (eq_names ns ks)

-- Records but for their attributes: an open one only under an open one; the same names or, permissive and the upper open, more.
abbrev pub sub_record : Mode → Bool × Attrs → Bool → Attrs → Bool
sub_record m x p ys = (not x.0 || p) && (eq_names (names x.1) (names ys) || (is_permissive m && p))

unfoldable mutual
  -- `sub m a b`: a is a subtype of b. Never is under all; actions and extensions only if equal.
  pub sub : Mode → Ty → Ty → Bool
  sub m a (atom k) = is_never a || sub_atom m a k
  sub m a (set u) = is_never a || maybe false (λ t. sub m t u) (as_set a)
  sub m a (rec p ys) = is_never a || maybe false (λ x. sub_record m x p ys && sub_attrs m x.1 ys) (as_rec a)
  sub m a (act n ys) = is_never a || same a (act n ys)
  sub m a (ent ks) = is_never a || maybe false (λ ns. sub_names m ns ks) (as_ent a)
  sub m a (ext n) = is_never a || same a (ext n)

  -- Each attribute of the upper list is found in the lower one, there with a flag and a type below.
  pub sub_attrs : Mode → Attrs → Attrs → Bool
  sub_attrs m xs nil = true
  sub_attrs m xs (attr n s u ys) = maybe false (λ x. sub_flag m x.0 s && sub m x.1 u) (find n xs) && sub_attrs m xs ys
