-- The bound with no subtype test on the way down: two types of one kind are joined part by part, in one walk. On types in order it
-- is `bound` (Direct), and the code follows it.
use Rattle.std.specs.Prelude.{ℕ, List, cond, eqb}
use Rattle.cedar.specs.Types.{Mode, strict, is_permissive, Ty, atom, set, rec, act, ent, ext, Attrs, nil, attr, maybe, eq_names, find, as_set, as_rec, as_act}
use Rattle.cedar.specs.Types.{as_ent}
use Rattle.cedar.specs.Result.{Result, ok, err, bind, entity_type}
use Rattle.cedar.specs.Bound.{union, apart, same_names, absent, join_one, join_record, join_set, bound}

-- Entity with entity: permissive the union, strict only themselves.
abbrev pub direct_names : Mode → List ℕ → List ℕ → Result Ty
direct_names m ns ks = cond (is_permissive m) (ok (ent (union ns ks))) (cond (eq_names ns ks) (ok (ent ns)) (err entity_type))

unfoldable mutual
  -- `direct m a b`: the bound, part by part. Where the kinds differ, or have no parts, `bound` tests no part either.
  pub direct : Mode → Ty → Ty → Result Ty
  direct m (atom k) b = bound m (atom k) b
  direct m (set t) b = maybe (bound m (set t) b) (λ u. join_set m (direct m t u)) (as_set b)
  direct m (rec o xs) b = maybe (bound m (rec o xs) b)
      (λ y. bind (same_names m xs y.1 (direct_attrs m xs y.1)) (λ cs. ok (join_record o y.0 xs y.1 cs))) (as_rec b)
  direct m (act n xs) b = maybe (bound m (act n xs) b)
      (λ y. cond (eqb n y.0) (bind (same_names strict xs y.1 (direct_attrs strict xs y.1)) (λ cs. ok (act n cs))) (apart m (act n xs) b)) (as_act b)
  direct m (ent ns) b = maybe (bound m (ent ns) b) (direct_names m ns) (as_ent b)
  direct m (ext n) b = bound m (ext n) b

  -- The bound of two attribute lists, part by part.
  pub direct_attrs : Mode → Attrs → Attrs → Result Attrs
  direct_attrs m nil ys = ok nil
  direct_attrs m (attr n r t xs) ys = maybe (absent m (direct_attrs m xs ys)) (λ y. join_one m n r y.0 (direct m t y.1) (direct_attrs m xs ys)) (find n ys)
