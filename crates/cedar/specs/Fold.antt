-- Part 6, `Type::reduce_to_least_upper_bound`: from Never, left to right, each step's bound tested.
use Rattle.std.specs.Prelude.{List, [], ◌∷◌, Bool, cond}
use Rattle.cedar.specs.Types.{Mode, Ty, atom, never}
use Rattle.cedar.specs.Result.{Result, ok, err, bind, step_too_long}
use Rattle.cedar.specs.Bound.{bound}

-- The rest of a fold; `fits` says whether a step's bound is short enough (9).
abbrev pub fold_from : (Ty → Bool) → Mode → Ty → List Ty → Result Ty
fold_from fits m a [] = ok a
fold_from fits m a (t ∷ ts) = bind (bound m a t) (λ c. cond (fits c) (fold_from fits m c ts) (err step_too_long))

-- The fold of a list: the first step is Never with the first type.
abbrev pub fold_types : (Ty → Bool) → Mode → List Ty → Result Ty
fold_types fits m ts = fold_from fits m (atom never) ts
