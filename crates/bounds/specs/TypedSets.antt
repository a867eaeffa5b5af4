-- Two types without the sets whose bound is typed. Assumes nothing: this is a definition.
use Rattle.std.specs.Prelude.{ℕ, ◌+◌, ◌≡◌, true, false, Option as Maybe, replicate}
use Rattle.cedar.specs.Types.{Mode, Ty, set}
use Rattle.cedar.specs.TypeForm.{enc}
use Rattle.cedar.specs.Laws.DirectBound.{direct}
use Rattle.forms.specs.TypeForms.{type_of}
use Rattle.forms.specs.declared.type_forms.TypeForm.{TypeForm}
use Rattle.writing.specs.FormLengths.{form_of}
use Rattle.writing.specs.Laws.FormLengths.{Cut}
use Rattle.bounds.specs.Joins.{is_ok, KnownLength}

-- The bound of a and b has n kinds of sets before that of x and y, which has this length where it is known.
pub record TypedDown (m : Mode) (a b x y : TypeForm) (o : Maybe ℕ) (n : ℕ) : Type 0 where
  pub typed : Cut enc enc (replicate n 7) (direct m (type_of x) (type_of y)) (direct m (type_of a) (type_of b))
  pub bounded : is_ok (direct m (type_of x) (type_of y)) ≡ true
  pub known : KnownLength o (form_of enc (direct m (type_of x) (type_of y)))
  pub below : x.levels + n ≡ a.levels
  pub beside : y.levels + n ≡ b.levels
  pub first : n ≡ 0 → (type_of x ≡ type_of a) × (type_of y ≡ type_of b)

-- And x and y are not both sets, or their elements have no bound.
pub record PastTyped (m : Mode) (a b x y : TypeForm) (o : Maybe ℕ) (n : ℕ) : Type 0 where
  pub down : TypedDown m a b x y o n
  pub end : (u v : Ty) → type_of x ≡ set u → type_of y ≡ set v → is_ok (direct m u v) ≡ false
