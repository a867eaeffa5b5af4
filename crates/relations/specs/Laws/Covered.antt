-- The names of one attribute list, looked for in another. Assumes nothing.
use Rattle.std.specs.Prelude.{◌≡◌, Bool, true, false, not, ◌||◌, ◌&&◌, ℕ, suc, ◌≤◌, cond, eqb}
use Rattle.std.proofs.Math.Path.{refl, ap}
use Rattle.std.proofs.Common.{ap₂, ◌∙◌, arith}
use Rattle.std.proofs.Math.Option.{Option, some}
use Rattle.cedar.specs.Types.{Ty, Attrs, nil, attr, names, find, present, mem}
use Rattle.cedar.specs.Laws.Shape.{Ascend}
use Rattle.cedar.specs.Consistency.{covered_names}
use Rattle.forms.specs.TypeForms.{listed, TookFirstAttribute, PassedAttributes, IsAttribute}
use Rattle.forms.specs.declared.type_forms.AttributeForm.{AttributeForm}
use Rattle.forms.specs.declared.type_forms.AttributeForms.{AttributeForms}
use Rattle.relations.specs.Laws.Walks.{above}

-- An attribute is found where its name is one of the list.
pub find-mem : (k : ℕ) (ys : Attrs) → present (find k ys) ≡ mem k (names ys)
find-mem k nil = refl
find-mem k (attr n r t ys) = go (eqb k n) (find-mem k ys)
  where
    go : (b : Bool) → present (find k ys) ≡ mem k (names ys) → present (cond b (some (r, t)) (find k ys)) ≡ (b || mem k (names ys))
    go true h = refl
    go false h = h

or-true : (x : Bool) → x || true ≡ true
or-true true = refl
or-true false = refl

-- An open record lacks no name.
pub covered-open : (xs ys : Attrs) → covered_names xs true ys ≡ true
covered-open nil ys = refl
covered-open (attr n r t xs) ys = rw (or-true (present (find n ys) || not r), covered-open xs ys) refl

-- Lists that have the same names from one on cover the same from there on.
covered-later : (xs ys zs : Attrs) (low : ℕ) → Ascend low (names xs) → ((k : ℕ) → low ≤ k → find k ys ≡ find k zs) →
    covered_names xs false ys ≡ covered_names xs false zs
covered-later nil ys zs low a h = refl
covered-later (attr n r t xs) ys zs low a h =
    ap₂ (λ (x y : Bool). x && y)
    (ap (λ (x : Option (Bool × Ty)). present x || not r || false) (h n a.0))
    (covered-later xs ys zs (suc n) a.1 (λ k g. h k (let z = a.0 in omega arith)))

-- A walk that has come so far, where an attribute has its name in the core list: what is left of both lists answers for the whole.
pub covered-again : {all : Bool} {attributes more core later : AttributeForms} {a o : AttributeForm} →
    all ≡ covered_names (listed attributes) false (listed core) → TookFirstAttribute attributes more a → PassedAttributes core a.name later →
    IsAttribute core a.name o → all ≡ covered_names (listed more) false (listed later)
covered-again {more = more} {core} {later} {a} i t p f =
    i ∙ ap (λ (z : Attrs). covered_names z false (listed core)) t.all
    ∙ ap (λ (x : Option (Bool × Ty)). (present x || not a.required || false) && covered_names (listed more) false (listed core)) f.found
    ∙ covered-later (listed more) (listed core) (listed later) (suc a.name) (above t) (λ k g. p.later k (omega arith))
