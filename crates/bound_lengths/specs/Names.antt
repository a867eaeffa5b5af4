-- The union of two lists of ascending names, two bytes each. Assumes nothing: these are definitions.
use Rattle.std.specs.Prelude.{ℕ, ◌+◌, ◌<◌, ◌≤◌, ◌≡◌, min, List, [], ◌∷◌, Option, Some, None, cond, eqb, length}
use Rattle.cedar.specs.Bound.{union}
use Rattle.forms.specs.Names.{names_in, Ascending}

-- The lesser of two names, or the one that is there.
abbrev pub least : Option ℕ → Option ℕ → Option ℕ
least (Some p) (Some q) = Some (min p q)
least (Some p) None = Some p
least None q = q

-- A list without a name, if it begins with it.
abbrev pub without : ℕ → List ℕ → List ℕ
without n [] = []
without n (k ∷ ks) = cond (eqb k n) ks (k ∷ ks)

-- The union of two lists begins with a name, and goes on with that of what is left.
pub record Next (x y : List ℕ) (name : ℕ) (x' y' : List ℕ) : Type 0 where
  pub small : name < 65536
  pub left : Ascending x'
  pub right : Ascending y'
  pub fewer : length x' + length y' + 2 ≤ length x + length y
  pub is : union (names_in x) (names_in y) ≡ name ∷ union (names_in x') (names_in y')

-- The next name of a union, if there is one.
abbrev pub Merged : List ℕ → List ℕ → List ℕ → List ℕ → Option ℕ → Type 0
Merged x y x' y' (Some name) = Next x y name x' y'
Merged x y x' y' None = union (names_in x) (names_in y) ≡ []
