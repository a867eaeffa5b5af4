-- What `type_names` answers. Assumes nothing: this is a definition.
use Rattle.std.specs.Prelude.{ℕ, List, ◌≡◌}
use Rattle.std.proofs.Math.Option.{Option, some}
use Rattle.forms.specs.Names.{names_in, Ascending}

-- The names of a type, in order, are what bytes say.
pub record NamesFound (names : Option (List ℕ)) (b : List ℕ) : Type 0 where
  pub is : names ≡ some (names_in b)
  pub up : Ascending b
