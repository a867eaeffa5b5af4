-- What a function's entry says that it returns. Assumes nothing: these are definitions.
use Rattle.std.specs.Prelude.{ℕ, ◌<◌, ◌≡◌, Result, MatchResult}
use Rattle.forms.specs.declared.kinds.UnknownKind.{UnknownKind}
use Rattle.schemas.specs.declared.order.Returns.{Returns}
use Rattle.schemas.specs.declared.order.Returns.TheVariants.{Nothing, Extension}

-- The number of each: 0 and 1.
abbrev pub returns_number : Returns → ℕ
returns_number Nothing = 0
returns_number Extension = 1

abbrev pub last_returns : ℕ
last_returns = 1

-- What this number says, or nothing.
abbrev pub IsReturns : ℕ → Result Returns UnknownKind → Type 0
IsReturns number r = MatchResult r (λ k. returns_number k ≡ number) (λ e. last_returns < number)
