-- What a record says of an attribute that it may have. Assumes nothing: this is a definition.
use Rattle.std.specs.Prelude.{ℕ, Bool, false, ◌||◌}
use Rattle.cedar.specs.Types.{Ty, maybe, present, find, as_rec}

-- A record is open or lists the attribute.
abbrev pub record_may_have : ℕ → Ty → Bool
record_may_have a t = maybe false (λ x. x.0 || present (find a x.1)) (as_rec t)
