-- The crate's rules on counts are cedar's. Assumes nothing: these are definitions.
use Rattle.cedar.specs.Conformance.{Counts as Rule, shorter, exact}
use Rattle.conformance.specs.declared.counts.Counts.{Counts}
use Rattle.conformance.specs.declared.counts.Counts.TheVariants.{Shorter, Exact}

-- The rule of the code's enum.
abbrev pub counts_of : Counts → Rule
counts_of Shorter = shorter
counts_of Exact = exact
