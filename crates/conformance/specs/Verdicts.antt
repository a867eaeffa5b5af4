-- The crate's verdicts are cedar's. Assumes nothing: these are definitions.
use Rattle.cedar.specs.Conformance.{Verdict as Said, holds, fails, fails_inside, unknown}
use Rattle.conformance.specs.declared.verdicts.Verdict.{Verdict}
use Rattle.conformance.specs.declared.verdicts.Verdict.TheVariants.{Holds, Fails, FailsInside, Unknown}

-- What a walk says, as the code's enum.
abbrev pub verdict_of : Said → Verdict
verdict_of holds = Holds
verdict_of fails = Fails
verdict_of fails_inside = FailsInside
verdict_of unknown = Unknown

-- Inside an argument an unknown function is a no.
abbrev pub inside_of : Verdict → Verdict
inside_of Holds = Holds
inside_of Fails = Fails
inside_of FailsInside = FailsInside
inside_of Unknown = FailsInside
