use Rattle.conformance.specs.Laws.Required.{RequiredAhead}
use Rattle.conformance.proofs.required.has_required.Given as goal

abbrev pub invariant-loop-attribute : goal.invariant-loop-attribute
invariant-loop-attribute l =
    RequiredAhead l.t l.v l.attributes.left l.attributes.entries.now l.attributes.bodies.now l.pairs.left l.pairs.entries.now l.pairs.bodies.now

abbrev pub decreases-loop-attribute : goal.decreases-loop-attribute
decreases-loop-attribute l = l.attributes.left
