use Rattle.std.proofs.Common.{refl, sym, ◌∙◌}
use Rattle.forms.specs.Laws.NamesIn.{names-end}
use Rattle.conformance.specs.Laws.Names.{name-here, name-other}
use Rattle.conformance.proofs.entities.stands.Goals as goal

pub returns-then-u16_at-name : goal.returns-then-u16_at-name
returns-then-u16_at-name c =
    let s = c.in-Some.ensures.steps in
    name-here c.loop-pair.invariant _ _ s.1.0 s.1.1 (sym c.u16_at.ensures.0 ∙ c.if-u16_at-name.true)

pub loop-pair-preserved : goal.loop-pair-preserved
loop-pair-preserved c =
    let s = c.in-Some.ensures.steps in
    name-other c.loop-pair.invariant _ _ s.1.0 s.1.1 (λ e. c.if-u16_at-name.false (c.u16_at.ensures.0 ∙ e)) c.next.new.self s.0 refl

pub returns : goal.returns
returns c = sym (names-end c.loop-pair.invariant c.in-None.ensures.steps.1.0)
