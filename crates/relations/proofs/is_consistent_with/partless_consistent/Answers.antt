use Rattle.std.proofs.Common.{◌∙◌}
use Rattle.forms.specs.Laws.Kinds.{kinds-agree, kinds-differ}
use Rattle.relations.specs.Laws.Consistent.{with-alike, with-unlike}
use Rattle.relations.proofs.is_consistent_with.partless_consistent.Goals as goal

pub returns-then-eq : goal.returns-then-eq
returns-then-eq c =
    λ core p. c.kind_is_plain.ensures ∙ with-alike _ _ _ c.kind-own.ensures p (kinds-agree c.kind-own.result c.args.kind c.eq.result c.eq.ensures c.if-eq.true)

pub returns : goal.returns
returns c =
    λ core p. c.kind_consistent.ensures ∙ with-unlike _ _ _ c.kind-own.ensures p (kinds-differ c.kind-own.result c.args.kind c.eq.result c.eq.ensures c.if-eq.false)
