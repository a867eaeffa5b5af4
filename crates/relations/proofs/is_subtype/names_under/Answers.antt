use Rattle.std.proofs.Common.{sym, ◌∙◌}
use Rattle.forms.specs.Modes.{as_mode}
use Rattle.forms.specs.Laws.Bytes.{Bytes-index}
use Rattle.forms.specs.Laws.SameForm.{same-bytes}
use Rattle.relations.specs.Laws.SameForm.{names-strict}
use Rattle.relations.proofs.is_subtype.names_under.Goals as goal

pub returns : goal.returns
returns c =
    let args = c.args in
    c.eq.ensures ∙ same-bytes args.lower.now args.upper.now
    ∙ names-strict (as_mode args.mode) args.lower.now args.upper.now (Bytes-index args.lower.now (λ i. (c.type_inv.lower i).fits))
    (Bytes-index args.upper.now (λ i. (c.type_inv.upper i).fits)) c.requires.lower_up c.requires.upper_up
    (sym c.is_permissive.ensures ∙ c.if-is_permissive.false)
