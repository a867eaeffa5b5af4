use Rattle.std.proofs.Common.{sym, ◌∙◌}
use Rattle.forms.specs.Laws.Kinds.{whole-kind}
use Rattle.forms.specs.Laws.TypeForms.{kind-said}
use Rattle.forms.proofs.type_forms.TypeForm.kind.Goals as goal

pub of-requires : goal.of-requires
of-requires c = whole-kind c.args.self.levels c.args.self.bytes.now c.args.self.whole

pub returns : goal.returns
returns c = c.of.ensures ∙ sym (kind-said c.args.self)
