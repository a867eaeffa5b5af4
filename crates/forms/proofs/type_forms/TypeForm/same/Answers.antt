use Rattle.std.proofs.Common.{◌∙◌}
use Rattle.forms.specs.Laws.SameForm.{same-types}
use Rattle.forms.proofs.type_forms.TypeForm.same.Goals as goal

pub returns : goal.returns
returns c = let told = c.same_bytes.ensures in told.is ∙ same-types c.args.self c.args.other told.a_bytes told.b_bytes
