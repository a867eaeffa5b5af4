use Rattle.std.proofs.Common.{◌∙◌}
use Rattle.forms.specs.Laws.Bytes.{Bytes-index}
use Rattle.forms.specs.Laws.SameForm.{same-bytes}
use Rattle.forms.proofs.shapes.same_bytes.Goals as goal

pub returns : goal.returns
returns c =
    record {
      is = c.eq.ensures ∙ same-bytes c.args.a.now c.args.b.now;
      a_bytes = Bytes-index c.args.a.now (λ i. (c.type_inv.a i).fits);
      b_bytes = Bytes-index c.args.b.now (λ i. (c.type_inv.b i).fits);
    }
