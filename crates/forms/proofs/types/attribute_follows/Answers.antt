use borrow.Author.Tests.{lt-leb, le-leb}
use Rattle.forms.proofs.types.attribute_follows.Goals as goal

pub returns-then-e-gt-REQUIRED : goal.returns-then-e-gt-REQUIRED
returns-then-e-gt-REQUIRED c = simp (lt-leb _ _ c.if-e-gt-REQUIRED.true)

pub returns : goal.returns
returns c = simp (le-leb _ _ c.if-e-gt-REQUIRED.false, c.u16_at.ensures.0)
