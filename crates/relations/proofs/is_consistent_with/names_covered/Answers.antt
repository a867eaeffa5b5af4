use Rattle.forms.specs.TypeForms.{listed}
use Rattle.relations.specs.Laws.Covered.{covered-open, covered-again}
use Rattle.relations.proofs.is_consistent_with.names_covered.Goals as goal
use Rattle.std.proofs.Common.{sym}

pub returns-then-is_open : goal.returns-then-is_open
returns-then-is_open c = rw c.if-is_open.true (sym (covered-open (listed c.args.attributes) (listed c.args.core)))

pub loop-attribute-preserved-in-Some-find : goal.loop-attribute-preserved-in-Some-find
loop-attribute-preserved-in-Some-find c = covered-again c.loop-attribute.invariant c.in-Some.ensures c.in-Some-find.ensures.0 c.in-Some-find.ensures.1
