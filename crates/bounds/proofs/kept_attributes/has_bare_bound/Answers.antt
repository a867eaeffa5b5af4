use Rattle.forms.specs.Modes.{as_mode}
use Rattle.forms.specs.Laws.Kinds.{whole-kind}
use Rattle.bound_lengths.specs.Laws.Kinds.{eq-kind}
use Rattle.bound_lengths.specs.Laws.Bounds.{same-atom}
use Rattle.bounds.specs.Laws.KeptAttributes.{plain-bound, bare-sets-bound, records-bound, entities-bound}
use Rattle.bounds.proofs.kept_attributes.has_bare_bound.Goals as goal

pub of-requires : goal.of-requires
of-requires c = whole-kind c.args.b.levels c.args.b.bytes.now c.args.b.whole

pub returns-then-eq : goal.returns-then-eq
returns-then-eq c =
    let plain = c.in-Plain.ensures in
    let same = eq-kind c.in-Plain.kind c.of.result c.if-eq.ensures in
    plain-bound (as_mode c.args.mode) c.requires.permissive _ _ plain.which plain.is (same-atom c.args.b c.in-Plain.kind c.of.result plain c.of.ensures same)

pub returns-in-Set-shape : goal.returns-in-Set-shape
returns-in-Set-shape c = bare-sets-bound (as_mode c.args.mode) c.args.a c.args.b c.requires.permissive c.requires.bare c.in-Set.ensures.0 c.in-Set-shape.ensures.0

pub returns-in-Record-shape : goal.returns-in-Record-shape
returns-in-Record-shape c = records-bound (as_mode c.args.mode) c.requires.permissive _ _ c.in-Record.ensures.0 c.in-Record-shape.ensures.0

pub returns-in-Entity-shape : goal.returns-in-Entity-shape
returns-in-Entity-shape c = entities-bound (as_mode c.args.mode) c.requires.permissive _ _ c.in-Entity.ensures.0 c.in-Entity-shape.ensures.0
