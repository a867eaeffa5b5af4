use Rattle.std.proofs.Common.{not, ap, sym, ◌∙◌, arith}
use Rattle.forms.specs.Limits.{as_limits}
use Rattle.forms.specs.declared.kinds.Kind.TheVariants as is_kind
use Rattle.forms.specs.Laws.Kinds.{kinds-alike, kinds-unlike}
use Rattle.schemas.specs.Laws.Bodies.{body-unfit, body-kind, body-other, body-two, body_closed, body_open}
use Rattle.schemas.proofs.bodies.body_within.Goals as goal

pub returns-then-not-whole_type : goal.returns-then-not-whole_type
returns-then-not-whole_type c =
    body-unfit (as_limits c.args.limits) c.args.b.now c.whole_type.result c.whole_type.ensures
    c.args.closed
    (ap not c.if-not-whole_type.true)

pub of-requires : goal.of-requires
of-requires c = body-kind (as_limits c.args.limits) c.args.b.now c.whole_type.result c.whole_type.ensures (ap not c.if-not-whole_type.false)

pub returns-then-ne : goal.returns-then-ne
returns-then-ne c =
    body-other (as_limits c.args.limits) c.args.b.now c.whole_type.result c.whole_type.ensures (ap not c.if-not-whole_type.false) c.args.closed
    (λ e. kinds-unlike c.of.result is_kind.Record c.ne.result c.ne.ensures c.if-ne.true (c.of.ensures ∙ e))

pub bounds-b-1 : goal.bounds-b-1
bounds-b-1 c =
    let record-kind = sym c.of.ensures ∙ kinds-alike c.of.result is_kind.Record c.ne.result c.ne.ensures c.if-ne.false in
    omega (arith, body-two (as_limits c.args.limits) c.args.b.now c.whole_type.result c.whole_type.ensures (ap not c.if-not-whole_type.false) record-kind)

pub returns-then-not-closed : goal.returns-then-not-closed
returns-then-not-closed c =
    let record-kind = sym c.of.ensures ∙ kinds-alike c.of.result is_kind.Record c.ne.result c.ne.ensures c.if-ne.false in
    ap not c.if-not-closed.true
    ∙ body_open (as_limits c.args.limits) c.args.b.now c.whole_type.result c.whole_type.ensures (ap not c.if-not-whole_type.false)
    record-kind c.args.closed c.if-not-closed.true

pub returns-else-not-closed : goal.returns-else-not-closed
returns-else-not-closed c =
    let record-kind = sym c.of.ensures ∙ kinds-alike c.of.result is_kind.Record c.ne.result c.ne.ensures c.if-ne.false in
    body_closed (as_limits c.args.limits) c.args.b.now c.whole_type.result c.whole_type.ensures (ap not c.if-not-whole_type.false)
    record-kind c.args.closed c.if-not-closed.false
