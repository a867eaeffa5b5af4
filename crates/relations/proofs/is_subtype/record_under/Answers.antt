use Rattle.std.proofs.Common.{sym, refl, ◌∙◌}
use Rattle.cedar.specs.Types.{names}
use Rattle.forms.specs.Modes.{as_mode}
use Rattle.forms.specs.TypeForms.{listed}
use Rattle.relations.specs.Under.{record_under}
use Rattle.relations.specs.Laws.Under.{open-permissive, open-strict, closed-under}
use Rattle.relations.proofs.is_subtype.record_under.Goals as goal

pub returns-then-is_permissive : goal.returns-then-is_permissive
returns-then-is_permissive c =
    let permissive = sym c.is_permissive.ensures ∙ c.if-is_permissive.true in
    rw (c.if-upper_open.true, c.if-is_permissive.true)
    (open-permissive (as_mode c.args.mode) c.args.lower_open (names (listed c.args.lower)) (names (listed c.args.upper)) permissive)

pub returns-else-is_permissive : goal.returns-else-is_permissive
returns-else-is_permissive c =
    let strict = sym c.is_permissive.ensures ∙ c.if-is_permissive.false in
    rw c.if-upper_open.true
    (c.same_names.ensures ∙ open-strict (as_mode c.args.mode) c.args.lower_open (names (listed c.args.lower)) (names (listed c.args.upper)) strict)

pub returns-then-not-lower_open : goal.returns-then-not-lower_open
returns-then-not-lower_open c =
    rw c.if-upper_open.false
    (c.same_names-then-not-lower_open.ensures
    ∙ closed-under (as_mode c.args.mode) c.args.lower_open (names (listed c.args.lower)) (names (listed c.args.upper)) c.if-not-lower_open.true)

pub returns-else-not-lower_open : goal.returns-else-not-lower_open
unfolding record_under
returns-else-not-lower_open c = rw (c.if-not-lower_open.false, c.if-upper_open.false) refl
