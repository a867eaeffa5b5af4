use Rattle.std.proofs.Common.{sym, ◌∙◌, arith}
use Rattle.std.proofs.Math.Bool.{false}
use Rattle.std.proofs.lemmas.Bool.{lt-leb}
use Rattle.cedar.specs.ListForm.{parse_list}
use Rattle.cedar.specs.Whole.{whole_type}
use Rattle.forms.specs.Limits.{as_limits}
use Rattle.forms.specs.Laws.Sure.{within-over, within-yes}
use Rattle.forms.specs.Laws.Lists.{list-twin, list-none, list-many, list-rows}
use Rattle.forms.proofs.lists.whole_list.Goals as goal

pub returns-then-l-gt-BLOCK_BYTES : goal.returns-then-l-gt-BLOCK_BYTES
returns-then-l-gt-BLOCK_BYTES c =
    let args = c.args in
    within-over 32768 (parse_list (λ c. whole_type (as_limits args.limits) c)) args.l.now (list-twin (as_limits args.limits) args.l.now)
    c.if-l-gt-BLOCK_BYTES.true

pub returns-in_default : goal.returns-in_default
returns-in_default c =
    let args = c.args in
    within-yes 32768 (parse_list (λ c. whole_type (as_limits args.limits) c)) args.l.now (list-twin (as_limits args.limits) args.l.now)
    c.if-l-gt-BLOCK_BYTES.false false (list-none (as_limits args.limits) args.l.now c.in_default.ensures)

pub returns-then-types-le-LISTED : goal.returns-then-types-le-LISTED
returns-then-types-le-LISTED c =
    let args = c.args in
    within-yes 32768 (parse_list (λ c. whole_type (as_limits args.limits) c)) args.l.now (list-twin (as_limits args.limits) args.l.now)
    c.if-l-gt-BLOCK_BYTES.false c.types_within.result
    (c.types_within.ensures ∙ sym (list-rows (as_limits args.limits) args.l.now c.in-Some.ensures c.if-types-le-LISTED.true))

pub returns-else-types-le-LISTED : goal.returns-else-types-le-LISTED
returns-else-types-le-LISTED c =
    let args = c.args in
    within-yes 32768 (parse_list (λ c. whole_type (as_limits args.limits) c)) args.l.now (list-twin (as_limits args.limits) args.l.now)
    c.if-l-gt-BLOCK_BYTES.false _
    (lt-leb c.in-Some.types.left 64 (omega (arith, c.if-types-le-LISTED.false))
    ∙ list-many (as_limits args.limits) args.l.now c.in-Some.types.left c.in-Some.ensures.left (omega (arith, c.if-types-le-LISTED.false)))
