use mathlib.Core.Path.{sym, ◌∙◌}
use Rattle.forms.specs.Laws.Types.{entity-short, entity-none, entity-other, entity-open}
use Rattle.forms.proofs.types.entity_within.Goals as goal

pub returns-then-t-lt-ENTITY_NAMES : goal.returns-then-t-lt-ENTITY_NAMES
returns-then-t-lt-ENTITY_NAMES c =
    let args = c.args in
    entity-short args.t.now c.if-t-lt-ENTITY_NAMES.true

pub returns-then-n-lt1 : goal.returns-then-n-lt1
returns-then-n-lt1 c =
    let u16-at = c.u16_at-n in
    let args = c.args in
    entity-none args.t.now u16-at.result u16-at.ensures.0 c.if-n-lt1.true

pub returns-then-t-n : goal.returns-then-t-n
returns-then-t-n c =
    let u16-at = c.u16_at-n in
    let args = c.args in
    entity-other args.t.now u16-at.result u16-at.ensures.0 c.if-t-n.true

pub returns : goal.returns
returns c =
    let if3 = c.if-t-n in
    let if2 = c.if-n-lt1 in
    let u16-at = c.u16_at-n in
    let if1 = c.if-t-lt-ENTITY_NAMES in
    let args = c.args in
    c.names_ascend.ensures ∙ sym (entity-open args.t.now u16-at.result u16-at.ensures.0 if1.false if2.false if3.false)
