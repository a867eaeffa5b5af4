use Rattle.std.proofs.Common.{◌≡◌, sym, ◌∙◌}
use Rattle.cedar.proofs.Laws.BodyPlace.{body-none}
use Rattle.forms.specs.Parts.{kind}
use Rattle.forms.specs.TypeBytes.{dec}
use Rattle.forms.specs.declared.kinds.Kind.{Kind}
use Rattle.forms.specs.declared.kinds.Kind.TheVariants.{Record, Action}
use Rattle.forms.specs.Kinds.{kind_number}
use Rattle.forms.specs.Laws.Kinds.{whole-kind, kind-same}
use Rattle.forms.specs.Laws.Views.{is-record, is-action}
use Rattle.attributes.specs.Laws.Place.{record-listed, action-listed, record-placed, action-placed, other-placed}
use Rattle.attributes.proofs.own_attribute.own_attribute.Goals as goal

pub of-requires : goal.of-requires
of-requires c = whole-kind c.args.t.levels c.args.t.bytes.now c.args.t.whole

pub overflow_sub-t : goal.overflow_sub-t
overflow_sub-t c = (is-record c.args.t.levels c.args.t.bytes.now c.args.t.whole (sym c.in-Record.ensures)).deep

pub listed_attribute-requires : goal.listed_attribute-requires
listed_attribute-requires c = record-listed c.args.t.levels c.args.t.bytes.now c.args.t.whole (sym c.in-Record.ensures)

pub returns-in-Record : goal.returns-in-Record
returns-in-Record c =
    let told = c.listed_attribute.ensures in
    let both = record-placed c.args.name c.args.t.levels c.args.t.bytes.now c.args.t.whole c.listed_attribute.result (sym c.in-Record.ensures) (told.placed, told.spanned) in
    record { placed = both.0; spanned = both.1 }

pub overflow_sub-t-in-Action : goal.overflow_sub-t-in-Action
overflow_sub-t-in-Action c = (is-action c.args.t.levels c.args.t.bytes.now c.args.t.whole (sym c.in-Action.ensures)).deep

pub listed_attribute-requires-in-Action : goal.listed_attribute-requires-in-Action
listed_attribute-requires-in-Action c = action-listed c.args.t.levels c.args.t.bytes.now c.args.t.whole (sym c.in-Action.ensures)

pub returns-in-Action : goal.returns-in-Action
returns-in-Action c =
    let told = c.listed_attribute-in-Action.ensures in
    let both = action-placed c.args.name c.args.t.levels c.args.t.bytes.now c.args.t.whole c.listed_attribute-in-Action.result (sym c.in-Action.ensures) (told.placed, told.spanned) in
    record { placed = both.0; spanned = both.1 }

pub returns-in_default : goal.returns-in_default
returns-in_default c =
    let other = λ (k : Kind) (no : c.of.result ≡ k → ⊥) (e : kind c.args.t.bytes.now ≡ kind_number k). no (kind-same c.of.result k (c.of.ensures ∙ e)) in
    let none-there = other-placed c.args.name c.args.t.levels c.args.t.bytes.now c.args.t.whole (other Record c.in_default.not-Record) (other Action c.in_default.not-Action) in
    record { placed = none-there; spanned = sym (body-none c.args.name (dec c.args.t.levels c.args.t.bytes.now) none-there) }
