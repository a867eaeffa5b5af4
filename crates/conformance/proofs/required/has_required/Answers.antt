use Rattle.std.proofs.Common.{arith}
use Rattle.conformance.specs.Laws.Required.{required-start, required-attributes, required-pairs, required-end}
use Rattle.conformance.specs.Laws.Required.{required-optional, required-found, required-lacks}
use Rattle.conformance.specs.Laws.Taken.{sought-it, sought-not}
use Rattle.conformance.proofs.required.has_required.Goals as goal

pub loop-attribute-init : goal.loop-attribute-init
loop-attribute-init c =
    let attributes = c.at-attributes.ensures in
    let pairs = c.at-pairs.ensures in
    required-start c.args.t.now c.args.v.now c.requires attributes.left attributes.entries attributes.bodies pairs.left pairs.entries pairs.bodies

pub next-requires : goal.next-requires
next-requires c = (omega arith, required-attributes c.loop-attribute.invariant)

pub find-requires : goal.find-requires
find-requires c = (omega arith, required-pairs c.loop-attribute.invariant)

pub loop-attribute-preserved-then-not-is_required : goal.loop-attribute-preserved-then-not-is_required
loop-attribute-preserved-then-not-is_required c =
    required-optional c.loop-attribute.invariant c.in-Some.ensures c.is_required.result c.is_required.ensures c.if-not-is_required.true-raw

pub returns-then-is_none : goal.returns-then-is_none
returns-then-is_none c =
    let row = c.in-Some.ensures in
    required-lacks c.loop-attribute.invariant row c.name.result c.name.ensures.0 c.find.ensures.passed c.is_required.result c.is_required.ensures
    c.if-not-is_required.false-raw
    (sought-not 4 c.find.new.self.left c.name.result c.find.new.self.entries.now c.find.new.self.bodies.now c.find.result c.find.ensures.sought c.if-is_none.ensures)

pub loop-attribute-preserved : goal.loop-attribute-preserved
loop-attribute-preserved c =
    let row = c.in-Some.ensures in
    required-found c.loop-attribute.invariant row c.name.result c.name.ensures.0 c.find.ensures.passed
    (sought-it 4 c.find.new.self.left c.name.result c.find.new.self.entries.now c.find.new.self.bodies.now c.find.result c.find.ensures.sought c.if-is_none.ensures).1

pub returns : goal.returns
returns c = required-end c.loop-attribute.invariant c.in_default.ensures.none
