use Rattle.forms.specs.Modes.{as_mode}
use Rattle.bounds.specs.Laws.TypedSets.{typed-start, typed-more, typed-untyped, typed-left, typed-right, elements-bounded, elements-known}
use Rattle.bounds.proofs.untyped_sets.past_typed.Goals as goal

pub loop-x-init : goal.loop-x-init
loop-x-init c = typed-start (as_mode c.args.mode) c.args.a c.args.b c.args.known c.requires.bounded c.requires.known_length

pub is_untyped-requires : goal.is_untyped-requires
is_untyped-requires c =
    record {
      bounded = elements-bounded c.loop-x.invariant c.in-Some.x c.in-Some-element.y c.in-Some.ensures c.in-Some-element.ensures;
      known_length = elements-known c.loop-x.invariant c.in-Some.x c.in-Some-element.y c.in-Some.ensures c.in-Some-element.ensures;
    }

pub loop-x-preserved : goal.loop-x-preserved
loop-x-preserved c =
    typed-more c.loop-x.invariant c.in-Some.x c.in-Some-element.y c.in-Some.ensures c.in-Some-element.ensures c.is_untyped.result c.is_untyped.ensures
    c.if-is_untyped.false _ c.element_length-length.ensures

pub returns-in_default-element : goal.returns-in_default-element
returns-in_default-element c = typed-right c.loop-x.invariant c.in_default-element.ensures

pub returns-then-is_untyped : goal.returns-then-is_untyped
returns-then-is_untyped c =
    typed-untyped c.loop-x.invariant c.in-Some.x c.in-Some-element.y c.in-Some.ensures c.in-Some-element.ensures c.is_untyped.result c.is_untyped.ensures
    c.if-is_untyped.true

pub returns : goal.returns
returns c = typed-left c.loop-x.invariant c.in_default.ensures
