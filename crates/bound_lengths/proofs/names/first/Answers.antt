use Rattle.std.proofs.Common.{refl, sym, arith, eqb-true}
use Rattle.bound_lengths.specs.Laws.Names.{no-names, not-none, names-room, names-cons}
use Rattle.bound_lengths.proofs.names.first.Goals as goal

pub returns-then-is_empty-clause-value : goal.returns-then-is_empty-clause-value
returns-then-is_empty-clause-value c = rw (no-names c.args.names.now (eqb-true _ _ (sym c.if-is_empty.ensures))) refl

pub u16_at-requires : goal.u16_at-requires
u16_at-requires c = omega (arith, names-room c.requires (not-none c.args.names.now (sym c.if-is_empty.ensures)))

pub returns-clause-value : goal.returns-clause-value
returns-clause-value c =
    rw (names-cons c.requires (not-none c.args.names.now (sym c.if-is_empty.ensures)), c.u16_at.ensures.0) refl
