use Rattle.std.proofs.Common.{refl, inl, inr}
use Rattle.relations.specs.Laws.Meets.{not_plain-kind}
use Rattle.relations.specs.Meets.{plain_kind}
use Rattle.relations.proofs.is_plain.kind_is_plain.Goals as goal

pub returns-in-Bool : goal.returns-in-Bool
unfolding plain_kind
returns-in-Bool c =
    elim c.in-Bool.is [
      | inl e ↦ rw e refl
      | inr o ↦ elim o [ inl e ↦ rw e refl | inr p ↦ elim p [ inl e ↦ rw e refl | inr e ↦ rw e refl ] ]
    ]

pub returns-in_default : goal.returns-in_default
returns-in_default c =
    not_plain-kind c.args.kind c.in_default.not-Bool c.in_default.not-Long c.in_default.not-String c.in_default.not-AnySet
