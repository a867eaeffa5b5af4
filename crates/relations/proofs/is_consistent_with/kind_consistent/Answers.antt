use Rattle.std.proofs.Common.{sym, ap, refl, ◌∙◌, inl, inr}
use Rattle.forms.specs.Kinds.{kind_number}
use Rattle.forms.specs.declared.kinds.Kind.TheVariants as is_kind
use Rattle.forms.specs.Laws.Kinds.{kind-differs, kind-not, same-number}
use Rattle.relations.specs.Laws.Meets.{meets-bool, meets-set, meets-other}
use Rattle.relations.proofs.is_consistent_with.kind_consistent.Goals as goal

pub returns-in-True : goal.returns-in-True
returns-in-True c =
    sym (meets-bool (kind_number c.args.j) (kind_number c.args.k) (ap kind_number c.in-Bool.is)
    ∙ elim c.in-True.is [ inl e ↦ rw e refl | inr e ↦ rw e refl ])

pub returns-in_default-matches : goal.returns-in_default-matches
returns-in_default-matches c =
    let d = c.in_default-matches in
    sym (meets-bool (kind_number c.args.j) (kind_number c.args.k) (ap kind_number c.in-Bool.is)
    ∙ rw (kind-not c.args.j is_kind.True d.not-True, kind-not c.args.j is_kind.False d.not-False) refl)

pub returns-in-AnySet : goal.returns-in-AnySet
returns-in-AnySet c =
    c.eq.ensures ∙ same-number c.args.j is_kind.Set
    ∙ sym (meets-set (kind_number c.args.j) (kind_number c.args.k) (ap kind_number c.in-AnySet.is))

pub returns-in_default : goal.returns-in_default
returns-in_default c =
    meets-other (kind_number c.args.j) (kind_number c.args.k) (kind-differs c.args.k is_kind.Bool c.in_default.not-Bool)
    (kind-differs c.args.k is_kind.AnySet c.in_default.not-AnySet)
