use Rattle.std.proofs.Common.{sym, ap, refl, ◌∙◌, inl, inr}
use Rattle.forms.specs.Kinds.{kind_number}
use Rattle.forms.specs.Modes.{as_mode}
use Rattle.forms.specs.declared.kinds.Kind.TheVariants as is_kind
use Rattle.forms.specs.Laws.Kinds.{kind-differs, kind-not, same-number}
use Rattle.relations.specs.Laws.Under.{under-bool, under-set, under-entity, under-other}
use Rattle.relations.proofs.is_subtype.kind_under.Goals as goal

pub returns-in-Never : goal.returns-in-Never
returns-in-Never c =
    let by = under-bool (as_mode c.args.mode) (kind_number c.args.j) (kind_number c.args.k) (ap kind_number c.in-Bool.is) in
    sym (by ∙ elim c.in-Never.is [ inl e ↦ rw e refl | inr o ↦ elim o [ inl e ↦ rw e refl | inr e ↦ rw e refl ] ])

pub returns-in_default-matches : goal.returns-in_default-matches
returns-in_default-matches c =
    let d = c.in_default-matches in
    let by = under-bool (as_mode c.args.mode) (kind_number c.args.j) (kind_number c.args.k) (ap kind_number c.in-Bool.is) in
    sym (by ∙ rw (kind-not c.args.j is_kind.Never d.not-Never, kind-not c.args.j is_kind.True d.not-True, kind-not c.args.j is_kind.False d.not-False) refl)

pub returns-in-Never-matches : goal.returns-in-Never-matches
returns-in-Never-matches c =
    let by = under-set (as_mode c.args.mode) (kind_number c.args.j) (kind_number c.args.k) (ap kind_number c.in-AnySet.is) in
    sym (by ∙ elim c.in-Never-matches.is [ inl e ↦ rw e refl | inr e ↦ rw e refl ])

pub returns-in_default-matches-2 : goal.returns-in_default-matches-2
returns-in_default-matches-2 c =
    let d = c.in_default-matches-2 in
    let by = under-set (as_mode c.args.mode) (kind_number c.args.j) (kind_number c.args.k) (ap kind_number c.in-AnySet.is) in
    sym (by ∙ rw (kind-not c.args.j is_kind.Never d.not-Never, kind-not c.args.j is_kind.Set d.not-Set) refl)

pub returns-in-Never-j : goal.returns-in-Never-j
returns-in-Never-j c =
    let by = under-entity (as_mode c.args.mode) (kind_number c.args.j) (kind_number c.args.k) (ap kind_number c.in-AnyEntity.is) in
    sym (by ∙ rw c.in-Never-j.is refl)

pub returns-in-Entity : goal.returns-in-Entity
returns-in-Entity c =
    let by = under-entity (as_mode c.args.mode) (kind_number c.args.j) (kind_number c.args.k) (ap kind_number c.in-AnyEntity.is) in
    c.is_permissive.ensures ∙ sym (by ∙ elim c.in-Entity.is [ inl e ↦ rw e refl | inr e ↦ rw e refl ])

pub returns-in_default-j : goal.returns-in_default-j
returns-in_default-j c =
    let d = c.in_default-j in
    let by = under-entity (as_mode c.args.mode) (kind_number c.args.j) (kind_number c.args.k) (ap kind_number c.in-AnyEntity.is) in
    sym (by ∙ rw (kind-not c.args.j is_kind.Never d.not-Never, kind-not c.args.j is_kind.Entity d.not-Entity, kind-not c.args.j is_kind.Action d.not-Action) refl)

pub returns-in_default : goal.returns-in_default
returns-in_default c =
    let d = c.in_default in
    let k = c.args.k in
    c.eq.ensures ∙ same-number c.args.j is_kind.Never
    ∙ under-other (as_mode c.args.mode) (kind_number c.args.j) (kind_number k) (kind-differs k is_kind.Bool d.not-Bool)
    (kind-differs k is_kind.AnySet d.not-AnySet) (kind-differs k is_kind.AnyEntity d.not-AnyEntity)
