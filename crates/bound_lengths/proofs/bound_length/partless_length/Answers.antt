use Rattle.std.proofs.Common.{sym, ap, refl, ◌≡◌, ◌∙◌}
use Rattle.cedar.specs.TypeForm.{enc}
use Rattle.forms.specs.Codes.{code}
use Rattle.forms.specs.Kinds.{kind_number}
use Rattle.forms.specs.Modes.{as_mode}
use Rattle.forms.specs.Refusals.{number_of}
use Rattle.forms.specs.TypeForms.{type_of}
use Rattle.forms.specs.declared.kinds.Kind.TheVariants as kinds
use Rattle.forms.specs.Laws.Kinds.{whole-kind}
use Rattle.writing.specs.FormLengths.{form_length_of}
use Rattle.writing.specs.Laws.FormLengths.{seen-err}
use Rattle.bound_lengths.specs.Laws.Kinds.{eq-kind, not-kind, unlike-one, unlike-not}
use Rattle.bound_lengths.specs.Laws.Bounds.{first-byte, form-length, partless-left, partless-right, partless-kinds}
use Rattle.bound_lengths.proofs.bound_length.partless_length.Goals as goal

pub of-j-requires : goal.of-j-requires
of-j-requires c = whole-kind c.args.a.levels c.args.a.bytes.now c.args.a.whole

pub of-k-requires : goal.of-k-requires
of-k-requires c = whole-kind c.args.b.levels c.args.b.bytes.now c.args.b.whole

pub returns-then-eq : goal.returns-then-eq
returns-then-eq c =
    let never = first-byte c.args.a c.of-j.ensures ∙ eq-kind c.of-j.result kinds.Never c.if-eq.ensures in
    form-length c.args.b _ (partless-left _ _ _ never) c.capped.ensures

pub returns-then-eq-2 : goal.returns-then-eq-2
returns-then-eq-2 c =
    let other : kind_number c.of-j.result ≡ 0 → ⊥ = not-kind c.of-j.result kinds.Never c.if-eq.ensures in
    let not-left : code (type_of c.args.a) ≡ 0 → ⊥ = λ e. other (sym (first-byte c.args.a c.of-j.ensures) ∙ e) in
    let never = first-byte c.args.b c.of-k.ensures ∙ eq-kind c.of-k.result kinds.Never c.if-eq-2.ensures in
    form-length c.args.a _ (partless-right _ _ _ not-left never) c.capped-then-eq-2.ensures

pub returns-in_err-unlike_kinds : goal.returns-in_err-unlike_kinds
returns-in_err-unlike_kinds c =
    let refusal = c.in_err-unlike_kinds.field-0.0 in
    let kinds-are = partless-kinds (as_mode c.args.mode) _ _ (first-byte c.args.a c.of-j.ensures) (first-byte c.args.b c.of-k.ensures)
    (not-kind c.of-j.result kinds.Never c.if-eq.ensures) (not-kind c.of-k.result kinds.Never c.if-eq-2.ensures) in
    seen-err c.from_residual.result refusal c.from_residual.ensures.1 ∙
    unlike-not (as_mode c.args.mode) (kind_number c.of-j.result) (kind_number c.of-k.result) _ c.in_err-unlike_kinds.ensures (number_of refusal) refl ∙ ap (form_length_of enc) kinds-are

pub returns : goal.returns
returns c =
    let kinds-are = partless-kinds (as_mode c.args.mode) _ _ (first-byte c.args.a c.of-j.ensures) (first-byte c.args.b c.of-k.ensures)
    (not-kind c.of-j.result kinds.Never c.if-eq.ensures) (not-kind c.of-k.result kinds.Never c.if-eq-2.ensures) in
    unlike-one (as_mode c.args.mode) (kind_number c.of-j.result) (kind_number c.of-k.result) _ c.in_ok-unlike_kinds.ensures _ refl ∙ ap (form_length_of enc) kinds-are
