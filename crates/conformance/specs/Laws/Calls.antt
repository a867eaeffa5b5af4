-- A value as an argument, and a call as a value of an extension. Assumes nothing.
use Rattle.std.specs.Prelude.{◌≡◌, refl, List, true, false, ℕ, ◌-◌, eqb, leb, Option as Maybe, Some, None}
use Rattle.std.proofs.Common.{ap, ap₂, sym, ◌∙◌, eq-eqb, ne_eqb, arith}
use Rattle.std.proofs.Math.Option.{none, some}
use Rattle.cedar.specs.Types.{Arg, arg_bool, arg_long, arg_string, arg_ext, Value, Values, Schema, maybe}
use Rattle.cedar.specs.ValueForm.{value_kind}
use Rattle.cedar.specs.Conformance.{verdict, and_then, unknown, fails, Counts, of_argument, of_arguments, is_extension, function_of}
use Rattle.forms.specs.Parts.{rd, kind}
use Rattle.schemas.specs.Entries.{returns_of}
use Rattle.schemas.specs.SchemaBytes.{arg_fits, arg_at}
use Rattle.schemas.specs.Laws.Arguments.{arg-is-bool, arg-is-long, arg-is-string, arg-is-extension, arg-kind}
use Rattle.conformance.specs.declared.verdicts.Verdict.{Verdict}
use Rattle.conformance.specs.declared.verdicts.Verdict.TheVariants.{Fails, Unknown}
use Rattle.conformance.specs.Verdicts.{verdict_of, inside_of}
use Rattle.forms.specs.ValueBytes.{whole_v, dec_v, dec_v_as}
use Rattle.conformance.specs.Walks.{arguments_of}
use Rattle.forms.specs.Laws.Values.{value-level, value-kind, dec-value}
use Rattle.conformance.specs.Laws.Arguments.{fits_bool, fits-long, fits-string, fits-other, call-inside}

-- A whole value as the first argument asked for.
module _ (rule : Counts) (s : Schema) (k : List ℕ) (l : ℕ) (v : List ℕ) (a : arg_fits k ≡ true) (h : whole_v l v ≡ true) where
  opened : (g : Arg) → arg_at k ≡ g → of_argument rule s (dec_v l v) (arg_at k) ≡ of_argument rule s (dec_v_as (dec_v (l - 1)) (value_kind (kind v)) v) g
  opened g q = ap₂ (λ (x : Value) (y : Arg). of_argument rule s x y) (dec-value l v (value-level l v h) (kind v) refl) q

  pub fit-bool : kind k ≡ 1 → verdict_of (verdict (leb (kind v) 1)) ≡ verdict_of (of_argument rule s (dec_v l v) (arg_at k))
  fit-bool q = ap verdict_of (sym (opened arg_bool (arg-is-bool k a q) ∙ fits_bool rule s (dec_v (l - 1)) v (kind v) (value-kind l v h)))

  pub fit-long : kind k ≡ 2 → verdict_of (verdict (eqb (kind v) 2)) ≡ verdict_of (of_argument rule s (dec_v l v) (arg_at k))
  fit-long q = ap verdict_of (sym (opened arg_long (arg-is-long k a q) ∙ fits-long rule s (dec_v (l - 1)) v (kind v) (value-kind l v h)))

  pub fit-string : kind k ≡ 3 → verdict_of (verdict (eqb (kind v) 3)) ≡ verdict_of (of_argument rule s (dec_v l v) (arg_at k))
  fit-string q = ap verdict_of (sym (opened arg_string (arg-is-string k a q) ∙ fits-string rule s (dec_v (l - 1)) v (kind v) (value-kind l v h)))

  module _ (p : kind k ≡ 4) where
    extension : arg_at k ≡ arg_ext (rd k 1)
    extension = arg-is-extension k p

    pub fit-not : (kind v ≡ 7 → ⊥) → Fails ≡ verdict_of (of_argument rule s (dec_v l v) (arg_at k))
    fit-not p = ap verdict_of (sym (opened (arg_ext (rd k 1)) extension ∙ fits-other rule s (dec_v (l - 1)) v (kind v) (value-kind l v h) (rd k 1) p))

    pub fit-call : kind v ≡ 7 → (e : ℕ) → e ≡ rd k 1 → (x : Verdict) → x ≡ verdict_of (is_extension rule s e (rd v 1, arguments_of (l - 1) v)) →
        inside_of x ≡ verdict_of (of_argument rule s (dec_v l v) (arg_at k))
    fit-call q e z x y =
        ap inside_of y ∙ call-inside rule s e (rd v 1) (arguments_of (l - 1) v)
        ∙ ap verdict_of (ap₂ (λ (u : Value) (g : Arg). of_argument rule s u g) (sym (dec-value l v (value-level l v h) 7 q)) (ap arg_ext z ∙ sym extension))

  -- An argument of none of the kinds 1 to 3 asks for an extension.
  module _ (p1 : kind k ≡ 1 → ⊥) (p2 : kind k ≡ 2 → ⊥) (p3 : kind k ≡ 3 → ⊥) where
    is-extension-kind : kind k ≡ 4
    is-extension-kind = let u = arg-kind k a in omega (arith, u.0, u.1)

    pub fit-other-not : (kind v ≡ 7 → ⊥) → Fails ≡ verdict_of (of_argument rule s (dec_v l v) (arg_at k))
    fit-other-not p = fit-not is-extension-kind p

    pub fit-other-call : kind v ≡ 7 → (e : ℕ) → e ≡ rd k 1 → (x : Verdict) → x ≡ verdict_of (is_extension rule s e (rd v 1, arguments_of (l - 1) v)) →
        inside_of x ≡ verdict_of (of_argument rule s (dec_v l v) (arg_at k))
    fit-other-call q e z x y = fit-call is-extension-kind q e z x y

-- A call, by what was found of its function.
module _ (rule : Counts) (s : Schema) (name n e : ℕ) (q : name ≡ n) (vs : Values) where
  pub call-unknown : function_of s name ≡ none → Unknown ≡ verdict_of (is_extension rule s e (n, vs))
  call-unknown z =
      let y : is_extension rule s e (n, vs) ≡ unknown = rw (← q, z) refl in
      ap verdict_of (sym y)

  module _ (ret : Maybe ℕ) (ks : List Arg) (z : function_of s name ≡ some (record { name = name; returns = returns_of ret; args = ks })) where
    known : (r : Maybe ℕ) → ret ≡ r → is_extension rule s e (n, vs) ≡ and_then (verdict (maybe false (eqb e) (returns_of r))) (of_arguments rule s vs ks)
    known r h = rw (← q, z, h) refl

    pub call_none : ret ≡ None → Fails ≡ verdict_of (is_extension rule s e (n, vs))
    call_none h =
        let y : is_extension rule s e (n, vs) ≡ fails = known None h in
        ap verdict_of (sym y)

    module _ (x : ℕ) (h : ret ≡ Some x) where
      pub call-other : (x ≡ e → ⊥) → Fails ≡ verdict_of (is_extension rule s e (n, vs))
      call-other g =
          let y : is_extension rule s e (n, vs) ≡ fails = known (Some x) h ∙ rw (ne_eqb e x (λ z. g (sym z))) refl in
          ap verdict_of (sym y)

      pub call-arguments : x ≡ e → verdict_of (of_arguments rule s vs ks) ≡ verdict_of (is_extension rule s e (n, vs))
      call-arguments g =
          let y : is_extension rule s e (n, vs) ≡ of_arguments rule s vs ks = known (Some x) h ∙ rw (eq-eqb e x (sym g)) refl in
          ap verdict_of (sym y)
