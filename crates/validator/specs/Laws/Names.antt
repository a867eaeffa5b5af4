-- The outcome of `all_attributes`, question by question. Assumes nothing.
use Rattle.std.specs.Prelude.{ℕ, ◌≤◌, min, List, Bool, true, false, not, ◌≡◌, refl, leb, length, Result as Outcome', Ok, Err}
use Rattle.std.proofs.Common.{arith, ap, sym, subst, ◌∙◌, leb-true}
use Rattle.std.proofs.Math.Option.{none, some}
use Rattle.std.proofs.lemmas.Bool.{not-true, not-false}
use Rattle.cedar.specs.Types.{Ty, Schema}
use Rattle.cedar.specs.Bytes.{enc_names}
use Rattle.cedar.specs.Limits.{Limits, allowed}
use Rattle.cedar.specs.Result.{Result, ok, err}
use Rattle.cedar.specs.Whole.{whole_type, whole_schema}
use Rattle.cedar.specs.Outcome.{Outcome, named, over}
use Rattle.cedar.specs.Attribute.{all_names}
use Rattle.cedar.specs.Calls.{step_fits, write_names, names_call}
use Rattle.forms.specs.Parts.{part}
use Rattle.writing.specs.Written.{Written}
use Rattle.lookups.specs.declared.lookup_attribute_type.TooLong.{TooLong}
use Rattle.lookups.specs.Names.{NamedBy}
use Rattle.writing.specs.Laws.Writing.{over-front}
use Rattle.validator.specs.declared.answers.Answer.TheVariants.{Named}
use Rattle.validator.specs.Answers.{Answered}
use Rattle.validator.specs.Laws.Writing.{refuses}

module _ (lim : Limits) (fair : allowed lim ≡ true) (schema t o : List ℕ) (work : ℕ) where
  abbrev outcome : Outcome
  outcome = names_call lim schema t (length o) work

  pub names-no-schema : whole_schema lim schema ≡ none → Answered outcome o o (err 2)
  names-no-schema e = refuses 2 (rw (fair, e) refl)

  module _ (s : Schema) (f : whole_schema lim schema ≡ some s) where
    pub names-no-type : whole_type lim t ≡ none → Answered outcome o o (err 3)
    names-no-type e = refuses 3 (rw (fair, f, e) refl)

    module _ (u : Ty) (g : whole_type lim t ≡ some u) (before kept : List ℕ) (r : Outcome' ℕ TooLong) (h : NamedBy (all_names (step_fits lim work) s u) before kept r)
      where
        ends : (x : Outcome' ℕ TooLong) → r ≡ x → NamedBy (all_names (step_fits lim work) s u) before kept x
        ends x e = subst (λ (y : Outcome' ℕ TooLong). NamedBy (all_names (step_fits lim work) s u) before kept y) e h

        comes-to : (y : Result (List ℕ)) → all_names (step_fits lim work) s u ≡ y → outcome ≡ write_names lim (length o) y
        comes-to y e = rw (fair, f, g) (ap (write_names lim (length o)) e)

        pub names-too-long : (x : TooLong) → r ≡ Err x → Answered outcome o o (err 9)
        names-too-long x e = refuses 9 (comes-to (err 9) (ends (Err x) e))

        module _ (n : ℕ) (e : r ≡ Ok n) where
          all : List ℕ
          all = (ends (Ok n) e).0

          told : (all_names (step_fits lim work) s u ≡ ok all) × Written (enc_names all) before kept n
          unfolding all
          told = (ends (Ok n) e).1

          names-form : part 0 n kept ≡ enc_names all
          names-form = over-front (enc_names all) before kept n told.1.bytes told.1.many

          fits-as : (y : Bool) → y ≡ leb n (min (length o) lim.bytes) → leb (length (enc_names all)) (min (length o) lim.bytes) ≡ y
          fits-as y f = ap (λ (k : ℕ). leb k (min (length o) lim.bytes)) (sym told.1.many) ∙ sym f

          module _ (y : Bool) (fits : y ≡ leb n (min (length o) lim.bytes)) where
            pub names-over : not y ≡ true → Answered outcome o o (err 10)
            names-over k = refuses 10 (comes-to (ok all) told.0 ∙ rw (fits-as y fits, not-true y k) refl)

            module _ (k : not y ≡ false) where
              pub names-small : n ≤ min (length o) lim.bytes
              names-small = leb-true n (min (length o) lim.bytes) (sym fits ∙ not-false y k)

              pub names-fit : length (part 0 n kept) ≤ length o
              names-fit = omega (arith, names-small, ap length names-form, told.1.many)

              pub names-write : (xs : List ℕ) → xs ≡ over (part 0 n kept) o → Answered outcome o xs (ok (Named n))
              names-write xs w =
                  let c : outcome ≡ named all = comes-to (ok all) told.0 ∙ rw (fits-as y fits, not-false y k) refl in
                  subst (λ (z : Outcome). Answered z o xs (ok (Named n))) (sym c)
                  record { answer = ap ok (ap Named told.1.many); result = w ∙ ap (λ (z : List ℕ). over z o) names-form }
