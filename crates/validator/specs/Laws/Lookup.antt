-- The outcome of `lookup_attribute_type`, question by question. Assumes nothing.
use Rattle.std.specs.Prelude.{ℕ, ◌-◌, ◌≤◌, min, List, Bool, true, false, not, ◌≡◌, refl, leb, length, Option as Maybe, Some, None, Result as Outcome', Ok, Err}
use Rattle.std.proofs.Common.{arith, ap, ap₂, sym, subst, ◌∙◌, leb-true}
use Rattle.std.proofs.Math.Option.{Option, none, some}
use Rattle.std.proofs.lemmas.Bool.{not-true, not-false}
use Rattle.cedar.specs.Types.{Ty, Schema}
use Rattle.cedar.specs.Levels.{depth}
use Rattle.cedar.specs.TypeForm.{enc}
use Rattle.cedar.specs.Limits.{Limits, allowed}
use Rattle.cedar.specs.Result.{Result, ok, err}
use Rattle.cedar.specs.Whole.{whole_type, whole_schema}
use Rattle.cedar.specs.Outcome.{Outcome, attribute, over}
use Rattle.cedar.specs.Attribute.{lookup}
use Rattle.cedar.specs.Calls.{step_fits, write_attribute, lookup_call}
use Rattle.forms.specs.Parts.{part}
use Rattle.forms.specs.TypeBytes.{whole, dec}
use Rattle.forms.specs.Laws.Parts.{length_part}
use Rattle.lookups.specs.declared.lookup_attribute_type.Looked.{Looked}
use Rattle.lookups.specs.declared.lookup_attribute_type.TooLong.{TooLong}
use Rattle.lookups.specs.Lookup.{LookedUp}
use Rattle.validator.specs.declared.answers.Answer.TheVariants.{Nothing, Attribute}
use Rattle.validator.specs.Answers.{Answered}
use Rattle.validator.specs.Laws.Writing.{refuses}

module _ (lim : Limits) (fair : allowed lim ≡ true) (schema : List ℕ) (a : ℕ) (t o : List ℕ) (work : ℕ) where
  abbrev outcome : Outcome
  outcome = lookup_call lim schema a t (length o) work

  pub lookup-no-schema : whole_schema lim schema ≡ none → Answered outcome o o (err 2)
  lookup-no-schema e = refuses 2 (rw (fair, e) refl)

  module _ (s : Schema) (f : whole_schema lim schema ≡ some s) where
    pub lookup-no-type : whole_type lim t ≡ none → Answered outcome o o (err 3)
    lookup-no-type e = refuses 3 (rw (fair, f, e) refl)

    module _ (u : Ty) (g : whole_type lim t ≡ some u) (last : List ℕ) (r : Outcome' (Maybe Looked) TooLong) (h : LookedUp lim (lookup (step_fits lim work) s a u) last r) where
      goes_on : outcome ≡ write_attribute lim (length o) (lookup (step_fits lim work) s a u)
      goes_on = rw (fair, f, g) refl

      ends : (x : Outcome' (Maybe Looked) TooLong) → r ≡ x → LookedUp lim (lookup (step_fits lim work) s a u) last x
      ends x e = subst (λ (y : Outcome' (Maybe Looked) TooLong). LookedUp lim (lookup (step_fits lim work) s a u) last y) e h

      comes-to : (y : Result (Option (Bool × Ty))) → lookup (step_fits lim work) s a u ≡ y → outcome ≡ write_attribute lim (length o) y
      comes-to y e = goes_on ∙ ap (write_attribute lim (length o)) e

      pub lookup-nothing : r ≡ Ok None → Answered outcome o o (ok Nothing)
      lookup-nothing e =
          subst (λ (c : Outcome). Answered c o o (ok Nothing)) (sym (comes-to (ok none) (ends (Ok None) e))) record { answer = refl; result = refl }

      pub lookup-too-long : (x : TooLong) → r ≡ Err x → Answered outcome o o (err 9)
      lookup-too-long x e = refuses 9 (comes-to (err 9) (ends (Err x) e))

      module _ (x : Looked) (e : r ≡ Ok (Some x)) (full : lim.bytes ≤ length last) where
        pub small : x.bytes ≤ lim.bytes
        small = (ends (Ok (Some x)) e).1.fits

        pub lookup-whole : whole (lim.levels - 1) (part 0 x.bytes last) ≡ true
        lookup-whole = (ends (Ok (Some x)) e).1.good

        exact : enc (dec (lim.levels - 1) (part 0 x.bytes last)) ≡ part 0 x.bytes last
        exact = (ends (Ok (Some x)) e).1.exact

        sized : length (part 0 x.bytes last) ≡ x.bytes
        sized = length_part 0 x.bytes last (omega (arith, small)) ∙ omega arith

        fits-as : (y : Bool) → y ≡ leb x.bytes (min (length o) lim.bytes) →
            leb (length (enc (dec (lim.levels - 1) (part 0 x.bytes last)))) (min (length o) lim.bytes) ≡ y
        fits-as y f = ap (λ (k : ℕ). leb k (min (length o) lim.bytes)) (ap length exact ∙ sized) ∙ sym f

        module _ (y : Bool) (fits : y ≡ leb x.bytes (min (length o) lim.bytes)) where
          pub lookup-over : not y ≡ true → Answered outcome o o (err 10)
          lookup-over k = refuses 10 (comes-to (ok (some (x.required, dec (lim.levels - 1) (part 0 x.bytes last)))) (ends (Ok (Some x)) e).0 ∙ rw
              (fits-as y fits, not-true y k) refl)

          module _ (k : not y ≡ false) where
            pub lookup-room : length (part 0 x.bytes last) ≤ length o
            lookup-room = omega (arith, sized, leb-true x.bytes (min (length o) lim.bytes) (sym fits ∙ not-false y k))

            pub lookup-writes : (xs : List ℕ) → xs ≡ over (part 0 x.bytes last) o → (d : ℕ) → d ≡ depth (dec (lim.levels - 1) (part 0 x.bytes last)) →
                Answered outcome o xs (ok (Attribute x.required x.bytes d))
            lookup-writes xs w d p =
                let c : outcome ≡ attribute x.required (dec (lim.levels - 1) (part 0 x.bytes last)) = comes-to (ok (some (x.required, dec (lim.levels - 1) (part 0 x.bytes last))))
                (ends (Ok (Some x)) e).0 ∙
                rw (fits-as y fits, not-false y k) refl in
                subst (λ (z : Outcome). Answered z o xs (ok (Attribute x.required x.bytes d))) (sym c)
                record { answer = ap ok (ap₂ (Attribute x.required) (sym (ap length exact ∙ sized)) p); result = w ∙ ap (λ (z : List ℕ). over z o) (sym exact) }
