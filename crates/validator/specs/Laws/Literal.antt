-- The outcome of `euid_literal`, question by question. Assumes nothing.
use Rattle.std.specs.Prelude.{ℕ, suc, ◌≤◌, min, List, Bool, true, false, not, ◌≡◌, refl, leb, length}
use Rattle.std.proofs.Common.{arith, ap, sym, subst, ◌∙◌, leb-true}
use Rattle.std.proofs.Math.Option.{Option, none, some}
use Rattle.std.proofs.lemmas.Bool.{not-false}
use Rattle.cedar.specs.Types.{Ty, maybe}
use Rattle.cedar.specs.Literal.{literal}
use Rattle.cedar.specs.Levels.{depth}
use Rattle.cedar.specs.TypeForm.{enc}
use Rattle.cedar.specs.Limits.{Limits, most_bytes, allowed}
use Rattle.cedar.specs.Result.{ok, err}
use Rattle.cedar.specs.Whole.{whole_schema}
use Rattle.cedar.specs.Outcome.{Outcome, nothing, over}
use Rattle.cedar.specs.Calls.{write_type, literal_call}
use Rattle.cedar.proofs.Laws.Limits.{allowed-bytes}
use Rattle.cedar.proofs.Laws.Result.{ok-inj}
use Rattle.schemas.specs.SchemaBytes.{dec_s}
use Rattle.writing.specs.FormLengths.{form_length_of}
use Rattle.attributes.specs.declared.euid_literal.Literal.{Literal}
use Rattle.attributes.specs.declared.euid_literal.Literal.TheVariants as literals
use Rattle.attributes.specs.Literal.{literal_type, literal_form, literal_length, literal_levels, Laid, Standing, BytesIn}
use Rattle.attributes.specs.Laws.Literal.{literal-form, literal-levels, literal-sized}
use Rattle.validator.specs.declared.answers.Answer.TheVariants.{Nothing, Typed}
use Rattle.validator.specs.Answers.{Answered}
use Rattle.validator.specs.Uids.{uid_of}
use Rattle.validator.specs.Laws.Writing.{refuses, writes, writes-over}

-- How a literal that is found goes on.
abbrev literal_outcome : Limits → ℕ → Option Ty → Outcome
literal_outcome lim room t = maybe nothing (λ u. write_type lim room (ok u)) t

module _ (lim : Limits) (fair : allowed lim ≡ true) (schema v o : List ℕ) where
  abbrev outcome : Outcome
  outcome = literal_call lim schema v (length o)

  pub literal-no-schema : whole_schema lim schema ≡ none → Answered outcome o o (err 2)
  literal-no-schema e = refuses 2 (rw (fair, e) refl)

  module _ (f : whole_schema lim schema ≡ some (dec_s lim schema)) where
    pub literal-no-uid : uid_of lim v ≡ none → Answered outcome o o (err 5)
    literal-no-uid e = refuses 5 (rw (fair, f, e) refl)

    module _ (k i : ℕ) (e : uid_of lim v ≡ some (k, i)) where
      goes_on : (t : Option Ty) → literal (dec_s lim schema) k i ≡ t → outcome ≡ literal_outcome lim (length o) t
      goes_on t is = rw (fair, f, e) (ap (literal_outcome lim (length o)) is)

      pub literal-nothing : literal (dec_s lim schema) k i ≡ none → Answered outcome o o (ok Nothing)
      literal-nothing is = subst (λ (c : Outcome). Answered c o o (ok Nothing)) (sym (goes_on none is)) record { answer = refl; result = refl }

      module _ (x : Literal) (is : literal (dec_s lim schema) k i ≡ some (literal_type lim k x)) (stands : Standing lim x) (laid : Laid x)
          (bytes : BytesIn x) (n : ℕ) (l : n ≡ literal_length x) where
        abbrev found : Ty
        found = literal_type lim k x

        form-is : literal_form k x ≡ enc found
        form-is = sym (literal-form lim k x bytes stands)

        sized : n ≡ length (enc found)
        sized = l ∙ sym (literal-sized k x laid) ∙ ap length form-is

        short : n ≤ suc most_bytes
        short = go x l laid
          where
            go : (y : Literal) → n ≡ literal_length y → Laid y → n ≤ suc most_bytes
            go (literals.Action c) h v = omega (arith, h, v.1)
            go literals.Entity h v = omega (arith, h)

        told : ok n ≡ form_length_of enc (ok found)
        told = ap ok (omega (arith, sized, short))

        goes_to : outcome ≡ write_type lim (length o) (ok found)
        goes_to = goes_on (some found) is

        module _ (y : Bool) (fits : y ≡ leb n (min (length o) lim.bytes)) where
          pub literal-over : not y ≡ true → Answered outcome o o (err 10)
          literal-over h = writes-over lim (allowed-bytes lim fair).1 (ok found) o outcome goes_to (ok n) told n refl y fits h

          module _ (h : not y ≡ false) where
            pub literal-room : literal_length x ≤ length o
            literal-room = omega (arith, l, leb-true n (min (length o) lim.bytes) (sym fits ∙ not-false y h))

            pub literal-writes : (xs : List ℕ) → xs ≡ over (literal_form k x) o → (d : ℕ) → d ≡ literal_levels lim x → Answered outcome o xs (ok (Typed n d))
            literal-writes xs w d p =
                writes lim (allowed-bytes lim fair).1 (ok found) o outcome goes_to (ok n) told n refl y fits h xs n
                record { bytes = w ∙ ap (λ (z : List ℕ). over z o) form-is; many = sized }
                d (λ t e. p ∙ sym (literal-levels lim k x) ∙ ap depth (ok-inj e))
