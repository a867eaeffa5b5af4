-- The fold call, question by question. Assumes nothing.
use Rattle.std.specs.Prelude.{ℕ, ◌≤◌, min, List, Bool, true, false, not, ◌&&◌, ◌≡◌, refl, Result as Answer, Ok, Err, leb, length}
use Rattle.std.proofs.Common.{arith, ap, ap₂, sym, subst, ◌∙◌, leb-true}
use Rattle.std.proofs.Math.Option.{none, some}
use Rattle.std.proofs.lemmas.Bool.{not-true, not-false}
use Rattle.cedar.specs.Types.{Mode, Ty, Schema, present}
use Rattle.cedar.specs.Levels.{depth}
use Rattle.cedar.specs.TypeForm.{enc}
use Rattle.cedar.specs.Limits.{Limits, allowed, block_bytes}
use Rattle.cedar.specs.Result.{Result, ok, err}
use Rattle.cedar.specs.Whole.{whole_schema, whole_list}
use Rattle.cedar.specs.Outcome.{Outcome, refused, typed, over}
use Rattle.cedar.specs.Fold.{fold_types}
use Rattle.cedar.specs.Calls.{mode_of, step_fits, write_type, fold_call}
use Rattle.cedar.proofs.Laws.Limits.{allowed-levels, allowed-bytes}
use Rattle.forms.specs.Parts.{part}
use Rattle.forms.specs.TypeBytes.{whole, dec}
use Rattle.forms.specs.ListBytes.{list_fits, list_of}
use Rattle.forms.specs.Laws.Parts.{and_r, length_part}
use Rattle.forms.specs.Laws.Sure.{sure-present, sure-yes}
use Rattle.forms.specs.Laws.Lists.{whole-list-twin}
use Rattle.forms.specs.Refusals.{number_of}
use Rattle.forms.specs.declared.refusals.Refusal.{Refusal as Reason}
use Rattle.folds.specs.Lists.{Opened, FoldsTo}
use Rattle.validator.specs.declared.answers.Answer.TheVariants.{Typed}
use Rattle.validator.specs.Answers.{Answered}
use Rattle.validator.specs.Laws.Writing.{refuses}

-- The answer of `whole_list`.
module _ (lim : Limits) (b : List ℕ) (r : Bool) (q : r ≡ present (whole_list lim b)) (h : not r ≡ false) where
  fits : (leb (length b) block_bytes) && list_fits lim b ≡ true
  fits = sym (sure-present (whole-list-twin lim b)) ∙ sym q ∙ not-false r h

  pub list-there : whole_list lim b ≡ some (list_of lim.levels b)
  list-there = sure-yes (whole-list-twin lim b) fits

  pub list-opened : allowed lim ≡ true → (last : List ℕ) → lim.bytes ≤ length last → Opened lim b last
  list-opened fair last e =
      record {
        deep = omega (arith, (allowed-levels lim fair).0);
        some = omega (arith, (allowed-bytes lim fair).0);
        most = (allowed-bytes lim fair).1;
        good = and_r (leb (length b) block_bytes) (list_fits lim b) fits;
        room = e;
      }

-- What the fold f came to, its form left in the first bytes of `last`.
module _ (lim : Limits) (f : Result Ty) (o last : List ℕ) (r : Answer ℕ Reason) (h : FoldsTo lim f last r) where
  ends : (y : Answer ℕ Reason) → r ≡ y → FoldsTo lim f last y
  ends y e = subst (λ (z : Answer ℕ Reason). FoldsTo lim f last z) e h

  pub folds-not : (e : Reason) → r ≡ Err e → write_type lim (length o) f ≡ refused (number_of e)
  folds-not e q = ap (write_type lim (length o)) (ends (Err e) q)

  module _ (n : ℕ) (e : r ≡ Ok n) where
    pub folds-small : n ≤ length last
    folds-small = omega (arith, (ends (Ok n) e).1.fits, (ends (Ok n) e).1.room)

    sized : length (part 0 n last) ≡ n
    sized = length_part 0 n last folds-small ∙ omega arith

    pub folds-exact : enc (dec lim.levels (part 0 n last)) ≡ part 0 n last
    folds-exact = (ends (Ok n) e).1.exact

    pub folds-whole : whole lim.levels (part 0 n last) ≡ true
    folds-whole = (ends (Ok n) e).1.good

    pub folds-length : length (enc (dec lim.levels (part 0 n last))) ≡ n
    folds-length = ap length folds-exact ∙ sized

    module _ (y : Bool) (fit : y ≡ leb n (min (length o) lim.bytes)) where
      fits-as : leb (length (enc (dec lim.levels (part 0 n last)))) (min (length o) lim.bytes) ≡ y
      fits-as = ap (λ (k : ℕ). leb k (min (length o) lim.bytes)) folds-length ∙ sym fit

      pub folds-over : not y ≡ true → write_type lim (length o) f ≡ refused 10
      folds-over k = ap (write_type lim (length o)) (ends (Ok n) e).0 ∙ rw (fits-as, not-true y k) refl

      module _ (k : not y ≡ false) where
        pub folds-room : length (part 0 n last) ≤ length o
        folds-room = omega (arith, sized, leb-true n (min (length o) lim.bytes) (sym fit ∙ not-false y k))

        pub folds-typed : write_type lim (length o) f ≡ typed (dec lim.levels (part 0 n last))
        folds-typed = ap (write_type lim (length o)) (ends (Ok n) e).0 ∙ rw (fits-as, not-false y k) refl

-- The questions in their order.
module _ (lim : Limits) (fair : allowed lim ≡ true) (mode : ℕ) (s list o : List ℕ) (work : ℕ) where
  abbrev outcome : Outcome
  outcome = fold_call lim mode s list (length o) work

  pub fold-mode : mode_of mode ≡ none → Answered outcome o o (err 1)
  fold-mode e = refuses 1 (rw (fair, e) refl)

  module _ (m : Mode) (em : mode_of mode ≡ some m) where
    pub fold-schema : whole_schema lim s ≡ none → Answered outcome o o (err 2)
    fold-schema e = refuses 2 (rw (fair, em, e) refl)

    module _ (x : Schema) (es : whole_schema lim s ≡ some x) where
      pub fold-list : whole_list lim list ≡ none → Answered outcome o o (err 3)
      fold-list e = refuses 3 (rw (fair, em, es, e) refl)

      module _ (el : whole_list lim list ≡ some (list_of lim.levels list)) where
        abbrev folded : Result Ty
        folded = fold_types (step_fits lim work) m (list_of lim.levels list)

        goes_on : outcome ≡ write_type lim (length o) folded
        goes_on = rw (fair, em, es, el) refl

        pub fold-refused : (e : ℕ) → write_type lim (length o) folded ≡ refused e → Answered outcome o o (err e)
        fold-refused e q = refuses e (goes_on ∙ q)

        pub fold-writes : (n : ℕ) (last : List ℕ) → write_type lim (length o) folded ≡ typed (dec lim.levels (part 0 n last)) →
            enc (dec lim.levels (part 0 n last)) ≡ part 0 n last → length (enc (dec lim.levels (part 0 n last))) ≡ n →
            (xs : List ℕ) → xs ≡ over (part 0 n last) o → (d : ℕ) → d ≡ depth (dec lim.levels (part 0 n last)) → Answered outcome o xs (ok (Typed n d))
        fold-writes n last q exact l xs w d p =
            subst (λ (z : Outcome). Answered z o xs (ok (Typed n d))) (sym (goes_on ∙ q))
            record { answer = ap ok (ap₂ Typed (sym l) p); result = w ∙ ap (λ (z : List ℕ). over z o) (sym exact) }
