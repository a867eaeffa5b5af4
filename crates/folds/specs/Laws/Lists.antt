-- The loop of a fold, and its start. Assumes nothing.
use Rattle.std.specs.Prelude.{ℕ, zero, suc, ◌+◌, ◌*◌, ◌≤◌, ◌<◌, List, [], ◌∷◌, true, ◌≡◌, refl, Result as RustResult, Ok, Err, length, set}
use Rattle.std.proofs.Common.{arith, subst, ◌∙◌}
use Rattle.std.proofs.Math.Path.{ap, sym}
use Rattle.std.proofs.Math.ListN.{length-set}
use Rattle.cedar.specs.Types.{Mode, Ty, atom, never}
use Rattle.cedar.specs.TypeForm.{enc}
use Rattle.cedar.specs.Limits.{Limits}
use Rattle.cedar.specs.Result.{Result}
use Rattle.cedar.specs.Bound.{bound}
use Rattle.cedar.specs.Fold.{fold_from, fold_types}
use Rattle.cedar.specs.Calls.{step_fits}
use Rattle.forms.specs.Parts.{part, rest, rd}
use Rattle.forms.specs.TypeBytes.{whole, dec}
use Rattle.forms.specs.ListBytes.{SoundTs, type_fits, dec_ts, list_of}
use Rattle.forms.specs.Laws.Lists.{TypeEntry, type-entry, types-none, is-list}
use Rattle.forms.specs.RowBytes.{TookFirst}
use Rattle.forms.specs.Rows.{none_left}
use Rattle.forms.specs.Search.{Laid}
use Rattle.forms.specs.ValueBytes.{member_row}
use Rattle.forms.specs.declared.refusals.Refusal.{Refusal}
use Rattle.forms.specs.declared.rows.Row.{Row}
use Rattle.forms.specs.Laws.Skips.{rows-used}
use Rattle.forms.specs.Laws.RowBytes.{took-left}
use Rattle.folds.specs.declared.steps.NoStep.{NoStep}
use Rattle.folds.specs.declared.steps.NoStep.TheVariants.{Unbounded, TooLong}
use Rattle.folds.specs.Steps.{Held, Stepped, refusal_of}
use Rattle.folds.specs.Lists.{Opened, FoldsTo}

-- The loop: `all` is what it is to end with.
pub record Folding (lim : Limits) (work : ℕ) (m : Mode) (all : Result Ty) (len : ℕ) (last : List ℕ) (left : ℕ) (es bs : List ℕ) : Type 0 where
  pub held : Held lim len last
  pub sound : SoundTs lim left es bs
  pub same : all ≡ fold_from (step_fits lim work) m (dec lim.levels (part 0 len last)) (dec_ts lim.levels left es bs)

module _ {lim : Limits} {work : ℕ} {m : Mode} {all : Result Ty} {len : ℕ} {last : List ℕ} {left : ℕ} {es bs : List ℕ}
    (i : Folding lim work m all len last left es bs) where
  pub folding-end : left ≤ 0 → FoldsTo lim all last (Ok len)
  folding-end h = (i.same ∙ ap (fold_from (step_fits lim work) m (dec lim.levels (part 0 len last))) (types-none lim.levels left es bs h), i.held)

  pub folding-laid : Laid 2 left es bs
  folding-laid =
      record {
        wide = omega arith;
        sized = i.sound.sized;
        room = rows-used member_row (λ _. type_fits lim) none_left (λ _. dec lim.levels) left tt es bs i.sound.good;
      }

  -- A type that was taken.
  module _ {left' : ℕ} {es' bs' : List ℕ} {row : Row} (t : TookFirst 2 left es bs left' es' bs' row) where
    taken : TypeEntry lim left es bs
    taken = type-entry i.sound t.first.some

    pub folding-type : whole lim.levels row.body.now ≡ true
    folding-type = rw t.first.body taken.body

    goes : all ≡ fold_from (step_fits lim work) m (dec lim.levels (part 0 len last)) (dec lim.levels row.body.now ∷ dec_ts lim.levels left' es' bs')
    goes =
        let e : dec_ts lim.levels left es bs ≡ dec lim.levels row.body.now ∷ dec_ts lim.levels left' es' bs' =
        rw (t.first.body, t.entries, t.bodies, ← took-left t) taken.is in
        i.same ∙ ap (fold_from (step_fits lim work) m (dec lim.levels (part 0 len last))) e

    module _ (last' : List ℕ) where
      abbrev stepped : RustResult ℕ NoStep → Type 0
      stepped r = Stepped lim (bound m (dec lim.levels (part 0 len last)) (dec lim.levels row.body.now)) work last' r

      pub folding-not : (x : NoStep) → stepped (Err x) → FoldsTo lim all last' (Err (refusal_of x))
      folding-not (Unbounded e) g = goes ∙ rw g refl
      folding-not TooLong g = goes ∙ rw (g.1.0, g.1.1) refl

      pub folding-next : (n : ℕ) → stepped (Ok n) → Folding lim work m all n last' left' es' bs'
      folding-next n d =
          record {
            held = d.2;
            sound = rw (t.entries, t.bodies, ← took-left t) taken.more;
            same = goes ∙ rw (d.0, d.1) refl;
          }

-- The start: Never in the first byte, then the whole list.
never-part : (last : List ℕ) → 0 < length last → part 0 1 (set last 0 0) ≡ 0 ∷ []
never-part [] h = absurd (omega (arith, h))
never-part (x ∷ last) h = refl

never-form : (l : ℕ) → 0 < l → (whole l (0 ∷ []) ≡ true) × (dec l (0 ∷ []) ≡ atom never)
unfolding whole dec
never-form zero h = absurd (omega (arith, h))
never-form (suc l) h = (refl, refl)

module _ (lim : Limits) (list last : List ℕ) (o : Opened lim list last) where
  room-left : 0 < length last
  room-left = omega (arith, o.some, o.room)

  pub never-is : dec lim.levels (part 0 1 (set last 0 0)) ≡ atom never
  never-is = ap (dec lim.levels) (never-part last room-left) ∙ (never-form lim.levels o.deep).1

  pub never-held : Held lim 1 (set last 0 0)
  unfolding enc
  never-held =
      record {
        most = o.most;
        room = omega (arith, length-set last 0 0, o.room);
        fits = omega (arith, o.some);
        good = ap (whole lim.levels) (never-part last room-left) ∙ (never-form lim.levels o.deep).0;
        exact = ap enc never-is ∙ sym (never-part last room-left);
      }

  module _ (n : ℕ) (q : n ≡ rd list 0) where
    pub list-sound : SoundTs lim n (part 2 (2 + 2 * n) list) (rest (2 + 2 * n) list)
    list-sound = rw q (is-list lim list o.good).sound

    pub list-folds : (work : ℕ) (m : Mode) (last' : List ℕ) (r : RustResult ℕ Refusal) →
        FoldsTo lim
        (fold_from (step_fits lim work) m (dec lim.levels (part 0 1 (set last 0 0)))
        (dec_ts lim.levels n (part 2 (2 + 2 * n) list) (rest (2 + 2 * n) list))) last' r →
        FoldsTo lim (fold_types (step_fits lim work) m (list_of lim.levels list)) last' r
    list-folds work m last' r f = subst (λ (x : Result Ty). FoldsTo lim x last' r) same f
      where
        same : fold_from (step_fits lim work) m (dec lim.levels (part 0 1 (set last 0 0)))
            (dec_ts lim.levels n (part 2 (2 + 2 * n) list) (rest (2 + 2 * n) list)) ≡ fold_types (step_fits lim work) m (list_of lim.levels list)
        same = rw (never-is, q) refl
