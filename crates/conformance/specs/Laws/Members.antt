-- The loop of `members_conform`: what is left answers for all. Assumes nothing.
use Rattle.std.specs.Prelude.{◌≡◌, List, true, ℕ, ◌+◌, ◌*◌}
use Rattle.std.proofs.Common.{arith, ap, sym, ◌∙◌}
use Rattle.cedar.specs.Types.{Value}
use Rattle.cedar.specs.ValueForm.{values_from, set_kind}
use Rattle.cedar.specs.Conformance.{Verdict as Said, each_value}
use Rattle.forms.specs.Rows.{rows_of}
use Rattle.conformance.specs.declared.verdicts.Verdict.{Verdict}
use Rattle.conformance.specs.declared.verdicts.Verdict.TheVariants.{Holds}
use Rattle.conformance.specs.Verdicts.{verdict_of}
use Rattle.forms.specs.ValueBytes.{member_row, whole_v, dec_v, whole_v_as}
use Rattle.forms.specs.Search.{Laid}
use Rattle.forms.specs.RowBytes.{TookFirst}
use Rattle.forms.specs.declared.rows.Row.{Row}
use Rattle.forms.specs.Laws.Ahead.{Ahead, decoded-none, table-ahead, table-decoded}
use Rattle.conformance.specs.Laws.Taken.{ahead-laid, taken-again, taken-body, taken-decoded}
use Rattle.conformance.specs.Laws.Verdicts.{Then, then-stop, then-on}
use Rattle.forms.specs.Parts.{part, rest, rd}
use Rattle.conformance.specs.Walks.{members_of}

pub record MembersAhead (l : ℕ) (g : Value → Said) (all : Said) (left : ℕ) (e b : List ℕ) : Type 0 where
  pub rows : Ahead member_row (λ _. whole_v l) left tt e b
  pub same : all ≡ each_value g (values_from (rows_of member_row (λ _. dec_v l) left e b))

pub members-start : (l : ℕ) (g : Value → Said) (v : List ℕ) → whole_v_as (whole_v l) set_kind v ≡ true → (n : ℕ) → n ≡ rd v 1 →
    MembersAhead l g (each_value g (members_of l v)) n (part 3 (3 + 2 * n) v) (rest (3 + 2 * n) v)
members-start l g v h n q =
    record {
      rows = table-ahead member_row (λ _. whole_v l) tt 1 v h n q;
      same = ap (λ xs. each_value g (values_from xs)) (table-decoded member_row (λ _. whole_v l) tt 1 v h n q (λ _. dec_v l));
    }

module _ {l : ℕ} {g : Value → Said} {all : Said} {left : ℕ} {e b : List ℕ} (i : MembersAhead l g all left e b) where
  pub members-laid : Laid 2 left e b
  members-laid = ahead-laid i.rows (omega arith)

  pub members-end : left ≡ 0 → Holds ≡ verdict_of all
  members-end h = sym (ap verdict_of (i.same ∙ ap (λ xs. each_value g (values_from xs)) (decoded-none member_row (λ _. dec_v l) left e b (omega arith))))

  module _ {m : ℕ} {fs cs : List ℕ} {r : Row} (t : TookFirst 2 left e b m fs cs r) where
    pub member-whole : whole_v l r.body.now ≡ true
    member-whole = taken-body i.rows t

    module _ (x : Verdict) (y : x ≡ verdict_of (g (dec_v l r.body.now))) where
      step : Then all (g (dec_v l r.body.now)) (each_value g (values_from (rows_of member_row (λ _. dec_v l) m fs cs)))
      step = record { is = i.same ∙ ap (λ xs. each_value g (values_from xs)) (taken-decoded member_row (λ _. dec_v l) t) }

      pub members-stop : (x ≡ Holds → ⊥) → x ≡ verdict_of all
      members-stop h = then-stop step x y h

      pub members-again : x ≡ Holds → MembersAhead l g all m fs cs
      members-again h = record { rows = taken-again i.rows t; same = then-on step x y h }
