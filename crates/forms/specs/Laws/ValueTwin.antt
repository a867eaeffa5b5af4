-- Value forms as cedar reads them, and as the code walks them. Assumes nothing.
use Rattle.std.specs.Prelude.{refl, List, [], ◌∷◌, Bool, true, ◌&&◌, ℕ, zero, suc, ◌+◌, ◌-◌, eqb, leb, length, drop}
use Rattle.std.proofs.Common.{ap, sym, ◌∙◌, arith, length-drop, leb-true, lt-ltb}
use Rattle.std.proofs.Math.Bool.{and-true}
use Rattle.std.proofs.Math.Option.{Option}
use Rattle.std.proofs.Math.Dec.{eqb-suc-suc}
use Rattle.cedar.specs.Types.{Value, boolean, number, text, uid, set_of, record_of, call}
use Rattle.cedar.specs.Limits.{Limits}
use Rattle.cedar.specs.Whole.{whole_value}
use Rattle.cedar.specs.Table.{read_length, any_order, ascending}
use Rattle.cedar.specs.ValueForm.{ValueKind, bool_kind, long_kind, string_kind, uid_kind, set_kind, record_kind, call_kind, no_kind, value_kind, read_pair, values_from}
use Rattle.cedar.specs.ValueForm.{pairs_from, parse_value_as, parse_value}
use Rattle.forms.specs.Parts.{rd}
use Rattle.forms.specs.ValueBytes.{member_row, pair_row, whole_v_as, dec_v_as, whole_v, dec_v}
use Rattle.forms.specs.Laws.Parts.{and_same, and_yes, rest-is, rd-take}
use Rattle.forms.specs.Laws.Sure.{Sure, sure-same, sure-none, sure-some-of, bind_to, map-to, guard-to, finish-to, word_at, ascending-to, eqb_same}
use Rattle.forms.specs.Laws.Sure.{leb-eqb, leb-under, within-to}
use Rattle.forms.specs.Laws.RowsTwin.{Reads, Local, table-twin}

-- A member's entry.
pub member-reads : Reads member_row read_length any_order
member-reads =
    record {
      good = λ es. true;
      after = λ s es. true;
      ok-is = λ s es. refl;
      reads = λ es. sure-same (map-to (λ y. (tt, y.0, y.1)) (word_at es 0)) (sym (and-true (leb 2 (length es)))) refl;
      follows = λ s es. sure-some-of tt;
    }

pub member-local : Local member_row
member-local = record { ok_at = λ s k es h. refl; next-at = λ k es h. refl; head_at = λ k es h. refl; length_at = λ k es h. rd-take k es 0 (omega arith) }

-- A pair's entry.
pub pair_reads : Reads pair_row read_pair ascending
pair_reads =
    record {
      good = λ es. true;
      after = λ low es. leb low (rd es 0);
      ok-is = λ s es. refl;
      reads = λ es. sure-same (bind_to _ (word_at es 0) λ q. map-to (λ y. (rd es 0, y.0, y.1)) (word_at es 2))
          (ap (λ (z : Bool). leb 2 (length es) && z) (sym (and-true (leb 4 (length es)))) ∙ leb-under 2 4 (length es) true (omega arith)) refl;
      follows = λ low es. ascending-to low (rd es 0);
    }

pub pair-local : Local pair_row
pair-local =
    record {
      ok_at = λ s k es h. rw (rd-take k es 0 (omega arith)) refl;
      next-at = λ k es h. rw (rd-take k es 0 (omega arith)) refl;
      head_at = λ k es h. rd-take k es 0 (omega arith);
      length_at = λ k es h. rd-take k es 2 (omega arith);
    }

-- What follows the first byte x, by its kind.
module _ (p : List ℕ → Option Value) (w : List ℕ → Bool) (d : List ℕ → Value) (t : (b : List ℕ) → Sure (p b) (w b) (d b)) where
  value-as-twin : (k : ValueKind) (x : ℕ) (b : List ℕ) → Sure (parse_value_as p k b) (whole_v_as w k (x ∷ b)) (dec_v_as d k (x ∷ b))
  value-as-twin (bool_kind z) x b = sure-same (finish-to (boolean z) b) (sym (eqb-suc-suc (length b) 0)) refl
  value-as-twin long_kind x b =
      sure-same (map-to (λ u. number b) (guard-to (eqb (length b) 8))) (sym (eqb-suc-suc (length b) 8)) (ap number (sym (rest-is 1 (x ∷ b))))
  value-as-twin string_kind x b =
      let n = rd (x ∷ b) 1 in
      sure-same
      (bind_to _ (word_at (x ∷ b) 1) λ q. map-to (λ u. text (drop 3 (x ∷ b))) (guard-to (eqb (length (drop 3 (x ∷ b))) n)))
      (and_same (leb 3 (length (x ∷ b))) λ q. rw (length-drop 3 (x ∷ b))
      (eqb_same (length (x ∷ b) - 3) n (length (x ∷ b)) (3 + n) (λ h. omega (arith, leb-true 3 (length (x ∷ b)) q)) (λ h. omega arith)))
      (ap text (sym (rest-is 3 (x ∷ b))))
  value-as-twin uid_kind x b =
      sure-same
      (bind_to _ (word_at (x ∷ b) 1) λ q₁. bind_to _ (word_at (x ∷ b) 3) λ q₂. finish-to (uid (rd (x ∷ b) 1) (rd (x ∷ b) 3)) (drop 5 (x ∷ b)))
      (leb-under 3 5 (length (x ∷ b)) _ (omega arith) ∙ rw (length-drop 5 (x ∷ b)) (leb-eqb 5 (length (x ∷ b)) 0 5 refl))
      refl
  value-as-twin set_kind x b =
      map-to set_of (map-to values_from (table-twin member_row (λ _. w) (λ _. d) read_length any_order (λ h. p) member-reads (λ h. t) member-local tt 1 (x ∷ b)))
  value-as-twin record_kind x b =
      map-to record_of (map-to pairs_from (table-twin pair_row (λ _. w) (λ _. d) read_pair ascending (λ h. p) pair_reads (λ h. t) pair-local 0 1 (x ∷ b)))
  value-as-twin call_kind x b =
      sure-same
      (bind_to _ (word_at (x ∷ b) 1) λ q. map-to (call (rd (x ∷ b) 1))
      (map-to values_from (table-twin member_row (λ _. w) (λ _. d) read_length any_order (λ h. p) member-reads (λ h. t) member-local tt 3 (x ∷ b))))
      (leb-under 3 5 (length (x ∷ b)) _ (omega arith))
      refl
  value-as-twin no_kind x b = sure-none _

-- The law: cedar reads a value just where the form is whole, and it is the one decoded.
pub value-twin : (l : ℕ) (b : List ℕ) → Sure (parse_value l b) (whole_v l b) (dec_v l b)
unfolding parse_value whole_v dec_v
value-twin zero b = sure-none _
value-twin (suc l) [] = sure-none _
value-twin (suc l) (k ∷ b) =
    sure-same (value-as-twin (parse_value l) (whole_v l) (dec_v l) (value-twin l) (value_kind k) k b)
    (sym (and_yes _ (whole_v_as (whole_v l) (value_kind k) (k ∷ b)) (lt-ltb 0 (suc (length b)) (omega arith)))) refl

-- Within the limits of a value.
pub whole-value-twin : (lim : Limits) (b : List ℕ) → Sure (whole_value lim b) (leb (length b) lim.bytes && whole_v lim.levels b) (dec_v lim.levels b)
whole-value-twin lim b = within-to lim.bytes (parse_value lim.levels) b (value-twin lim.levels b)
