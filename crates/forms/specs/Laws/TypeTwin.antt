-- Type forms as cedar reads them, and as the code walks them. Assumes nothing.
use Rattle.std.specs.Prelude.{◌≡◌, refl, List, [], ◌∷◌, Bool, true, false, ◌&&◌, ℕ, zero, suc, ◌+◌, ◌*◌, ◌-◌, ◌≤◌, eqb, leb, length, drop, get_or}
use Rattle.std.proofs.Common.{ap, sym, ◌∙◌, mul-suc, add-one, arith, length-drop, get_or-take, leb-true, le-leb, lt-ltb}
use Rattle.std.proofs.Math.Bool.{and-false, and-true, and_assoc}
use Rattle.std.proofs.Math.Option.{Option}
use Rattle.std.proofs.Math.Decide.{dec_le}
use Rattle.std.proofs.Math.Dec.{eqb-suc-suc}
use Rattle.std.proofs.lemmas.Bool.{lt-leb}
use Rattle.cedar.specs.Types.{Ty, atom, set, rec, act, ent, ext}
use Rattle.cedar.specs.Limits.{Limits}
use Rattle.cedar.specs.Whole.{whole_type}
use Rattle.cedar.specs.Bytes.{parse_names}
use Rattle.cedar.specs.TypeForm.{Kind, one, set_kind, rec_kind, ent_kind, act_kind, ext_kind, no_kind, kind_of, attrs_of, read_attr, ascending_attr, parse_as, parse}
use Rattle.forms.specs.Parts.{rd}
use Rattle.forms.specs.Rows.{table_fits}
use Rattle.forms.specs.TypeBytes.{names_up, names_by, attr_row, whole_as, dec_as, whole, dec}
use Rattle.forms.specs.Laws.Parts.{and_same, and_yes, rest-is, rd-take}
use Rattle.forms.specs.Laws.Sure.{Sure, sure-same, sure-none, bind_to, map-to, guard-to, finish-to, word_at, bit_at, ascending-to, eqb_same, leb-eqb}
use Rattle.forms.specs.Laws.Sure.{leb-under, within-to}
use Rattle.forms.specs.Laws.RowsTwin.{Reads, Local, table-twin}

-- An attribute's entry.
pub attr-reads : Reads attr_row read_attr ascending_attr
attr-reads =
    record {
      good = λ es. leb (get_or es 2 0) 1;
      after = λ low es. leb low (rd es 0);
      ok-is = λ s es. refl;
      reads = λ es. sure-same
          (bind_to _ (word_at es 0) λ q₁. bind_to _ (bit_at es 2) λ q₂. map-to (λ y. ((rd es 0, eqb (get_or es 2 0) 1), y.0, y.1)) (word_at es 3))
          (gather (length es) (leb (get_or es 2 0) 1))
          refl;
      follows = λ low es. ascending-to low (rd es 0);
    }
  where
    gather : (n : ℕ) (g : Bool) → leb 2 n && ((leb 3 n && g) && leb 5 n) ≡ (leb 5 n && g)
    gather n g = go (dec_le 5 n)
      where
        go : Dec (5 ≤ n) → leb 2 n && ((leb 3 n && g) && leb 5 n) ≡ (leb 5 n && g)
        go (yes h) = rw (le-leb 2 n (omega arith), le-leb 3 n (omega arith), le-leb 5 n h) (and-true g)
        go (no h) = rw (lt-leb 5 n (omega arith), and-false (leb 3 n && g), and-false (leb 2 n)) refl

pub attr-local : Local attr_row
attr-local =
    record {
      ok_at = λ s k es h. rw (get_or-take k es 2 0 (omega arith), rd-take k es 0 (omega arith)) refl;
      next-at = λ k es h. rw (rd-take k es 0 (omega arith)) refl;
      head_at = λ k es h. rw (get_or-take k es 2 0 (omega arith), rd-take k es 0 (omega arith)) refl;
      length_at = λ k es h. rd-take k es 3 (omega arith);
    }

-- Ascending names with no byte over.
pub names-twin : (n low : ℕ) (l : List ℕ) → Sure (parse_names n low l) (eqb (length l) (2 * n) && names_up n low l) (names_by 2 n l)
unfolding names_up names_by
names-twin zero low l = sure-same (finish-to [] l) (sym (and-true (eqb (length l) 0))) refl
names-twin (suc n) low l =
    sure-same
    (bind_to _ (word_at l 0) λ q₁. bind_to _ (guard-to (leb low (rd l 0))) λ q₂. map-to (λ ks. rd l 0 ∷ ks) (names-twin n (suc (rd l 0)) (drop 2 l)))
    (swap (leb 2 (length l)) (leb low (rd l 0)) (eqb (length (drop 2 l)) (2 * n)) (names_up n (suc (rd l 0)) (drop 2 l))
    ∙
    rw (rest-is 2 l, add-one (rd l 0), length-drop 2 l, mul-suc 2 n)
    (ap (λ (z : Bool). z && (leb low (rd l 0) && names_up n (suc (rd l 0)) (drop 2 l))) (leb-eqb 2 (length l) (2 * n) (2 * n + 2) (omega arith))))
    (rw (rest-is 2 l) refl)
  where
    swap : (a g e r : Bool) → a && (g && (e && r)) ≡ (a && e) && (g && r)
    swap true true e r = refl
    swap true false e r = sym (and-false e)
    swap false g e r = refl

-- What follows the first byte x, by its kind.
module _ (p : List ℕ → Option Ty) (w : List ℕ → Bool) (d : List ℕ → Ty) (t : (b : List ℕ) → Sure (p b) (w b) (d b)) where
  as-twin : (k : Kind) (x : ℕ) (b : List ℕ) → Sure (parse_as p k b) (whole_as w k (x ∷ b)) (dec_as d k (x ∷ b))
  as-twin (one a) x b = sure-same (finish-to (atom a) b) (sym (eqb-suc-suc (length b) 0)) refl
  as-twin set_kind x b = sure-same (map-to set (t b)) (rw (rest-is 1 (x ∷ b)) refl) (rw (rest-is 1 (x ∷ b)) refl)
  as-twin rec_kind x b =
      let f = table_fits attr_row (λ _. w) 0 2 (x ∷ b) in
      sure-same
      (bind_to _ (bit_at (x ∷ b) 1) λ q. map-to (rec (eqb (get_or (x ∷ b) 1 0) 1))
      (map-to attrs_of (table-twin attr_row (λ _. w) (λ _. d) read_attr ascending_attr (λ h. p) attr-reads (λ h. t) attr-local 0 2 (x ∷ b))))
      (and_assoc (leb 2 (length (x ∷ b))) (leb (get_or (x ∷ b) 1 0) 1) f)
      refl
  as-twin ent_kind x b =
      let n = rd (x ∷ b) 1 in
      sure-same
      (bind_to _ (word_at (x ∷ b) 1) λ q₁. bind_to _ (guard-to (leb 1 n)) λ q₂. map-to ent (names-twin n 0 (drop 3 (x ∷ b))))
      (and_same (leb 3 (length (x ∷ b))) λ q.
      rw (rest-is 3 (x ∷ b), length-drop 3 (x ∷ b))
      (ap (λ (z : Bool). leb 1 n && (z && names_up n 0 (drop 3 (x ∷ b))))
      (eqb_same (length (x ∷ b) - 3) (2 * n) (length (x ∷ b)) (3 + 2 * n) (λ h. omega (arith, leb-true 3 (length (x ∷ b)) q)) (λ h. omega arith))))
      (rw (rest-is 3 (x ∷ b)) refl)
  as-twin act_kind x b =
      sure-same
      (bind_to _ (word_at (x ∷ b) 1) λ q. map-to (act (rd (x ∷ b) 1))
      (map-to attrs_of (table-twin attr_row (λ _. w) (λ _. d) read_attr ascending_attr (λ h. p) attr-reads (λ h. t) attr-local 0 3 (x ∷ b))))
      (leb-under 3 5 (length (x ∷ b)) _ (omega arith))
      refl
  as-twin ext_kind x b =
      sure-same (bind_to _ (word_at (x ∷ b) 1) λ q. finish-to (ext (rd (x ∷ b) 1)) (drop 3 (x ∷ b)))
      (rw (length-drop 3 (x ∷ b)) (leb-eqb 3 (length (x ∷ b)) 0 3 refl))
      refl
  as-twin no_kind x b = sure-none _

-- The law: cedar reads a type just where the form is whole, and it is the one decoded.
pub type-twin : (l : ℕ) (b : List ℕ) → Sure (parse l b) (whole l b) (dec l b)
unfolding parse whole dec
type-twin zero b = sure-none _
type-twin (suc l) [] = sure-none _
type-twin (suc l) (k ∷ b) =
    sure-same (as-twin (parse l) (whole l) (dec l) (type-twin l) (kind_of k) k b)
    (sym (and_yes _ (whole_as (whole l) (kind_of k) (k ∷ b)) (lt-ltb 0 (suc (length b)) (omega arith)))) refl

-- Within the limits of a type.
pub whole-type-twin : (lim : Limits) (b : List ℕ) → Sure (whole_type lim b) (leb (length b) lim.bytes && whole lim.levels b) (dec lim.levels b)
whole-type-twin lim b = within-to lim.bytes (parse lim.levels) b (type-twin lim.levels b)
