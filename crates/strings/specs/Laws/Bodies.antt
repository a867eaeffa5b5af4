-- The strings of the bodies of a table, one after another, and those of a value by its kind. Assumes nothing.
use Rattle.std.specs.Prelude.{◌≡◌, refl, List, Bool, true, false, not, ◌&&◌, ℕ, zero, suc, ◌+◌, ◌*◌, ◌-◌, ◌≤◌, ◌<◌, leb, length}
use Rattle.std.proofs.Math.Path.{ap, sym}
use Rattle.std.proofs.Common.{◌∙◌, leb-true}
use Rattle.std.proofs.lemmas.Bool.{not-true, not-false}
use Rattle.cedar.specs.Types.{Value}
use Rattle.cedar.specs.ValueForm.{value_kind, values_from, pairs_from}
use Rattle.cedar.specs.Text.{is_text, textual, textual_values, textual_pairs}
use Rattle.forms.specs.Parts.{part, rest, rd, kind}
use Rattle.forms.specs.Rows.{body_row, rows_of, table_fits}
use Rattle.forms.specs.ValueBytes.{pair_row, whole_v, dec_v, dec_v_as}
use Rattle.forms.specs.Laws.Parts.{and_l, and_yes, and-not-l}
use Rattle.forms.specs.Laws.Ahead.{Ahead, ahead-again, decoded, decoded-none, table-ahead, table-decoded}
use Rattle.forms.specs.Laws.Values.{value-level, value_as, dec-value}
use Rattle.strings.specs.Bodies.{bodies_at}

-- What is left of the bodies, each whole, answers for all.
pub record BodiesAhead (l width : ℕ) (all : Bool) (left : ℕ) (e b : List ℕ) : Type 0 where
  pub rows : Ahead (body_row width) (λ _. whole_v l) left tt e b
  pub same : all ≡ textual_values (values_from (rows_of (body_row width) (λ _. dec_v l) left e b))

pub bodies-start : (l width c : ℕ) (v : List ℕ) → table_fits (body_row width) (λ _. whole_v l) tt c v ≡ true → (n : ℕ) → n ≡ rd v c →
    BodiesAhead l width (textual_values (bodies_at l width c v)) n (part (c + 2) (c + 2 + width * n) v) (rest (c + 2 + width * n) v)
bodies-start l width c v h n q =
    record {
      rows = table-ahead (body_row width) (λ _. whole_v l) tt c v h n q;
      same = ap (λ xs. textual_values (values_from xs)) (table-decoded (body_row width) (λ _. whole_v l) tt c v h n q (λ _. dec_v l));
    }

module _ {l width : ℕ} {all : Bool} {left : ℕ} {e b : List ℕ} (i : BodiesAhead l width all left e b) where
  pub bodies-end : left ≤ 0 → true ≡ all
  unfolding textual_values
  bodies-end h = sym (i.same ∙ ap (λ xs. textual_values (values_from xs)) (decoded-none (body_row width) (λ _. dec_v l) left e b h))

  module _ (p : 0 < left) (n : ℕ) (q : n ≡ rd e (width - 2)) (x : Bool) (y : x ≡ textual (dec_v l (part 0 n b))) where
    step : all ≡ (x && textual_values (values_from (rows_of (body_row width) (λ _. dec_v l) (left - 1) (rest width e) (rest n b))))
    unfolding textual_values
    step = rw y (i.same ∙ ap (λ xs. textual_values (values_from xs)) (decoded (body_row width) (λ _. dec_v l) left e b p n q))

    pub bodies-stop : not x ≡ true → false ≡ all
    bodies-stop h = and-not-l x _ (not-true x h) ∙ sym step

    pub bodies-again : not x ≡ false → BodiesAhead l width all (left - 1) (rest width e) (rest n b)
    bodies-again h = record { rows = ahead-again i.rows p n q; same = step ∙ and_yes x _ (not-false x h) }

-- The strings of pairs are those of their bodies.
pub pair-strings : (d : List ℕ → Value) (n : ℕ) (es bs : List ℕ) →
    textual_pairs (pairs_from (rows_of pair_row (λ _. d) n es bs)) ≡ textual_values (values_from (rows_of (body_row 4) (λ _. d) n es bs))
unfolding rows_of textual_pairs textual_values
pair-strings d zero es bs = refl
pair-strings d (suc n) es bs = ap (λ (z : Bool). textual (d (part 0 (rd es 2) bs)) && z) (pair-strings d n (rest 4 es) (rest (rd es 2) bs))

-- A value of another kind has no string.
no-strings : (d : List ℕ → Value) (b : List ℕ) (k : ℕ) → (k ≡ 3 → ⊥) → (k ≡ 5 → ⊥) → (k ≡ 6 → ⊥) → (k ≡ 7 → ⊥) → textual (dec_v_as d (value_kind k) b) ≡ true
unfolding textual
no-strings d b zero p3 p5 p6 p7 = refl
no-strings d b (suc zero) p3 p5 p6 p7 = refl
no-strings d b (suc (suc zero)) p3 p5 p6 p7 = refl
no-strings d b (suc (suc (suc zero))) p3 p5 p6 p7 = absurd (p3 refl)
no-strings d b (suc (suc (suc (suc zero)))) p3 p5 p6 p7 = refl
no-strings d b (suc (suc (suc (suc (suc zero))))) p3 p5 p6 p7 = absurd (p5 refl)
no-strings d b (suc (suc (suc (suc (suc (suc zero)))))) p3 p5 p6 p7 = absurd (p6 refl)
no-strings d b (suc (suc (suc (suc (suc (suc (suc zero))))))) p3 p5 p6 p7 = absurd (p7 refl)
no-strings d b (suc (suc (suc (suc (suc (suc (suc (suc k)))))))) p3 p5 p6 p7 = refl

-- The strings of a whole value, by its kind.
module _ (l : ℕ) (b : List ℕ) (h : whole_v l b ≡ true) where
  by_kind : (k : ℕ) → kind b ≡ k → textual (dec_v l b) ≡ textual (dec_v_as (dec_v (l - 1)) (value_kind k) b)
  by_kind k e = ap textual (dec-value l b (value-level l b h) k e)

  pub string-room : kind b ≡ 3 → 3 ≤ length b
  string-room e = leb-true 3 (length b) (and_l (leb 3 (length b)) _ (value_as l b h 3 e))

  pub textual-string : kind b ≡ 3 → is_text (rest 3 b) ≡ textual (dec_v l b)
  unfolding textual
  textual-string e = sym (by_kind 3 e)

  pub textual-set : kind b ≡ 5 → textual_values (bodies_at (l - 1) 2 1 b) ≡ textual (dec_v l b)
  unfolding textual
  textual-set e = sym (by_kind 5 e)

  pub textual-record : kind b ≡ 6 → textual_values (bodies_at (l - 1) 4 1 b) ≡ textual (dec_v l b)
  unfolding textual
  textual-record e = sym (pair-strings (dec_v (l - 1)) (rd b 1) (part 3 (3 + 4 * rd b 1) b) (rest (3 + 4 * rd b 1) b)) ∙ sym (by_kind 6 e)

  pub textual-call : kind b ≡ 7 → textual_values (bodies_at (l - 1) 2 3 b) ≡ textual (dec_v l b)
  unfolding textual
  textual-call e = sym (by_kind 7 e)

  pub textual-other : (kind b ≡ 3 → ⊥) → (kind b ≡ 5 → ⊥) → (kind b ≡ 6 → ⊥) → (kind b ≡ 7 → ⊥) → true ≡ textual (dec_v l b)
  textual-other p3 p5 p6 p7 = sym (by_kind (kind b) refl ∙ no-strings (dec_v (l - 1)) b (kind b) p3 p5 p6 p7)
