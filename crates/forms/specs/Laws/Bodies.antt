-- A table in order is one of bodies, whatever else its entries say. Assumes nothing.
use Rattle.std.specs.Prelude.{◌≡◌, List, Bool, true, length}
use Rattle.std.proofs.Common.{◌∙◌}
use Prim.Native.Nat.{ℕ, zero, suc, ◌+◌}
use Rattle.std.proofs.Math.Dec.{leb}
use Rattle.forms.specs.Parts.{part, rest, rd}
use Rattle.forms.specs.Rows.{Row, body_row, body_length, rows_to, none_left, table_end, table_fits}
use Rattle.forms.specs.Laws.Parts.{and_l, and_r, and_yes}

module _ {S H : Type 0} (r : Row S H) (w : List ℕ → Bool) where
  rows-bodies : (n : ℕ) (s : S) (es bs : List ℕ) → rows_to r (λ _. w) none_left n s es bs ≡ true → rows_to (body_row r.width) (λ _. w) none_left n tt es bs ≡ true
  unfolding rows_to
  rows-bodies zero s es bs h = h
  rows-bodies (suc n) s es bs h =
      let len = body_length r es in
      let room = leb len (length bs) in
      let good = w (part 0 len bs) in
      let h₁ = and_r (r.ok s es) _ h in
      let h₂ = and_r room _ h₁ in
      and_yes room _ (and_l room _ h₁) ∙ and_yes good _ (and_l good _ h₂) ∙
      rows-bodies n (r.next es) (rest r.width es) (rest len bs) (and_r good _ h₂)

  pub table-bodies : (s : S) (c : ℕ) (b : List ℕ) → table_fits r (λ _. w) s c b ≡ true → table_fits (body_row r.width) (λ _. w) tt c b ≡ true
  table-bodies s c b h =
      let count = leb (c + 2) (length b) in
      let entries = leb (table_end r c b) (length b) in
      let h₁ = and_r count _ h in
      and_yes count _ (and_l count _ h) ∙ and_yes entries _ (and_l entries _ h₁) ∙
      rows-bodies (rd b c) s (part (c + 2) (table_end r c b) b) (rest (table_end r c b) b) (and_r entries _ h₁)
