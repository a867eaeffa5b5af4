-- The loop of `stands`: what is left of the names answers for all. Assumes nothing.
use Rattle.std.specs.Prelude.{ℕ, List, ◌++◌, Bool, true, ◌≡◌, refl, length}
use Rattle.std.specs.declared.slice.ChunksExact.{ChunksExact}
use Rattle.std.proofs.Common.{sym, ◌∙◌, eq-eqb, ne_eqb}
use Rattle.cedar.specs.Types.{mem}
use Rattle.forms.specs.Parts.{rd}
use Rattle.forms.specs.Laws.NamesIn.{NamesLeft, name-first}

module _ {name : ℕ} {all : Bool} {left : ChunksExact ℕ} (i : NamesLeft all (mem name) left) (pair b : List ℕ)
    (cut : left.rest.now ≡ pair ++ b) (size : length pair ≡ left.size) where
  pub name-here : rd pair 0 ≡ name → true ≡ all
  name-here h = sym (name-first i pair b cut size ∙ rw (eq-eqb name (rd pair 0) (sym h)) refl)

  pub name-other : (rd pair 0 ≡ name → ⊥) → (next : ChunksExact ℕ) → next.size ≡ left.size → next.rest.now ≡ b → NamesLeft all (mem name) next
  name-other h next s r =
      record {
        size = s ∙ i.size;
        same = name-first i pair b cut size ∙ rw (ne_eqb name (rd pair 0) (λ e. h (sym e)), r) refl;
      }
