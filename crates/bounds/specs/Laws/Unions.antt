-- The union of two lists of names, as it is written. Assumes nothing.
use Rattle.std.specs.Prelude.{◌≡◌, refl, List, ◌∷◌, ◌++◌, ℕ, ◌+◌, ◌≤◌, length}
use Rattle.std.proofs.Common.{ap, ◌∙◌, arith, length-append}
use Rattle.cedar.specs.Bytes.{u16, enc_names}
use Rattle.cedar.specs.Outcome.{over}
use Rattle.forms.specs.Parts.{rest}
use Rattle.writing.specs.Laws.Writing.{back, Writing, writing_more, writing-at}
use Rattle.forms.specs.Laws.Parts.{length_rest}

-- A turn of the merge that writes.
module _ {all o : List ℕ} {at : ℕ} {out ns ks : List ℕ} {k : ℕ} (i : Writing all (enc_names ns) o at out) (e : ns ≡ k ∷ ks) where
  ahead : enc_names ns ≡ u16 k ++ enc_names ks
  ahead = ap enc_names e

  pub name-room : at + 2 ≤ length out
  name-room = omega (arith, writing-at i, ap length ahead, length-append (u16 k) (enc_names ks))

  pub name-entry : 2 ≤ length (rest at out)
  name-entry = omega (arith, name-room, length_rest at out)

  pub name-more : (n : ℕ) (ys : List ℕ) → n ≡ k → ys ≡ over (u16 n) (rest at out) → Writing all (enc_names ks) o (at + 2) (back at out ys)
  name-more n ys q f = writing_more i (u16 k) (enc_names ks) ys 2 ahead record { bytes = f ∙ rw q refl; many = refl }
