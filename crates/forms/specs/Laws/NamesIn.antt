-- Loops over names, two bytes each: what is left answers for all. Assumes nothing.
use Rattle.std.specs.Prelude.{ℕ, ◌+◌, ◌*◌, ◌/◌, ◌<◌, List, [], ◌∷◌, ◌++◌, true, ◌≡◌, length}
use Rattle.std.specs.declared.slice.ChunksExact.{ChunksExact}
use Rattle.std.proofs.Common.{arith, ap, ap₂, sym, ◌∙◌}
use Rattle.cedar.specs.Types.{ent}
use Rattle.forms.specs.Parts.{rest, rd, kind}
use Rattle.forms.specs.TypeBytes.{names_by, whole, dec}
use Rattle.forms.specs.Laws.Parts.{length_rest, rest-is}
use Rattle.forms.specs.Laws.Names.{names-none, names-first}
use Rattle.forms.specs.Laws.Views.{is-entity}
use Rattle.forms.specs.Names.{names_in}

pub names-over : (b : List ℕ) → length b < 2 → names_in b ≡ []
names-over b h = names-none 2 (length b / 2) b (omega arith)

pub names-front : (p b : List ℕ) → length p ≡ 2 → names_in (p ++ b) ≡ rd p 0 ∷ names_in b
names-front [] b h = absurd (omega arith)
names-front (x ∷ []) b h = absurd (omega arith)
names-front (x ∷ y ∷ []) b h =
    let n : length (x ∷ y ∷ b) / 2 ≡ length b / 2 + 1 = omega arith in
    ap (λ (k : ℕ). names_by 2 k (x ∷ y ∷ b)) n ∙ names-first 2 (length b / 2 + 1) (x ∷ y ∷ b) (omega arith)
    ∙ ap₂ (λ (k : ℕ) (c : List ℕ). (x + 256 * y) ∷ names_by 2 k c) (omega arith) (rest-is 2 (x ∷ y ∷ b))
names-front (x ∷ y ∷ z ∷ p) b h = absurd (omega arith)

-- The names of an entity form.
pub names-of-entity : (l : ℕ) (b : List ℕ) → whole l b ≡ true → kind b ≡ 10 → dec l b ≡ ent (names_in (rest 3 b))
names-of-entity l b h k =
    let v = is-entity l b h k in
    let n : rd b 1 ≡ length (rest 3 b) / 2 = omega (arith, length_rest 3 b, v.sized) in
    v.is ∙ ap (λ (j : ℕ). ent (names_by 2 j (rest 3 b))) n

-- The answer for all is that of f for the names left.
pub record NamesLeft {A : Type 0} (all : A) (f : List ℕ → A) (left : ChunksExact ℕ) : Type 0 where
  pub size : left.size ≡ 2
  pub same : all ≡ f (names_in left.rest.now)

pub names-start : {A : Type 0} (f : List ℕ → A) {ns : List ℕ} {items left : ChunksExact ℕ} → left ≡ items → items.rest.now ≡ ns → items.size ≡ 2 →
    NamesLeft (f (names_in ns)) f left
names-start f e r s =
    record { size = ap (λ (c : ChunksExact ℕ). c.size) e ∙ s; same = ap (λ (b : List ℕ). f (names_in b)) (sym (ap (λ (c : ChunksExact ℕ). c.rest.now) e ∙ r)) }

module _ {A : Type 0} {all : A} {f : List ℕ → A} {left : ChunksExact ℕ} (i : NamesLeft all f left) where
  pub names-end : length left.rest.now < left.size → all ≡ f []
  names-end h = i.same ∙ ap f (names-over left.rest.now (omega (arith, i.size)))

  module _ (pair b : List ℕ) (cut : left.rest.now ≡ pair ++ b) (size : length pair ≡ left.size) where
    pub pair-size : length pair ≡ 2
    pair-size = size ∙ i.size

    pub name-first : all ≡ f (rd pair 0 ∷ names_in b)
    name-first = i.same ∙ ap f (ap names_in cut ∙ names-front pair b pair-size)
