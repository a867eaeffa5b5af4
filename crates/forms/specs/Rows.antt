-- Tables in the borrow checker's terms: entries of one width, then their bodies. Assumes nothing: these are definitions.
use Rattle.std.specs.Prelude.{ℕ, zero, suc, ◌+◌, ◌*◌, ◌-◌, List, [], ◌∷◌, Bool, true, ◌&&◌, eqb, leb, length}
use Rattle.forms.specs.Parts.{part, rest, rd}

-- How entries look: their width, whether one may follow, what the next one goes by, and what it says.
pub record Row (S H : Type 0) : Type 0 where
  pub width : ℕ
  pub ok : S → List ℕ → Bool
  pub next : List ℕ → S
  pub head : List ℕ → H

module _ {S H : Type 0} where
  -- The length of the first body: an entry's last two bytes.
  abbrev pub body_length : Row S H → List ℕ → ℕ
  body_length r es = rd es (r.width - 2)

  -- n entries are in order, each body passes w, and what is left of the bodies passes e.
  unfoldable pub rows_to : Row S H → (H → List ℕ → Bool) → (List ℕ → Bool) → ℕ → S → List ℕ → List ℕ → Bool
  rows_to r w e zero s es bs = e bs
  rows_to r w e (suc n) s es bs =
      r.ok s es
      && (leb (body_length r es) (length bs)
      && (w (r.head es) (part 0 (body_length r es) bs)
      && rows_to r w e n (r.next es) (rest r.width es) (rest (body_length r es) bs)))

  -- What n entries and their bodies say.
  unfoldable pub rows_of : {A : Type 0} → Row S H → (H → List ℕ → A) → ℕ → List ℕ → List ℕ → List (H × A)
  rows_of r d zero es bs = []
  rows_of r d (suc n) es bs =
      (r.head es, d (r.head es) (part 0 (body_length r es) bs)) ∷ rows_of r d n (rest r.width es) (rest (body_length r es) bs)

  -- What n bodies leave over.
  unfoldable pub left_of : Row S H → ℕ → List ℕ → List ℕ → List ℕ
  left_of r zero es bs = bs
  left_of r (suc n) es bs = left_of r n (rest r.width es) (rest (body_length r es) bs)

  -- Where the entries of a table end whose count stands at c.
  abbrev pub table_end : Row S H → ℕ → List ℕ → ℕ
  table_end r c b = c + 2 + r.width * rd b c

-- An entry of a width, of which the length alone is looked at.
abbrev pub body_row : ℕ → Row (Unit {0}) (Unit {0})
body_row width = record { width = width; ok = λ s es. true; next = λ es. tt; head = λ es. tt }

-- No byte over.
abbrev pub none_left : List ℕ → Bool
none_left bs = eqb (length bs) 0

module _ {S H : Type 0} where
  -- A table from its count at c on, with no byte over.
  abbrev pub table_fits : Row S H → (H → List ℕ → Bool) → S → ℕ → List ℕ → Bool
  table_fits r w s c b =
      leb (c + 2) (length b)
      && (leb (table_end r c b) (length b)
      && rows_to r w none_left (rd b c) s (part (c + 2) (table_end r c b) b) (rest (table_end r c b) b))

  -- The heads and bodies that it says.
  abbrev pub table_of : {A : Type 0} → Row S H → (H → List ℕ → A) → ℕ → List ℕ → List (H × A)
  table_of r d c b = rows_of r d (rd b c) (part (c + 2) (table_end r c b) b) (rest (table_end r c b) b)
