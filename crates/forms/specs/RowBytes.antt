-- What the walks over a table say of it: n rows with entries es of width w and bodies bs before, m rows with fs and cs after. Assumes
-- nothing: these are definitions.
use Rattle.std.specs.Prelude.{ℕ, ◌+◌, ◌*◌, ◌-◌, ◌<◌, ◌≤◌, List, Option, Some, None, ◌≡◌, length}
use Rattle.forms.specs.Parts.{part, rest, rd}
use Rattle.forms.specs.Search.{below, used}
use Rattle.forms.specs.declared.rows.Row.{Row}
use Rattle.forms.specs.declared.rows.Rows.{Rows}

-- A row is the first of n: its entry and its body.
pub record IsFirst (w n : ℕ) (es bs : List ℕ) (r : Row) : Type 0 where
  pub some : 0 < n
  pub head : r.head.now ≡ part 0 w es
  pub body : r.body.now ≡ part 0 (rd es (w - 2)) bs

-- The first row was taken.
pub record TookFirst (w n : ℕ) (es bs : List ℕ) (m : ℕ) (fs cs : List ℕ) (r : Row) : Type 0 where
  pub first : IsFirst w n es bs r
  pub left : m + 1 ≡ n
  pub entries : fs ≡ rest w es
  pub bodies : cs ≡ rest (rd es (w - 2)) bs

-- There was no row, and nothing changed.
pub record TookNone (n : ℕ) (es bs : List ℕ) (m : ℕ) (fs cs : List ℕ) : Type 0 where
  pub none : n ≡ 0
  pub left : m ≡ 0
  pub entries : fs ≡ es
  pub bodies : cs ≡ bs

-- The first row, if there is one.
abbrev pub Taken : ℕ → ℕ → List ℕ → List ℕ → ℕ → List ℕ → List ℕ → Option Row → Type 0
Taken w n es bs m fs cs (Some r) = TookFirst w n es bs m fs cs r
Taken w n es bs m fs cs None = TookNone n es bs m fs cs

-- The first row, if its body is there.
abbrev pub TakenWithin : ℕ → ℕ → List ℕ → List ℕ → ℕ → List ℕ → List ℕ → Option Row → Type 0
TakenWithin w n es bs m fs cs (Some r) = TookFirst w n es bs m fs cs r × (rd es (w - 2) ≤ length bs)
TakenWithin w n es bs m fs cs None = length bs < rd es (w - 2)

-- The rows of a table whose count stands at c of a form.
pub record AreRows (w c : ℕ) (b : List ℕ) (rows : Rows w) : Type 0 where
  pub count : c + 2 ≤ length b
  pub fit : c + 2 + w * rd b c ≤ length b
  pub left : rows.left ≡ rd b c
  pub entries : rows.entries.now ≡ part (c + 2) (c + 2 + w * rd b c) b
  pub bodies : rows.bodies.now ≡ rest (c + 2 + w * rd b c) b

-- They are there, or the form has no room for its entries.
abbrev pub Within : (w c : ℕ) → List ℕ → Option (Rows w) → Type 0
Within w c b (Some rows) = AreRows w c b rows
Within w c b None = (c + 2 ≤ length b) → length b < c + 2 + w * rd b c

-- The rows below a name were passed.
pub record Skipped (w n name : ℕ) (es bs : List ℕ) (m : ℕ) (fs cs : List ℕ) : Type 0 where
  pub left : m + below w n name es ≡ n
  pub entries : fs ≡ rest (w * below w n name es) es
  pub bodies : cs ≡ rest (used w (below w n name es) es) bs

-- The first of m rows, where it has the name.
abbrev pub Sought : ℕ → ℕ → ℕ → List ℕ → List ℕ → Option Row → Type 0
Sought w m name fs cs (Some r) = IsFirst w m fs cs r × (rd fs 0 ≡ name)
Sought w m name fs cs None = 0 < m → rd fs 0 ≡ name → ⊥
