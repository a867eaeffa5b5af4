-- Tables: so many entries, each with a head and the length of its body, then the bodies. Records, actions, sets, calls, the list,
-- the three sections of a schema and the questions of a job are laid out so.
use Rattle.std.specs.Prelude.{ℕ, zero, suc, ◌*◌, List, [], ◌∷◌, cond, leb, length, take, drop}
use Rattle.std.proofs.Math.Option.{Option, none, some}
use Rattle.cedar.specs.Bytes.{word, guard, finish, ◌>>=◌}

module _ {H S A : Type 0} where
  -- `rows read next p c s es bs`: c entries off the front of es with their bodies off the front of bs, and what is left of both.
  -- `read` takes an entry off the front: head, length, rest. `next` says whether a head may follow. `p` reads a head's body.
  abbrev pub rows : (List ℕ → Option (H × ℕ × List ℕ)) → (S → H → Option S) → (H → List ℕ → Option A) → ℕ → S → List ℕ → List ℕ →
      Option (List (H × A) × List ℕ × List ℕ)
  rows read next p zero s es bs = some ([], es, bs)
  rows read next p (suc c) s es bs = do
    (h, l, rest) ← read es
    s₁ ← next s h
    _ ← guard (leb l (length bs))
    a ← p h (take l bs)
    (xs, es₁, bs₁) ← rows read next p c s₁ rest (drop l bs)
    some ((h, a) ∷ xs, es₁, bs₁)

  -- A count, so many entries of a width, their bodies, and no byte over. The width is how many bytes `read` takes off the front.
  abbrev pub parse_counted : (List ℕ → Option (H × ℕ × List ℕ)) → (S → H → Option S) → (H → List ℕ → Option A) → ℕ → S → List ℕ → Option (List (H × A))
  parse_counted read next p width s b = do
    (c, es) ← word b
    (xs, es₁, bs) ← rows read next p c s es (drop (width * c) es)
    finish xs bs

-- Names ascend strictly: one may follow where it is at least `low`.
abbrev pub ascending : ℕ → ℕ → Option ℕ
ascending low n = cond (leb low n) (some (suc n)) none

-- Entries without a key stand in any order.
abbrev pub any_order : Unit {0} → Unit {0} → Option (Unit {0})
any_order s h = some tt

-- An entry that is only a length.
abbrev pub read_length : List ℕ → Option (Unit {0} × ℕ × List ℕ)
read_length b = do
  (l, b₁) ← word b
  some (tt, l, b₁)

-- The bodies alone.
abbrev pub seconds : {H A : Type 0} → List (H × A) → List A
seconds [] = []
seconds (x ∷ xs) = x.1 ∷ seconds xs
