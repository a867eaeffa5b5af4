-- Rows that are taken from a table in order. Assumes nothing.
use Rattle.std.specs.Prelude.{◌≡◌, List, ◌∷◌, Bool, true, false, ℕ, ◌<◌, ◌≤◌, is_some, Option as Maybe, Some, None}
use Rattle.std.proofs.Math.Path.{refl}
use Rattle.std.proofs.Common.{sym, ◌∙◌}
use Rattle.forms.specs.Parts.{rd}
use Rattle.forms.specs.Laws.Views.{false-not}
use Rattle.forms.specs.Rows.{Row, body_length, none_left, rows_of}
use Rattle.forms.specs.Search.{Laid}
use Rattle.forms.specs.RowBytes.{IsFirst, TookFirst, Sought}
use Rattle.forms.specs.declared.rows.Row.{Row as Taken}
use Rattle.forms.specs.Laws.Ahead.{Ahead, ahead-again, ahead-body, decoded}
use Rattle.forms.specs.Laws.RowBytes.{took-left}
use Rattle.forms.specs.Laws.Skips.{rows-used}

module _ {S H : Type 0} {r : Row S H} {w : H → List ℕ → Bool} {n : ℕ} {s : S} {es bs : List ℕ} (a : Ahead r w n s es bs) where
  pub ahead-laid : 2 ≤ r.width → Laid r.width n es bs
  ahead-laid h = record { wide = h; sized = a.sized; room = rows-used r w none_left (λ _ b. b) n s es bs a.good }

  module _ {m : ℕ} {fs cs : List ℕ} {x : Taken} (t : TookFirst r.width n es bs m fs cs x) where
    -- What is left is in order too.
    pub taken-again : Ahead r w m (r.next es) fs cs
    taken-again = rw (t.entries, t.bodies, ← took-left t) (ahead-again a t.first.some (body_length r es) refl)

    pub taken-body : w (r.head es) x.body.now ≡ true
    taken-body = rw t.first.body (ahead-body a t.first.some (body_length r es) refl)

-- What is decoded of the row that was taken, and of the others.
pub taken-decoded : {S H A : Type 0} (r : Row S H) (d : H → List ℕ → A) {n : ℕ} {es bs : List ℕ} {m : ℕ} {fs cs : List ℕ} {x : Taken} →
    TookFirst r.width n es bs m fs cs x → rows_of r d n es bs ≡ (r.head es, d (r.head es) x.body.now) ∷ rows_of r d m fs cs
taken-decoded r d {n} {es} {bs} t =
    decoded r d n es bs t.first.some (body_length r es) refl ∙ rw (t.first.body, ← took-left t, t.entries, t.bodies) refl

-- A row that was sought, and found or not.
pub sought-it : (w m name : ℕ) (fs cs : List ℕ) (o : Maybe Taken) → Sought w m name fs cs o → is_some o ≡ true →
    (x : Taken) × (IsFirst w m fs cs x × (rd fs 0 ≡ name))
sought-it w m name fs cs (Some x) s h = (x, s)
sought-it w m name fs cs None s h = false-not h

pub sought-not : (w m name : ℕ) (fs cs : List ℕ) (o : Maybe Taken) → Sought w m name fs cs o → is_some o ≡ false → 0 < m → rd fs 0 ≡ name → ⊥
sought-not w m name fs cs (Some x) s h = false-not (sym h)
sought-not w m name fs cs None s h = s
