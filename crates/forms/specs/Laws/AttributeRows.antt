-- Rows of an attribute list, taken one by one and found by name. Assumes nothing.
use Rattle.std.specs.Prelude.{◌≡◌, List, true, ℕ, ◌+◌, ◌*◌, ◌-◌, ◌≤◌, ◌<◌, eqb, length, get_or}
use Rattle.std.proofs.Math.Path.{refl}
use Rattle.std.proofs.Common.{ap, sym, ◌∙◌, arith, ne_eqb}
use Rattle.std.proofs.Math.Decide.{dec_lt}
use Rattle.std.proofs.Math.Option.{none, some}
use Rattle.cedar.specs.Types.{Attrs, attr, find, rec, act}
use Rattle.forms.specs.Parts.{part, rest, rd, kind}
use Rattle.forms.specs.TypeBytes.{dec_a, whole, dec, Sound}
use Rattle.forms.specs.Search.{below, used}
use Rattle.forms.specs.RowBytes.{IsFirst, TookFirst, Skipped}
use Rattle.forms.specs.AttributeRows.{SoundRows, attributes_of}
use Rattle.forms.specs.declared.rows.Row.{Row}
use Rattle.forms.specs.declared.rows.Rows.{Rows}
use Rattle.forms.specs.Laws.Views.{is-record, is-action}
use Rattle.forms.specs.Laws.RowBytes.{head-rd, head-byte, head-length, took-left}
use Rattle.forms.specs.Laws.Attributes.{entry, attrs-none, laid, past, find-under, find_first}

-- An attribute that was taken: its entry, its type's form, and what the list is made of.
pub record Attribute (l low : ℕ) (all : Attrs) (m : ℕ) (fs cs : List ℕ) (r : Row) : Type 0 where
  pub sized : length r.head.now ≡ 5
  pub flag : get_or r.head.now 2 0 ≤ 1
  pub up : low ≤ rd r.head.now 0
  pub body : whole l r.body.now ≡ true
  pub more : Sound l m (rd r.head.now 0 + 1) fs cs
  pub is : all ≡ attr (rd r.head.now 0) (eqb (get_or r.head.now 2 0) 1) (dec l r.body.now) (dec_a (dec l) m fs cs)

module _ {l n low : ℕ} {es bs : List ℕ} (s : Sound l n low es bs) where
  -- The first attribute's type.
  first-body : {r : Row} → IsFirst 5 n es bs r → whole l r.body.now ≡ true
  first-body f = rw f.body (entry s f.some).body

  pub taken-attribute : {m : ℕ} {fs cs : List ℕ} {r : Row} → TookFirst 5 n es bs m fs cs r → Attribute l low (dec_a (dec l) n es bs) m fs cs r
  taken-attribute {m} {fs} {cs} {r} t =
      let e = entry s t.first.some in
      let name = head-rd t.first 0 (omega arith) in
      let required = head-byte t.first 2 (omega arith) in
      record {
        sized = head-length t.first (laid s);
        flag = rw required e.flag;
        up = omega (arith, e.up, name);
        body = first-body t.first;
        more = rw (name, ← took-left t, t.entries, t.bodies) e.more;
        is = rw (name, required, t.first.body, ← took-left t, t.entries, t.bodies) e.is;
      }

  -- No attribute is left.
  pub taken-none : n ≡ 0 → dec_a (dec l) n es bs ≡ Attrs.nil
  taken-none h = attrs-none (dec l) n es bs (omega arith)

-- What a search has passed and left: names from the name on are found in what is left.
pub record Ahead (l name : ℕ) (all : Attrs) (m : ℕ) (fs cs : List ℕ) : Type 0 where
  pub low : ℕ
  pub sound : Sound l m low fs cs
  pub above : 0 < m → name ≤ rd fs 0
  pub later : (k : ℕ) → name ≤ k → find k all ≡ find k (dec_a (dec l) m fs cs)

module _ {l n low name : ℕ} {es bs : List ℕ} {m : ℕ} {fs cs : List ℕ} (s : Sound l n low es bs) (p : Skipped 5 n name es bs m fs cs) where
  pub ahead : Ahead l name (dec_a (dec l) n es bs) m fs cs
  ahead =
      let k = below 5 n name es in
      let h = past s name k (used 5 k es) refl refl in
      let e : n - k ≡ m = omega (arith, p.left) in
      record {
        low = h.low;
        sound = rw (← e, p.entries, p.bodies) h.sound;
        above = λ q. rw p.entries (h.above (omega (arith, p.left)));
        later = λ j q. rw (← e, p.entries, p.bodies) (h.later j q);
      }

  -- The attribute that was found.
  pub found-attribute : {r : Row} → IsFirst 5 m fs cs r → rd fs 0 ≡ name →
      (get_or r.head.now 2 0 ≤ 1) × (whole l r.body.now ≡ true)
      × (find name (dec_a (dec l) n es bs) ≡ some (eqb (get_or r.head.now 2 0) 1, dec l r.body.now))
  found-attribute {r} f q =
      let h = ahead in
      let e = entry h.sound f.some in
      let required = head-byte f 2 (omega arith) in (
        rw required e.flag,
        first-body h.sound f,
        h.later name (omega arith) ∙ find_first h.sound f.some name q ∙ rw (required, f.body) refl,
      )

  -- No attribute has the name.
  pub found-none : (0 < m → rd fs 0 ≡ name → ⊥) → find name (dec_a (dec l) n es bs) ≡ none
  found-none g = let h = ahead in h.later name (omega arith) ∙ go h (dec_lt 0 m)
    where
      go : (h : Ahead l name (dec_a (dec l) n es bs) m fs cs) → Dec (0 < m) → find name (dec_a (dec l) m fs cs) ≡ none
      go h (no q) = ap (λ (xs : Attrs). find name xs) (attrs-none (dec l) m fs cs (omega arith))
      go h (yes q) =
          let t = entry h.sound q in
          let a = h.above q in
          let u : rd fs 0 ≡ name → ⊥ = g q in
          let b : name < rd fs 0 = omega arith in
          ap (λ (xs : Attrs). find name xs) t.is
          ∙ rw (ne_eqb name (rd fs 0) (λ z. u (sym z))) (find-under t.more name (omega arith))

-- The attributes of a record and of an action, by its form.
module _ (l : ℕ) (b : List ℕ) (h : whole l b ≡ true) (r : Rows 5) where
  pub record-rows : kind b ≡ 8 → r.left ≡ rd b 2 → r.entries.now ≡ part 4 (4 + 5 * rd b 2) b → r.bodies.now ≡ rest (4 + 5 * rd b 2) b →
      SoundRows (l - 1) r × (dec l b ≡ rec (eqb (get_or b 1 0) 1) (attributes_of (l - 1) r))
  record-rows k n e c = let v = is-record l b h k in (rw (n, e, c) v.sound, rw (n, e, c) v.is)

  pub action-rows : kind b ≡ 11 → r.left ≡ rd b 3 → r.entries.now ≡ part 5 (5 + 5 * rd b 3) b → r.bodies.now ≡ rest (5 + 5 * rd b 3) b →
      SoundRows (l - 1) r × (dec l b ≡ act (rd b 1) (attributes_of (l - 1) r))
  action-rows k n e c = let v = is-action l b h k in (rw (n, e, c) v.sound, rw (n, e, c) v.is)
