-- Name lists: the names of attributes, and those that are kept. Assumes nothing.
use Rattle.std.specs.Prelude.{ℕ, ◌+◌, ◌*◌, ◌-◌, ◌≤◌, ◌<◌, List, [], ◌∷◌, ◌++◌, Bool, true, ◌≡◌, refl, length, Result as RustResult, Ok, Err, IsErr}
use Rattle.std.proofs.Common.{arith, append_assoc, append-nil, ap, sym, ◌∙◌, length-append}
use Rattle.std.proofs.Math.Option.{Option, none, some}
use Rattle.cedar.specs.Types.{Ty, Schema as Said, maybe, names}
use Rattle.cedar.specs.Bytes.{u16, enc_names}
use Rattle.cedar.specs.Limits.{most_bytes}
use Rattle.cedar.specs.Result.{Result, ok, err, bind}
use Rattle.cedar.specs.Outcome.{over}
use Rattle.cedar.specs.Attribute.{entity_of, lookup_names, keep_found, entity_names, all_names}
use Rattle.cedar.proofs.Laws.Lengths.{length-enc_names}
use Rattle.forms.specs.Parts.{part, rest, rd, kind}
use Rattle.forms.specs.Search.{Laid}
use Rattle.forms.specs.RowBytes.{TookFirst}
use Rattle.forms.specs.TypeBytes.{whole, dec}
use Rattle.forms.specs.declared.rows.Row.{Row}
use Rattle.forms.specs.declared.rows.Rows.{Rows}
use Rattle.forms.specs.Laws.Attributes.{laid}
use Rattle.forms.specs.Laws.RowBytes.{head-rd, laid-more, took-left}
use Rattle.forms.specs.Laws.Names.{names-first, names-none, names-length, names-of-entries}
use Rattle.forms.specs.Laws.Views.{false-not, is-record, is-action, see, seen-set, seen-record, seen-entity, seen-action, seen-extension, seen-atom}
use Rattle.forms.specs.Names.{names_in}
use Rattle.schemas.specs.Schema.{said_by, limits_in}
use Rattle.forms.specs.Laws.NamesIn.{names-of-entity, names-over, names-front}
use Rattle.schemas.specs.declared.schema.Schema.{Schema}
use Rattle.attributes.specs.Laws.EntityAttribute.{RowsOf}
use Rattle.writing.specs.Written.{Written}
use Rattle.writing.specs.Laws.Writing.{back, length_over, over-at, Writing, writing-at, writing_start, writing-end, writing_more}
use Rattle.lookups.specs.declared.lookup_attribute_type.TooLong.{TooLong}
use Rattle.forms.specs.AttributeRows.{names_of}
use Rattle.lookups.specs.Names.{Entered, NamedBy}

pub entry-bytes : (x : Rows 5) → length (enc_names (names_of x)) ≡ 2 * x.left
entry-bytes x = length-enc_names (names_of x) ∙ ap (λ (k : ℕ). 2 * k) (names-length 5 x.left x.entries.now)

-- No attribute is left, or one is taken.
pub over-none : (x : Rows 5) → x.left ≡ 0 → names_of x ≡ []
over-none x h = names-none 5 x.left x.entries.now (omega (arith, h))

module _ (x y : Rows 5) {r : Row} (t : TookFirst 5 x.left x.entries.now x.bodies.now y.left y.entries.now y.bodies.now r) where
  pub took-name : (k : ℕ) → k ≡ rd r.head.now 0 → names_of x ≡ k ∷ names_of y
  took-name k q =
      names-first 5 x.left x.entries.now t.first.some
      ∙ rw (q, head-rd t.first 0 (omega arith), took-left t, ← t.entries) refl

-- The loop that writes all names.
pub record Naming (all o : List ℕ) (x : Rows 5) (pos : ℕ) (out : List ℕ) : Type 0 where
  pub laid : Laid 5 x.left x.entries.now x.bodies.now
  pub ahead : Writing all (enc_names (names_of x)) o pos out

pub naming-start : (x : Rows 5) (o : List ℕ) → Entered x o → Naming (enc_names (names_of x)) o x 0 o
naming-start x o h = record { laid = h.laid; ahead = writing_start (enc_names (names_of x)) o (omega (arith, entry-bytes x, h.room)) }

module _ {all o out : List ℕ} {x : Rows 5} {pos : ℕ} (i : Naming all o x pos out) where
  pub naming-end : x.left ≡ 0 → Written all o out pos
  naming-end h = writing-end i.ahead (ap enc_names (over-none x h))

  module _ (y : Rows 5) {r : Row} (t : TookFirst 5 x.left x.entries.now x.bodies.now y.left y.entries.now y.bodies.now r) where
    pub naming-room : pos + 2 ≤ length out
    naming-room = omega (arith, writing-at i.ahead, entry-bytes x, t.first.some)

    pub naming-more : (k : ℕ) → k ≡ rd r.head.now 0 → (ys : List ℕ) → ys ≡ over (u16 k) (rest pos out) → Naming all o y (pos + 2) (back pos out ys)
    naming-more k q ys f =
        record {
          laid = laid-more t i.laid;
          ahead = writing_more i.ahead (u16 k) (enc_names (names_of y)) ys 2 (ap enc_names (took-name x y t k q)) record { bytes = f; many = refl };
        }

-- Names one after another.
names-append : (ns ks : List ℕ) → enc_names (ns ++ ks) ≡ enc_names ns ++ enc_names ks
names-append [] ks = refl
names-append (n ∷ ns) ks = ap (λ (l : List ℕ). u16 n ++ l) (names-append ns ks)

-- The loop that keeps names: `all` is what it is to end with, `done` is kept.
pub record Keeping (look : ℕ → Result (Option (Bool × Ty))) (all : Result (List ℕ)) (x : Rows 5) (o : List ℕ) (pos : ℕ) (out : List ℕ) : Type 0 where
  pub done : List ℕ
  pub same : all ≡ bind (keep_found look (names_of x)) (λ ks. ok (done ++ ks))
  pub laid : Laid 5 x.left x.entries.now x.bodies.now
  pub pos-is : pos ≡ length (enc_names done)
  pub out-is : out ≡ over (enc_names done) o
  pub room : pos + 2 * x.left ≤ length o

module _ {look : ℕ → Result (Option (Bool × Ty))} {all : Result (List ℕ)} {x : Rows 5} {o : List ℕ} {pos : ℕ} {out : List ℕ}
    (i : Keeping look all x o pos out) where
  pub keeping-length : length out ≡ length o
  keeping-length = ap length i.out-is ∙ length_over (enc_names i.done) o (omega (arith, i.room, i.pos-is))

  pub keeping-end : x.left ≡ 0 → NamedBy all o out (Ok pos)
  keeping-end h = (
    i.done,
    (
      i.same ∙ ap (λ (l : List ℕ). bind (keep_found look l) (λ ks. ok (i.done ++ ks))) (over-none x h) ∙ ap ok (append-nil i.done),
      record { bytes = i.out-is; many = i.pos-is },
    ),
  )

  module _ (y : Rows 5) {r : Row} (t : TookFirst 5 x.left x.entries.now x.bodies.now y.left y.entries.now y.bodies.now r) (a : ℕ) (q : a ≡ rd r.head.now 0)
    where
      first-is : all ≡ bind (keep_found look (a ∷ names_of y)) (λ ks. ok (i.done ++ ks))
      first-is = i.same ∙ ap (λ (l : List ℕ). bind (keep_found look l) (λ ks. ok (i.done ++ ks))) (took-name x y t a q)

      pub keeping-too-long : look a ≡ err 9 → all ≡ err 9
      keeping-too-long h = first-is ∙ rw h refl

      pub keeping-drops : look a ≡ ok none → Keeping look all y o pos out
      keeping-drops h =
          record {
            done = i.done;
            same = first-is ∙ rw h (go (keep_found look (names_of y)));
            laid = laid-more t i.laid;
            pos-is = i.pos-is;
            out-is = i.out-is;
            room = omega (arith, i.room, t.left);
          }
        where
          go : (r : Result (List ℕ)) → bind (bind r (λ ks. ok ks)) (λ ks. ok (i.done ++ ks)) ≡ bind r (λ ks. ok (i.done ++ ks))
          go (ok ks) = refl
          go (err e) = refl

      pub keeping-room : pos + 2 ≤ length out
      keeping-room = omega (arith, i.room, t.first.some, keeping-length)

      pub keeping-keeps : (v : Bool × Ty) → look a ≡ ok (some v) → (ys : List ℕ) → ys ≡ over (u16 a) (rest pos out) →
          Keeping look all y o (pos + 2) (back pos out ys)
      keeping-keeps v h ys w =
          let b : enc_names (i.done ++ a ∷ []) ≡ enc_names i.done ++ u16 a = names-append i.done (a ∷ []) in
          record {
            done = i.done ++ a ∷ [];
            same = first-is ∙ rw h (go (keep_found look (names_of y)));
            laid = laid-more t i.laid;
            pos-is = sym (ap length b ∙ length-append (enc_names i.done) (u16 a) ∙ omega (arith, i.pos-is));
            out-is = over-at o (enc_names i.done) (u16 a) out ys pos i.out-is i.pos-is w (omega (arith, i.room, i.pos-is, t.first.some)) ∙
                ap (λ (z : List ℕ). over z o) (sym b);
            room = omega (arith, i.room, t.left);
          }
        where
          go : (r : Result (List ℕ)) → bind (bind r (λ ks. ok (a ∷ ks))) (λ ks. ok (i.done ++ ks)) ≡ bind r (λ ks. ok ((i.done ++ (a ∷ [])) ++ ks))
          go (ok ks) = ap ok (sym (append_assoc i.done (a ∷ []) ks))
          go (err e) = refl

pub named-err : (o : Result (List ℕ)) (before after : List ℕ) (r : RustResult ℕ TooLong) → IsErr r → o ≡ err 9 → NamedBy o before after r
named-err o before after (Ok n) h e = false-not h
named-err o before after (Err x) h e = e

-- An entity: the names of its first type's entry.
module _ (s : Schema) (fits : Ty → Bool) (ns o : List ℕ) where
  pub no-types : length ns < 2 → NamedBy (entity_names fits (said_by s) (names_in ns)) o o (Ok 0)
  no-types h = ([], (ap (entity_names fits (said_by s)) (names-over ns h), record { bytes = refl; many = refl }))

  module _ (pair others : List ℕ) (cut : ns ≡ pair ++ others) (size : length pair ≡ 2) (k : ℕ) (e : k ≡ rd pair 0) where
    types_are : names_in ns ≡ k ∷ names_in others
    types_are = ap names_in cut ∙ names-front pair others size ∙ rw e refl

    pub no-entry : entity_of (said_by s) k ≡ none → NamedBy (entity_names fits (said_by s) (names_in ns)) o o (Ok 0)
    no-entry h = ([], (ap (entity_names fits (said_by s)) types_are ∙ rw h refl, record { bytes = refl; many = refl }))

    module _ (x : Rows 5) (v : RowsOf s k x) where
      -- There is room for their names.
      pub entry-entered : (limits_in s).bytes ≤ length o → length o ≤ most_bytes → Entered x o
      entry-entered r l = record { laid = v.laid; room = omega (arith, r, v.few); size = l }

      pub rows-keep : keep_found (λ a. lookup_names fits (said_by s) a (names_in ns)) (names_of x) ≡ entity_names fits (said_by s) (names_in ns)
      rows-keep =
          ap (λ (l : List ℕ). keep_found (λ a. lookup_names fits (said_by s) a (names_in ns)) l) (sym v.is) ∙ sym (go (names_in ns) types_are)
        where
          go : (l : List ℕ) → l ≡ k ∷ names_in others →
              entity_names fits (said_by s) l ≡ keep_found (λ a. lookup_names fits (said_by s) a l)
              (maybe [] (λ e. names e.attrs) (entity_of (said_by s) k))
          go l h = rw h refl

-- Any type by its first byte.
module _ (fits : Ty → Bool) (s : Said) (l : ℕ) (b : List ℕ) (w : whole l b ≡ true) (o : List ℕ) where
  pub entity-all : kind b ≡ 10 → entity_names fits s (names_in (rest 3 b)) ≡ all_names fits s (dec l b)
  entity-all k = rw (names-of-entity l b w k) refl

  -- The rows of a record or of an action.
  module _ (x : Rows 5) where
    pub record-all : kind b ≡ 8 → x.left ≡ rd b 2 → x.entries.now ≡ part 4 (4 + 5 * rd b 2) b → (xs : List ℕ) (r : ℕ) →
        Written (enc_names (names_of x)) o xs r → NamedBy (all_names fits s (dec l b)) o xs (Ok r)
    record-all k e f xs r h = (
      names_of x,
      (rw ((is-record l b w k).is, e, f) (ap ok (names-of-entries (dec (l - 1)) (rd b 2) (part 4 (4 + 5 * rd b 2) b) (rest (4 + 5 * rd b 2) b))), h),
    )

    pub action-all : kind b ≡ 11 → x.left ≡ rd b 3 → x.entries.now ≡ part 5 (5 + 5 * rd b 3) b → (xs : List ℕ) (r : ℕ) →
        Written (enc_names (names_of x)) o xs r → NamedBy (all_names fits s (dec l b)) o xs (Ok r)
    action-all k e f xs r h = (
      names_of x,
      (rw ((is-action l b w k).is, e, f) (ap ok (names-of-entries (dec (l - 1)) (rd b 3) (part 5 (5 + 5 * rd b 3) b) (rest (5 + 5 * rd b 3) b))), h),
    )

    module _ (few : length b ≤ length o) (size : length o ≤ most_bytes) where
      pub record-entered : kind b ≡ 8 → x.left ≡ rd b 2 → x.entries.now ≡ part 4 (4 + 5 * rd b 2) b → x.bodies.now ≡ rest (4 + 5 * rd b 2) b → Entered x o
      record-entered k e f g =
          let v = is-record l b w k in
          record { laid = rw (e, f, g) (laid v.sound); room = omega (arith, v.fit, e); size = size }

      pub action-entered : kind b ≡ 11 → x.left ≡ rd b 3 → x.entries.now ≡ part 5 (5 + 5 * rd b 3) b → x.bodies.now ≡ rest (5 + 5 * rd b 3) b → Entered x o
      action-entered k e f g =
          let v = is-action l b w k in
          record { laid = rw (e, f, g) (laid v.sound); room = omega (arith, v.fit, e); size = size }

  pub other-all : (kind b ≡ 10 → ⊥) → (kind b ≡ 8 → ⊥) → (kind b ≡ 11 → ⊥) → NamedBy (all_names fits s (dec l b)) o o (Ok 0)
  other-all p10 p8 p11 = ([], (none-all, record { bytes = refl; many = refl }))
    where
      none-all : all_names fits s (dec l b) ≡ ok []
      none-all = elim (see l b w) [
        | seen-set k v ↦ rw v.is refl
        | seen-record k v ↦ absurd (p8 k)
        | seen-entity k v ↦ absurd (p10 k)
        | seen-action k v ↦ absurd (p11 k)
        | seen-extension k v ↦ rw v.is refl
        | seen-atom v ↦ rw v.is refl
      ]
