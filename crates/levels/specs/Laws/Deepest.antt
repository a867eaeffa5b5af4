-- The deepest body of a table, and the levels of a form by its kind. Assumes nothing.
use Rattle.std.specs.Prelude.{◌≡◌, refl, List, true, leb, length, get_or}
use Rattle.std.proofs.Math.Path.{ap}
use Rattle.std.proofs.Common.{sym, ◌∙◌, arith, leb-true, eqb-true}
use Prim.Native.Nat.{ℕ, zero, suc, ◌+◌, ◌*◌, ◌-◌, ◌≤◌, ◌<◌, max}
use Rattle.cedar.specs.Types.{Ty, Value}
use Rattle.cedar.specs.Levels.{depth, depths, depth_value, depth_values, depth_pairs}
use Rattle.cedar.specs.Bytes.{Bytes}
use Rattle.cedar.specs.TypeForm.{attrs_of}
use Rattle.cedar.specs.ValueForm.{value_kind, values_from, pairs_from}
use Rattle.cedar.proofs.Laws.TypeForm.{depth_pos}
use Rattle.cedar.proofs.Laws.Depth.{depth-length, depth_value-length, depth_value-pos}
use Rattle.forms.specs.Parts.{part, rest, rd, kind}
use Rattle.forms.specs.Rows.{body_row, rows_to, rows_of, none_left, table_fits}
use Rattle.forms.specs.TypeBytes.{attr_row, whole, dec}
use Rattle.forms.specs.ValueBytes.{member_row, pair_row, whole_v, dec_v, dec_v_as}
use Rattle.forms.specs.Laws.Parts.{and_l, and_r, pos, length_part, length_rest, rest_0}
use Rattle.forms.specs.Laws.Bytes.{Bytes-part, dec-reads, dec_v-reads}
use Rattle.forms.specs.Laws.Bodies.{table-bodies}
use Rattle.forms.specs.Laws.Ahead.{Ahead, ahead-inside, ahead-body, ahead-again, decoded, decoded-none, table-ahead, table-decoded}
use Rattle.forms.specs.Laws.Types.{whole_by}
use Rattle.forms.specs.Laws.Views.{not-empty, is_set, is-record, is-action, Seen, see, seen-set, seen-record, seen-entity, seen-action, seen-extension, seen-atom}
use Rattle.forms.specs.Laws.Values.{value-level, dec-value}
use Rattle.levels.specs.declared.depths.Form.{Form}
use Rattle.levels.specs.declared.depths.Form.TheVariants.{Types as types, Values as values}
use Rattle.levels.specs.Deepest.{whole_form, levels_in, most_of, deepest_at}

-- A whole form has no more levels than it is allowed, and no more than it has bytes.
pub levels-bounds : (f : Form) (l : ℕ) (b : List ℕ) → Bytes b → whole_form f l b ≡ true → (levels_in f l b ≤ l) × (levels_in f l b ≤ length b)
levels-bounds types l b h w =
    let r = dec-reads l b h w in
    (r.1.0, omega (arith, depth-length (dec l b), ap length r.0))
levels-bounds values l b h w =
    let r = dec_v-reads l b h w in
    (r.1.0, omega (arith, depth_value-length (dec_v l b), ap length r.0))

-- A form has a level.
levels-some : (f : Form) (l : ℕ) (b : List ℕ) → 1 ≤ levels_in f l b
levels-some types l b = depth_pos (dec l b)
levels-some values l b = depth_value-pos (dec_v l b)

-- Bodies that are left: each has a byte, and the deepest has no more levels than the bytes that the others leave it.
rows_few : (f : Form) (l width left : ℕ) (e b : List ℕ) → Bytes b → rows_to (body_row width) (λ _. whole_form f l) none_left left tt e b ≡ true →
    (left ≤ length b) × (most_of (rows_of (body_row width) (λ _. levels_in f l) left e b) + left ≤ length b + 1)
unfolding rows_to rows_of
rows_few f l width zero e b h g = (omega arith, omega arith)
rows_few f l width (suc n) e b h g =
    let len = rd e (width - 2) in
    let room = leb len (length b) in
    let good = whole_form f l (part 0 len b) in
    let inside = leb-true len (length b) (and_l room _ g) in
    let g₁ = and_r room _ g in
    let few = (levels-bounds f l (part 0 len b) (Bytes-part 0 len b h) (and_l good _ g₁)).1 in
    let more = rows_few f l width n (rest width e) (rest len b) (Bytes-part len (length b) b h) (and_r good _ g₁) in
    let some = levels-some f l (part 0 len b) in
    let long = length_part 0 len b inside in
    let left = length_rest len b in
    let bytes = more.0 in
    let deep = more.1 in
    (omega arith, omega arith)

-- The loop over bodies: `most` so far and the bodies that are left answer for all.
pub record BodiesAhead (f : Form) (l width all left : ℕ) (e b : List ℕ) (most : ℕ) : Type 0 where
  pub rows : Ahead (body_row width) (λ _. whole_form f l) left tt e b
  pub bytes : Bytes b
  pub some : 1 ≤ most
  pub small : (left < 65536) × (most < 65536)
  pub same : all ≡ max most (most_of (rows_of (body_row width) (λ _. levels_in f l) left e b))

module _ (f : Form) (l width c : ℕ) (b : List ℕ) (h : table_fits (body_row width) (λ _. whole_form f l) tt c b ≡ true) (n : ℕ) (q : n ≡ rd b c) where
  abbrev es : List ℕ
  es = part (c + 2) (c + 2 + width * n) b

  abbrev bs : List ℕ
  bs = rest (c + 2 + width * n) b

  decodes : deepest_at f l width c b ≡ most_of (rows_of (body_row width) (λ _. levels_in f l) n es bs)
  decodes = ap most_of (table-decoded (body_row width) (λ _. whole_form f l) tt c b h n q (λ _. levels_in f l))

  pub bodies-none : n ≡ 0 → 0 ≡ deepest_at f l width c b
  bodies-none z = sym (decodes ∙ ap most_of (decoded-none (body_row width) (λ _. levels_in f l) n es bs (omega arith)))

  pub bodies-start : Bytes b → n < 65536 → (n ≡ 0 → ⊥) → BodiesAhead f l width (deepest_at f l width c b) n es bs 1
  bodies-start bytes few z =
      let k = rd es (width - 2) in
      let p = pos n z in
      let first = ap most_of (decoded (body_row width) (λ _. levels_in f l) n es bs p k refl) in
      record {
        rows = table-ahead (body_row width) (λ _. whole_form f l) tt c b h n q;
        bytes = Bytes-part (c + 2 + width * n) (length b) b bytes;
        some = omega arith;
        small = (few, omega arith);
        same = omega (arith, decodes, first, levels-some f l (part 0 k bs));
      }

-- No body left, no byte left.
no_body_no_byte : (f : Form) (l width left : ℕ) (e b : List ℕ) → rows_to (body_row width) (λ _. whole_form f l) none_left left tt e b ≡ true → left ≡ 0 →
    length b ≡ 0
unfolding rows_to
no_body_no_byte f l width zero e b h z = eqb-true (length b) 0 h
no_body_no_byte f l width (suc n) e b h z = absurd (omega arith)

module _ {f : Form} {l width all left : ℕ} {e b : List ℕ} {most : ℕ} (i : BodiesAhead f l width all left e b most) where
  pub bodies-left : left + most ≤ length b → 0 < left
  bodies-left h = pos left λ z. absurd (omega (arith, i.some, h, no_body_no_byte f l width left e b i.rows.good z))

  pub bodies-end : length b < left + most → most ≡ all
  bodies-end h = omega (arith, i.same, (rows_few f l width left e b i.bytes i.rows.good).1)

  module _ (p : 0 < left) (n : ℕ) (q : n ≡ rd e (width - 2)) where
    -- A body of no more bytes than the most levels so far is not deeper.
    short : levels_in f l (part 0 n b) ≤ n
    short =
        omega (
          arith,
          (levels-bounds f l (part 0 n b) (Bytes-part 0 n b i.bytes) (ahead-body i.rows p n q)).1,
          length_part 0 n b (ahead-inside i.rows p n q),
        )

    pub bodies-passed : n ≤ most → most ≡ max most (levels_in f l (part 0 n b))
    bodies-passed h = omega (arith, short)

    pub bodies-again : n < 65536 → (x : ℕ) → x ≡ max most (levels_in f l (part 0 n b)) → BodiesAhead f l width all (left - 1) (rest width e) (rest n b) x
    bodies-again few x y =
        record {
          rows = ahead-again i.rows p n q;
          bytes = Bytes-part n (length b) b i.bytes;
          some = omega (arith, i.some, y);
          small = (omega (arith, i.small.0), omega (arith, i.small.1, y, short));
          same = omega (arith, i.same, y, ap most_of (decoded (body_row width) (λ _. levels_in f l) left e b p n q));
        }

-- The deepest of attributes, members and pairs is that of their bodies.
depths-rows : (d : List ℕ → Ty) (n : ℕ) (es bs : List ℕ) →
    depths (attrs_of (rows_of attr_row (λ _. d) n es bs)) ≡ most_of (rows_of (body_row 5) (λ _ b. depth (d b)) n es bs)
unfolding rows_of depths
depths-rows d zero es bs = refl
depths-rows d (suc n) es bs = ap (λ (m : ℕ). max (depth (d (part 0 (rd es 3) bs))) m) (depths-rows d n (rest 5 es) (rest (rd es 3) bs))

members-rows : (d : List ℕ → Value) (n : ℕ) (es bs : List ℕ) →
    depth_values (values_from (rows_of member_row (λ _. d) n es bs)) ≡ most_of (rows_of (body_row 2) (λ _ b. depth_value (d b)) n es bs)
unfolding rows_of depth_values
members-rows d zero es bs = refl
members-rows d (suc n) es bs = ap (λ (m : ℕ). max (depth_value (d (part 0 (rd es 0) bs))) m) (members-rows d n (rest 2 es) (rest (rd es 0) bs))

pairs-rows : (d : List ℕ → Value) (n : ℕ) (es bs : List ℕ) →
    depth_pairs (pairs_from (rows_of pair_row (λ _. d) n es bs)) ≡ most_of (rows_of (body_row 4) (λ _ b. depth_value (d b)) n es bs)
unfolding rows_of depth_pairs
pairs-rows d zero es bs = refl
pairs-rows d (suc n) es bs = ap (λ (m : ℕ). max (depth_value (d (part 0 (rd es 2) bs))) m) (pairs-rows d n (rest 4 es) (rest (rd es 2) bs))

-- A whole type, by its kind.
module _ (l : ℕ) (b : List ℕ) (h : whole l b ≡ true) where
  pub record-levels : kind b ≡ 8 → depth (dec l b) ≡ suc (deepest_at types (l - 1) 5 2 b)
  unfolding depth
  record-levels e = ap depth (is-record l b h e).is ∙ ap suc (depths-rows (dec (l - 1)) (rd b 2) _ _)

  pub action-levels : kind b ≡ 11 → depth (dec l b) ≡ suc (deepest_at types (l - 1) 5 3 b)
  unfolding depth
  action-levels e = ap depth (is-action l b h e).is ∙ ap suc (depths-rows (dec (l - 1)) (rd b 3) _ _)

  seen-lone : (kind b ≡ 7 → ⊥) → (kind b ≡ 8 → ⊥) → (kind b ≡ 11 → ⊥) → Seen l b → depth (dec l b) ≡ 1
  unfolding depth
  seen-lone p7 p8 p11 (seen-set e i) = absurd (p7 e)
  seen-lone p7 p8 p11 (seen-record e i) = absurd (p8 e)
  seen-lone p7 p8 p11 (seen-entity e i) = ap depth i.is
  seen-lone p7 p8 p11 (seen-action e i) = absurd (p11 e)
  seen-lone p7 p8 p11 (seen-extension e i) = ap depth i.is
  seen-lone p7 p8 p11 (seen-atom i) = ap depth i.is

  pub lone-levels : (kind b ≡ 7 → ⊥) → (kind b ≡ 8 → ⊥) → (kind b ≡ 11 → ⊥) → depth (dec l b) ≡ 1
  lone-levels p7 p8 p11 = seen-lone p7 p8 p11 (see l b h)

  some : length b ≡ 0 → ⊥
  some e = absurd (omega (arith, not-empty l b h))

  pub record-bodies : kind b ≡ 8 → table_fits (body_row 5) (λ _. whole (l - 1)) tt 2 b ≡ true
  record-bodies e =
      table-bodies attr_row (whole (l - 1)) 0 2 b
      (and_r (leb (get_or b 1 0) 1) _ (and_r (leb 2 (length b)) _ (sym (whole_by l b (λ z. absurd (omega (arith, (is-record l b h e).deep))) some 8 e) ∙ h)))

  pub action-bodies : kind b ≡ 11 → table_fits (body_row 5) (λ _. whole (l - 1)) tt 3 b ≡ true
  action-bodies e =
      table-bodies attr_row (whole (l - 1)) 0 3 b (sym (whole_by l b (λ z. absurd (omega (arith, (is-action l b h e).deep))) some 11 e) ∙ h)

-- The loop down a chain of sets: the levels above, and what is left.
pub record SetsAbove (l : ℕ) (t : List ℕ) (left : ℕ) (b : List ℕ) : Type 0 where
  pub few : left ≤ l
  pub good : whole left b ≡ true
  pub same : depth (dec l t) ≡ l - left + depth (dec left b)

pub sets-start : (l : ℕ) (t : List ℕ) → whole l t ≡ true → SetsAbove l t l (rest 0 t)
sets-start l t h = rw (rest_0 t) record { few = omega arith; good = h; same = omega arith }

pub sets-again : {l left : ℕ} {t b : List ℕ} → SetsAbove l t left b → kind b ≡ 7 → SetsAbove l t (left - 1) (rest 1 b)
unfolding depth
sets-again {l} {left} {t} {b} i e =
    let s = is_set left b i.good e in
    record {
      few = omega (arith, i.few);
      good = s.good;
      same = omega (arith, i.same, i.few, s.deep, ap depth s.is);
    }

-- A value of another kind than a set, a record or a call has one level.
kind-lone : (d : List ℕ → Value) (b : List ℕ) (k : ℕ) → (k ≡ 5 → ⊥) → (k ≡ 6 → ⊥) → (k ≡ 7 → ⊥) → depth_value (dec_v_as d (value_kind k) b) ≡ 1
unfolding depth_value
kind-lone d b zero p5 p6 p7 = refl
kind-lone d b (suc zero) p5 p6 p7 = refl
kind-lone d b (suc (suc zero)) p5 p6 p7 = refl
kind-lone d b (suc (suc (suc zero))) p5 p6 p7 = refl
kind-lone d b (suc (suc (suc (suc zero)))) p5 p6 p7 = refl
kind-lone d b (suc (suc (suc (suc (suc zero))))) p5 p6 p7 = absurd (p5 refl)
kind-lone d b (suc (suc (suc (suc (suc (suc zero)))))) p5 p6 p7 = absurd (p6 refl)
kind-lone d b (suc (suc (suc (suc (suc (suc (suc zero))))))) p5 p6 p7 = absurd (p7 refl)
kind-lone d b (suc (suc (suc (suc (suc (suc (suc (suc k)))))))) p5 p6 p7 = refl

-- The levels above what is left, and those of its bodies: those of the whole.
pub sets_end : {l left : ℕ} {t b : List ℕ} → SetsAbove l t left b → (m : ℕ) → depth (dec left b) ≡ suc m → l - left + 1 + m ≡ depth (dec l t)
sets_end i m e = omega (arith, i.same, e)

-- A whole value, by its kind.
module _ (l : ℕ) (b : List ℕ) (h : whole_v l b ≡ true) where
  by_kind : (k : ℕ) → kind b ≡ k → depth_value (dec_v l b) ≡ depth_value (dec_v_as (dec_v (l - 1)) (value_kind k) b)
  by_kind k e = ap depth_value (dec-value l b (value-level l b h) k e)

  pub set-value-levels : kind b ≡ 5 → depth_value (dec_v l b) ≡ suc (deepest_at values (l - 1) 2 1 b)
  unfolding depth_value
  set-value-levels e = by_kind 5 e ∙ ap suc (members-rows (dec_v (l - 1)) (rd b 1) _ _)

  pub record-value-levels : kind b ≡ 6 → depth_value (dec_v l b) ≡ suc (deepest_at values (l - 1) 4 1 b)
  unfolding depth_value
  record-value-levels e = by_kind 6 e ∙ ap suc (pairs-rows (dec_v (l - 1)) (rd b 1) _ _)

  pub call-levels : kind b ≡ 7 → depth_value (dec_v l b) ≡ suc (deepest_at values (l - 1) 2 3 b)
  unfolding depth_value
  call-levels e = by_kind 7 e ∙ ap suc (members-rows (dec_v (l - 1)) (rd b 3) _ _)

  pub lone-value-levels : (kind b ≡ 5 → ⊥) → (kind b ≡ 6 → ⊥) → (kind b ≡ 7 → ⊥) → depth_value (dec_v l b) ≡ 1
  lone-value-levels p5 p6 p7 = by_kind (kind b) refl ∙ kind-lone (dec_v (l - 1)) b (kind b) p5 p6 p7
