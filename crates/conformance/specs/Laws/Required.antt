-- The loop of `has_required`. Assumes nothing.
use Rattle.std.specs.Prelude.{◌≡◌, refl, List, [], ◌∷◌, Bool, true, false, not, ◌&&◌, ◌||◌, ℕ, ◌+◌, ◌*◌, ◌≤◌, ◌<◌, eqb, leb, ltb, length, get_or}
use Rattle.std.proofs.Common.{ap, ap₂, sym, ◌∙◌, arith, leb-true, le-leb, lt-ltb, le-ltb, eq-eqb, ne_eqb}
use Rattle.std.proofs.Math.Bool.{or-true}
use Rattle.std.proofs.Math.Decide.{dec_lt}
use Rattle.std.proofs.lemmas.Bool.{not-true, not-false}
use Rattle.cedar.specs.Types.{Ty, Pairs}
use Rattle.cedar.specs.TypeForm.{rec_kind, attrs_of}
use Rattle.cedar.specs.ValueForm.{pairs_from}
use Rattle.cedar.specs.Conformance.{has_name, has_required}
use Rattle.forms.specs.Parts.{part, rest, rd}
use Rattle.forms.specs.Rows.{rows_of, none_left, table_fits}
use Rattle.forms.specs.Search.{Laid}
use Rattle.forms.specs.RowBytes.{IsFirst, TookFirst, Skipped}
use Rattle.forms.specs.declared.rows.Row.{Row}
use Rattle.forms.specs.TypeBytes.{attr_row, whole_as, whole, dec}
use Rattle.forms.specs.Laws.Parts.{and_l, and_r, and_yes}
use Rattle.forms.specs.Laws.Skips.{From, Named, rows-from}
use Rattle.forms.specs.Laws.RowBytes.{head-rd, head-byte}
use Rattle.forms.specs.ValueBytes.{pair_row, whole_v, dec_v}
use Rattle.conformance.specs.Walks.{Records, attributes_of, pairs_of}
use Rattle.forms.specs.Laws.Ahead.{Ahead, ahead-from, decoded-none, table-ahead, table-decoded, table-count, table-entries}
use Rattle.conformance.specs.Laws.Taken.{ahead-laid, taken-again, taken-decoded}
use Rattle.conformance.specs.Laws.Pairs.{PairsLeft, pairs-left, has_first}

pub attr-named : (w : ℕ × Bool → List ℕ → Bool) (d : ℕ × Bool → List ℕ → Ty) → Named attr_row w none_left d (λ h. h.0)
attr-named w d =
    record { key-is = λ es. refl; low-is = λ low es h. leb-true low (rd es 0) (and_r (leb (get_or es 2 0) 1) (leb low (rd es 0)) h); next-is = λ es. refl }

-- Attributes in order stay so under another bound of the first name.
pub attrs-from : {w : ℕ × Bool → List ℕ → Bool} {n low : ℕ} {es bs : List ℕ} → Ahead attr_row w n low es bs → (m : ℕ) → (0 < n → m ≤ rd es 0) →
    Ahead attr_row w n m es bs
attrs-from {w} s m h =
    ahead-from attr_row w
    (λ low m es o g. rw (and_l (leb (get_or es 2 0) 1) (leb low (rd es 0)) o) (le-leb m (rd es 0) g))
    s m h

-- Pairs that have the same names from a name on are as good for attributes from that name on.
required-same : (xs : List ((ℕ × Bool) × Ty)) (name : ℕ) (ps qs : Pairs) → From (λ h. h.0) name xs → ((m : ℕ) → name ≤ m → has_name m ps ≡ has_name m qs) →
    has_required (attrs_of xs) ps ≡ has_required (attrs_of xs) qs
required-same [] name ps qs f h = refl
required-same (x ∷ xs) name ps qs f h = ap₂ (λ (a b : Bool). (not x.0.1 || a) && b) (h x.0.0 f.0) (required-same xs name ps qs f.1 h)

-- What is left of the attributes and the pairs answers for all.
pub record RequiredAhead (t v : List ℕ) (ahead : ℕ) (f c : List ℕ) (left : ℕ) (e b : List ℕ) : Type 0 where
  pub level : ℕ
  pub from : ℕ
  pub low : ℕ
  pub attrs : Ahead attr_row (λ _. whole level) ahead from f c
  pub rows : Ahead pair_row (λ _. whole_v level) left low e b
  pub same : (l : ℕ) →
      has_required (attributes_of l t) (pairs_of l v) ≡ has_required (attrs_of (rows_of attr_row (λ _. dec l) ahead f c))
      (pairs_from (rows_of pair_row (λ _. dec_v l) left e b))

-- The table of a record form.
pub records-table : (l : ℕ) (t : List ℕ) → whole_as (whole l) rec_kind t ≡ true → table_fits attr_row (λ _. whole l) 0 2 t ≡ true
records-table l t h = and_r (leb (get_or t 1 0) 1) _ (and_r (leb 2 (length t)) _ h)

module _ (t v : List ℕ) (h : Records t v) where
  table : table_fits attr_row (λ _. whole h.level) 0 2 t ≡ true
  table = records-table h.level t h.type

  pub records-type : 4 ≤ length t
  records-type = table-count attr_row (λ _. whole h.level) 0 2 t table

  pub records-value : 3 ≤ length v
  records-value = table-count pair_row (λ _. whole_v h.level) 0 1 v h.value

  module _ (m n : ℕ) (p : m ≡ rd t 2) (q : n ≡ rd v 1) where
    pub records-attrs : 4 + 5 * m ≤ length t
    records-attrs = table-entries attr_row (λ _. whole h.level) 0 2 t table m p

    pub records-pairs : 3 + 4 * n ≤ length v
    records-pairs = table-entries pair_row (λ _. whole_v h.level) 0 1 v h.value n q

  pub required-start : {m : ℕ} {f c : List ℕ} → m ≡ rd t 2 → f ≡ part 4 (4 + 5 * rd t 2) t → c ≡ rest (4 + 5 * rd t 2) t →
      {n : ℕ} {e b : List ℕ} → n ≡ rd v 1 → e ≡ part 3 (3 + 4 * rd v 1) v → b ≡ rest (3 + 4 * rd v 1) v → RequiredAhead t v m f c n e b
  required-start p pf pc q qe qb =
      rw (p, pf, pc, q, qe, qb)
      (record {
        level = h.level;
        from = 0;
        low = 0;
        attrs = table-ahead attr_row (λ _. whole h.level) 0 2 t table (rd t 2) refl;
        rows = table-ahead pair_row (λ _. whole_v h.level) 0 1 v h.value (rd v 1) refl;
        same = λ l. ap₂ (λ xs ps. has_required (attrs_of xs) (pairs_from ps))
            (table-decoded attr_row (λ _. whole h.level) 0 2 t table (rd t 2) refl (λ _. dec l))
            (table-decoded pair_row (λ _. whole_v h.level) 0 1 v h.value (rd v 1) refl (λ _. dec_v l));
      })

module _ {t v : List ℕ} {ahead : ℕ} {f c : List ℕ} {left : ℕ} {e b : List ℕ} (i : RequiredAhead t v ahead f c left e b) where
  pub required-attributes : Laid 5 ahead f c
  required-attributes = ahead-laid i.attrs (omega arith)

  pub required-pairs : Laid 4 left e b
  required-pairs = ahead-laid i.rows (omega arith)

  pub required-end : ahead ≡ 0 → (l : ℕ) → true ≡ has_required (attributes_of l t) (pairs_of l v)
  required-end h l =
      sym (i.same l ∙
      ap (λ xs. has_required (attrs_of xs) (pairs_from (rows_of pair_row (λ _. dec_v l) left e b)))
      (decoded-none attr_row (λ _. dec l) ahead f c (omega arith)))

  module _ {m : ℕ} {fs cs : List ℕ} {r : Row} (k : TookFirst 5 ahead f c m fs cs r) where
    -- The first attribute, whose name a pair has or has not.
    step : (l : ℕ) → has_required (attributes_of l t) (pairs_of l v) ≡
        ((not (eqb (get_or f 2 0) 1) || has_name (rd f 0) (pairs_from (rows_of pair_row (λ _. dec_v l) left e b)))
        && has_required (attrs_of (rows_of attr_row (λ _. dec l) m fs cs)) (pairs_from (rows_of pair_row (λ _. dec_v l) left e b)))
    step l =
        i.same l
        ∙ ap (λ xs. has_required (attrs_of xs) (pairs_from (rows_of pair_row (λ _. dec_v l) left e b))) (taken-decoded attr_row (λ _. dec l) k)

    -- What is left, where nothing is missing of the first.
    goes_on : ((l : ℕ) → (not (eqb (get_or f 2 0) 1) || has_name (rd f 0) (pairs_from (rows_of pair_row (λ _. dec_v l) left e b))) ≡ true) →
        RequiredAhead t v m fs cs left e b
    goes_on g =
        record {
          level = i.level;
          from = rd f 0 + 1;
          low = i.low;
          attrs = taken-again i.attrs k;
          rows = i.rows;
          same = λ l. step l ∙ and_yes _ _ (g l);
        }

    flag : (x : Bool) → x ≡ eqb (get_or r.head.now 2 0) 1 → eqb (get_or f 2 0) 1 ≡ x
    flag x q = ap (λ (z : ℕ). eqb z 1) (sym (head-byte k.first 2 (omega arith))) ∙ sym q

    pub required-optional : (x : Bool) → x ≡ eqb (get_or r.head.now 2 0) 1 → not x ≡ true → RequiredAhead t v m fs cs left e b
    required-optional x q h = goes_on (λ l. rw (flag x q ∙ not-true x h) refl)

    -- Pairs below the attribute's name are passed.
    module _ (name : ℕ) (u : name ≡ rd r.head.now 0) {j : ℕ} {gs ds : List ℕ} (p : Skipped 4 left name e b j gs ds) where
      named : name ≡ rd f 0
      named = u ∙ head-rd k.first 0 (omega arith)

      went : PairsLeft (λ _. whole_v i.level) left name e b j gs ds
      went = pairs-left i.rows p

      pub required-passed : RequiredAhead t v ahead f c j gs ds
      required-passed =
          let a = attrs-from i.attrs name (λ g. omega (arith, named)) in
          record {
            level = i.level;
            from = i.from;
            low = went.low;
            attrs = i.attrs;
            rows = went.rows;
            same = λ l. i.same l ∙ required-same (rows_of attr_row (λ _. dec l) ahead f c) name _ _
                (rows-from attr_row (λ _. whole i.level) none_left (λ _. dec l) (λ h. h.0) (attr-named (λ _. whole i.level) (λ _. dec l)) ahead name f c
                a.good)
                (went.later (λ _. dec_v l));
          }

      -- Only the first pair that is left can have the name.
      has-here : (l : ℕ) → has_name (rd f 0) (pairs_from (rows_of pair_row (λ _. dec_v l) j gs ds)) ≡ (ltb 0 j && eqb (rd f 0) (rd gs 0))
      has-here l = has_first went.rows (λ _. dec_v l) (rd f 0) (λ g. omega (arith, named, went.above g))

      -- A pair has it, or none.
      has-it : 0 < j → rd gs 0 ≡ name → (l : ℕ) → has_name (rd f 0) (pairs_from (rows_of pair_row (λ _. dec_v l) j gs ds)) ≡ true
      has-it g e l = has-here l ∙ rw (lt-ltb 0 j g, eq-eqb (rd f 0) (rd gs 0) (omega (arith, e, named))) refl

      lacks-it : (0 < j → rd gs 0 ≡ name → ⊥) → (l : ℕ) → has_name (rd f 0) (pairs_from (rows_of pair_row (λ _. dec_v l) j gs ds)) ≡ false
      lacks-it g l = has-here l ∙ go (dec_lt 0 j)
        where
          go : Dec (0 < j) → (ltb 0 j && eqb (rd f 0) (rd gs 0)) ≡ false
          go (no q) = rw (le-ltb 0 j (omega arith)) refl
          go (yes q) = rw (lt-ltb 0 j q, ne_eqb (rd f 0) (rd gs 0) (λ z. g q (sym z ∙ sym named))) refl

-- Once the pairs below the attribute's name are passed.
module _ {t v : List ℕ} {ahead : ℕ} {f c : List ℕ} {left : ℕ} {e b : List ℕ} (i : RequiredAhead t v ahead f c left e b)
    {m : ℕ} {fs cs : List ℕ} {r : Row} (k : TookFirst 5 ahead f c m fs cs r) (name : ℕ) (u : name ≡ rd r.head.now 0)
    {j : ℕ} {gs ds : List ℕ} (p : Skipped 4 left name e b j gs ds) where
  pub required-found : {x : Row} → IsFirst 4 j gs ds x × (rd gs 0 ≡ name) → RequiredAhead t v m fs cs j gs ds
  required-found g =
      goes_on (required-passed i k name u p) k
      (λ l. ap (λ (z : Bool). not (eqb (get_or f 2 0) 1) || z) (has-it i k name u p g.0.some g.1 l) ∙ or-true (not (eqb (get_or f 2 0) 1)))

  pub required-lacks : (x : Bool) → x ≡ eqb (get_or r.head.now 2 0) 1 → not x ≡ false → (0 < j → rd gs 0 ≡ name → ⊥) → (l : ℕ) →
      false ≡ has_required (attributes_of l t) (pairs_of l v)
  required-lacks x q h g l =
      sym (step (required-passed i k name u p) k l ∙ rw (flag i k x q ∙ not-false x h, lacks-it i k name u p g l) refl)
