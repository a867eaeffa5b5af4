-- The loop of `record_conforms`, and a pair's value. Assumes nothing.
use Rattle.std.specs.Prelude.{◌≡◌, refl, List, [], ◌∷◌, Bool, true, false, cond, ℕ, ◌+◌, ◌*◌, ◌≤◌, ◌<◌, eqb}
use Rattle.std.proofs.Common.{ap, ap₂, sym, ◌∙◌, arith}
use Rattle.std.proofs.Math.Option.{Option, some}
use Rattle.cedar.specs.Types.{Ty, Attrs, nil, attr, find, Value, Schema, maybe}
use Rattle.cedar.specs.TypeForm.{rec_kind}
use Rattle.cedar.specs.ValueForm.{record_kind, pairs_from}
use Rattle.cedar.specs.Conformance.{Verdict as Said, holds, fails, fails_inside, unknown, verdict, and_then, Counts, each_pair, conforms, conforms_at}
use Rattle.forms.specs.Parts.{part, rest, rd}
use Rattle.forms.specs.Rows.{rows_of, none_left}
use Rattle.forms.specs.Search.{Laid}
use Rattle.forms.specs.RowBytes.{IsFirst, TookFirst, Skipped}
use Rattle.forms.specs.declared.rows.Row.{Row}
use Rattle.forms.specs.TypeBytes.{attr_row, whole_as, whole, dec, dec_a, Sound}
use Rattle.forms.specs.Laws.Skips.{From, rows-from}
use Rattle.forms.specs.Laws.Attributes.{laid}
use Rattle.forms.specs.Laws.RowBytes.{head-rd}
use Rattle.forms.specs.Laws.AttributeRows.{ahead as passed-on, found-attribute, found-none}
use Rattle.conformance.specs.Laws.Taken.{ahead-laid, taken-again, taken-body, taken-decoded}
use Rattle.conformance.specs.declared.verdicts.Verdict.{Verdict}
use Rattle.conformance.specs.declared.verdicts.Verdict.TheVariants.{Holds}
use Rattle.conformance.specs.Verdicts.{verdict_of}
use Rattle.forms.specs.ValueBytes.{pair_row, whole_v, whole_v_as, dec_v}
use Rattle.conformance.specs.Walks.{is_open, attributes_of, pairs_of}
use Rattle.forms.specs.Laws.Ahead.{Ahead, decoded-none, table-ahead}
use Rattle.conformance.specs.Laws.Pairs.{pair-named, pairs-from}
use Rattle.conformance.specs.Laws.Required.{attrs-from, records-table}
use Rattle.conformance.specs.Laws.Verdicts.{Then, then-stop, then-on}

-- What a name's value is asked, by the attribute found.
abbrev asks : Counts → Schema → Bool → Value → Option (Bool × Ty) → Said
asks rule s o x r = maybe (verdict o) (λ y. conforms rule s y.1 x) r

at-found : (rule : Counts) (s : Schema) (o : Bool) (xs : Attrs) (n : ℕ) (x : Value) → conforms_at rule s o xs n x ≡ asks rule s o x (find n xs)
unfolding conforms_at
at-found rule s o nil n x = refl
at-found rule s o (attr k r t xs) n x = go (eqb n k) (at-found rule s o xs n x)
  where
    go : (b : Bool) → conforms_at rule s o xs n x ≡ asks rule s o x (find n xs) →
        cond b (conforms rule s t x) (conforms_at rule s o xs n x) ≡ asks rule s o x (cond b (some (r, t)) (find n xs))
    go true e = refl
    go false e = e

-- What any list of attributes says of a name, by the search for it: found, or not.
module _ (rule : Counts) (s : Schema) (o : Bool) {l n name : ℕ} {f c : List ℕ} (x : Value) (h : Sound l n 0 f c) {j : ℕ} {gs ds : List ℕ}
    (p : Skipped 5 n name f c j gs ds) where
  pub name-found : {r : Row} → IsFirst 5 j gs ds r → rd gs 0 ≡ name →
      verdict_of (conforms rule s (dec l r.body.now) x) ≡ verdict_of (conforms_at rule s o (dec_a (dec l) n f c) name x)
  name-found g q = ap verdict_of (sym (at-found rule s o (dec_a (dec l) n f c) name x ∙ ap (asks rule s o x) (found-attribute h p g q).2))

  pub name-absent : (0 < j → rd gs 0 ≡ name → ⊥) → verdict_of (verdict o) ≡ verdict_of (conforms_at rule s o (dec_a (dec l) n f c) name x)
  name-absent g = ap verdict_of (sym (at-found rule s o (dec_a (dec l) n f c) name x ∙ ap (asks rule s o x) (found-none h p g)))

-- Names from a name on, asked of attributes that say the same from there on.
each_same : (xs : List (ℕ × Value)) (name : ℕ) (g k : ℕ → Value → Said) → From (λ h. h) name xs → ((m : ℕ) (x : Value) → name ≤ m → g m x ≡ k m x) →
    each_pair g (pairs_from xs) ≡ each_pair k (pairs_from xs)
each_same [] name g k f h = refl
each_same (x ∷ xs) name g k f h = ap₂ (λ (a b : Said). and_then a b) (h x.0 x.1 f.0) (each_same xs name g k f.1 h)

grouped : (u v w : Said) → and_then (and_then u v) w ≡ and_then u (and_then v w)
grouped holds v w = refl
grouped fails v w = refl
grouped fails_inside v w = refl
grouped unknown v w = refl

-- What is left of the attributes and the pairs answers for all; then comes what is asked last.
pub record RecordAhead (l : ℕ) (rule : Counts) (s : Schema) (o : Bool) (all last : Said) (ahead : ℕ) (f c : List ℕ) (left : ℕ) (e b : List ℕ) : Type 0 where
  pub low : ℕ
  pub attrs : Sound l ahead 0 f c
  pub rows : Ahead pair_row (λ _. whole_v l) left low e b
  pub same : all ≡ and_then (each_pair (λ n x. conforms_at rule s o (dec_a (dec l) ahead f c) n x) (pairs_from (rows_of pair_row (λ _. dec_v l) left e b))) last

sound-of : {l n low : ℕ} {es bs : List ℕ} → Ahead attr_row (λ _. whole l) n low es bs → Sound l n low es bs
sound-of a = record { sized = a.sized; good = a.good }

lowest : {l n low : ℕ} {es bs : List ℕ} → Sound l n low es bs → Sound l n 0 es bs
lowest {l} {n} {low} {es} {bs} a = sound-of (attrs-from {w = λ _. whole l} (record { sized = a.sized; good = a.good }) 0 (λ h. omega arith))

pub record-start : (l : ℕ) (rule : Counts) (s : Schema) (t v : List ℕ) → whole_as (whole l) rec_kind t ≡ true → whole_v_as (whole_v l) record_kind v ≡ true →
    {m : ℕ} {f c : List ℕ} → m ≡ rd t 2 → f ≡ part 4 (4 + 5 * rd t 2) t → c ≡ rest (4 + 5 * rd t 2) t →
    {n : ℕ} {e b : List ℕ} → n ≡ rd v 1 → e ≡ part 3 (3 + 4 * rd v 1) v → b ≡ rest (3 + 4 * rd v 1) v → (last : Said) →
    RecordAhead l rule s (is_open t) (and_then (each_pair (λ k x. conforms_at rule s (is_open t) (attributes_of l t) k x) (pairs_of l v)) last) last m f c n e b
record-start l rule s t v g h p pf pc q qe qb last =
    let z = records-table l t g in
    rw (p, pf, pc, q, qe, qb)
    (record {
      low = 0;
      attrs = sound-of (table-ahead attr_row (λ _. whole l) 0 2 t z (rd t 2) refl);
      rows = table-ahead pair_row (λ _. whole_v l) 0 1 v h (rd v 1) refl;
      same = refl;
    })

module _ {l : ℕ} {rule : Counts} {s : Schema} {o : Bool} {all last : Said} {ahead : ℕ} {f c : List ℕ} {left : ℕ} {e b : List ℕ}
    (i : RecordAhead l rule s o all last ahead f c left e b) where
  pub record-end : left ≡ 0 → verdict_of last ≡ verdict_of all
  record-end h =
      let z = i.same in
      ap verdict_of
      (sym (z ∙ ap (λ xs. and_then (each_pair (λ n x. conforms_at rule s o (dec_a (dec l) ahead f c) n x) (pairs_from xs)) last)
      (decoded-none pair_row (λ _. dec_v l) left e b (omega arith))))

  pub attributes-laid : Laid 5 ahead f c
  attributes-laid = laid i.attrs

  pub pairs-laid : Laid 4 left e b
  pairs-laid = ahead-laid i.rows (omega arith)

  module _ {m : ℕ} {fs cs : List ℕ} {r : Row} (t : TookFirst 4 left e b m fs cs r) where
    pub pair-whole : whole_v l r.body.now ≡ true
    pair-whole = taken-body i.rows t

    named : (name : ℕ) → name ≡ rd r.head.now 0 → name ≡ rd e 0
    named name q = q ∙ head-rd t.first 0 (omega arith)

    module _ (name : ℕ) (q : name ≡ rd r.head.now 0) {j : ℕ} {gs ds : List ℕ} (p : Skipped 5 ahead name f c j gs ds) where
      -- Attributes below the pair's name are passed.
      record-find : RecordAhead l rule s o all last j gs ds left e b
      record-find =
          let a = pairs-from i.rows name (λ g. omega (arith, named name q)) in
          let z = passed-on i.attrs p in
          record {
            low = i.low;
            attrs = lowest z.sound;
            rows = i.rows;
            same =
                i.same
                ∙ ap (λ (x : Said). and_then x last) (each_same (rows_of pair_row (λ _. dec_v l) left e b) name
                (λ n x. conforms_at rule s o (dec_a (dec l) ahead f c) n x)
                (λ n x. conforms_at rule s o (dec_a (dec l) j gs ds) n x)
                (rows-from pair_row (λ _. whole_v l) none_left (λ _. dec_v l) (λ h. h) (pair-named (λ _. whole_v l) (λ _. dec_v l)) left name e b a.good)
                (λ m x g. at-found rule s o (dec_a (dec l) ahead f c) m x ∙ ap (asks rule s o x) (z.later m g) ∙
                sym (at-found rule s o (dec_a (dec l) j gs ds) m x)));
          }

      -- The pair's value is asked by the attribute of its name; where there is none, by whether the record is open.
      pub pair-found : {x : Row} → IsFirst 5 j gs ds x × (rd gs 0 ≡ name) →
          verdict_of (conforms rule s (dec l x.body.now) (dec_v l r.body.now)) ≡ verdict_of (conforms_at rule s o (dec_a (dec l) j gs ds) name (dec_v l r.body.now))
      pair-found g =
          let z = passed-on i.attrs p in
          ap verdict_of
          (sym (at-found rule s o (dec_a (dec l) j gs ds) name (dec_v l r.body.now)
          ∙ ap (asks rule s o (dec_v l r.body.now)) (sym (z.later name (omega arith)) ∙ (found-attribute i.attrs p g.0 g.1).2)))

      pub attribute-whole : {x : Row} → IsFirst 5 j gs ds x × (rd gs 0 ≡ name) → whole l x.body.now ≡ true
      attribute-whole g = (found-attribute i.attrs p g.0 g.1).1

      pub pair-absent : (0 < j → rd gs 0 ≡ name → ⊥) →
          verdict_of (verdict o) ≡ verdict_of (conforms_at rule s o (dec_a (dec l) j gs ds) name (dec_v l r.body.now))
      pair-absent g =
          let z = passed-on i.attrs p in
          ap verdict_of
          (sym (at-found rule s o (dec_a (dec l) j gs ds) name (dec_v l r.body.now)
          ∙ ap (asks rule s o (dec_v l r.body.now)) (sym (z.later name (omega arith)) ∙ found-none i.attrs p g)))

      module _ (x : Verdict) (y : x ≡ verdict_of (conforms_at rule s o (dec_a (dec l) j gs ds) name (dec_v l r.body.now))) where
        step : Then all (conforms_at rule s o (dec_a (dec l) j gs ds) name (dec_v l r.body.now))
            (and_then (each_pair (λ m z. conforms_at rule s o (dec_a (dec l) j gs ds) m z) (pairs_from (rows_of pair_row (λ _. dec_v l) m fs cs))) last)
        step =
            record {
              is =
                  record-find.same
                  ∙ ap (λ xs. and_then (each_pair (λ m z. conforms_at rule s o (dec_a (dec l) j gs ds) m z) (pairs_from xs)) last)
                  (taken-decoded pair_row (λ _. dec_v l) t)
                  ∙ grouped (conforms_at rule s o (dec_a (dec l) j gs ds) (rd e 0) (dec_v l r.body.now)) _ last
                  ∙ rw (← named name q) refl;
            }

        pub record-stop : (x ≡ Holds → ⊥) → x ≡ verdict_of all
        record-stop h = then-stop step x y h

        pub record-again : x ≡ Holds → RecordAhead l rule s o all last j gs ds m fs cs
        record-again h = record { low = rd e 0 + 1; attrs = record-find.attrs; rows = taken-again i.rows t; same = then-on step x y h }
