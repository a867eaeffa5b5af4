-- The write pass over two attribute lists: the first from row to row, the second past the names below. Assumes nothing.
use Rattle.std.specs.Prelude.{◌≡◌, Option as Maybe, Some, List, ◌∷◌, ◌++◌, Bool, true, false, ◌&&◌, ℕ, ◌+◌, ◌*◌, ◌≤◌, length, refl, not, eqb, get_or}
use Rattle.std.proofs.Common.{ap, sym, ◌∙◌, arith}
use Rattle.cedar.specs.Types.{Mode, Ty, Attrs, find}
use Rattle.cedar.specs.TypeForm.{enc}
use Rattle.cedar.specs.Bytes.{u16, flag}
use Rattle.cedar.specs.Result.{Result, ok, err}
use Rattle.cedar.specs.Outcome.{over}
use Rattle.cedar.specs.Limits.{most_bytes}
use Rattle.cedar.specs.Laws.DirectBound.{direct, direct_attrs}
use Rattle.forms.specs.Parts.{rest, rd, part}
use Rattle.forms.specs.RowBytes.{TookFirst, Skipped, Sought}
use Rattle.forms.specs.Tables.{Tabled, attrs_at}
use Rattle.forms.specs.TypeBytes.{dec, dec_a, whole}
use Rattle.forms.specs.declared.rows.Row.{Row}
use Rattle.forms.specs.Laws.Tables.{Split}
use Rattle.writing.specs.Written.{Written}
use Rattle.writing.specs.FormLengths.{table, form_of, Ready}
use Rattle.writing.specs.Laws.FormLengths.{before}
use Rattle.writing.specs.Laws.Writing.{back}
use Rattle.writing.specs.Laws.Laying.{Laying, laying-start, laying-same, laying-end, laying-ready, laying-entry, laying-small}
use Rattle.writing.specs.Laws.Laying.{laying-more}
use Rattle.bound_lengths.specs.Pairs.{joined_attrs, row_flag, joined_row, Front, joined}
use Rattle.bound_lengths.specs.Laws.Pairs.{after, Joins, Walk, walk_end, walk_more, walk_step, start-walk, front-room, front-fit, front-body, front-is}
use Rattle.bounds.specs.Joins.{count_of, is_ok, is_kept, KeptWith, pair_form}
use Rattle.bounds.specs.Laws.KeptAttributes.{joined-direct, after-known, kept-before, dropped-after}
use Rattle.std.proofs.Math.Option.{Option, none, some}
use Rattle.std.proofs.lemmas.Bool.{not-true, not-false}
use Rattle.bounds.specs.Laws.Attached.{Both, both, pair-ready, pair-written}

-- The attribute that was found is the first.
front-other : {l m name : ℕ} {fs cs : List ℕ} (s : Front l m name fs cs) (y : Bool × Ty) → find name (dec_a (dec l) m fs cs) ≡ some y → (k : ℕ) → k ≡ rd fs 3 →
    (eqb (get_or fs 2 0) 1, dec l (part 0 k cs)) ≡ y
front-other s y e k q = let z = sym (front-is s y e k q) ∙ e in cc

-- An attribute and the front of the second list.
module _ {l m : ℕ} (e : List ℕ) {fs cs : List ℕ} (s : Front l m (rd e 0) fs cs) (d : Mode) (t : Ty) where
  abbrev Met : Result (Option (Bool × Ty))
  Met = joined d (eqb (get_or e 2 0) 1) t (find (rd e 0) (dec_a (dec l) m fs cs))

  pub met-known : {o : List ℕ} → Ready pair_form Met o → is_ok Met ≡ true
  met-known g = ap is_ok g.is

  module _ (x : Bool) (told : x ≡ is_kept Met) where
    pub met-dropped : (o : List ℕ) → not x ≡ true → Written (form_of pair_form Met) o o 0
    met-dropped o h = go Met (sym told ∙ not-true x h)
      where
        go : (j : Result (Option (Bool × Ty))) → is_kept j ≡ false → Written (form_of pair_form j) o o 0
        go (ok none) h = record { bytes = refl; many = refl }
        go (ok (some y)) h = absurd (let z : ◌≡◌ {A = ℕ} 0 1 = cc in omega arith)
        go (err r) h = record { bytes = refl; many = refl }

    -- It is kept.
    module _ (h : not x ≡ false) where
      met : (y : Bool × Ty) × (Met ≡ ok (some y))
      met = go Met (sym told ∙ not-false x h)
        where
          go : (j : Result (Option (Bool × Ty))) → is_kept j ≡ true → (y : Bool × Ty) × (j ≡ ok (some y))
          go (ok none) h = absurd (let z : ◌≡◌ {A = ℕ} 0 1 = cc in omega arith)
          go (ok (some y)) h = (y, refl)
          go (err r) h = absurd (let z : ◌≡◌ {A = ℕ} 0 1 = cc in omega arith)

      pair : Both d (eqb (get_or e 2 0) 1) t (find (rd e 0) (dec_a (dec l) m fs cs)) met.0
      pair = both d (eqb (get_or e 2 0) 1) t (find (rd e 0) (dec_a (dec l) m fs cs)) met.0 met.1

      pub met-room : 5 ≤ length fs
      met-room = front-room s pair.other pair.found

      module _ (len : ℕ) (q : len ≡ rd fs 3) where
        pub met-body : (len ≤ length cs) × (whole l (part 0 len cs) ≡ true)
        met-body = (front-fit s pair.other pair.found len q, front-body s pair.other pair.found len q)

        is_bound : direct d t (dec l (part 0 len cs)) ≡ ok met.0.1
        is_bound = ap (λ (y : Bool × Ty). direct d t y.1) (front-other s pair.other pair.found len q) ∙ pair.bound

        pub met-ready : {o : List ℕ} → Ready pair_form Met o → Ready enc (direct d t (dec l (part 0 len cs))) o
        met-ready g = pair-ready met.0 met.1 is_bound g

        pub met-written : {o : List ℕ} (xs : List ℕ) (x : ℕ) → Written (form_of enc (direct d t (dec l (part 0 len cs)))) o xs x →
            Written (form_of pair_form Met) o xs x
        met-written xs x w = pair-written met.0 met.1 is_bound xs x w

-- The loop of the write pass: what is left of both lists, and what is written.
pub record Joining (d : Mode) (all : Result Attrs) (l : ℕ) (o : List ℕ) (left : ℕ) (es bs : List ℕ) (m : ℕ) (fs cs : List ℕ) (at pos : ℕ) (out : List ℕ) : Type 0
  where
    pub walk : Walk l left es bs m fs cs
    pub laying : Laying all (direct_attrs d (dec_a (dec l) left es bs) (dec_a (dec l) m fs cs)) o at pos out

pub joining-start : {l at : ℕ} {a b : List ℕ} → Tabled l at a → Tabled l at b → {left m : ℕ} {es bs fs cs : List ℕ} → Split at a left es bs → Split at b m fs cs →
    (d : Mode) {o : List ℕ} (n : ℕ) →
    n ≡ count_of (joined_attrs d (attrs_at l at a) (attrs_at l at b)) → Ready table (joined_attrs d (attrs_at l at a) (attrs_at l at b)) o →
    Joining d (joined_attrs d (attrs_at l at a) (attrs_at l at b)) l o left es bs m fs cs 0 (5 * n) o
joining-start {l} {at} {a} {b} p q u v d n k g =
    record {
      walk = start-walk d l at a b p q u v;
      laying =
          rw (u.n-is, u.es-is, u.bs-is, v.n-is, v.es-is, v.bs-is)
          (laying-same (laying-start n g (λ xs z. sym (k ∙ ap count_of z))) (direct_attrs d (attrs_at l at a) (attrs_at l at b))
          (joined-direct d (attrs_at l at a) (attrs_at l at b) g.result g.is));
    }

module _ {d : Mode} {all : Result Attrs} {l : ℕ} {o : List ℕ} {left : ℕ} {es bs : List ℕ} {m : ℕ} {fs cs : List ℕ} {at pos : ℕ} {out : List ℕ}
    (w : Joining d all l o left es bs m fs cs at pos out) where
  pub joining-end : left ≤ 0 → Written (form_of table all) o out pos
  joining-end h = laying-end w.laying (walk_end d l left es bs (dec_a (dec l) m fs cs) h)

  -- A turn: an attribute of the first list was taken, and the second was searched for its name.
  module _ {left' m' : ℕ} {es' bs' fs' cs' : List ℕ} {r : Row} (t : TookFirst 5 left es bs left' es' bs' r) {name : ℕ} (q : name ≡ rd r.head.now 0)
      (s : Skipped 5 m name fs cs m' fs' cs') (x : Maybe Row) (g : Sought 5 m' name fs' cs' x) where
    abbrev Others : Result Attrs
    Others = direct_attrs d (dec_a (dec l) left' es' bs') (dec_a (dec l) m' fs' cs')

    step : Joins (direct_attrs d (dec_a (dec l) left es bs) (dec_a (dec l) m fs cs)) (rd r.head.now 0) (joined_row d l r x) Others
    step = walk_step w.walk t q s x g d

    pub joining-known : is_ok (joined_row d l r x) ≡ true
    joining-known = after-known (rd r.head.now 0) (joined_row d l r x) Others (ap is_ok (sym step.is ∙ w.laying.is))

    next : (at' pos' : ℕ) (out' : List ℕ) → Laying all Others o at' pos' out' → Joining d all l o left' es' bs' m' fs' cs' at' pos' out'
    next at' pos' out' i = record { walk = walk_more w.walk t q s; laying = i }

    -- The attribute is dropped.
    pub joining-none : is_kept (joined_row d l r x) ≡ false → Joining d all l o left' es' bs' m' fs' cs' at pos out
    joining-none h = next at pos out (laying-same w.laying Others (step.is ∙ dropped-after (rd r.head.now 0) (joined_row d l r x) Others joining-known h))

    -- The attribute is kept.
    module _ (y : Row) (k : KeptWith d l r x (Some y)) where
      abbrev flags : Bool
      flags = row_flag r && row_flag y

      abbrev Body : Result Ty
      Body = direct d (dec l r.body.now) (dec l y.body.now)

      ahead : direct_attrs d (dec_a (dec l) left es bs) (dec_a (dec l) m fs cs) ≡ before (rd r.head.now 0) flags Body Others
      ahead =
          step.is ∙ ap (λ (z : Maybe Row). after (rd r.head.now 0) (joined_row d l r z) Others) k.0
          ∙ kept-before d l (rd r.head.now 0) r y Others (ap (λ (z : Maybe Row). is_kept (joined_row d l r z)) (sym k.0) ∙ k.1)

      pub joining-ready : Ready enc Body (rest pos out)
      joining-ready = laying-ready w.laying (rd r.head.now 0) flags Body Others ahead

      module _ (zs : List ℕ) (n : ℕ) (u : Written (form_of enc Body) (rest pos out) zs n) where
        pub joining-room : 5 ≤ length (rest at (back pos out zs))
        joining-room = laying-entry w.laying (rd r.head.now 0) flags Body Others ahead zs n u

        pub joining-small : (n ≤ most_bytes) × ((pos + n ≤ most_bytes) × (at + 5 ≤ most_bytes))
        joining-small = laying-small w.laying (rd r.head.now 0) flags Body Others ahead zs n u

        pub joining-some : (f : Bool) (us : List ℕ) → f ≡ flags → us ≡ over (u16 name ++ (flag f ∷ u16 n)) (rest at (back pos out zs)) →
            Joining d all l o left' es' bs' m' fs' cs' (at + 5) (pos + n) (back at (back pos out zs) us)
        joining-some f us e h =
            next (at + 5) (pos + n) (back at (back pos out zs) us)
            (laying-more w.laying (rd r.head.now 0) flags Body Others ahead zs n u us (h ∙ rw (q, e) refl))
