-- The bound of two attribute lists, attribute by attribute, from the first on. Assumes nothing.
use Rattle.std.specs.Prelude.{◌≡◌, refl, Option as Maybe, Some, None, List, Bool, true, false, ◌&&◌, ◌||◌, cond, ℕ, zero, suc, ◌+◌, ◌≤◌, length, ◌*◌, ◌-◌, ◌<◌, eqb, get_or}
use Rattle.std.specs.Option.{ForSome}
use Rattle.std.proofs.Common.{ap, ap₂, subst, ◌∙◌, sub-one, arith, eq-eqb, ne_eqb}
use Rattle.std.proofs.Math.Path.{sym}
use Rattle.std.proofs.Math.Option.{Option, none, some}
use Rattle.cedar.specs.Types.{Mode, is_permissive, eq_flag, Ty, Attrs, nil, attr, find, maybe, names}
use Rattle.cedar.specs.TypeForm.{enc}
use Rattle.cedar.specs.Result.{Result, ok, err, attribute_qualifier, record_width}
use Rattle.cedar.specs.Bound.{absent, join_kept, join_equal, join_one}
use Rattle.cedar.specs.Laws.Shape.{Ascend}
use Rattle.cedar.specs.Laws.DirectBound.{direct, direct_attrs}
use Rattle.forms.specs.Parts.{rest, rd, part}
use Rattle.forms.specs.TypeBytes.{dec_a, dec, Sound, whole}
use Rattle.forms.specs.Laws.Attributes.{entry, attrs-none, laid, Entry, find-under, Past}
use Rattle.forms.specs.RowBytes.{TookFirst, Skipped, Sought}
use Rattle.forms.specs.declared.rows.Row.{Row}
use Rattle.forms.specs.declared.type_forms.AttributeForm.{AttributeForm}
use Rattle.forms.specs.declared.type_forms.AttributeForms.{AttributeForms}
use Rattle.forms.specs.TypeForms.{type_of, listed, TookFirstAttribute, AttributeNamed, SoughtAttribute}
use Rattle.forms.specs.Laws.RowBytes.{head-length}
use Rattle.forms.specs.Laws.AttributeRows.{Attribute, taken-attribute, Ahead, ahead, found-attribute, found-none}
use Rattle.writing.specs.FormLengths.{cap, table, form_length_of}
use Rattle.bound_lengths.specs.Pairs.{joined_to, joined, pair_length_of, WholeRow, row_flag, attribute_in, joined_row, joined_form, Front}
use Rattle.forms.specs.Tables.{Tabled}
use Rattle.forms.specs.Laws.Tables.{Split}
use Rattle.writing.specs.Laws.FormLengths.{before, not_err, Summing, summing-err, summing-more, of-ok}
use Rattle.std.proofs.Math.Decide.{ℕ_discrete}

-- An attribute as it was joined, before the others.
abbrev pub after : ℕ → Result (Option (Bool × Ty)) → Result Attrs → Result Attrs
after n (ok none) cs = cs
after n (ok (some y)) cs = before n y.0 (ok y.1) cs
after n (err e) cs = err e

-- An attribute of both lists.
one-step : (m : Mode) (n : ℕ) (r s : Bool) (b : Result Ty) (cs : Result Attrs) → join_one m n r s b cs ≡ after n (joined_to m r s b) cs
one-step m n r s (ok c) cs = go (is_permissive m) r s
  where
    go : (p r s : Bool) →
        cond p (join_kept n r s (ok c) cs) (join_equal n r s (ok c) cs) ≡ after n (cond (p || eq_flag r s) (ok (some (r && s, c))) (err attribute_qualifier)) cs
    go true r s = refl
    go false true true = refl
    go false true false = refl
    go false false true = refl
    go false false false = refl
one-step m n r s (err e) cs = go (is_permissive m)
  where
    go : (p : Bool) → cond p cs (err e) ≡ after n (cond p (ok none) (err e)) cs
    go true = refl
    go false = refl

-- An attribute of the first list, with what the second has under its name.
attr-step : (m : Mode) (n : ℕ) (r : Bool) (t : Ty) (xs ys : Attrs) → direct_attrs m (attr n r t xs) ys ≡ after n (joined m r t (find n ys)) (direct_attrs m xs ys)
unfolding direct
attr-step m n r t xs ys = go (find n ys)
  where
    lacking : (p : Bool) (cs : Result Attrs) → cond p cs (err record_width) ≡ after n (cond p (ok none) (err record_width)) cs
    lacking true cs = refl
    lacking false cs = refl

    go : (o : Option (Bool × Ty)) →
        maybe (absent m (direct_attrs m xs ys)) (λ y. join_one m n r y.0 (direct m t y.1) (direct_attrs m xs ys)) o ≡ after n (joined m r t o)
        (direct_attrs m xs ys)
    go none = lacking (is_permissive m) (direct_attrs m xs ys)
    go (some y) = one-step m n r y.0 (direct m t y.1) (direct_attrs m xs ys)

-- Only the names of the first list are looked for in the second.
later-same : (m : Mode) (xs : Attrs) (low : ℕ) (ys zs : Attrs) → Ascend low (names xs) → ((k : ℕ) → low ≤ k → find k ys ≡ find k zs) →
    direct_attrs m xs ys ≡ direct_attrs m xs zs
later-same m nil low ys zs a f = unfold direct in refl
later-same m (attr n r t xs) low ys zs a f =
    let ih = later-same m xs (suc n) ys zs a.1 (λ k h. f k (omega (arith, a.0))) in
    attr-step m n r t xs ys ∙ ap₂ (λ (o : Option (Bool × Ty)) (cs : Result Attrs). after n (joined m r t o) cs) (f n a.0) ih ∙ sym (attr-step m n r t xs zs)

-- The names of whole attributes ascend.
sound-ascends : (l n low : ℕ) (es bs : List ℕ) → Sound l n low es bs → Ascend low (names (dec_a (dec l) n es bs))
sound-ascends l zero low es bs s = rw (attrs-none (dec l) 0 es bs (omega arith)) tt
sound-ascends l (suc n) low es bs s =
    let e = entry s (omega arith) in
    let more : Sound l n (rd es 0 + 1) (rest 5 es) (rest (rd es 3) bs) = rw (sub-one (suc n)) at e.more in
    let next : suc (rd es 0) ≡ rd es 0 + 1 = omega arith in
    rw (e.is, sub-one (suc n), next) (e.up, sound-ascends l n (rd es 0 + 1) (rest 5 es) (rest (rd es 3) bs) more)

-- An attribute was joined: J is what it came to, and cs what the others do.
pub record Joins (ahead : Result Attrs) (n : ℕ) (J : Result (Option (Bool × Ty))) (cs : Result Attrs) : Type 0 where
  pub is : ahead ≡ after n J cs

-- The first list is at its end.
pub joined-end : (m : Mode) {xs : Attrs} (ys : Attrs) → xs ≡ nil → direct_attrs m xs ys ≡ ok nil
unfolding direct
joined-end m ys e = rw e refl

-- An attribute was taken of the first list, and its name sought in the second.
module _ (m : Mode) {xs xs' : AttributeForms} {x : AttributeForm} (t : TookFirstAttribute xs xs' x) {ys ys' : AttributeForms} (o : Maybe AttributeForm)
    (s : SoughtAttribute ys x.name ys' o) where
  above : Ascend (suc x.name) (names (listed xs'))
  above = (subst (λ (zs : Attrs). Ascend 0 (names zs)) t.all (sound-ascends xs.levels xs.rows.left 0 xs.rows.entries.now xs.rows.bodies.now xs.sound)).1

  found-joined : (o : Maybe AttributeForm) → AttributeNamed ys x.name o → joined m x.required (type_of x.form) (find x.name (listed ys)) ≡ joined_form m x o
  found-joined (Some y) n = ap (joined m x.required (type_of x.form)) n.found
  found-joined None n = ap (joined m x.required (type_of x.form)) n

  pub joined-step : Joins (direct_attrs m (listed xs) (listed ys)) x.name (joined_form m x o) (direct_attrs m (listed xs') (listed ys'))
  joined-step =
      record {
        is = ap (λ (z : Attrs). direct_attrs m z (listed ys)) t.all
            ∙ attr-step m x.name x.required (type_of x.form) (listed xs') (listed ys)
            ∙ ap₂ (after x.name) (found-joined o s.1)
            (later-same m (listed xs') (suc x.name) (listed ys) (listed ys') above (λ k h. s.0.later k (omega (arith, h))));
      }

-- A walk over two lists: what is left of both.
pub record Walk (l n : ℕ) (es bs : List ℕ) (m : ℕ) (fs cs : List ℕ) : Type 0 where
  pub low : ℕ
  pub first : Sound l n low es bs
  pub low' : ℕ
  pub second : Sound l m low' fs cs

pub walk_end : (M : Mode) (l n : ℕ) (es bs : List ℕ) (ys : Attrs) → n ≤ 0 → direct_attrs M (dec_a (dec l) n es bs) ys ≡ ok nil
walk_end M l n es bs ys h = rw (attrs-none (dec l) n es bs h) (unfold direct in refl)

-- The first attribute of a walk, by its entry.
module _ {l n m : ℕ} {es bs fs cs : List ℕ} (w : Walk l n es bs m fs cs) (p : 0 < n) where
  walk-entry : Entry l n w.low es bs
  walk-entry = entry w.first p

  pub walk-room : 5 ≤ length es
  walk-room = walk-entry.room

  pub walk-flag : get_or es 2 0 ≤ 1
  walk-flag = walk-entry.flag

  module _ (k : ℕ) (q : k ≡ rd es 3) where
    pub walk-fit : k ≤ length bs
    walk-fit = rw q walk-entry.fit

    pub walk-body : whole l (part 0 k bs) ≡ true
    walk-body = rw q walk-entry.body

    -- Past the names below the first one.
    module _ (name : ℕ) (ne : name ≡ rd es 0) (i off : ℕ) (h : Past l m name fs cs i off) where
      pub walk-front : Front l (m - i) (rd es 0) (rest (5 * i) fs) (rest off cs)
      walk-front = record { low = h.low; sound = h.sound; above = λ g. rw (← ne) (h.above (omega arith)) }

-- What is left of two lists, where an attribute of the first was taken, and the second was searched for its name.
module _ {l n m : ℕ} {es bs fs cs : List ℕ} (w : Walk l n es bs m fs cs) {n' m' : ℕ} {es' bs' fs' cs' : List ℕ} {r : Row} (t : TookFirst 5 n es bs n' es' bs' r)
    {name : ℕ} (q : name ≡ rd r.head.now 0) (s : Skipped 5 m name fs cs m' fs' cs') where
  pub walk-row : Attribute l w.low (dec_a (dec l) n es bs) n' es' bs' r
  walk-row = taken-attribute w.first t

  pub walk-whole : WholeRow l r
  walk-whole = record { sized = omega (arith, walk-row.sized); body = walk-row.body }

  others : Ahead l name (dec_a (dec l) m fs cs) m' fs' cs'
  others = ahead w.second s

  pub walk_more : Walk l n' es' bs' m' fs' cs'
  walk_more = record { low = rd r.head.now 0 + 1; first = walk-row.more; low' = others.low; second = others.sound }

  module _ (o : Maybe Row) (g : Sought 5 m' name fs' cs' o) where
    pub walk-other : ForSome o (WholeRow l)
    walk-other = go o g
      where
        go : (o : Maybe Row) → Sought 5 m' name fs' cs' o → ForSome o (WholeRow l)
        go (Some y) g =
            λ x e. let z : y ≡ x = cc in rw (← z) record {
              sized = omega (arith, head-length g.0 (laid others.sound));
              body = (found-attribute w.second s g.0 g.1).1;
            }
        go None g = λ x e. let z : ◌≡◌ {A = ℕ} 0 1 = cc in absurd (omega arith)

    walk-found : attribute_in l o ≡ find (rd r.head.now 0) (dec_a (dec l) m fs cs)
    walk-found = go o g ∙ ap (λ (k : ℕ). find k (dec_a (dec l) m fs cs)) q
      where
        go : (o : Maybe Row) → Sought 5 m' name fs' cs' o → attribute_in l o ≡ find name (dec_a (dec l) m fs cs)
        go (Some x) g = sym (found-attribute w.second s g.0 g.1).2
        go None g = sym (found-none w.second s g)

    pub walk_step : (M : Mode) →
        Joins (direct_attrs M (dec_a (dec l) n es bs) (dec_a (dec l) m fs cs)) (rd r.head.now 0) (joined_row M l r o)
        (direct_attrs M (dec_a (dec l) n' es' bs') (dec_a (dec l) m' fs' cs'))
    walk_step M =
        let ys = dec_a (dec l) m fs cs in
        let zs = dec_a (dec l) m' fs' cs' in
        let xs = dec_a (dec l) n' es' bs' in
        record {
          is = ap (λ (z : Attrs). direct_attrs M z ys) walk-row.is
              ∙ attr-step M (rd r.head.now 0) (row_flag r) (dec l r.body.now) xs ys
              ∙ ap₂ (λ (o : Option (Bool × Ty)) (c : Result Attrs). after (rd r.head.now 0) (joined M (row_flag r) (dec l r.body.now) o) c)
              (sym walk-found) (later-same M xs (rd r.head.now 0 + 1) ys zs (sound-ascends l n' (rd r.head.now 0 + 1) es' bs' walk-row.more)
              (λ j h. others.later j (omega (arith, q))));
        }

-- What a pair says, where it is kept.
pub pair-kept : (J : Result (Option (Bool × Ty))) (k : ℕ) → ok (Some k) ≡ pair_length_of J → (y : Bool × Ty) × ((J ≡ ok (some y)) × (k ≡ cap (length (enc y.1))))
pair-kept (ok none) k e = absurd (let z : ◌≡◌ {A = ℕ} 0 1 = cc in omega arith)
pair-kept (ok (some y)) k e = (y, (refl, cc))
pair-kept (err d) k e = absurd (let z : ◌≡◌ {A = ℕ} 0 1 = cc in omega arith)

-- The loop of the length pass, where an attribute was joined.
module _ {all ahead : Result Attrs} {sum : ℕ} (i : Summing all ahead sum) {n : ℕ} {J : Result (Option (Bool × Ty))} {cs : Result Attrs} (step : Joins ahead n J cs) where
  pub pair-not : (d : ℕ) → err d ≡ pair_length_of J → err d ≡ form_length_of table all
  pair-not d q = summing-err i d (step.is ∙ go J q)
    where
      go : (j : Result (Option (Bool × Ty))) → err d ≡ pair_length_of j → after n j cs ≡ err d
      go (ok none) e = absurd (let z : ◌≡◌ {A = ℕ} 0 1 = cc in omega arith)
      go (ok (some y)) e = absurd (let z : ◌≡◌ {A = ℕ} 0 1 = cc in omega arith)
      go (err c) e = ap err cc

  pub pair-dropped : ok None ≡ pair_length_of J → Summing all cs sum
  pair-dropped q = rw (step.is ∙ go J q) at i
    where
      go : (j : Result (Option (Bool × Ty))) → ok None ≡ pair_length_of j → after n j cs ≡ cs
      go (ok none) e = refl
      go (ok (some y)) e = absurd (let z : ◌≡◌ {A = ℕ} 0 1 = cc in omega arith)
      go (err c) e = absurd (let z : ◌≡◌ {A = ℕ} 0 1 = cc in omega arith)

  kept-is : (k : ℕ) → ok (Some k) ≡ pair_length_of J → (y : Bool × Ty) × ((J ≡ ok (some y)) × (k ≡ cap (length (enc y.1))))
  kept-is k q = go J q
    where
      go : (j : Result (Option (Bool × Ty))) → ok (Some k) ≡ pair_length_of j → (y : Bool × Ty) × ((j ≡ ok (some y)) × (k ≡ cap (length (enc y.1))))
      go (ok none) e = absurd (let z : ◌≡◌ {A = ℕ} 0 1 = cc in omega arith)
      go (ok (some y)) e = (y, (refl, cc))
      go (err d) e = absurd (let z : ◌≡◌ {A = ℕ} 0 1 = cc in omega arith)

  pub pair-more : (k : ℕ) → ok (Some k) ≡ pair_length_of J → (s : ℕ) → s ≡ cap (sum + k + 5) → Summing all cs s
  pair-more k q s g =
      let y = kept-is k q in
      summing-more i n y.0.0 (ok y.0.1) cs (step.is ∙ ap (λ (j : Result (Option (Bool × Ty))). after n j cs) y.1.0) (ok k) (ap ok y.1.1) k s refl g

-- A pair that is dropped or refused.
dropped-pair : (p : Bool) (d : ℕ) → cond p (ok None) (err d) ≡ pair_length_of (cond p (ok none) (err d))
dropped-pair true d = refl
dropped-pair false d = refl

-- A pair, found or not.
pub pair-absent : (m : Mode) (r : Bool) (t : Ty) (o : Option (Bool × Ty)) (x : Result (Maybe ℕ)) → o ≡ none → x ≡ cond (is_permissive m) (ok None) (err 12) →
    x ≡ pair_length_of (joined m r t o)
pair-absent m r t o x e q = q ∙ rw e (dropped-pair (is_permissive m) 12)

-- A pair whose types have no bound, or have one.
module _ (m : Mode) (r s : Bool) (t u : Ty) where
  pub pair-none : (d : ℕ) (y : Result (Maybe ℕ)) → err d ≡ form_length_of enc (direct m t u) → y ≡ cond (is_permissive m) (ok None) (err d) →
      y ≡ pair_length_of (joined m r t (some (s, u)))
  pair-none d y q g = g ∙ rw (not_err enc (direct m t u) (err d) d q refl) (dropped-pair (is_permissive m) d)

  pub pair-some : (k : ℕ) (y : Result (Maybe ℕ)) → ok k ≡ form_length_of enc (direct m t u) →
      y ≡ cond (is_permissive m || eq_flag r s) (ok (Some k)) (err 11) → y ≡ pair_length_of (joined m r t (some (s, u)))
  pair-some k y q g =
      let c = of-ok enc (direct m t u) (ok k) k q refl in
      g ∙ go (is_permissive m || eq_flag r s) c.0 c.1.1 ∙ sym (ap (λ z. pair_length_of (joined_to m r s z)) c.1.0)
    where
      go : (p : Bool) (c : Ty) → k ≡ cap (length (enc c)) → cond p (ok (Some k)) (err 11) ≡ pair_length_of (cond p (ok (some (r && s, c))) (err 11))
      go true c h = ap (λ (n : ℕ). ok (Some n)) h
      go false c h = refl

-- The attribute of a name that is not below the first is the first.
front-found : {l m name : ℕ} {fs cs : List ℕ} → Front l m name fs cs → (y : Bool × Ty) → find name (dec_a (dec l) m fs cs) ≡ some y →
    (0 < m) × (find name (dec_a (dec l) m fs cs) ≡ some (eqb (get_or fs 2 0) 1, dec l (part 0 (rd fs 3) cs)))
front-found {l} {m} {name} {fs} {cs} s y e = go m refl
  where
    none-some : none ≡ some y → ⊥
    none-some z = let w : ◌≡◌ {A = ℕ} 0 1 = cc in omega arith

    at : 0 < m → Dec (name ≡ rd fs 0) → find name (dec_a (dec l) m fs cs) ≡ some (eqb (get_or fs 2 0) 1, dec l (part 0 (rd fs 3) cs))
    at p (yes q) = ap (find name) (entry s.sound p).is ∙ rw (eq-eqb name (rd fs 0) q) refl
    at p (no q) =
        let t = entry s.sound p in
        let a = s.above p in
        absurd (none-some (sym (ap (find name) t.is ∙ rw (ne_eqb name (rd fs 0) q) (find-under t.more name (omega arith))) ∙ e))

    go : (k : ℕ) → m ≡ k → (0 < m) × (find name (dec_a (dec l) m fs cs) ≡ some (eqb (get_or fs 2 0) 1, dec l (part 0 (rd fs 3) cs)))
    go zero z = absurd (none-some (sym (ap (find name) (attrs-none (dec l) m fs cs (omega arith))) ∙ e))
    go (suc k) z = (omega arith, at (omega arith) (ℕ_discrete name (rd fs 0)))

module _ {l m name : ℕ} {fs cs : List ℕ} (s : Front l m name fs cs) (y : Bool × Ty) (e : find name (dec_a (dec l) m fs cs) ≡ some y) where
  front-entry : Entry l m s.low fs cs
  front-entry = entry s.sound (front-found s y e).0

  pub front-room : 5 ≤ length fs
  front-room = front-entry.room

  pub front-flag : get_or fs 2 0 ≤ 1
  front-flag = front-entry.flag

  module _ (k : ℕ) (q : k ≡ rd fs 3) where
    pub front-fit : k ≤ length cs
    front-fit = rw q front-entry.fit

    pub front-body : whole l (part 0 k cs) ≡ true
    front-body = rw q front-entry.body

    pub front-is : find name (dec_a (dec l) m fs cs) ≡ some (eqb (get_or fs 2 0) 1, dec l (part 0 k cs))
    front-is = rw q (front-found s y e).1

-- Where a walk over the attributes of two forms starts.
module _ (M : Mode) (l c : ℕ) (a b : List ℕ) (ta : Tabled l c a) (tb : Tabled l c b) {n m : ℕ} {es bs fs cs : List ℕ} (p : Split c a n es bs)
    (q : Split c b m fs cs) where
  first-sound : Sound l n 0 es bs
  first-sound = rw (p.n-is, p.es-is, p.bs-is) ta.sound

  second-sound : Sound l m 0 fs cs
  second-sound = rw (q.n-is, q.es-is, q.bs-is) tb.sound

  pub start-walk : Walk l n es bs m fs cs
  start-walk = record { low = 0; first = first-sound; low' = 0; second = second-sound }

  pub start-sizes : (length es ≡ 5 * n) × (length fs ≡ 5 * m)
  start-sizes = (first-sound.sized, second-sound.sized)
