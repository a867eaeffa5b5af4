-- Which attributes a bound keeps, and how many. Assumes nothing.
use Rattle.std.specs.Prelude.{◌≡◌, refl, Option as Maybe, Some, None, is_some, List, Bool, true, false, ◌&&◌, ◌||◌, cond, ℕ, suc, ◌+◌, ◌≤◌, ◌<◌, ◌-◌, eqb, get_or}
use Rattle.std.proofs.Common.{ap, sym, ◌∙◌, arith}
use Rattle.std.proofs.Math.Option.{Option, none, some}
use Rattle.cedar.specs.Types.{Mode, is_permissive, is_loose, eq_names, eq_flag, Atom, Ty, atom, set, rec, ent, Attrs, nil, attr, maybe, names, find, as_set}
use Rattle.cedar.specs.TypeForm.{count, enc}
use Rattle.cedar.specs.Result.{Result, ok, err, bind}
use Rattle.cedar.specs.Bound.{absent, join_equal, join_kept, join_one, join_record}
use Rattle.cedar.specs.Laws.DirectBound.{direct, direct_attrs}
use Rattle.forms.specs.Parts.{rd, rest, kind}
use Rattle.forms.specs.RowBytes.{TookFirst, Skipped, Sought}
use Rattle.forms.specs.Tables.{attrs_at}
use Rattle.forms.specs.TypeBytes.{dec, dec_a, whole}
use Rattle.forms.specs.TypeForms.{type_of}
use Rattle.forms.specs.declared.rows.Row.{Row}
use Rattle.forms.specs.declared.type_forms.TypeForm.{TypeForm}
use Rattle.forms.specs.Laws.Tables.{attrs-count}
use Rattle.writing.specs.FormLengths.{form_length_of}
use Rattle.writing.specs.Laws.FormLengths.{before, of-ok, not_err}
use Rattle.bound_lengths.specs.Pairs.{joined_attrs, joined_to, row_flag, joined_row, joined}
use Rattle.bound_lengths.specs.Sets.{PastSets}
use Rattle.bound_lengths.specs.Laws.Pairs.{after, Joins, Walk, walk_end, walk_more, walk_step}
use Rattle.bound_lengths.specs.Laws.Bounds.{atoms-length, sets-join, records-join, entities-join, set-join, record-join, entity-join, atoms-join}
use Rattle.bounds.specs.Joins.{count_of, is_ok, is_kept, Bare, KeptWith}
use Rattle.bounds.specs.Laws.UntypedSets.{loose-known, joined-known, around-known}
use Rattle.std.proofs.Math.Decide.{ℕ_discrete}

-- There is a result.
ok-known : {A : Type 0} (r : Result A) → is_ok r ≡ true → (a : A) × (r ≡ ok a)
ok-known (ok a) h = (a, refl)
ok-known (err e) h = absurd (let z : ◌≡◌ {A = ℕ} 0 1 = cc in omega arith)

pub ok-bind : {A B : Type 0} (r : Result A) (f : A → B) → is_ok (bind r (λ a. ok (f a))) ≡ is_ok r
ok-bind (ok a) f = refl
ok-bind (err e) f = refl

-- Permissive, two attribute lists have a bound: what has none is dropped.
lists-bound : (m : Mode) → is_permissive m ≡ true → (xs ys : Attrs) → is_ok (direct_attrs m xs ys) ≡ true
unfolding direct
lists-bound m p nil ys = refl
lists-bound m p (attr n r t xs) ys = go (find n ys) (direct_attrs m xs ys) (lists-bound m p xs ys)
  where
    kept : (s : Bool) (c : Result Ty) (cs : Result Attrs) → is_ok cs ≡ true → is_ok (join_kept n r s c cs) ≡ true
    kept s (ok c) cs h = ok-bind cs (attr n _ c) ∙ h
    kept s (err e) cs h = h

    go : (o : Option (Bool × Ty)) (cs : Result Attrs) → is_ok cs ≡ true → is_ok (maybe (absent m cs) (λ y. join_one m n r y.0 (direct m t y.1) cs) o) ≡ true
    go none cs h = rw p h
    go (some y) cs h = rw p (kept y.0 (direct m t y.1) cs h)

-- Two types of one kind, permissive.
module _ (m : Mode) (p : is_permissive m ≡ true) (u v : Ty) where
  pub plain-bound : (a : Atom) → u ≡ atom a → v ≡ atom a → true ≡ is_ok (direct m u v)
  plain-bound a e f = go (direct m u v) (atoms-length m u v a e f)
    where
      go : (r : Result Ty) → ok 1 ≡ form_length_of enc r → true ≡ is_ok r
      go (ok t) h = refl
      go (err d) h = absurd (let z : ◌≡◌ {A = ℕ} 0 1 = cc in omega arith)

  module _ {x y : Ty} (e : u ≡ set x) (f : v ≡ set y) where
    pub loose-sets-bound : is_loose m ≡ true → true ≡ is_ok (direct m u v)
    loose-sets-bound h = sym (ap is_ok (sets-join m u v e f) ∙ loose-known m h (direct m x y))

    pub sets-bound : is_loose m ≡ false → (z : Bool) → z ≡ is_ok (direct m x y) → z ≡ is_ok (direct m u v)
    sets-bound h z q = q ∙ sym (ap is_ok (sets-join m u v e f) ∙ joined-known m h (direct m x y))

  pub records-bound : {o o' : Bool} {xs ys : Attrs} → u ≡ rec o xs → v ≡ rec o' ys → true ≡ is_ok (direct m u v)
  records-bound {o} {o'} {xs} {ys} e f =
      let lists : is_ok (joined_attrs m xs ys) ≡ true = rw p (lists-bound m p xs ys) in
      sym (ap is_ok (records-join m u v e f) ∙ ok-bind (joined_attrs m xs ys) (join_record o o' xs ys) ∙ lists)

  pub entities-bound : {ns ks : List ℕ} → u ≡ ent ns → v ≡ ent ks → true ≡ is_ok (direct m u v)
  entities-bound e f = sym (ap is_ok (entities-join m u v e f) ∙ rw p refl)

pub loose-strict : (m : Mode) → is_loose m ≡ true → is_loose m ≡ false → ⊥
loose-strict m h q = let z : true ≡ false = sym h ∙ q in cc

-- Two forms that are both sets are so loose: they have a bound. And unless loose, what lies below sets tells of them.
module _ (m : Mode) (a b : TypeForm) where
  pub bare-sets-bound : is_permissive m ≡ true → Bare m a b → {x y : Ty} → type_of a ≡ set x → type_of b ≡ set y → true ≡ is_ok (direct m (type_of a) (type_of b))
  bare-sets-bound p h {x} {y} e f = loose-sets-bound m p (type_of a) (type_of b) e f (go (is_loose m) refl)
    where
      some-none : {t : Ty} → some t ≡ none → ⊥
      some-none z = cc

      go : (z : Bool) → is_loose m ≡ z → is_loose m ≡ true
      go true q = q
      go false q = absurd (some-none (sym (ap as_set f) ∙ h q x e))

  pub past-bound : {x y : TypeForm} {n : ℕ} → is_loose m ≡ false → PastSets a b x y n → (z : Bool) → z ≡ is_ok (direct m (type_of x) (type_of y)) →
      z ≡ is_ok (direct m (type_of a) (type_of b))
  past-bound {x} {y} {n} h p z q = q ∙ sym (ap is_ok (p.joined m) ∙ around-known m h n (direct m (type_of x) (type_of y)))

-- Two whole forms of one kind, permissive.
module _ (m : Mode) (p : is_permissive m ≡ true) (l : ℕ) (a b : List ℕ) (ha : whole l a ≡ true) (hb : whole l b ≡ true) (k : kind a ≡ kind b) where
  pub loose-forms-bound : kind a ≡ 7 → is_loose m ≡ true → true ≡ is_ok (direct m (dec l a) (dec l b))
  loose-forms-bound e h = sym (ap is_ok (set-join m l a b ha hb e (sym k ∙ e)) ∙ loose-known m h (direct m (dec (l - 1) (rest 1 a)) (dec (l - 1) (rest 1 b))))

  pub set-forms-bound : kind a ≡ 7 → is_loose m ≡ false → (z : Bool) → z ≡ is_ok (direct m (dec (l - 1) (rest 1 a)) (dec (l - 1) (rest 1 b))) →
      z ≡ is_ok (direct m (dec l a) (dec l b))
  set-forms-bound e h z q =
      q ∙ sym (ap is_ok (set-join m l a b ha hb e (sym k ∙ e)) ∙ joined-known m h (direct m (dec (l - 1) (rest 1 a)) (dec (l - 1) (rest 1 b))))

  pub others-bound : (kind a ≡ 7 → ⊥) → (kind a ≡ 11 → ⊥) → (kind a ≡ 12 → ⊥) → true ≡ is_ok (direct m (dec l a) (dec l b))
  others-bound p7 p11 p12 = go (ℕ_discrete (kind a) 8) (ℕ_discrete (kind a) 10)
    where
      lists : (xs ys : Attrs) → is_ok (joined_attrs m xs ys) ≡ true
      lists xs ys = rw p (lists-bound m p xs ys)

      go : Dec (kind a ≡ 8) → Dec (kind a ≡ 10) → true ≡ is_ok (direct m (dec l a) (dec l b))
      go (yes e) d =
          let xs = attrs_at (l - 1) 2 a in
          let ys = attrs_at (l - 1) 2 b in
          let made = join_record (eqb (get_or a 1 0) 1) (eqb (get_or b 1 0) 1) xs ys in
          sym (ap is_ok (record-join m l a b ha hb e (sym k ∙ e)) ∙ ok-bind (joined_attrs m xs ys) made ∙ lists xs ys)
      go (no p8) (yes e) = sym (ap is_ok (entity-join m l a b ha hb e (sym k ∙ e)) ∙ rw p refl)
      go (no p8) (no p10) = let s = atoms-join m l a b ha hb k p7 p8 p10 p11 p12 in sym (ap is_ok s.1.0)

-- An attribute: strict it is kept, permissive if it is found and has a bound.
module _ (m : Mode) (r : Bool) (t : Ty) (o : Option (Bool × Ty)) where
  pub strict-kept : is_permissive m ≡ false → is_ok (joined m r t o) ≡ true → true ≡ is_kept (joined m r t o)
  strict-kept p h = go o h
    where
      dropped : (q : Bool) (e : ℕ) → q ≡ false → is_ok {A = Option (Bool × Ty)} (cond q (ok none) (err e)) ≡ true → true ≡ is_kept (cond q (ok none) (err e))
      dropped true e q s = absurd (let z : ◌≡◌ {A = ℕ} 0 1 = cc in omega arith)
      dropped false e q s = absurd (let z : ◌≡◌ {A = ℕ} 0 1 = cc in omega arith)

      flags : (q : Bool) (y : Bool × Ty) → is_ok (cond q (ok (some y)) (err 11)) ≡ true → true ≡ is_kept (cond q (ok (some y)) (err 11))
      flags true y s = refl
      flags false y s = absurd (let z : ◌≡◌ {A = ℕ} 0 1 = cc in omega arith)

      one : (s : Bool) (c : Result Ty) → is_ok (joined_to m r s c) ≡ true → true ≡ is_kept (joined_to m r s c)
      one s (ok c) h = flags (is_permissive m || eq_flag r s) _ h
      one s (err e) h = dropped (is_permissive m) e p h

      go : (o : Option (Bool × Ty)) → is_ok (joined m r t o) ≡ true → true ≡ is_kept (joined m r t o)
      go none h = dropped (is_permissive m) 12 p h
      go (some y) h = one y.0 (direct m t y.1) h

  module _ (p : is_permissive m ≡ true) where
    pub absent-dropped : o ≡ none → false ≡ is_kept (joined m r t o)
    absent-dropped e = rw (e, p) refl

    pub found-kept : (s : Bool) (u : Ty) → o ≡ some (s, u) → (z : Bool) → z ≡ is_ok (direct m t u) → z ≡ is_kept (joined m r t o)
    found-kept s u e z q = q ∙ rw e (go (direct m t u))
      where
        go : (c : Result Ty) → is_ok c ≡ is_kept (joined_to m r s c)
        go (ok c) = rw p refl
        go (err d) = rw p refl

-- What the length pass said.
module _ (m : Mode) (t u : Ty) where
  pub form-length-yes : (n : ℕ) → ok n ≡ form_length_of enc (direct m t u) → true ≡ is_ok (direct m t u)
  form-length-yes n q = let c = of-ok enc (direct m t u) (ok n) n q refl in sym (ap is_ok c.1.0)

  pub form-length-no : (d : ℕ) → err d ≡ form_length_of enc (direct m t u) → false ≡ is_ok (direct m t u)
  form-length-no d q = sym (ap is_ok (not_err enc (direct m t u) (err d) d q refl))

-- An attribute that is kept stands before the others, with the bound of its types.
pub kept-before : (m : Mode) (l n : ℕ) (r x : Row) (cs : Result Attrs) → is_kept (joined_row m l r (Some x)) ≡ true →
    after n (joined_row m l r (Some x)) cs ≡ before n (row_flag r && row_flag x) (direct m (dec l r.body.now) (dec l x.body.now)) cs
kept-before m l n r x cs h = go (direct m (dec l r.body.now) (dec l x.body.now)) h
  where
    kept : (b : Bool) (c : Ty) → is_kept (cond b (ok (some (row_flag r && row_flag x, c))) (err 11)) ≡ true →
        after n (cond b (ok (some (row_flag r && row_flag x, c))) (err 11)) cs ≡ before n (row_flag r && row_flag x) (ok c) cs
    kept true c h = refl
    kept false c h = absurd (let z : ◌≡◌ {A = ℕ} 0 1 = cc in omega arith)

    none-kept : (b : Bool) (d : ℕ) → is_kept (cond b (ok none) (err d)) ≡ true → ⊥
    none-kept true d h = let z : ◌≡◌ {A = ℕ} 0 1 = cc in omega arith
    none-kept false d h = let z : ◌≡◌ {A = ℕ} 0 1 = cc in omega arith

    go : (c : Result Ty) → is_kept (joined_to m (row_flag r) (row_flag x) c) ≡ true →
        after n (joined_to m (row_flag r) (row_flag x) c) cs ≡ before n (row_flag r && row_flag x) c cs
    go (ok c) h = kept (is_permissive m || eq_flag (row_flag r) (row_flag x)) c h
    go (err d) h = absurd (none-kept (is_permissive m) d h)

-- An attribute that is dropped, where there is a bound.
pub dropped-after : (n : ℕ) (j : Result (Option (Bool × Ty))) (cs : Result Attrs) → is_ok j ≡ true → is_kept j ≡ false → after n j cs ≡ cs
dropped-after n (ok none) cs g h = refl
dropped-after n (ok (some y)) cs g h = absurd (let z : ◌≡◌ {A = ℕ} 0 1 = cc in omega arith)
dropped-after n (err d) cs g h = absurd (let z : ◌≡◌ {A = ℕ} 0 1 = cc in omega arith)

-- An attribute before the others, where there is a bound.
pub after-known : (n : ℕ) (j : Result (Option (Bool × Ty))) (cs : Result Attrs) → is_ok (after n j cs) ≡ true → is_ok j ≡ true
after-known n (ok none) cs h = refl
after-known n (ok (some y)) cs h = refl
after-known n (err e) cs h = h

after-count : (n : ℕ) (j : Result (Option (Bool × Ty))) (cs : Result Attrs) → is_ok (after n j cs) ≡ true →
    (is_ok cs ≡ true) × (count_of (after n j cs) ≡ cond (is_kept j) 1 0 + count_of cs)
after-count n (ok none) cs h = (h, omega arith)
after-count n (ok (some y)) (ok l) h = (refl, omega arith)
after-count n (ok (some y)) (err e) h = absurd (let z : ◌≡◌ {A = ℕ} 0 1 = cc in omega arith)
after-count n (err e) cs h = absurd (let z : ◌≡◌ {A = ℕ} 0 1 = cc in omega arith)

-- Strict, no attribute is dropped.
strict-count : (m : Mode) → is_permissive m ≡ false → (xs ys cs : Attrs) → direct_attrs m xs ys ≡ ok cs → count cs ≡ count xs
unfolding direct
strict-count m p nil ys cs e = let z : nil ≡ cs = cc in rw (← z) refl
strict-count m p (attr n r t xs) ys cs e = go (find n ys) (direct_attrs m xs ys) (λ ls q. strict-count m p xs ys ls q) e
  where
    more : (s : Bool) (c : Result Ty) (ds : Result Attrs) → ((ls : Attrs) → ds ≡ ok ls → count ls ≡ count xs) →
        join_equal n r s c ds ≡ ok cs → count cs ≡ suc (count xs)
    more s (err d) ds f e = absurd (let z : ◌≡◌ {A = ℕ} 0 1 = cc in omega arith)
    more s (ok c) ds f e = flags (eq_flag r s) ds f e
      where
        flags : (b : Bool) (ds : Result Attrs) → ((ls : Attrs) → ds ≡ ok ls → count ls ≡ count xs) →
            cond b (bind ds (λ l. ok (attr n r c l))) (err 11) ≡ ok cs → count cs ≡ suc (count xs)
        flags false ds f e = absurd (let z : ◌≡◌ {A = ℕ} 0 1 = cc in omega arith)
        flags true (err d) f e = absurd (let z : ◌≡◌ {A = ℕ} 0 1 = cc in omega arith)
        flags true (ok ls) f e = let z : attr n r c ls ≡ cs = cc in rw (← z) (ap suc (f ls refl))

    go : (o : Option (Bool × Ty)) (ds : Result Attrs) → ((ls : Attrs) → ds ≡ ok ls → count ls ≡ count xs) →
        maybe (absent m ds) (λ y. join_one m n r y.0 (direct m t y.1) ds) o ≡ ok cs → count cs ≡ suc (count xs)
    go none ds f e = let z : err 12 ≡ ok cs = rw p at e in absurd (let w : ◌≡◌ {A = ℕ} 0 1 = cc in omega arith)
    go (some y) ds f e = more y.0 (direct m t y.1) ds f (rw p at e)

-- Where the mode allows the names, the bound of the lists is that of their attributes.
pub joined-direct : (m : Mode) (xs ys cs : Attrs) → joined_attrs m xs ys ≡ ok cs → joined_attrs m xs ys ≡ direct_attrs m xs ys
joined-direct m xs ys cs e = go (is_permissive m || eq_names (names xs) (names ys)) (direct_attrs m xs ys) e
  where
    go : (b : Bool) (r : Result Attrs) → cond b r (err 12) ≡ ok cs → cond b r (err 12) ≡ r
    go true r e = refl
    go false r e = absurd (let z : ◌≡◌ {A = ℕ} 0 1 = cc in omega arith)

module _ (m : Mode) (p : is_permissive m ≡ false) where
  pub strict-many : (xs ys cs : Attrs) → joined_attrs m xs ys ≡ ok cs → count xs ≡ count cs
  strict-many xs ys cs z = sym (strict-count m p xs ys cs (sym (joined-direct m xs ys cs z) ∙ z))

  pub strict-all : (l at : ℕ) (a b : List ℕ) (n : ℕ) → n ≡ rd a at → is_ok (joined_attrs m (attrs_at l at a) (attrs_at l at b)) ≡ true →
      n ≡ count_of (joined_attrs m (attrs_at l at a) (attrs_at l at b))
  strict-all l at a b n e s =
      let c = ok-known (joined_attrs m (attrs_at l at a) (attrs_at l at b)) s in
      e ∙ sym (attrs-count (dec l) (rd a at) _ _) ∙ strict-many (attrs_at l at a) (attrs_at l at b) c.0 c.1 ∙ sym (ap count_of c.1)

pub one-most : (r : Bool) → cond r 1 0 ≤ 1
one-most true = omega arith
one-most false = omega arith

-- Whether one is kept, by the attribute with which it is.
pub kept-some : (m : Mode) (l : ℕ) (r : Row) (o k : Maybe Row) → KeptWith m l r o k → is_kept (joined_row m l r o) ≡ is_some k
kept-some m l r o (Some x) h = h.1
kept-some m l r o None h = h

-- The loop that counts: `num` attributes are kept, and `left` are to be asked for.
pub record Counting (d : Mode) (all : Result Attrs) (n l left : ℕ) (es bs : List ℕ) (m : ℕ) (fs cs : List ℕ) (num : ℕ) : Type 0 where
  pub walk : Walk l left es bs m fs cs
  pub few : n < 65536
  pub most : num + left ≤ n
  pub known : is_ok (direct_attrs d (dec_a (dec l) left es bs) (dec_a (dec l) m fs cs)) ≡ true
  pub same : count_of all ≡ num + count_of (direct_attrs d (dec_a (dec l) left es bs) (dec_a (dec l) m fs cs))

module _ {d : Mode} {all : Result Attrs} {n l left : ℕ} {es bs : List ℕ} {m : ℕ} {fs cs : List ℕ} {num : ℕ} (w : Counting d all n l left es bs m fs cs num) where
  pub counting-end : left ≤ 0 → num ≡ count_of all
  counting-end h = sym (w.same ∙ ap (λ (r : Result Attrs). num + count_of r) (walk_end d l left es bs (dec_a (dec l) m fs cs) h) ∙ omega arith)

  -- A turn: an attribute of the first list was taken, and the second was searched for its name.
  module _ {left' m' : ℕ} {es' bs' fs' cs' : List ℕ} {r : Row} (t : TookFirst 5 left es bs left' es' bs' r) {name : ℕ} (q : name ≡ rd r.head.now 0)
      (s : Skipped 5 m name fs cs m' fs' cs') (o : Maybe Row) (g : Sought 5 m' name fs' cs' o) where
    step : Joins (direct_attrs d (dec_a (dec l) left es bs) (dec_a (dec l) m fs cs)) (rd r.head.now 0) (joined_row d l r o)
        (direct_attrs d (dec_a (dec l) left' es' bs') (dec_a (dec l) m' fs' cs'))
    step = walk_step w.walk t q s o g d

    after-is : is_ok (after (rd r.head.now 0) (joined_row d l r o) (direct_attrs d (dec_a (dec l) left' es' bs') (dec_a (dec l) m' fs' cs'))) ≡ true
    after-is = ap is_ok (sym step.is) ∙ w.known

    pub counting_more : (x : Bool) (num' : ℕ) → is_kept (joined_row d l r o) ≡ x → num' ≡ num + cond x 1 0 →
        Counting d all n l left' es' bs' m' fs' cs' num'
    counting_more x num' h e =
        let c = after-count (rd r.head.now 0) (joined_row d l r o) (direct_attrs d (dec_a (dec l) left' es' bs') (dec_a (dec l) m' fs' cs')) after-is in
        let k : ◌≡◌ {A = ℕ} (cond (is_kept (joined_row d l r o)) 1 0) (cond x 1 0) = ap (λ (y : Bool). cond y 1 0) h in
        record {
          walk = walk_more w.walk t q s;
          few = w.few;
          most = omega (arith, w.most, t.left, one-most x, e);
          known = c.0;
          same = w.same ∙ ap (λ (y : Result Attrs). num + count_of y) step.is ∙ omega (arith, c.1, k, e);
        }
