-- How many levels trees have: no more than their forms have bytes; and what is folded, looked up or converted has no more than what it
-- came from.
use Rattle.std.specs.Prelude.{ℕ, suc, ◌≤◌, max, List, [], ◌∷◌, ◌++◌, Bool, ◌&&◌, ◌≡◌, eqb, length}
use Rattle.std.proofs.Common.{le_trans, arith, sym, subst, length-append}
use Rattle.std.proofs.Math.Option.{some, some-injective}
use Rattle.cedar.specs.Types.{Mode, permissive, Atom, never, true', false', bool, long, string, anyset, anyent}
use Rattle.cedar.specs.Types.{Ty, atom, set, rec, act, ent, ext, Attrs, nil, attr, Schema, maybe, find}
use Rattle.cedar.specs.Types.{Value, boolean, number, text, uid, set_of, record_of, call, Values, end, value, Pairs, empty, pair}
use Rattle.cedar.specs.Levels.{depth, depths, depth_value, depth_values, depth_pairs, deepest}
use Rattle.cedar.specs.TypeForm.{enc, entries, bodies}
use Rattle.cedar.specs.ValueForm.{enc_value, lengths, bodies_of, entries_of, values_of}
use Rattle.cedar.specs.Result.{ok}
use Rattle.cedar.specs.Bound.{bound}
use Rattle.cedar.specs.Fold.{fold_from}
use Rattle.cedar.specs.Attribute.{attr_of, fold_attr, lookup_names, lookup, listed_bodies, joined_bodies}
use Rattle.cedar.specs.Conversion.{convert_atom, convert, convert_attrs}
use Rattle.cedar.specs.Laws.Shape.{Ordered, OrderedFrom, WF}
use Rattle.cedar.proofs.Laws.Tests.{cond-case, maybe-case, none-some}
use Rattle.cedar.proofs.Laws.Result.{ok-inj, err-ok, bind_ok}
use Rattle.cedar.proofs.Laws.Bytes.{bind-some}
use Rattle.cedar.proofs.Laws.ListForm.{Each}
use Rattle.cedar.proofs.Laws.Join.{bound-depth, bound-WF}
use Rattle.cedar.proofs.Laws.Lookup.{none-ok, stepped-case}

-- What stands behind other bytes is no longer than all.
behind : (xs ys : List ℕ) (n : ℕ) → n ≤ length ys → n ≤ length (xs ++ ys)
behind xs ys n h = rw (length-append xs ys) (omega arith)

-- The deeper of two, in what stands one after the other.
either : (xs ys : List ℕ) (m n : ℕ) → m ≤ length xs → n ≤ length ys → max m n ≤ length (xs ++ ys)
either xs ys m n h k = rw (length-append xs ys) (omega arith)

mutual
  unfolding depth enc

  -- A type has no more levels than its form has bytes.
  pub depth-length : (t : Ty) → depth t ≤ length (enc t)
  depth-length (atom k) = omega arith
  depth-length (set t) = let h = depth-length t in omega arith
  depth-length (rec o xs) = let h = behind (entries xs) (bodies xs) (depths xs) (depths-length xs) in omega arith
  depth-length (act n xs) = let h = behind (entries xs) (bodies xs) (depths xs) (depths-length xs) in omega arith
  depth-length (ent ns) = omega arith
  depth-length (ext n) = omega arith

  depths-length : (xs : Attrs) → depths xs ≤ length (bodies xs)
  depths-length nil = omega arith
  depths-length (attr n r t xs) = either (enc t) (bodies xs) (depth t) (depths xs) (depth-length t) (depths-length xs)

mutual
  unfolding depth_value enc_value

  -- A value has no more levels than its form has bytes.
  pub depth_value-length : (v : Value) → depth_value v ≤ length (enc_value v)
  depth_value-length (boolean b) = omega arith
  depth_value-length (number l) = omega arith
  depth_value-length (text l) = omega arith
  depth_value-length (uid k i) = omega arith
  depth_value-length (set_of vs) = let h = behind (lengths vs) (bodies_of vs) (depth_values vs) (depth_values-length vs) in omega arith
  depth_value-length (record_of ps) = let h = behind (entries_of ps) (values_of ps) (depth_pairs ps) (depth_pairs-length ps) in omega arith
  depth_value-length (call f vs) = let h = behind (lengths vs) (bodies_of vs) (depth_values vs) (depth_values-length vs) in omega arith

  depth_values-length : (vs : Values) → depth_values vs ≤ length (bodies_of vs)
  depth_values-length end = omega arith
  depth_values-length (value v vs) = either (enc_value v) (bodies_of vs) (depth_value v) (depth_values vs) (depth_value-length v) (depth_values-length vs)

  depth_pairs-length : (ps : Pairs) → depth_pairs ps ≤ length (values_of ps)
  depth_pairs-length empty = omega arith
  depth_pairs-length (pair n v ps) = either (enc_value v) (values_of ps) (depth_value v) (depth_pairs ps) (depth_value-length v) (depth_pairs-length ps)

-- A value has a level.
pub depth_value-pos : (v : Value) → 1 ≤ depth_value v
unfolding depth_value
depth_value-pos (boolean b) = omega arith
depth_value-pos (number l) = omega arith
depth_value-pos (text l) = omega arith
depth_value-pos (uid k i) = omega arith
depth_value-pos (set_of vs) = omega arith
depth_value-pos (record_of ps) = omega arith
depth_value-pos (call f vs) = omega arith

-- A fold has no more levels than the deepest of what it starts from and of its list.
pub fold-depth : (fits : Ty → Bool) (m : Mode) (ts : List Ty) (a c : Ty) → fold_from fits m a ts ≡ ok c → depth c ≤ max (depth a) (deepest ts)
fold-depth fits m [] a c e = rw (sym (ok-inj e)) (omega arith)
fold-depth fits m (t ∷ ts) a c e =
    bind_ok (bound m a t) _ e λ b eb p.
    cond-case (fits b) p
    (λ h q. let g = bound-depth m a t b eb in let f = fold-depth fits m ts b c q in omega arith)
    (λ h q. err-ok q)

-- A fold of types in order, of at most so many levels, is so too.
pub fold-WF : (l : ℕ) (fits : Ty → Bool) (m : Mode) (ts : List Ty) (a c : Ty) → WF l a → Each (WF l) ts → fold_from fits m a ts ≡ ok c → WF l c
fold-WF l fits m [] a c w each e = subst (WF l) (ok-inj e) w
fold-WF l fits m (t ∷ ts) a c w each e =
    bind_ok (bound m a t) _ e λ b eb p.
    cond-case (fits b) p (λ h q. fold-WF l fits m ts b c (bound-WF l m a t b w each.0 eb) each.1 q) (λ h q. err-ok q)

module _ (fits : Ty → Bool) (s : Schema) (a : ℕ) where
  fold_attr-depth : (ns : List ℕ) (x y : Bool × Ty) → fold_attr fits s a x ns ≡ ok (some y) → depth y.1 ≤ max (depth x.1) (deepest (listed_bodies s a ns))
  fold_attr-depth [] x y e = rw (sym (some-injective _ _ (ok-inj e))) (omega arith)
  fold_attr-depth (n ∷ ns) x y e =
      maybe-case (attr_of s a n) e (λ i p. none-ok p) λ z ez p.
      stepped-case fits (λ c. fold_attr fits s a (x.0 && z.0, c) ns) (bound permissive x.1 z.1) p λ c ec q.
      let g = bound-depth permissive x.1 z.1 c ec in
      let f = fold_attr-depth ns (x.0 && z.0, c) y q in
      rw ez (omega arith)

  lookup_names-depth : (ns : List ℕ) (y : Bool × Ty) → lookup_names fits s a ns ≡ ok (some y) → depth y.1 ≤ deepest (listed_bodies s a ns)
  lookup_names-depth [] y e = none-ok e
  lookup_names-depth (n ∷ ns) y e = maybe-case (attr_of s a n) e (λ i p. none-ok p) λ x ex p. rw ex (fold_attr-depth ns x y p)

  own-depth : (xs : Attrs) (y : Bool × Ty) → find a xs ≡ some y → depth y.1 ≤ deepest (maybe [] (λ z. z.1 ∷ []) (find a xs))
  own-depth xs y e = rw e (omega arith)

  -- What lookup finds has no more levels than the deepest of the bodies that it joined.
  pub lookup-depth : (t : Ty) (y : Bool × Ty) → lookup fits s a t ≡ ok (some y) → depth y.1 ≤ deepest (joined_bodies s a t)
  lookup-depth (atom k) y e = none-ok e
  lookup-depth (set t) y e = none-ok e
  lookup-depth (rec o xs) y e = own-depth xs y (ok-inj e)
  lookup-depth (act n xs) y e = own-depth xs y (ok-inj e)
  lookup-depth (ent ns) y e = lookup_names-depth ns y e
  lookup-depth (ext n) y e = none-ok e

-- A core type has no more levels than its type, and is in order if that is.
abbrev Fair : Ty → Ty → Type 0
Fair t c = (depth c ≤ depth t) × (Ordered t → Ordered c)

fair-atom : (t : Ty) (k : Atom) → some (atom k) ≡ some t → (a : Atom) → Fair (atom a) t
unfolding depth Ordered
fair-atom t k e a = subst (Fair (atom a)) (some-injective _ _ e) (omega arith, λ o. tt)

convert_atom-fair : (k : Atom) (c : Ty) → convert_atom k ≡ some c → Fair (atom k) c
convert_atom-fair never c e = none-some e
convert_atom-fair true' c e = fair-atom c bool e true'
convert_atom-fair false' c e = fair-atom c bool e false'
convert_atom-fair bool c e = fair-atom c bool e bool
convert_atom-fair long c e = fair-atom c long e long
convert_atom-fair string c e = fair-atom c string e string
convert_atom-fair anyset c e = fair-atom c anyset e anyset
convert_atom-fair anyent c e = none-some e

mutual
  unfolding depth Ordered convert

  convert-fair : (t c : Ty) → convert t ≡ some c → Fair t c
  convert-fair (atom k) c e = convert_atom-fair k c e
  convert-fair (set t) c e =
      bind-some (convert t) _ e λ b eb p.
      let f = convert-fair t b eb in
      subst (Fair (set t)) (some-injective _ _ p) (let g = f.0 in omega arith, f.1)
  convert-fair (rec o xs) c e =
      bind-some (convert_attrs xs) _ e λ cs ec p.
      subst (Fair (rec o xs)) (some-injective _ _ p)
      (let g = (convert_attrs-fair xs cs 0 ec).0 in omega arith, (convert_attrs-fair xs cs 0 ec).1)
  convert-fair (act n xs) c e = subst (Fair (act n xs)) (some-injective _ _ e) (omega arith, λ o. (omega arith, (omega arith, tt)))
  convert-fair (ent ns) c e =
      cond-case (eqb (length ns) 1) e (λ h p. subst (Fair (ent ns)) (some-injective _ _ p) (omega arith, λ o. o)) (λ h p. none-some p)
  convert-fair (ext n) c e = subst (Fair (ext n)) (some-injective _ _ e) (omega arith, λ o. o)

  convert_attrs-fair : (xs cs : Attrs) (low : ℕ) → convert_attrs xs ≡ some cs → (depths cs ≤ depths xs) × (OrderedFrom low xs → OrderedFrom low cs)
  convert_attrs-fair nil cs low e =
      subst (λ (z : Attrs). (depths z ≤ depths nil) × (OrderedFrom low nil → OrderedFrom low z)) (some-injective _ _ e) (omega arith, λ o. o)
  convert_attrs-fair (attr n r t xs) cs low e =
      bind-some (convert t) _ e λ c ec p.
      bind-some (convert_attrs xs) _ p λ ds ed q.
      let f = convert-fair t c ec in
      let g = convert_attrs-fair xs ds (suc n) ed in
      subst (λ (z : Attrs). (depths z ≤ depths (attr n r t xs)) × (OrderedFrom low (attr n r t xs) → OrderedFrom low z)) (some-injective _ _ q)
      (let h = f.0 in let k = g.0 in omega arith, λ o. (o.0, f.1 o.1, g.1 o.2))

-- A core type has no more levels than its type.
pub convert-depth : (t c : Ty) → convert t ≡ some c → depth c ≤ depth t
convert-depth t c e = (convert-fair t c e).0

-- The core type of a type in order, of at most so many levels, is so too.
pub convert-WF : (l : ℕ) (t c : Ty) → WF l t → convert t ≡ some c → WF l c
convert-WF l t c w e = let f = convert-fair t c e in (le_trans f.0 w.0, f.1 w.1)
