-- What a value carries, from bytes to trees, and what its attributes are.
use Rattle.std.specs.Prelude.{ℕ, suc, ◌≤◌, List, Bool, true, false, ◌||◌, cond, ◌≡◌, refl, T, eqb, length}
use Rattle.std.proofs.Common.{le_trans, arith, sym, ap, ◌∙◌, subst, eqb→eq, length-append}
use Rattle.std.proofs.Math.Nat.{le-max_left, le-max_right}
use Rattle.std.proofs.Math.Option.{Option, none, some, some-injective}
use Rattle.cedar.specs.Types.{Ty, rec, Attrs, Value, boolean, number, text, uid, set_of, record_of, call, Pairs, empty, pair, Entity, Schema, present}
use Rattle.cedar.specs.Levels.{depth_value, depth_pairs}
use Rattle.cedar.specs.Laws.Shape.{OrderedValue, OrderedPairs}
use Rattle.cedar.specs.Bytes.{◌>>=◌, Bytes}
use Rattle.cedar.specs.ValueForm.{enc_value, entries_of, values_of}
use Rattle.cedar.specs.SchemaForm.{enc_body}
use Rattle.cedar.specs.Limits.{Limits}
use Rattle.cedar.specs.Whole.{whole_schema, whole_value}
use Rattle.cedar.specs.Attribute.{entity_of}
use Rattle.cedar.specs.Text.{textual, textual_pairs}
use Rattle.cedar.specs.Conformance.{holds, Counts, pairs, has_name, conforms}
use Rattle.cedar.specs.Sequence.{pair_of, record_pairs, attribute_of, Carries, itself, of_entry, of_missing}
use Rattle.cedar.proofs.Laws.Tests.{cond-case, none-some, present-some}
use Rattle.cedar.proofs.Laws.Bytes.{bind-some, bind-at}
use Rattle.cedar.proofs.Laws.SchemaForm.{entity_in-good}
use Rattle.cedar.proofs.Laws.Whole.{TypeWithin, ValueWithin, whole_type-reads, whole_value-reads, whole_schema-reads}
use Rattle.cedar.proofs.Laws.Verdicts.{Holds, yes→Holds}
use Rattle.cedar.proofs.Laws.AttributeSound.{InPairs, here, there, CarriesEntry, CarriesPairs}
use Rattle.cedar.proofs.Laws.Calls.{conforms-case}

-- A value that shows pairs is their record.
pub pairs-some : (x : Value) (ps : Pairs) → pairs x ≡ some ps → x ≡ record_of ps
pairs-some (boolean b) ps e = none-some e
pairs-some (number l) ps e = none-some e
pairs-some (text l) ps e = none-some e
pairs-some (uid k i) ps e = none-some e
pairs-some (set_of vs) ps e = none-some e
pairs-some (record_of qs) ps e = ap record_of (some-injective _ _ e)
pairs-some (call f vs) ps e = none-some e

-- A value of a name stands among the pairs.
pub pair_of-in : (ps : Pairs) (a : ℕ) (x : Value) → pair_of a ps ≡ some x → InPairs a x ps
pair_of-in empty a x e = none-some e
pair_of-in (pair n v ps) a x e = cond-case (eqb a n) e
    (λ t p. subst (λ (k : ℕ). InPairs a x (pair k v ps)) (eqb→eq a n t)
    (subst (λ (z : Value). InPairs a x (pair a z ps)) (sym (some-injective _ _ p)) here))
    (λ t p. there (pair_of-in ps a x p))

-- A name has a value just where it stands among the pairs.
pub pair_of-name : (ps : Pairs) (a : ℕ) → present (pair_of a ps) ≡ has_name a ps
pair_of-name empty a = refl
pair_of-name (pair n v ps) a = go (eqb a n) (pair_of-name ps a)
  where
    go : (b : Bool) → present (pair_of a ps) ≡ has_name a ps → present (cond b (some v) (pair_of a ps)) ≡ (b || has_name a ps)
    go true e = refl
    go false e = e

pair_of-shape : (ps : Pairs) (low a : ℕ) (x : Value) → OrderedPairs low ps → pair_of a ps ≡ some x → (depth_value x ≤ depth_pairs ps) × OrderedValue x ×
    (length (enc_value x) ≤ length (values_of ps))
unfolding depth_value OrderedValue enc_value
pair_of-shape empty low a x o e = none-some e
pair_of-shape (pair n v ps) low a x o e = cond-case (eqb a n) e
    (λ t p. subst (λ (z : Value). (depth_value z ≤ depth_pairs (pair n v ps)) × OrderedValue z × (length (enc_value z) ≤ length (values_of (pair n v ps))))
    (some-injective _ _ p)
    (le-max_left (depth_value v) (depth_pairs ps), o.1, omega (arith, length-append (enc_value v) (values_of ps))))
    (λ t p. let (d, q, l) = pair_of-shape ps (suc n) a x o.2 p in
    (le_trans d (le-max_right (depth_value v) (depth_pairs ps)), q, omega (arith, length-append (enc_value v) (values_of ps))))

-- A value of a record's name is within the limits where the record is.
pub pair_of-within : (lim : Limits) (ps : Pairs) (a : ℕ) (x : Value) → ValueWithin lim (record_of ps) → pair_of a ps ≡ some x → ValueWithin lim x
unfolding depth_value OrderedValue enc_value
pair_of-within lim ps a x w e =
    let (d, o, l) = pair_of-shape ps 0 a x w.0.1 e in
    let m = w.0.0 in
    let n = w.1 in
    ((omega arith, o), omega (arith, length-append (entries_of ps) (values_of ps)))

module _ (lim : Limits) (w : List ℕ) (ps : Pairs) (e : record_pairs lim w ≡ some ps) where
  -- The tree of a whole record value.
  pub record-tree : whole_value lim w ≡ some (record_of ps)
  record-tree = bind-some (whole_value lim w) _ e λ x ex p. ex ∙ ap (λ (z : Value). some z) (pairs-some x ps p)

  -- An attribute is there just where its name is.
  pub attribute_of-name : (a : ℕ) → present (attribute_of lim a w) ≡ has_name a ps
  attribute_of-name a = rw e (go (pair_of a ps) (pair_of-name ps a))
    where
      go : (o : Option Value) → present o ≡ has_name a ps → present (o >>= λ x. some (enc_value x)) ≡ has_name a ps
      go none q = q
      go (some x) q = q

  -- An attribute's bytes are those of a value that stands among the pairs, within the limits.
  pub attribute_of-some : {C : Type 0} (a : ℕ) (y : List ℕ) → Bytes w → attribute_of lim a w ≡ some y →
      ((x : Value) → InPairs a x ps → whole_value lim y ≡ some x → C) → C
  attribute_of-some a y h q k =
      bind-some (record_pairs lim w) _ q λ qs eq q₁.
      bind-some (pair_of a qs) _ q₁ λ x ex q₂.
      let same : qs ≡ ps = some-injective _ _ (sym eq ∙ e) in
      let px : pair_of a ps ≡ some x = subst (λ (z : Pairs). pair_of a z ≡ some x) same ex in
      let within = pair_of-within lim ps a x ((whole_value-reads lim).into w (record_of ps) h record-tree).1 px in
      k x (pair_of-in ps a x px) (ap (whole_value lim) (sym (some-injective _ _ q₂)) ∙ (whole_value-reads lim).back x within)

-- The body of an entity entry of a whole schema is whole.
pub entity-whole : (lim : Limits) (schema : List ℕ) (s : Schema) → Bytes schema → whole_schema lim schema ≡ some s → (k : ℕ) (e : Entity) →
    entity_of s k ≡ some e → TypeWithin lim (rec e.is_open e.attrs)
entity-whole lim schema s h es k e ee = (entity_in-good (TypeWithin lim) s.entities 0 k e ((whole_schema-reads lim).into schema s h es).1.0.entities ee).1

record-pairs : {C : Type 0} (c : Counts) (s : Schema) (o : Bool) (xs : Attrs) (y : Value) → Holds (conforms c s (rec o xs) y) →
    ((ps : Pairs) → pairs y ≡ some ps → C) → C
unfolding conforms
record-pairs c s o xs (boolean b) h k = absurd h
record-pairs c s o xs (number l) h k = absurd h
record-pairs c s o xs (text l) h k = absurd h
record-pairs c s o xs (uid i j) h k = absurd h
record-pairs c s o xs (set_of vs) h k = absurd h
record-pairs c s o xs (record_of qs) h k = k qs refl
record-pairs c s o xs (call f vs) h k = absurd h

-- A record's strings are those of its pairs.
record-textual : (ps : Pairs) → T (textual (record_of ps)) → T (textual_pairs ps)
unfolding textual
record-textual ps h = h

-- What a value of good text carries on bytes, it carries as a tree.
pub carried-case : {C : Type 0} (lim : Limits) (c : Counts) (schema v w : List ℕ) (s : Schema) (x : Value) → Bytes schema → whole_schema lim schema ≡ some s →
    whole_value lim v ≡ some x → T (textual x) → Carries lim c schema v w
    → ((ps : Pairs) → record_pairs lim w ≡ some ps → CarriesPairs c s x ps → C) → C
carried-case lim c schema v w s x h es ev good carried k = go w carried k
  where
    uid-carries : (i j : ℕ) (o : Option Entity) (ps : Pairs) → x ≡ uid i j → entity_of s i ≡ o → CarriesEntry c s o ps → CarriesPairs c s x ps
    uid-carries i j o ps p q r = subst (λ (z : Value). CarriesPairs c s z ps) (sym p) (subst (λ (z : Option Entity). CarriesEntry c s z ps) (sym q) r)

    go : {C : Type 0} (w : List ℕ) → Carries lim c schema v w → ((ps : Pairs) → record_pairs lim w ≡ some ps → CarriesPairs c s x ps → C) → C
    go w (itself r) k = present-some (record_pairs lim v) r λ ps e.
        let tree : record_of ps ≡ x = some-injective _ _ (sym (record-tree lim v ps e) ∙ ev) in
        k ps e (subst (λ (z : Value). CarriesPairs c s z ps) tree (refl, record-textual ps (subst (λ (z : Value). T (textual z)) (sym tree) good)))
    go w (of_entry s' i j e es' ev' ee cf) k =
        let q : s' ≡ s = some-injective _ _ (sym es' ∙ es) in
        let found : entity_of s i ≡ some e = subst (λ (z : Schema). entity_of z i ≡ some e) q ee in
        conforms-case lim c schema (enc_body (e.is_open, e.attrs)) w cf λ s'' b y es'' eb ey gy yes.
        let body : b ≡ rec e.is_open e.attrs = some-injective _ _
        (sym eb ∙ (whole_type-reads lim).back (rec e.is_open e.attrs) (entity-whole lim schema s h es i e found)) in
        let q'' : s'' ≡ s = some-injective _ _ (sym es'' ∙ es) in
        let held : Holds (conforms c s (rec e.is_open e.attrs) y) = yes→Holds (conforms c s (rec e.is_open e.attrs) y)
        (subst (λ (z : Schema). conforms c z (rec e.is_open e.attrs) y ≡ holds) q'' (subst (λ (z : Ty). conforms c s'' z y ≡ holds) body yes)) in
        record-pairs c s e.is_open e.attrs y held λ ps ep.
        k ps (bind-at pairs ey ∙ ep)
        (uid-carries i j (some e) ps (some-injective _ _ (sym ev ∙ ev'))
        found (
          subst (λ (z : Value). Holds (conforms c s (rec e.is_open e.attrs) z)) (pairs-some y ps ep) held,
          record-textual ps (subst (λ (z : Value). T (textual z)) (pairs-some y ps ep) (subst T (sym gy) tt)),
        ))
    go w (of_missing s' i j es' ev' ee r) k = present-some (record_pairs lim w) r λ ps e.
        k ps e
        (uid-carries i j none ps (some-injective _ _ (sym ev ∙ ev'))
        (subst (λ (z : Schema). entity_of z i ≡ none) (some-injective _ _ (sym es' ∙ es)) ee) tt)
