-- What lookup and may-have promise of the values of a type that is no action, under either rule on the count of arguments and for
-- any test of a step's bound.
use Rattle.std.specs.Prelude.{ℕ, List, [], ◌∷◌, Bool, true, ◌&&◌, ◌||◌, ◌≡◌, eqb}
use Rattle.std.proofs.Math.Bool.{false}
use Rattle.std.proofs.Common.{sym, ◌∙◌, subst, inl, inr, eqb→eq}
use Rattle.std.proofs.Math.Path.{ap}
use Rattle.std.proofs.Math.Option.{Option, none, some, some-injective}
use Rattle.std.proofs.Math.Dec.{T}
use Rattle.cedar.specs.Types.{permissive, Atom, never, true', false', bool, long, string, anyset, anyent, Ty, atom, set, rec, act, ent, ext, Attrs, nil}
use Rattle.cedar.specs.Types.{Entity, Schema, maybe, present, is, mem, find, as_act}
use Rattle.cedar.specs.Types.{Value, boolean, number, text, uid, set_of, record_of, call, Pairs, empty, pair}
use Rattle.cedar.specs.Laws.Shape.{Ordered, OrderedFrom}
use Rattle.cedar.specs.Result.{ok}
use Rattle.cedar.specs.Bound.{bound}
use Rattle.cedar.specs.Text.{textual, textual_pairs}
use Rattle.cedar.specs.Conformance.{Verdict, verdict, Counts, shorter, uid_type, each_pair, has_name, has_required, conforms, conforms_at}
use Rattle.cedar.specs.Attribute.{entity_of, attr_of, fold_attr, lookup_names, own_attr, lookup, may_have_type, may_have_names, may_have}
use Rattle.cedar.proofs.Laws.Tests.{T_and, T-or, or_inl, or_inr, not-T→false, maybe-case, none-some, none_of}
use Rattle.cedar.proofs.Laws.Result.{ok-inj}
use Rattle.cedar.proofs.Laws.Attributes.{find-ordered}
use Rattle.cedar.proofs.Laws.Lookup.{none-ok, stepped-case}
use Rattle.cedar.proofs.Laws.Names.{In}
use Rattle.cedar.proofs.Laws.Join.{join-ordered, bound-join}
use Rattle.cedar.proofs.Laws.Verdicts.{Holds, verdict→T, and_then→}
use Rattle.cedar.proofs.Laws.SubtypeSound.{required-found, conforms_at-find}
use Rattle.cedar.proofs.Laws.BoundSound.{at-found, bound-sound}

-- The pair of the name a and the value x stands in ps.
pub data InPairs (a : ℕ) (x : Value) : Pairs → Type 0 where
  here : {ps : Pairs} → InPairs a x (pair a x ps)
  there : {n : ℕ} {y : Value} {ps : Pairs} → InPairs a x ps → InPairs a x (pair n y ps)

-- Pairs of a uid whose type has this entity entry: those of a record of good text that conforms to its body.
abbrev pub CarriesEntry : Counts → Schema → Option Entity → Pairs → Type 0
CarriesEntry c s none ps = Unit {0}
CarriesEntry c s (some e) ps = Holds (conforms c s (rec e.is_open e.attrs) (record_of ps)) × T (textual_pairs ps)

-- The value v carries the pairs ps: a record of good text its own; a uid those of any record of its entity type, or any where there is no such type.
abbrev pub CarriesPairs : Counts → Schema → Value → Pairs → Type 0
CarriesPairs c s (boolean b) ps = ⊥
CarriesPairs c s (number l) ps = ⊥
CarriesPairs c s (text l) ps = ⊥
CarriesPairs c s (uid k i) ps = CarriesEntry c s (entity_of s k) ps
CarriesPairs c s (set_of vs) ps = ⊥
CarriesPairs c s (record_of qs) ps = (qs ≡ ps) × T (textual_pairs ps)
CarriesPairs c s (call f vs) ps = ⊥

each_pair-at : {a : ℕ} {x : Value} {ps : Pairs} (f : ℕ → Value → Verdict) → InPairs a x ps → Holds (each_pair f ps) → Holds (f a x)
each_pair-at {a} {x} f (here {ps = ps}) h = (and_then→ (f a x) (each_pair f ps) h).0
each_pair-at f (there {n = n} {y = y} {ps = ps} i) h = each_pair-at f i (and_then→ (f n y) (each_pair f ps) h).1

textual-at : {a : ℕ} {x : Value} {ps : Pairs} → InPairs a x ps → T (textual_pairs ps) → T (textual x)
unfolding textual textual_pairs
textual-at {x = x} (here {ps = ps}) h = (T_and (textual x) (textual_pairs ps) h).0
textual-at (there {y = y} {ps = ps} i) h = textual-at i (T_and (textual y) (textual_pairs ps) h).1

name-pair : {C : Type 0} (a : ℕ) (ps : Pairs) → T (has_name a ps) → ((x : Value) → InPairs a x ps → C) → C
name-pair a empty h k = absurd h
name-pair a (pair n y ps) h k = elim (T-or (eqb a n) (has_name a ps) h) [
  | inl e ↦ k y (subst (λ (i : ℕ). InPairs i y (pair n y ps)) (sym (eqb→eq a n e)) here)
  | inr i ↦ name-pair a ps i (λ x j. k x (there j))
]

-- An action is no type that is none.
not-action : {C : Type 0} (n : ℕ) (xs : Attrs) → as_act (act n xs) ≡ none → C
not-action n xs e = none-some (sym e)

-- Each entity entry's attributes are in order.
abbrev pub EntriesOrdered : Schema → Type 0
EntriesOrdered s = (n : ℕ) (e : Entity) → entity_of s n ≡ some e → OrderedFrom 0 e.attrs

module _ (rule : Counts) (schema : Schema) where
  -- What a lookup promises of pairs: the values of that name are of the type and of good text, and a required name is there.
  pub record Has (a : ℕ) (y : Bool × Ty) (ps : Pairs) : Type 0 where
    pub typed : (x : Value) → InPairs a x ps → Holds (conforms rule schema y.1 x)
    pub good : (x : Value) → InPairs a x ps → T (textual x)
    pub there-if : T y.0 → T (has_name a ps)

  record-has : (a : ℕ) (o : Bool) (xs : Attrs) (y : Bool × Ty) (ps : Pairs) → find a xs ≡ some y → Holds (conforms rule schema (rec o xs) (record_of ps)) →
      T (textual_pairs ps) → Has a y ps
  unfolding conforms
  record-has a o xs y ps e c g =
      let (c₁, c₂) = and_then→ (each_pair (λ n x. conforms_at rule schema o xs n x) ps) (verdict (has_required xs ps)) c in
      record {
        typed = λ x i. at-found rule schema xs o a x y e (each_pair-at (λ n z. conforms_at rule schema o xs n z) i c₁);
        good = λ x i. textual-at i g;
        there-if = λ r. required-found xs ps a y (verdict→T (has_required xs ps) c₂) e r;
      }

  -- One attribute lies under another: its values are the other's, and it is required where the other is.
  record Above (x y : Bool × Ty) : Type 0 where
    lifts : (v : Value) → Holds (conforms rule schema x.1 v) → Holds (conforms rule schema y.1 v)
    flags : T y.0 → T x.0

  above-trans : (x y z : Bool × Ty) → Above x y → Above y z → Above x z
  above-trans x y z f g = record { lifts = λ v c. g.lifts v (f.lifts v c); flags = λ r. f.flags (g.flags r) }

  above-refl : (x : Bool × Ty) → Above x x
  above-refl x = record { lifts = λ v c. c; flags = λ r. r }

  above-has : (a : ℕ) (x y : Bool × Ty) (ps : Pairs) → Above x y → Has a x ps → Has a y ps
  above-has a x y ps f h = record { typed = λ v i. f.lifts v (h.typed v i); good = h.good; there-if = λ r. h.there-if (f.flags r) }

  -- A step's bound lies above both attributes.
  step-above : {C : Type 0} (x y : Bool × Ty) (c : Ty) → Ordered x.1 → Ordered y.1 → bound permissive x.1 y.1 ≡ ok c
      → (Above x (x.0 && y.0, c) → Above y (x.0 && y.0, c) → Ordered c → C) → C
  step-above x y c ox oy p k = k
      (record { lifts = λ v h. bound-sound rule schema permissive x.1 y.1 c ox oy p v (inl h); flags = λ r. (T_and x.0 y.0 r).0 })
      (record { lifts = λ v h. bound-sound rule schema permissive x.1 y.1 c ox oy p v (inr h); flags = λ r. (T_and x.0 y.0 r).1 })
      (join-ordered (bound-join x.1 permissive y.1 c p) ox oy)

  attr_of-ordered : EntriesOrdered schema → (a n : ℕ) (x : Bool × Ty) → attr_of schema a n ≡ some x → Ordered x.1
  attr_of-ordered o a n x e = maybe-case (entity_of schema n) e (λ i p. none-some p) (λ d i p. find-ordered d.attrs a 0 x (o n d i) p)

  module _ (fits : Ty → Bool) where
    -- What the fold gives lies above the attribute of each type.
    fold_attr-above : {C : Type 0} → EntriesOrdered schema → (a : ℕ) (ns : List ℕ) (x y : Bool × Ty) → Ordered x.1 → fold_attr fits schema a x ns ≡ ok (some y)
        → (Above x y → ((k : ℕ) → In k ns → (z : Bool × Ty) × (attr_of schema a k ≡ some z) × Above z y) → C) → C
    fold_attr-above o a [] x y ox e k = k (subst (λ (z : Bool × Ty). Above x z) (some-injective _ _ (ok-inj e)) (above-refl x)) (λ j i. absurd i)
    fold_attr-above o a (n ∷ ns) x y ox e k =
        maybe-case (attr_of schema a n) e (λ i p. none-ok p) λ w ew p.
        stepped-case fits (λ c. fold_attr fits schema a (x.0 && w.0, c) ns) (bound permissive x.1 w.1) p λ c ec q.
        let z : Bool × Ty = (x.0 && w.0, c) in
        step-above x w c ox (attr_of-ordered o a n w ew) ec λ xz wz oz.
        fold_attr-above o a ns (x.0 && w.0, c) y oz q λ zy rest.
        k (above-trans x z y xz zy) (λ j i. elim (T-or (eqb j n) (mem j ns) i) [
          | inl h ↦ (w, ap (attr_of schema a) (eqb→eq j n h) ∙ ew, above-trans w z y wz zy)
          | inr h ↦ rest j h
        ])

    lookup_names-above : EntriesOrdered schema → (a : ℕ) (ns : List ℕ) (y : Bool × Ty) → lookup_names fits schema a ns ≡ ok (some y)
        → (k : ℕ) → In k ns → (z : Bool × Ty) × (attr_of schema a k ≡ some z) × Above z y
    lookup_names-above o a [] y e k i = absurd i
    lookup_names-above o a (n ∷ ns) y e k i =
        maybe-case (attr_of schema a n) e (λ j p. none-ok p) λ x ex p.
        fold_attr-above o a ns x y (attr_of-ordered o a n x ex) p λ xy rest.
        elim (T-or (eqb k n) (mem k ns) i) [ inl h ↦ (x, ap (attr_of schema a) (eqb→eq k n h) ∙ ex, xy) | inr h ↦ rest k h ]

  -- The pairs of a uid whose type has the attribute.
  uid-has : (a k : ℕ) (z : Bool × Ty) (ps : Pairs) → attr_of schema a k ≡ some z → CarriesEntry rule schema (entity_of schema k) ps → Has a z ps
  uid-has a k z ps e c = go (entity_of schema k) e c
    where
      go : (d : Option Entity) → maybe none (λ i. find a i.attrs) d ≡ some z → CarriesEntry rule schema d ps → Has a z ps
      go none p q = none-some p
      go (some d) p q = record-has a d.is_open d.attrs z ps p q.0 q.1

  -- The pairs of a record's value.
  record-lookup : (a : ℕ) (o : Bool) (xs : Attrs) (y : Bool × Ty) (v : Value) (ps : Pairs) → find a xs ≡ some y → Holds (conforms rule schema (rec o xs) v) →
      CarriesPairs rule schema v ps → Has a y ps
  unfolding conforms
  record-lookup a p xs y (boolean b) ps e c g = absurd g
  record-lookup a p xs y (number l) ps e c g = absurd g
  record-lookup a p xs y (text l) ps e c g = absurd g
  record-lookup a p xs y (uid k j) ps e c g = absurd c
  record-lookup a p xs y (set_of vs) ps e c g = absurd g
  record-lookup a p xs y (record_of qs) ps e c g = record-has a p xs y ps e
      (subst (λ (z : Pairs). Holds (conforms rule schema (rec p xs) (record_of z))) g.0 c) g.1
  record-lookup a p xs y (call f vs) ps e c g = absurd g

  -- Lookup's type holds of the pairs that a value of the type carries, and what it calls required is there.
  pub lookup-sound : (fits : Ty → Bool) → EntriesOrdered schema → (a : ℕ) (t : Ty) (y : Bool × Ty) (v : Value) (ps : Pairs) → as_act t ≡ none →
      lookup fits schema a t ≡ ok (some y) → Holds (conforms rule schema t v) → CarriesPairs rule schema v ps → Has a y ps
  unfolding conforms
  lookup-sound fits o a (atom k) y v ps i e c g = none-ok e
  lookup-sound fits o a (set t) y v ps i e c g = none-ok e
  lookup-sound fits o a (rec p xs) y v ps i e c g = record-lookup a p xs y v ps (ok-inj e) c g
  lookup-sound fits o a (act n xs) y v ps i e c g = not-action n xs i
  lookup-sound fits o a (ent ns) y v ps i e c g = uid-lookup v (verdict→T (maybe false (λ k. mem k ns) (uid_type v)) c) g
    where
      uid-lookup : (v : Value) → T (maybe false (λ k. mem k ns) (uid_type v)) → CarriesPairs rule schema v ps → Has a y ps
      uid-lookup (boolean b) c g = absurd g
      uid-lookup (number l) c g = absurd g
      uid-lookup (text l) c g = absurd g
      uid-lookup (uid k j) c g = let (z, p, q) = lookup_names-above fits o a ns y e k c in above-has a z y ps q (uid-has a k z ps p g)
      uid-lookup (set_of vs) c g = absurd g
      uid-lookup (record_of qs) c g = absurd c
      uid-lookup (call f vs) c g = absurd g
  lookup-sound fits o a (ext n) y v ps i e c g = none-ok e

  -- So does what a record's own attribute says.
  pub own_attr-sound : (a : ℕ) (t : Ty) (y : Bool × Ty) (v : Value) (ps : Pairs) → as_act t ≡ none → own_attr a t ≡ some y → Holds (conforms rule schema t v) →
      CarriesPairs rule schema v ps → Has a y ps
  own_attr-sound a (atom k) y v ps i e c g = none-some e
  own_attr-sound a (set t) y v ps i e c g = none-some e
  own_attr-sound a (rec p xs) y v ps i e c g = record-lookup a p xs y v ps e c g
  own_attr-sound a (act n xs) y v ps i e c g = not-action n xs i
  own_attr-sound a (ent ns) y v ps i e c g = none-some e
  own_attr-sound a (ext n) y v ps i e c g = none-some e

  -- A name that a closed record lacks is not there.
  closed-lacks : (a : ℕ) (o : Bool) (xs : Attrs) (ps : Pairs) → (T (o || present (find a xs)) → ⊥) → Holds (conforms rule schema (rec o xs) (record_of ps)) →
      T (has_name a ps) → ⊥
  unfolding conforms
  closed-lacks a o xs ps n c h =
      let (c₁, c₂) = and_then→ (each_pair (λ k x. conforms_at rule schema o xs k x) ps) (verdict (has_required xs ps)) c in
      name-pair a ps h λ x i.
      let z : find a xs ≡ none = none_of (find a xs) (not-T→false (present (find a xs)) (λ t. n (or_inr o (present (find a xs)) t))) in
      n (or_inl o (present (find a xs))
      (verdict→T o
      (subst Holds (conforms_at-find rule schema xs o a x ∙ ap (maybe (verdict o) (λ y. conforms rule schema y.1 x)) z)
      (each_pair-at (λ k w. conforms_at rule schema o xs k w) i c₁))))

  type-lacks : (a k : ℕ) (ps : Pairs) (d : Option Entity) → (T (maybe true (λ e. e.is_open || present (find a e.attrs)) d) → ⊥) →
      CarriesEntry rule schema d ps → T (has_name a ps) → ⊥
  type-lacks a k ps none n c h = n tt
  type-lacks a k ps (some e) n c h = closed-lacks a e.is_open e.attrs ps n c.0 h

  may_have-names : (a k : ℕ) (ns : List ℕ) → In k ns → T (may_have_type schema a k) → T (may_have_names schema a ns)
  may_have-names a k [] i h = i
  may_have-names a k (n ∷ ns) i h = elim (T-or (eqb k n) (mem k ns) i) [
    | inl e ↦ or_inl (may_have_type schema a n) (may_have_names schema a ns) (subst (λ (j : ℕ). T (may_have_type schema a j)) (eqb→eq k n e) h)
    | inr j ↦ or_inr (may_have_type schema a n) (may_have_names schema a ns) (may_have-names a k ns j h)
  ]

  -- An atom whose uids may not have an attribute has none, and no record is an atom's.
  atom-lacks : (k : Atom) (v : Value) (ps : Pairs) (a : ℕ) → (T (is k never || is k anyent) → ⊥) → Holds (conforms rule schema (atom k) v) →
      CarriesPairs rule schema v ps → ⊥
  unfolding conforms
  atom-lacks k (boolean b) ps a n c g = g
  atom-lacks k (number l) ps a n c g = g
  atom-lacks k (text l) ps a n c g = g
  atom-lacks never (uid j i) ps a n c g = c
  atom-lacks true' (uid j i) ps a n c g = c
  atom-lacks false' (uid j i) ps a n c g = c
  atom-lacks bool (uid j i) ps a n c g = c
  atom-lacks long (uid j i) ps a n c g = c
  atom-lacks string (uid j i) ps a n c g = c
  atom-lacks anyset (uid j i) ps a n c g = c
  atom-lacks anyent (uid j i) ps a n c g = n tt
  atom-lacks k (set_of vs) ps a n c g = g
  atom-lacks never (record_of qs) ps a n c g = c
  atom-lacks true' (record_of qs) ps a n c g = c
  atom-lacks false' (record_of qs) ps a n c g = c
  atom-lacks bool (record_of qs) ps a n c g = c
  atom-lacks long (record_of qs) ps a n c g = c
  atom-lacks string (record_of qs) ps a n c g = c
  atom-lacks anyset (record_of qs) ps a n c g = c
  atom-lacks anyent (record_of qs) ps a n c g = c
  atom-lacks k (call f vs) ps a n c g = g

  -- Where may-have says no, no value of the type carries the name.
  pub may_have-sound : (a : ℕ) (t : Ty) (v : Value) (ps : Pairs) → as_act t ≡ none → (T (may_have schema a t) → ⊥) → Holds (conforms rule schema t v) →
      CarriesPairs rule schema v ps → T (has_name a ps) → ⊥
  unfolding conforms
  may_have-sound a (atom k) v ps i n c g h = atom-lacks k v ps a n c g
  may_have-sound a (set t) v ps i n c g h = set-lacks v c g
    where
      set-lacks : (v : Value) → Holds (conforms rule schema (set t) v) → CarriesPairs rule schema v ps → ⊥
      set-lacks (boolean b) c g = g
      set-lacks (number l) c g = g
      set-lacks (text l) c g = g
      set-lacks (uid j i) c g = c
      set-lacks (set_of vs) c g = g
      set-lacks (record_of qs) c g = c
      set-lacks (call f vs) c g = g
  may_have-sound a (rec o xs) v ps i n c g h = record-lacks v c g
    where
      record-lacks : (v : Value) → Holds (conforms rule schema (rec o xs) v) → CarriesPairs rule schema v ps → ⊥
      record-lacks (boolean b) c g = g
      record-lacks (number l) c g = g
      record-lacks (text l) c g = g
      record-lacks (uid j i) c g = c
      record-lacks (set_of vs) c g = g
      record-lacks (record_of qs) c g = closed-lacks a o xs ps n (subst (λ (z : Pairs). Holds (conforms rule schema (rec o xs) (record_of z))) g.0 c) h
      record-lacks (call f vs) c g = g
  may_have-sound a (act k xs) v ps i n c g h = not-action k xs i
  may_have-sound a (ent ns) v ps i n c g h = uid-lacks v (verdict→T (maybe false (λ k. mem k ns) (uid_type v)) c) g
    where
      uid-lacks : (v : Value) → T (maybe false (λ k. mem k ns) (uid_type v)) → CarriesPairs rule schema v ps → ⊥
      uid-lacks (boolean b) c g = g
      uid-lacks (number l) c g = g
      uid-lacks (text l) c g = g
      uid-lacks (uid k j) c g = type-lacks a k ps (entity_of schema k) (λ t. n (may_have-names a k ns c t)) g h
      uid-lacks (set_of vs) c g = g
      uid-lacks (record_of qs) c g = c
      uid-lacks (call f vs) c g = g
  may_have-sound a (ext k) v ps i n c g h = ext-lacks v c g
    where
      ext-lacks : (v : Value) → Holds (conforms rule schema (ext k) v) → CarriesPairs rule schema v ps → ⊥
      ext-lacks (boolean b) c g = g
      ext-lacks (number l) c g = g
      ext-lacks (text l) c g = g
      ext-lacks (uid j i) c g = c
      ext-lacks (set_of vs) c g = g
      ext-lacks (record_of qs) c g = c
      ext-lacks (call f vs) c g = g

-- An action's uid carries any pairs, since no entity entry has an odd name: of kind 11 neither promise holds. Type 0b 01 00 00 00
-- has may-have 0 answered no, and the uid 04 01 00 00 00 conforms and carries (0: false).
pub action-refutes : ((s : Schema) (a : ℕ) (t : Ty) (v : Value) (ps : Pairs) → (T (may_have s a t) → ⊥) → Holds (conforms shorter s t v) →
    CarriesPairs shorter s v ps → T (has_name a ps) → ⊥) → ⊥
unfolding conforms
action-refutes f = f (record { entities = []; actions = []; functions = [] }) 0 (act 1 nil) (uid 1 0) (pair 0 (boolean false) empty) (λ z. z) tt tt tt
