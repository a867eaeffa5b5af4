-- What `conforms` says of each kind of type. Assumes nothing.
use Rattle.std.specs.Prelude.{◌≡◌, List, Bool, true, false, not, ◌&&◌, ℕ, ◌-◌, eqb, length}
use Rattle.std.proofs.Math.Path.{refl}
use Rattle.std.proofs.Common.{ap, ap₂, sym, ◌∙◌, arith, eqb-true}
use Rattle.std.proofs.Math.Option.{Option}
use Rattle.std.proofs.lemmas.Bool.{eqb-false, not-true, not-false}
use Rattle.cedar.specs.Types.{Atom, Ty, atom, set, rec, act, ent, ext, Attrs, Value, Values, Pairs, Schema, maybe, mem, is_action}
use Rattle.cedar.specs.TypeForm.{rec_kind}
use Rattle.cedar.specs.ValueForm.{value_kind}
use Rattle.cedar.specs.Conformance.{verdict, fails, and_then, Counts, of_atom, members, pairs, uid_type, as_call, each_value, each_pair, has_required, is_extension}
use Rattle.cedar.specs.Conformance.{conforms, conforms_at}
use Rattle.forms.specs.Parts.{rest, rd, kind}
use Rattle.forms.specs.TypeBytes.{names_by, whole_as, whole, dec}
use Rattle.forms.specs.Laws.Types.{whole_by}
use Rattle.forms.specs.Laws.Views.{Seen, seen-set, seen-record, seen-entity, seen-action, seen-extension, seen-atom, see, not-empty, is_set, is-record}
use Rattle.forms.specs.Laws.Views.{is-entity, is-action, is-extension, IsAtom, is-atom}
use Rattle.forms.specs.Names.{names_in}
use Rattle.forms.specs.Laws.NamesIn.{names-of-entity}
use Rattle.conformance.specs.declared.verdicts.Verdict.TheVariants.{Holds, Fails}
use Rattle.conformance.specs.Verdicts.{verdict_of}
use Rattle.conformance.specs.Kinds.{takes}
use Rattle.forms.specs.ValueBytes.{whole_v, dec_v, dec_v_as}
use Rattle.conformance.specs.Walks.{is_open, attributes_of, members_of, pairs_of, arguments_of}
use Rattle.forms.specs.Laws.Values.{value-level, value_as, value-kind, dec-value}
use Rattle.conformance.specs.Laws.Values.{no-members, no_pairs, no-uid, no_call}
use Rattle.conformance.specs.Laws.Kinds.{atom-takes}

module _ (rule : Counts) (s : Schema) (v : Value) where
  of-set : (t : Ty) → conforms rule s (set t) v ≡ maybe fails (each_value (λ x. conforms rule s t x)) (members v)
  unfolding conforms
  of-set t = refl

  of-record : (o : Bool) (xs : Attrs) →
      conforms rule s (rec o xs) v ≡ maybe fails (λ ps. and_then (each_pair (λ n x. conforms_at rule s o xs n x) ps) (verdict (has_required xs ps))) (pairs v)
  unfolding conforms
  of-record o xs = refl

  of-action : (n : ℕ) (xs : Attrs) → conforms rule s (act n xs) v ≡ verdict (maybe false (λ k. is_action k && eqb k n) (uid_type v))
  unfolding conforms
  of-action n xs = refl

  of-entity : (ns : List ℕ) → conforms rule s (ent ns) v ≡ verdict (maybe false (λ k. mem k ns) (uid_type v))
  unfolding conforms
  of-entity ns = refl

  of-extension : (e : ℕ) → conforms rule s (ext e) v ≡ maybe fails (is_extension rule s e) (as_call v)
  unfolding conforms
  of-extension e = refl

  of-atom : (a : Atom) → conforms rule s (atom a) v ≡ verdict (of_atom a v)
  unfolding conforms
  of-atom a = refl

-- The value's kind, where the type takes it.
pub taken-kind : (t v : List ℕ) (x : Bool) → x ≡ takes (kind t) (kind v) → not x ≡ false → (k j : ℕ) → kind t ≡ k → takes k (kind v) ≡ eqb (kind v) j →
    kind v ≡ j
taken-kind t v x y p k j e q = eqb-true (kind v) j (sym q ∙ ap (λ (i : ℕ). takes i (kind v)) (sym e) ∙ sym y ∙ not-false x p)

module _ (l : ℕ) (t v : List ℕ) (h : whole l t ≡ true) (g : whole_v l v ≡ true) where
  pub record-parts : kind t ≡ 8 → whole_as (whole (l - 1)) rec_kind t ≡ true
  record-parts e = sym (whole_by l t (λ z. omega (arith, value-level l v g)) (λ z. omega (arith, not-empty l t h)) 8 e) ∙ h

  pub uid-length : kind v ≡ 4 → length v ≡ 5
  uid-length p = eqb-true (length v) 5 (value_as l v g 4 p)

module _ (rule : Counts) (s : Schema) (l : ℕ) (t v : List ℕ) (h : whole l t ≡ true) (g : whole_v l v ≡ true) where
  -- The value by its first byte, the type as it is.
  by : (j : ℕ) → kind v ≡ j → {a : Ty} → dec l t ≡ a → conforms rule s (dec l t) (dec_v l v) ≡ conforms rule s a (dec_v_as (dec_v (l - 1)) (value_kind j) v)
  by j e q = ap₂ (λ (x : Ty) (y : Value). conforms rule s x y) q (dec-value l v (value-level l v g) j e)

  set-not : kind t ≡ 7 → (kind v ≡ 5 → ⊥) → Fails ≡ verdict_of (conforms rule s (dec l t) (dec_v l v))
  set-not e p =
      ap verdict_of (sym (by (kind v) refl (is_set l t h e).is ∙ of-set rule s _ _
      ∙
      ap (λ (o : Option Values). maybe fails (each_value (λ x. conforms rule s (dec (l - 1) (rest 1 t)) x)) o)
      (no-members (dec_v (l - 1)) v (value-kind l v g) p)))

  pub set-members : kind t ≡ 7 → kind v ≡ 5 →
      verdict_of (each_value (λ x. conforms rule s (dec (l - 1) (rest 1 t)) x) (members_of (l - 1) v)) ≡ verdict_of (conforms rule s (dec l t) (dec_v l v))
  set-members e p = ap verdict_of (sym (by 5 p (is_set l t h e).is ∙ of-set rule s _ _))

  record-not : kind t ≡ 8 → (kind v ≡ 6 → ⊥) → Fails ≡ verdict_of (conforms rule s (dec l t) (dec_v l v))
  record-not e p =
      ap verdict_of (sym (by (kind v) refl (is-record l t h e).is ∙ of-record rule s _ _ _
      ∙
      ap (λ (o : Option Pairs). maybe fails
      (λ ps. and_then (each_pair (λ n x. conforms_at rule s (is_open t) (attributes_of (l - 1) t) n x) ps)
      (verdict (has_required (attributes_of (l - 1) t) ps))) o)
      (no_pairs (dec_v (l - 1)) v (value-kind l v g) p)))

  pub record-pairs : kind t ≡ 8 → kind v ≡ 6 →
      verdict_of (and_then (each_pair (λ n x. conforms_at rule s (is_open t) (attributes_of (l - 1) t) n x) (pairs_of (l - 1) v))
      (verdict (has_required (attributes_of (l - 1) t) (pairs_of (l - 1) v))))
      ≡ verdict_of (conforms rule s (dec l t) (dec_v l v))
  record-pairs e p = ap verdict_of (sym (by 6 p (is-record l t h e).is ∙ of-record rule s _ _ _))

  entity-not : kind t ≡ 10 → (kind v ≡ 4 → ⊥) → Fails ≡ verdict_of (conforms rule s (dec l t) (dec_v l v))
  entity-not e p =
      ap verdict_of (sym (by (kind v) refl (is-entity l t h e).is ∙ of-entity rule s _ _
      ∙ ap (λ (o : Option ℕ). verdict (maybe false (λ k. mem k (names_by 2 (rd t 1) (rest 3 t))) o)) (no-uid (dec_v (l - 1)) v (value-kind l v g) p)))

  pub entity-names : kind t ≡ 10 → kind v ≡ 4 → (k : ℕ) → k ≡ rd v 1 →
      verdict_of (verdict (mem k (names_in (rest 3 t)))) ≡ verdict_of (conforms rule s (dec l t) (dec_v l v))
  entity-names e p k u =
      ap (λ (j : ℕ). verdict_of (verdict (mem j (names_in (rest 3 t))))) u ∙ ap verdict_of (sym (by 4 p (names-of-entity l t h e) ∙ of-entity rule s _ _))

  action-not : kind t ≡ 11 → (kind v ≡ 4 → ⊥) → Fails ≡ verdict_of (conforms rule s (dec l t) (dec_v l v))
  action-not e p =
      ap verdict_of (sym (by (kind v) refl (is-action l t h e).is ∙ of-action rule s _ _ _
      ∙ ap (λ (o : Option ℕ). verdict (maybe false (λ k. is_action k && eqb k (rd t 1)) o)) (no-uid (dec_v (l - 1)) v (value-kind l v g) p)))

  pub action-name : kind t ≡ 11 → kind v ≡ 4 → (k n : ℕ) → k ≡ rd v 1 → n ≡ rd t 1 →
      verdict_of (verdict (is_action k && eqb k n)) ≡ verdict_of (conforms rule s (dec l t) (dec_v l v))
  action-name e p k n q u =
      ap₂ (λ (i j : ℕ). verdict_of (verdict (is_action i && eqb i j))) q u ∙ ap verdict_of (sym (by 4 p (is-action l t h e).is ∙ of-action rule s _ _ _))

  extension-not : kind t ≡ 12 → (kind v ≡ 7 → ⊥) → Fails ≡ verdict_of (conforms rule s (dec l t) (dec_v l v))
  extension-not e p =
      ap verdict_of (sym (by (kind v) refl (is-extension l t h e).is ∙ of-extension rule s _ _
      ∙ ap (λ (o : Option (ℕ × Values)). maybe fails (is_extension rule s (rd t 1)) o) (no_call (dec_v (l - 1)) v (value-kind l v g) p)))

  pub extension-call : kind t ≡ 12 → kind v ≡ 7 → (n : ℕ) → n ≡ rd t 1 →
      verdict_of (is_extension rule s n (rd v 1, arguments_of (l - 1) v)) ≡ verdict_of (conforms rule s (dec l t) (dec_v l v))
  extension-call e p n q =
      ap (λ (i : ℕ). verdict_of (is_extension rule s i (rd v 1, arguments_of (l - 1) v))) q ∙
      ap verdict_of (sym (by 7 p (is-extension l t h e).is ∙ of-extension rule s _ _))

  -- A type without parts.
  atom-takes-all : (a : IsAtom l t) → takes (kind t) (kind v) ≡ of_atom a.kind-of (dec_v_as (dec_v (l - 1)) (value_kind (kind v)) v)
  atom-takes-all a = let z = a.kind-is in rw z (sym (atom-takes (dec_v (l - 1)) v a.kind-of (kind v) (value-kind l v g)))

  atom-said : (a : IsAtom l t) → verdict_of (verdict (takes (kind t) (kind v))) ≡ verdict_of (conforms rule s (dec l t) (dec_v l v))
  atom-said a = ap (λ (b : Bool). verdict_of (verdict b)) (atom-takes-all a) ∙ ap verdict_of (sym (by (kind v) refl a.is ∙ of-atom rule s _ _))

  -- What the test of the two kinds says.
  module _ (x : Bool) (y : x ≡ takes (kind t) (kind v)) where
    pub kind-not : not x ≡ true → Fails ≡ verdict_of (conforms rule s (dec l t) (dec_v l v))
    kind-not p = go (see l t h)
      where
        no : takes (kind t) (kind v) ≡ false
        no = sym y ∙ not-true x p

        other : (k j : ℕ) → kind t ≡ k → takes k (kind v) ≡ eqb (kind v) j → kind v ≡ j → ⊥
        other k j e q = eqb-false (kind v) j (sym q ∙ ap (λ (i : ℕ). takes i (kind v)) (sym e) ∙ no)

        go : Seen l t → Fails ≡ verdict_of (conforms rule s (dec l t) (dec_v l v))
        go (seen-set e a) = set-not e (other 7 5 e refl)
        go (seen-record e a) = record-not e (other 8 6 e refl)
        go (seen-entity e a) = entity-not e (other 10 4 e refl)
        go (seen-action e a) = action-not e (other 11 4 e refl)
        go (seen-extension e a) = extension-not e (other 12 7 e refl)
        go (seen-atom a) = ap (λ (b : Bool). verdict_of (verdict b)) (sym no) ∙ atom-said a

    pub kind-atom-yes : not x ≡ false → (kind t ≡ 7 → ⊥) → (kind t ≡ 8 → ⊥) → (kind t ≡ 10 → ⊥) → (kind t ≡ 11 → ⊥) → (kind t ≡ 12 → ⊥) →
        Holds ≡ verdict_of (conforms rule s (dec l t) (dec_v l v))
    kind-atom-yes p p7 p8 p10 p11 p12 = ap (λ (b : Bool). verdict_of (verdict b)) (sym (sym y ∙ not-false x p)) ∙ atom-said (is-atom l t h p7 p8 p10 p11 p12)
