-- Demand 3, proved: a value that conforms to a listed type keeps what is said of it for every type made from that one.
use Rattle.std.specs.Prelude.{ℕ, zero, suc, ◌+◌, ◌<◌, List, [], ◌∷◌, ◌++◌, Bool, true, false, not, ◌≡◌, refl, ◌⊎◌, T, length}
use Rattle.std.proofs.Common.{arith, sym, ap, ◌∙◌, length-append}
use Rattle.std.proofs.Math.Path.{subst}
use Rattle.std.proofs.Math.Option.{Option, none, some, some-injective}
use Rattle.std.proofs.Math.Logic.{inl, inr}
use Rattle.cedar.specs.Types.{Ty, atom, set, rec, act, ent, ext, Value, Pairs, Entity, Schema, maybe, as_act}
use Rattle.cedar.specs.Laws.Shape.{Ordered}
use Rattle.cedar.specs.Bytes.{Bytes}
use Rattle.cedar.specs.TypeForm.{enc}
use Rattle.cedar.specs.Limits.{Limits, allowed}
use Rattle.cedar.specs.Whole.{whole_schema, whole_type, whole_value}
use Rattle.cedar.specs.Result.{ok}
use Rattle.cedar.specs.Text.{textual}
use Rattle.cedar.specs.Disjoint.{disjoint}
use Rattle.cedar.specs.Attribute.{entity_of, own_attr, lookup, may_have}
use Rattle.cedar.specs.Conformance.{holds, Counts, has_name, conforms}
use Rattle.cedar.specs.Conforms.{Conforms}
use Rattle.cedar.specs.Outcome.{Outcome, refused, said, nothing, measured, typed, attribute, named}
use Rattle.cedar.specs.Calls.{step_fits, disjoint_call, bound_call}
use Rattle.cedar.specs.Sequence.{Listed, Step, standing, EachBytes, given_from, written, copied, after_step, after_steps, attribute_of, is_action_form, LooksUp}
use Rattle.cedar.specs.Sequence.{Kept, RunKeeps}
use Rattle.cedar.proofs.Laws.Tests.{T→true, not-T→false, none-some, none_of}
use Rattle.cedar.proofs.Laws.Names.{In, In-cases, In-append}
use Rattle.cedar.proofs.Laws.Whole.{TypeWithin, whole_type-reads}
use Rattle.cedar.proofs.Laws.Verdicts.{Holds, Holds→yes, yes→Holds}
use Rattle.cedar.proofs.Laws.BoundWhole.{bound-whole}
use Rattle.cedar.proofs.Laws.Lengths.{record-length}
use Rattle.cedar.proofs.Laws.BoundSound.{bound-sound}
use Rattle.cedar.proofs.Laws.DisjointSound.{disjoint-sound}
use Rattle.cedar.proofs.Laws.Lookup.{record-part, lookup-WF}
use Rattle.cedar.proofs.Laws.AttributeSound.{CarriesPairs, Has, EntriesOrdered, lookup-sound, own_attr-sound, may_have-sound}
use Rattle.cedar.proofs.Laws.Calls.{bound_call-typed, disjoint_call-said, lookup_call-found, own_attribute_call-found, may_have_call-said, conforms-case}
use Rattle.cedar.proofs.Laws.Calls.{conforms-yes, conforms-allowed}
use Rattle.cedar.proofs.Laws.Limits.{allowed-bytes, bound-refused}
use Rattle.cedar.proofs.Laws.Carried.{attribute_of-name, attribute_of-some, entity-whole, carried-case}

not-action-form : (a : Ty) → T (not (is_action_form (enc a))) → as_act a ≡ none
unfolding enc
not-action-form (atom k) h = refl
not-action-form (set t) h = refl
not-action-form (rec o xs) h = refl
not-action-form (act n xs) h = absurd h
not-action-form (ent ns) h = refl
not-action-form (ext n) h = refl

-- One thing is read as one tree.
agree : {A : Type 0} {o : Option A} {x y : A} → o ≡ some x → o ≡ some y → x ≡ y
agree p q = some-injective _ _ (sym p ∙ q)

-- What conforms, by trees that are known already.
conforms-tree : (lim : Limits) (c : Counts) (schema t v : List ℕ) (s : Schema) (a : Ty) (x : Value) → whole_schema lim schema ≡ some s →
    whole_type lim t ≡ some a → whole_value lim v ≡ some x → Conforms lim c schema t v → Holds (conforms c s a x)
conforms-tree lim c schema t v s a x es ea ex h = conforms-case lim c schema t v h λ s' a' x' es' ea' ex' _ yes.
    yes→Holds (conforms c s a x)
    (subst (λ (z : Value). conforms c s a z ≡ holds) (agree ex' ex)
    (subst (λ (z : Ty). conforms c s z x' ≡ holds) (agree ea' ea) (subst (λ (z : Schema). conforms c z a' x' ≡ holds) (agree es' es) yes)))

module _ (lim : Limits) (c : Counts) (schema t v : List ℕ) (hs : Bytes schema) (ht : Bytes t) (s : Schema) (a : Ty) (x : Value)
    (fair : allowed lim ≡ true) (es : whole_schema lim schema ≡ some s) (ea : whole_type lim t ≡ some a) (ex : whole_value lim v ≡ some x)
    (good : textual x ≡ true) (held : Holds (conforms c s a x)) where
  apart_from : (u : List ℕ) (b : Ty) → whole_type lim u ≡ some b → T (disjoint a b) ⊎ T (disjoint b a) → Conforms lim c schema u v → ⊥
  apart_from u b eb (inl d) h = disjoint-sound c s a b x d held (conforms-tree lim c schema u v s b x es eb ex h)
  apart_from u b eb (inr d) h = disjoint-sound c s b a x d (conforms-tree lim c schema u v s b x es eb ex h) held

  apart-call : (u : List ℕ) → Conforms lim c schema u v → (disjoint_call lim t u ≡ said true) ⊎ (disjoint_call lim u t ≡ said true) → ⊥
  apart-call u h (inl e) =
      disjoint_call-said lim t u true e λ a' b ea' eb d. apart_from u b eb (inl (subst T (sym (ap (λ (z : Ty). disjoint z b) (agree ea ea') ∙ d)) tt)) h
  apart-call u h (inr e) = disjoint_call-said lim u t true e λ b a' eb ea' d. apart_from u b eb (inr (subst T (sym (ap (disjoint b) (agree ea ea') ∙ d)) tt)) h

  within : TypeWithin lim a
  within = ((whole_type-reads lim).into t a ht ea).1

  no-action : T (not (is_action_form t)) → as_act a ≡ none
  no-action n = not-action-form a (subst (λ (l : List ℕ). T (not (is_action_form l))) (sym ((whole_type-reads lim).into t a ht ea).0) n)

  entry_whole : (k : ℕ) (e : Entity) → entity_of s k ≡ some e → TypeWithin lim (rec e.is_open e.attrs)
  entry_whole = entity-whole lim schema s hs es

  entries-ordered : EntriesOrdered s
  unfolding Ordered
  entries-ordered k e ee = (entry_whole k e ee).0.1

  own-within : (n : ℕ) (u : Ty) (y : Bool × Ty) → as_act u ≡ none → TypeWithin lim u → own_attr n u ≡ some y → TypeWithin lim y.1
  own-within n (atom k) y i w e = none-some e
  own-within n (set u) y i w e = none-some e
  own-within n (rec o xs) y i w e = (record-part lim.levels o xs n y w.0 e, let g = record-length o xs n y e in let l = w.1 in omega arith)
  own-within n (act k xs) y i w e = none-some (sym i)
  own-within n (ent ns) y i w e = none-some e
  own-within n (ext k) y i w e = none-some e

  -- What either lookup found holds of the pairs, and its type is whole.
  looked : T (not (is_action_form t)) → (n : ℕ) (r : Bool) (y : Ty) (ps : Pairs) → CarriesPairs c s x ps → LooksUp lim schema n t r y →
      Has c s n (r, y) ps × (whole_type lim (enc y) ≡ some y)
  looked i n r y ps g (inl (room, work, e)) = lookup_call-found lim schema n t room work r y e λ s' a' es' ea' p l.
      let q : lookup (step_fits lim work) s n a ≡ ok (some (r, y)) = subst (λ (z : Ty). lookup (step_fits lim work) s n z ≡ ok (some (r, y))) (agree ea' ea)
      (subst (λ (z : Schema). lookup (step_fits lim work) z n a' ≡ ok (some (r, y))) (agree es' es) p) in (
        lookup-sound c s (step_fits lim work) entries-ordered n a (r, y) x ps (no-action i) q held g,
        (whole_type-reads lim).back y (lookup-WF lim.levels s (λ k e ee. (entry_whole k e ee).0) (step_fits lim work) n a (r, y) within.0 q, l),
      )
  looked i n r y ps g (inr e) = own_attribute_call-found lim schema n t r y e λ a' ea' p.
      let q : own_attr n a ≡ some (r, y) = subst (λ (z : Ty). own_attr n z ≡ some (r, y)) (agree ea' ea) p in
      (own_attr-sound c s n a (r, y) x ps (no-action i) q held g, (whole_type-reads lim).back y (own-within n a (r, y) (no-action i) within q))

  textual-here : T (textual x)
  textual-here = subst T (sym good) tt

  kept_here : Kept lim c schema t v
  kept_here = record {
    conforming = conforms-yes lim c schema t v s a x fair es ea ex good (Holds→yes (conforms c s a x) held);
    not_disjoint = λ u e h. apart-call u h e;
    required =
        λ i w g n y e. carried-case lim c schema v w s x hs es ex textual-here g λ ps ep cp. subst T (sym (attribute_of-name lim w ps ep n))
        ((looked i n true y ps cp e).0.there-if tt);
    typed_as = λ i w hw g n r y e z ez. carried-case lim c schema v w s x hs es ex textual-here g λ ps ep cp. attribute_of-some lim w ps ep n z hw ez λ q iq eq.
        let (f, k) = looked i n r y ps cp e in conforms-yes lim c schema (enc y) z s y q fair es k eq (T→true (textual q) (f.good q iq))
        (Holds→yes (conforms c s y q) (f.typed q iq));
    denied = λ i w g n e. carried-case lim c schema v w s x hs es ex textual-here g λ ps ep cp. may_have_call-said lim schema n t false e λ s' a' es' ea' d.
        none_of (attribute_of lim n w) (attribute_of-name lim w ps ep n ∙ not-T→false (has_name n ps) (λ k. may_have-sound c s n a x ps (no-action i)
        (λ m. subst T (ap (λ (z : Schema). may_have z n a) (agree es es') ∙ ap (may_have s' n) (agree ea ea') ∙ d) m) held cp k));
  }

-- A value that conforms to a type keeps what is said of it.
pub kept : (lim : Limits) (c : Counts) (schema t v : List ℕ) → Bytes schema → Bytes t → Conforms lim c schema t v → Kept lim c schema t v
kept lim c schema t v hs ht h =
    conforms-case lim c schema t v h λ s a x es ea ex g e.
    kept_here lim c schema t v hs ht s a x (conforms-allowed lim c schema t v h) es ea ex g (yes→Holds (conforms c s a x) e)

-- The bound of two listed types keeps the values of both, and is bytes.
module _ (lim : Limits) (small : lim.bytes < 65536) (c : Counts) (schema t₀ t₁ : List ℕ) (h₀ : Bytes t₀) (h₁ : Bytes t₁) (mode room : ℕ) (z : Ty)
    (e : bound_call lim mode schema t₀ t₁ room ≡ typed z) where
  bound-is-bytes : Bytes (enc z)
  bound-is-bytes = bound_call-typed lim mode schema t₀ t₁ room z e λ m a b ea eb p l. (bound-whole lim small t₀ t₁ h₀ h₁ m a b z ea eb p l).0

  bound-keeps : (v : List ℕ) → Conforms lim c schema t₀ v ⊎ Conforms lim c schema t₁ v → Conforms lim c schema (enc z) v
  bound-keeps v h = bound_call-typed lim mode schema t₀ t₁ room z e λ m a b ea eb p l.
      let oa = ((whole_type-reads lim).into t₀ a h₀ ea).1.0.1 in
      let ob = ((whole_type-reads lim).into t₁ b h₁ eb).1.0.1 in
      let ez = (bound-whole lim small t₀ t₁ h₀ h₁ m a b z ea eb p l).1 in
      go h (λ g. conforms-case lim c schema t₀ v g λ s a' x es ea' ex good y. conforms-yes lim c schema (enc z) v s z x
      (conforms-allowed lim c schema t₀ v g) es ez ex good (Holds→yes (conforms c s z x)
      (bound-sound c s m a b z oa ob p x (inl (yes→Holds (conforms c s a x) (subst (λ (i : Ty). conforms c s i x ≡ holds) (agree ea' ea) y))))))
      (λ g. conforms-case lim c schema t₁ v g λ s b' x es eb' ex good y. conforms-yes lim c schema (enc z) v s z x
      (conforms-allowed lim c schema t₁ v g) es ez ex good (Holds→yes (conforms c s z x)
      (bound-sound c s m a b z oa ob p x (inr (yes→Holds (conforms c s b x) (subst (λ (i : Ty). conforms c s i x ≡ holds) (agree eb' eb) y))))))
    where
      go : {A B D : Type 0} → A ⊎ B → (A → D) → (B → D) → D
      go (inl p) f g = f p
      go (inr p) f g = g p

-- What stands at a position of a list with one more at its end.
standing-below : (xs : List Listed) (i : ℕ) (x : Listed) → standing xs i ≡ some x → i < length xs
standing-below [] i x e = none-some e
standing-below (y ∷ xs) zero x e = omega arith
standing-below (y ∷ xs) (suc i) x e = let g = standing-below xs i x e in omega arith

standing-append : {C : Type 0} (xs : List Listed) (z : Listed) (i : ℕ) (x : Listed) → standing (xs ++ (z ∷ [])) i ≡ some x → (standing xs i ≡ some x → C) →
    (i ≡ length xs → z ≡ x → C) → C
standing-append [] z zero x e f g = g refl (some-injective _ _ e)
standing-append [] z (suc i) x e f g = none-some e
standing-append (y ∷ xs) z zero x e f g = f e
standing-append (y ∷ xs) z (suc i) x e f g = standing-append xs z i x e f (λ p q. g (ap suc p) q)

module _ (lim : Limits) (small : lim.bytes < 65536) (c : Counts) (schema : List ℕ) where
  -- Of a list: each type is bytes, is made from what stands before the end, and keeps the values of all that it was made from.
  record Good (xs : List Listed) : Type 0 where
    bytes : (j : ℕ) (y : Listed) → standing xs j ≡ some y → Bytes y.form
    made : (j : ℕ) (y : Listed) → standing xs j ≡ some y → (i : ℕ) → In i y.made_from → i < length xs
    keeps : (j : ℕ) (y : Listed) → standing xs j ≡ some y → (i : ℕ) (x : Listed) → In i y.made_from → standing xs i ≡ some x → (v : List ℕ) →
        Conforms lim c schema x.form v → Conforms lim c schema y.form v

  given-at : (ts : List (List ℕ)) (k j : ℕ) (y : Listed) → EachBytes ts → standing (given_from k ts) j ≡ some y → Bytes y.form × (y.made_from ≡ (k + j) ∷ [])
  given-at [] k j y h e = none-some e
  given-at (t ∷ ts) k zero y h e =
      subst (λ (z : Listed). Bytes z.form × (z.made_from ≡ (k + 0) ∷ [])) (some-injective _ _ e) (h.0, ap {B = List ℕ} (λ i. i ∷ []) (omega arith))
  given-at (t ∷ ts) k (suc j) y h e = let (p, q) = given-at ts (suc k) j y h.1 e in (p, q ∙ ap {B = List ℕ} (λ i. i ∷ []) (omega arith))

  given-self : (ts : List (List ℕ)) (j : ℕ) (y : Listed) → EachBytes ts → standing (given_from 0 ts) j ≡ some y → (i : ℕ) → In i y.made_from → i ≡ j
  given-self ts j y h e i m = elim (In-cases i (0 + j) [] (subst (In i) (given-at ts 0 j y h e).1 m)) [ inl p ↦ omega arith | inr p ↦ absurd p ]

  given-good : (ts : List (List ℕ)) → EachBytes ts → Good (given_from 0 ts)
  given-good ts h = record {
    bytes = λ j y e. (given-at ts 0 j y h e).0;
    made = λ j y e i m. let p = given-self ts j y h e i m in let g = standing-below (given_from 0 ts) j y e in omega arith;
    keeps = λ j y e i x m ex v g. let p = given-self ts j y h e i m in
        subst (λ (z : Listed). Conforms lim c schema z.form v) (agree ex (ap (standing (given_from 0 ts)) p ∙ e)) g;
  }

  -- A list with a bound of two of its types at its end.
  module _ (xs : List Listed) (good : Good xs) (j k : ℕ) (x y : Listed) (ej : standing xs j ≡ some x) (ek : standing xs k ≡ some y) (mode room : ℕ) (z : Ty)
      (e : bound_call lim mode schema x.form y.form room ≡ typed z) where
    new : Listed
    new = record { form = enc z; made_from = length xs ∷ (x.made_from ++ y.made_from) }

    -- What the new one is made from: itself, or what one of its two was made from.
    new-from : {C : Type 0} (i : ℕ) → In i new.made_from → (i ≡ length xs → C) → (In i x.made_from → C) → (In i y.made_from → C) → C
    unfolding new
    new-from i m f g h = elim (In-cases i (length xs) (x.made_from ++ y.made_from) m) [
      | inl p ↦ f p
      | inr p ↦ elim (In-append i x.made_from y.made_from p) [ inl q ↦ g q | inr q ↦ h q ]
    ]

    longer : length (xs ++ (new ∷ [])) ≡ suc (length xs)
    longer = length-append xs (new ∷ []) ∙ omega arith

    old-at : (i : ℕ) (w : Listed) → i < length xs → standing (xs ++ (new ∷ [])) i ≡ some w → standing xs i ≡ some w
    old-at i w l p = standing-append xs new i w p (λ q. q) (λ q r. absurd (omega arith))

    new-good : Good (xs ++ (new ∷ []))
    unfolding new
    new-good = record {
      bytes = λ i w p. standing-append xs new i w p (λ q. good.bytes i w q)
          (λ q r. subst (λ (u : Listed). Bytes u.form)
          r (bound-is-bytes lim small c schema x.form y.form (good.bytes j x ej) (good.bytes k y ek) mode room z e));
      made = λ i w p n m. standing-append xs new i w p
          (λ q. let g = good.made i w q n m in let l = longer in omega arith)
          (λ q r. let l = longer in new-from n (subst (λ (u : Listed). In n u.made_from) (sym r) m) (λ f. omega arith)
          (λ f. let g = good.made j x ej n f in omega arith) (λ f. let g = good.made k y ek n f in omega arith));
      keeps = λ i w p n u m pn v g. standing-append xs new i w p
          (λ q. good.keeps i w q n u m (old-at n u (good.made i w q n m) pn) v g)
          (λ q r. subst (λ (d : Listed). Conforms lim c schema d.form v) r
          (new-from n (subst (λ (d : Listed). In n d.made_from) (sym r) m)
          (λ f. standing-append xs new n u pn (λ d. absurd (let b = standing-below xs n u d in omega arith))
          (λ a b. subst (λ (d : Listed). Conforms lim c schema d.form v) (sym b) g))
          (λ f. bound-keeps lim small c schema x.form y.form (good.bytes j x ej) (good.bytes k y ek) mode room z e v
          (inl (good.keeps j x ej n u f (old-at n u (good.made j x ej n f) pn) v g)))
          (λ f. bound-keeps lim small c schema x.form y.form (good.bytes j x ej) (good.bytes k y ek) mode room z e v
          (inr (good.keeps k y ek n u f (old-at n u (good.made k y ek n f) pn) v g)))));
    }

  copied-good : (xs : List Listed) → Good xs → (j k : ℕ) (x y : Listed) → standing xs j ≡ some x → standing xs k ≡ some y → (mode room : ℕ) (o : Outcome) →
      bound_call lim mode schema x.form y.form room ≡ o → Good (copied xs x y (written o))
  unfolding new
  copied-good xs good j k x y ej ek mode room (refused n) e = good
  copied-good xs good j k x y ej ek mode room (said b) e = good
  copied-good xs good j k x y ej ek mode room nothing e = good
  copied-good xs good j k x y ej ek mode room (measured n l) e = good
  copied-good xs good j k x y ej ek mode room (typed z) e = new-good xs good j k x y ej ek mode room z e
  copied-good xs good j k x y ej ek mode room (attribute r z) e = good
  copied-good xs good j k x y ej ek mode room (named ns) e = good

  step-good : (xs : List Listed) → Good xs → (s : Step) → Good (after_step lim schema xs s)
  step-good xs good s = left (standing xs s.left) refl
    where
      right : (x : Listed) (o : Option Listed) → standing xs s.left ≡ some x → standing xs s.right ≡ o →
          Good (maybe xs (λ y. copied xs x y (written (bound_call lim s.mode schema x.form y.form s.room))) o)
      right x none p q = good
      right x (some y) p q =
          copied-good xs good s.left s.right x y p q s.mode s.room (bound_call lim s.mode schema x.form y.form s.room) refl

      left : (o : Option Listed) → standing xs s.left ≡ o
          →
          Good (maybe xs
          (λ x. maybe xs (λ y. copied xs x y (written (bound_call lim s.mode schema x.form y.form s.room))) (standing xs s.right)) o)
      left none p = good
      left (some x) p = right x (standing xs s.right) p refl

  steps-good : (ss : List Step) (xs : List Listed) → Good xs → Good (after_steps lim schema xs ss)
  steps-good [] xs good = good
  steps-good (s ∷ ss) xs good = steps-good ss (after_step lim schema xs s) (step-good xs good s)

-- Demand 3, within any record of limits: what conforms does so under allowed ones.
pub run-keeps : (lim : Limits) → RunKeeps lim
run-keeps lim c schema given steps hs hg i j x y ei ej m v h =
    let most = (allowed-bytes lim (conforms-allowed lim c schema x.form v h)).1 in
    let small : lim.bytes < 65536 = omega (arith, most) in
    let good = steps-good lim small c schema steps (given_from 0 given) (given-good lim small c schema given hg) in
    kept lim c schema y.form v hs (good.bytes j y ej) (good.keeps j y ej i x m ei v h)

-- Limits out of their ranges refuse every bound, so a run under them adds nothing to the types given.
module _ (lim : Limits) (schema : List ℕ) (bad : allowed lim ≡ false) where
  step-adds-none : (xs : List Listed) (s : Step) → after_step lim schema xs s ≡ xs
  step-adds-none xs s = left (standing xs s.left)
    where
      right : (x : Listed) (o : Option Listed) → maybe xs (λ y. copied xs x y (written (bound_call lim s.mode schema x.form y.form s.room))) o ≡ xs
      right x none = refl
      right x (some y) = ap (λ (o : Outcome). copied xs x y (written o)) (bound-refused lim bad s.mode schema x.form y.form s.room)

      left : (o : Option Listed) →
          maybe xs (λ x. maybe xs (λ y. copied xs x y (written (bound_call lim s.mode schema x.form y.form s.room))) (standing xs s.right)) o ≡ xs
      left none = refl
      left (some x) = right x (standing xs s.right)

  pub run-adds-none : (steps : List Step) (xs : List Listed) → after_steps lim schema xs steps ≡ xs
  run-adds-none [] xs = refl
  run-adds-none (s ∷ steps) xs = run-adds-none steps (after_step lim schema xs s) ∙ step-adds-none xs s

standing-stays : (xs ys : List Listed) (i : ℕ) (x : Listed) → standing xs i ≡ some x → standing (xs ++ ys) i ≡ some x
standing-stays [] ys i x e = none-some e
standing-stays (z ∷ xs) ys zero x e = e
standing-stays (z ∷ xs) ys (suc i) x e = standing-stays xs ys i x e

copied-stays : (xs : List Listed) (y z : Listed) (w : Option (List ℕ)) (i : ℕ) (x : Listed) → standing xs i ≡ some x → standing (copied xs y z w) i ≡ some x
copied-stays xs y z none i x e = e
copied-stays xs y z (some w) i x e = standing-stays xs _ i x e

step_stays : (lim : Limits) (schema : List ℕ) (xs : List Listed) (s : Step) (i : ℕ) (x : Listed) → standing xs i ≡ some x →
    standing (after_step lim schema xs s) i ≡ some x
step_stays lim schema xs s i x e = left (standing xs s.left)
  where
    right : (y : Listed) (o : Option Listed) →
        standing (maybe xs (λ z. copied xs y z (written (bound_call lim s.mode schema y.form z.form s.room))) o) i ≡ some x
    right y none = e
    right y (some z) = copied-stays xs y z (written (bound_call lim s.mode schema y.form z.form s.room)) i x e

    left : (o : Option Listed) →
        standing
        (maybe xs (λ y. maybe xs (λ z. copied xs y z (written (bound_call lim s.mode schema y.form z.form s.room))) (standing xs s.right)) o)
        i ≡ some x
    left none = e
    left (some y) = right y (standing xs s.right)

-- Nobody changes a listed type: what stands at a position stays there.
pub listed-stays : (lim : Limits) (schema : List ℕ) (steps : List Step) (xs : List Listed) (i : ℕ) (x : Listed) → standing xs i ≡ some x →
    standing (after_steps lim schema xs steps) i ≡ some x
listed-stays lim schema [] xs i x e = e
listed-stays lim schema (s ∷ steps) xs i x e = listed-stays lim schema steps (after_step lim schema xs s) i x (step_stays lim schema xs s i x e)
