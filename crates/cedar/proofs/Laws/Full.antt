-- Full conformance beside conformance: the same outcome or no, the same where no call is miscounted, and kept by bounds.
use Rattle.std.specs.Prelude.{ℕ, List, [], ◌∷◌, Bool, true, false, not, ◌||◌, cond, ◌≡◌, refl, ◌⊎◌, T, eqb}
use Rattle.std.proofs.Common.{sym, ap, subst, ◌∙◌, inl, inr, arith}
use Rattle.std.proofs.Math.Option.{Option, none, some, some-injective}
use Rattle.cedar.specs.Types.{Ty, atom, set, rec, act, ent, ext, Attrs, nil, attr, Value, boolean, number, text, uid, set_of, record_of, call, Values}
use Rattle.cedar.specs.Types.{end, value, Pairs, empty, pair, Arg, Function, Schema, maybe, mem}
use Rattle.cedar.specs.Limits.{Limits, allowed}
use Rattle.cedar.specs.Whole.{whole_schema, whole_type, whole_value}
use Rattle.cedar.specs.Bytes.{Bytes, guard}
use Rattle.cedar.specs.Result.{unknown_function}
use Rattle.cedar.specs.Text.{textual}
use Rattle.cedar.specs.Conformance.{Verdict, holds, fails, fails_inside, unknown, verdict, and_then, shorter, exact, function_of, returns_ext, arg_extension}
use Rattle.cedar.specs.Conformance.{members, pairs, as_call, of_argument, of_arguments, each_value, each_pair, conforms, conforms_at}
use Rattle.cedar.specs.Conforms.{Conforms}
use Rattle.cedar.specs.Outcome.{Outcome, refused, said}
use Rattle.cedar.specs.Calls.{ask, of_verdict, conforms_call, full_call}
use Rattle.cedar.specs.Sequence.{Listed, Step, standing, EachBytes, run}
use Rattle.cedar.proofs.Laws.Tests.{or_inl, or_inr, or_map, none-some}
use Rattle.cedar.proofs.Laws.Verdicts.{yes→Holds}
use Rattle.cedar.proofs.Laws.Sequence.{run-keeps}

-- As many values as arguments.
abbrev same_count : Values → List Arg → Bool
same_count end [] = true
same_count end (a ∷ ks) = false
same_count (value v vs) [] = false
same_count (value v vs) (a ∷ ks) = same_count vs ks

unfoldable mutual
  -- Some call in a value, of a known function, has another count of arguments than its function declares.
  pub miscounted : Schema → Value → Bool
  miscounted s (boolean b) = false
  miscounted s (number l) = false
  miscounted s (text l) = false
  miscounted s (uid k i) = false
  miscounted s (set_of vs) = some_miscounted s vs
  miscounted s (record_of ps) = pair_miscounted s ps
  miscounted s (call f vs) = maybe false (λ g. not (same_count vs g.args)) (function_of s f) || some_miscounted s vs

  some_miscounted : Schema → Values → Bool
  some_miscounted s end = false
  some_miscounted s (value v vs) = miscounted s v || some_miscounted s vs

  pair_miscounted : Schema → Pairs → Bool
  pair_miscounted s empty = false
  pair_miscounted s (pair n v ps) = miscounted s v || pair_miscounted s ps

-- The first verdict is the second, or a plain no, and that only if P.
abbrev SameOrNo : Type 0 → Verdict → Verdict → Type 0
SameOrNo P d e = (d ≡ e) ⊎ ((d ≡ fails) × P)

weaker : {P Q : Type 0} {d e : Verdict} → (P → Q) → SameOrNo P d e → SameOrNo Q d e
weaker f (inl h) = inl h
weaker f (inr (h, p)) = inr (h, f p)

-- Then on: of two walks in parts.
after : (P : Type 0) (u v w : Verdict) → SameOrNo P v w → SameOrNo P (and_then u v) (and_then u w)
after P holds v w h = h
after P fails v w h = inl refl
after P fails_inside v w h = inl refl
after P unknown v w h = inl refl

both : (P : Type 0) (u u' v v' : Verdict) → SameOrNo P u u' → SameOrNo P v v' → SameOrNo P (and_then u v) (and_then u' v')
both P u u' v v' (inl e) h = subst (λ x. SameOrNo P (and_then u v) (and_then x v')) e (after P u v v' h)
both P u u' v v' (inr (e, p)) h = inr (ap (λ x. and_then x v) e, p)

-- Of a part that must be there.
either : {A P : Type 0} (d : Verdict) (o : Option A) (f g : A → Verdict) → ((x : A) → o ≡ some x → SameOrNo P (f x) (g x)) →
    SameOrNo P (maybe d f o) (maybe d g o)
either d none f g h = inl refl
either d (some x) f g h = h x refl

-- Of each member.
each-alike : (s : Schema) (f g : Value → Verdict) → ((x : Value) → SameOrNo (T (miscounted s x)) (f x) (g x)) → (vs : Values) →
    SameOrNo (T (some_miscounted s vs)) (each_value f vs) (each_value g vs)
unfolding miscounted some_miscounted
each-alike s f g h end = inl refl
each-alike s f g h (value v vs) =
    both _ (f v) (g v) (each_value f vs) (each_value g vs) (weaker (or_inl (miscounted s v) (some_miscounted s vs)) (h v))
    (weaker (or_inr (miscounted s v) (some_miscounted s vs)) (each-alike s f g h vs))

-- Of each pair.
pairs-alike : (s : Schema) (f g : ℕ → Value → Verdict) → ((n : ℕ) (x : Value) → SameOrNo (T (miscounted s x)) (f n x) (g n x)) → (ps : Pairs) →
    SameOrNo (T (pair_miscounted s ps)) (each_pair f ps) (each_pair g ps)
unfolding miscounted pair_miscounted
pairs-alike s f g h empty = inl refl
pairs-alike s f g h (pair n v ps) =
    both _ (f n v) (g n v) (each_pair f ps) (each_pair g ps) (weaker (or_inl (miscounted s v) (pair_miscounted s ps)) (h n v))
    (weaker (or_inr (miscounted s v) (pair_miscounted s ps)) (pairs-alike s f g h ps))

-- Arguments, or their count, are miscounted.
abbrev Misfit : Schema → Values → List Arg → Type 0
Misfit s vs ks = T (not (same_count vs ks) || some_miscounted s vs)

-- Of a call, given its arguments; d is what an unknown function comes to.
call-alike : (s : Schema) (f : ℕ) (vs : Values) (d : Verdict) (e : ℕ) →
    ((ks : List Arg) → SameOrNo (Misfit s vs ks) (of_arguments exact s vs ks) (of_arguments shorter s vs ks)) →
    SameOrNo (T (miscounted s (call f vs))) (maybe d (λ g. and_then (verdict (returns_ext g e)) (of_arguments exact s vs g.args)) (function_of s f))
    (maybe d (λ g. and_then (verdict (returns_ext g e)) (of_arguments shorter s vs g.args)) (function_of s f))
unfolding miscounted
call-alike s f vs d e h =
    either d (function_of s f) _ _ λ g q.
    weaker (subst (λ (o : Option Function). T (maybe false (λ g. not (same_count vs g.args)) o || some_miscounted s vs)) (sym q))
    (after _ (verdict (returns_ext g e)) _ _ (h g.args))

mutual
  unfolding of_argument of_arguments miscounted some_miscounted

  argument-alike : (s : Schema) (v : Value) (a : Arg) → SameOrNo (T (miscounted s v)) (of_argument exact s v a) (of_argument shorter s v a)
  argument-alike s (boolean b) a = inl refl
  argument-alike s (number l) a = inl refl
  argument-alike s (text l) a = inl refl
  argument-alike s (uid k i) a = inl refl
  argument-alike s (set_of vs) a = inl refl
  argument-alike s (record_of ps) a = inl refl
  argument-alike s (call f vs) a = either fails (arg_extension a) _ _ λ e q. call-alike s f vs fails_inside e λ ks. arguments-alike s vs ks

  arguments-alike : (s : Schema) (vs : Values) (ks : List Arg) → SameOrNo (Misfit s vs ks) (of_arguments exact s vs ks) (of_arguments shorter s vs ks)
  arguments-alike s end [] = inl refl
  arguments-alike s end (a ∷ ks) = inr (refl, tt)
  arguments-alike s (value v vs) [] = inr (refl, tt)
  arguments-alike s (value v vs) (a ∷ ks) =
      both _ (of_argument exact s v a) (of_argument shorter s v a) (of_arguments exact s vs ks) (of_arguments shorter s vs ks)
      (weaker (λ h. or_inr (not (same_count vs ks)) _ (or_inl (miscounted s v) (some_miscounted s vs) h)) (argument-alike s v a))
      (weaker (or_map (not (same_count vs ks)) (some_miscounted s vs) (miscounted s v || some_miscounted s vs) (or_inr (miscounted s v) (some_miscounted s vs)))
      (arguments-alike s vs ks))

-- What is miscounted in the parts of a value is so in the value.
in_members : (s : Schema) (v : Value) (vs : Values) → members v ≡ some vs → T (some_miscounted s vs) → T (miscounted s v)
unfolding miscounted
in_members s (boolean b) vs e h = none-some e
in_members s (number l) vs e h = none-some e
in_members s (text l) vs e h = none-some e
in_members s (uid k i) vs e h = none-some e
in_members s (set_of us) vs e h = subst (λ (xs : Values). T (some_miscounted s xs)) (sym (some-injective _ _ e)) h
in_members s (record_of ps) vs e h = none-some e
in_members s (call f us) vs e h = none-some e

in_pairs : (s : Schema) (v : Value) (ps : Pairs) → pairs v ≡ some ps → T (pair_miscounted s ps) → T (miscounted s v)
unfolding miscounted
in_pairs s (boolean b) ps e h = none-some e
in_pairs s (number l) ps e h = none-some e
in_pairs s (text l) ps e h = none-some e
in_pairs s (uid k i) ps e h = none-some e
in_pairs s (set_of us) ps e h = none-some e
in_pairs s (record_of qs) ps e h = subst (λ (xs : Pairs). T (pair_miscounted s xs)) (sym (some-injective _ _ e)) h
in_pairs s (call f us) ps e h = none-some e

in-call : (s : Schema) (v : Value) (x : ℕ × Values) → as_call v ≡ some x → T (miscounted s (call x.0 x.1)) → T (miscounted s v)
in-call s (boolean b) x e h = none-some e
in-call s (number l) x e h = none-some e
in-call s (text l) x e h = none-some e
in-call s (uid k i) x e h = none-some e
in-call s (set_of us) x e h = none-some e
in-call s (record_of qs) x e h = none-some e
in-call s (call f us) x e h = subst (λ (y : ℕ × Values). T (miscounted s (call y.0 y.1))) (sym (some-injective _ _ e)) h

-- Of the two ways of a test.
chosen : {P : Type 0} (b : Bool) {u u' v v' : Verdict} → SameOrNo P u u' → SameOrNo P v v' → SameOrNo P (cond b u v) (cond b u' v')
chosen true g h = g
chosen false g h = h

mutual
  unfolding conforms conforms_at

  -- The walk by exact counts says what the walk to the shorter end says, or a plain no, and that only where a call is miscounted.
  pub walk-alike : (s : Schema) (t : Ty) (v : Value) → SameOrNo (T (miscounted s v)) (conforms exact s t v) (conforms shorter s t v)
  walk-alike s (atom k) v = inl refl
  walk-alike s (set t) v =
      either fails (members v) _ _ λ vs q.
      weaker (in_members s v vs q) (each-alike s (λ x. conforms exact s t x) (λ x. conforms shorter s t x) (λ x. walk-alike s t x) vs)
  walk-alike s (rec o xs) v =
      either fails (pairs v) _ _ λ ps q.
      weaker (in_pairs s v ps q)
      (both _ _ _ _ _
      (pairs-alike s (λ n x. conforms_at exact s o xs n x) (λ n x. conforms_at shorter s o xs n x) (λ n x. walk-alike-at s o xs n x) ps) (inl refl))
  walk-alike s (act n xs) v = inl refl
  walk-alike s (ent ns) v = inl refl
  walk-alike s (ext e) v =
      either fails (as_call v) _ _ λ x q. weaker (in-call s v x q) (call-alike s x.0 x.1 unknown e λ ks. arguments-alike s x.1 ks)

  walk-alike-at : (s : Schema) (o : Bool) (xs : Attrs) (n : ℕ) (x : Value) →
      SameOrNo (T (miscounted s x)) (conforms_at exact s o xs n x) (conforms_at shorter s o xs n x)
  walk-alike-at s o nil n x = inl refl
  walk-alike-at s o (attr k r t xs) n x = chosen (eqb n k) (walk-alike s t x) (walk-alike-at s o xs n x)

-- A yes by exact counts is a yes to the shorter end, for any type and value.
pub exact-yes : (s : Schema) (t : Ty) (v : Value) → conforms exact s t v ≡ holds → conforms shorter s t v ≡ holds
exact-yes s t v e = go (walk-alike s t v)
  where
    go : SameOrNo (T (miscounted s v)) (conforms exact s t v) (conforms shorter s t v) → conforms shorter s t v ≡ holds
    go (inl h) = sym h ∙ e
    go (inr (h, p)) = absurd (yes→Holds fails (sym h ∙ e))

-- One question, with what is asked next in a relation.
asked : {A : Type 0} (R : Outcome → Outcome → Type 0) → ((o : Outcome) → R o o) → (n : ℕ) (o : Option A) (k l : A → Outcome) →
    ((x : A) → o ≡ some x → R (k x) (l x)) → R (ask n o k) (ask n o l)
asked R r n none k l h = r (refused n)
asked R r n (some x) k l h = h x refl

-- The first outcome is the second, or no.
abbrev pub AlikeOrNo : Outcome → Outcome → Type 0
AlikeOrNo o p = (o ≡ p) ⊎ (o ≡ said false)

told : {P : Type 0} (d e : Verdict) → SameOrNo P d e → AlikeOrNo (of_verdict d) (of_verdict e)
told d e (inl h) = inl (ap of_verdict h)
told d e (inr (h, p)) = inr (ap of_verdict h)

module _ (lim : Limits) (schema t v : List ℕ) where
  -- Whatever the bytes, full conformance comes to what conformance comes to, or to no.
  pub full-alike : AlikeOrNo (full_call lim schema t v) (conforms_call lim schema t v)
  full-alike =
      asked AlikeOrNo (λ o. inl refl) _ (guard (allowed lim)) _ _ λ _ _.
      asked AlikeOrNo (λ o. inl refl) _ (whole_schema lim schema) _ _ λ s _.
      asked AlikeOrNo (λ o. inl refl) _ (whole_type lim t) _ _ λ a _.
      asked AlikeOrNo (λ o. inl refl) _ (whole_value lim v) _ _ λ x _.
      asked AlikeOrNo (λ o. inl refl) _ (guard (textual x)) _ _ λ _ _.
      told (conforms exact s a x) (conforms shorter s a x) (walk-alike s a x)

  -- An outcome of full conformance that is not no.
  not-no : (r : Outcome) → (said false ≡ r → ⊥) → full_call lim schema t v ≡ r → conforms_call lim schema t v ≡ r
  not-no r n e = go full-alike
    where
      go : AlikeOrNo (full_call lim schema t v) (conforms_call lim schema t v) → conforms_call lim schema t v ≡ r
      go (inl h) = sym h ∙ e
      go (inr h) = absurd (n (sym h ∙ e))

  -- A yes of full conformance is a yes of conformance.
  pub full-yes : Conforms lim exact schema t v → Conforms lim shorter schema t v
  full-yes = not-no (said true) λ e. (let z : ◌≡◌ {A = ℕ} 0 1 = cc in omega arith)

  -- An unknown function that full conformance meets, conformance meets too: where that says yes or no, full conformance is not refused.
  pub full-unknown : full_call lim schema t v ≡ refused unknown_function → conforms_call lim schema t v ≡ refused unknown_function
  full-unknown = not-no (refused unknown_function) λ e. (let z : ◌≡◌ {A = ℕ} 0 1 = cc in omega arith)

  -- A no of conformance is a no of full conformance.
  pub full-no : conforms_call lim schema t v ≡ said false → full_call lim schema t v ≡ said false
  full-no e = go full-alike
    where
      go : AlikeOrNo (full_call lim schema t v) (conforms_call lim schema t v) → full_call lim schema t v ≡ said false
      go (inl h) = h ∙ e
      go (inr h) = h

  -- Where no call is miscounted, both come to the same.
  pub full-same : (s : Schema) (x : Value) → whole_schema lim schema ≡ some s → whole_value lim v ≡ some x → (T (miscounted s x) → ⊥) →
      full_call lim schema t v ≡ conforms_call lim schema t v
  full-same s x es ex n =
      rw (es, ex)
      (asked (λ o p. o ≡ p) (λ o. refl) _ (guard (allowed lim)) _ _ λ _ _.
      asked (λ o p. o ≡ p) (λ o. refl) _ (whole_type lim t) _ _ λ a _.
      asked (λ o p. o ≡ p) (λ o. refl) _ (guard (textual x)) _ _ λ _ _.
      same (conforms exact s a x) (conforms shorter s a x) (walk-alike s a x))
    where
      same : (d e : Verdict) → SameOrNo (T (miscounted s x)) d e → of_verdict d ≡ of_verdict e
      same d e (inl h) = ap of_verdict h
      same d e (inr (h, p)) = absurd (n p)

-- Bounds keep full conformance: in every run, what conforms fully to a listed type conforms fully to each type that was made from it.
pub full-kept : (lim : Limits) (schema : List ℕ) (given : List (List ℕ)) (steps : List Step) → Bytes schema → EachBytes given
    → (i j : ℕ) (x y : Listed) → standing (run lim schema given steps) i ≡ some x → standing (run lim schema given steps) j ≡ some y
    → T (mem i y.made_from) → (v : List ℕ) → full_call lim schema x.form v ≡ said true → full_call lim schema y.form v ≡ said true
full-kept lim schema given steps hs hg i j x y ei ej m v e = (run-keeps lim exact schema given steps hs hg i j x y ei ej m v e).conforming
