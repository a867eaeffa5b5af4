-- Every string of a value counts, at every level, and 17 is the answer exactly where one is no text.
use Rattle.std.specs.Prelude.{ℕ, List, Bool, true, false, ◌&&◌, ◌≡◌, refl, ◌⊎◌, ◌↔◌, T}
use Rattle.std.proofs.Common.{arith, sym, subst, inl, inr}
use Rattle.std.proofs.Math.Option.{some}
use Rattle.cedar.specs.Types.{Ty, Value, boolean, number, text, uid, set_of, record_of, call, Values, end, value, Pairs, empty, pair, Schema}
use Rattle.cedar.specs.Bytes.{guard}
use Rattle.cedar.specs.Limits.{Limits, allowed}
use Rattle.cedar.specs.Whole.{whole_schema, whole_type, whole_value}
use Rattle.cedar.specs.Result.{bad_text}
use Rattle.cedar.specs.Text.{is_text, textual, textual_values, textual_pairs}
use Rattle.cedar.specs.Conformance.{Verdict, holds, fails, fails_inside, unknown, Counts, conforms}
use Rattle.cedar.specs.Outcome.{Outcome, refused}
use Rattle.cedar.specs.Calls.{ask, of_verdict, conforms_by}
use Rattle.cedar.proofs.Laws.Tests.{T_and, and_T, maybe-case}

unfoldable mutual
  -- The string l stands in a value.
  pub StandsIn : List ℕ → Value → Type 0
  StandsIn l (boolean b) = ⊥
  StandsIn l (number m) = ⊥
  StandsIn l (text m) = l ≡ m
  StandsIn l (uid k i) = ⊥
  StandsIn l (set_of vs) = StandsInValues l vs
  StandsIn l (record_of ps) = StandsInPairs l ps
  StandsIn l (call f vs) = StandsInValues l vs

  StandsInValues : List ℕ → Values → Type 0
  StandsInValues l end = ⊥
  StandsInValues l (value v vs) = StandsIn l v ⊎ StandsInValues l vs

  StandsInPairs : List ℕ → Pairs → Type 0
  StandsInPairs l empty = ⊥
  StandsInPairs l (pair n v ps) = StandsIn l v ⊎ StandsInPairs l ps

-- Each string of which something holds is text.
abbrev AllText : (List ℕ → Type 0) → Type 0
AllText P = (l : List ℕ) → P l → T (is_text l)

-- What is text in each of two parts is so in both together.
both : {P Q : List ℕ → Type 0} (a b : Bool) → T a ↔ AllText P → T b ↔ AllText Q → T (a && b) ↔ AllText (λ l. P l ⊎ Q l)
both {P} {Q} a b (f, f') (g, g') =
    (λ h. let (x, y) = T_and a b h in λ l. in_either (f x) (g y) l, λ h. and_T a b (f' (λ l p. h l (inl p))) (g' (λ l q. h l (inr q))))
  where
    in_either : AllText P → AllText Q → AllText (λ l. P l ⊎ Q l)
    in_either x y l (inl p) = x l p
    in_either x y l (inr q) = y l q

-- No string.
without : {P : List ℕ → Type 0} → ((l : List ℕ) → P l → ⊥) → T true ↔ AllText P
without n = (λ h l p. absurd (n l p), λ h. tt)

mutual
  unfolding textual textual_values textual_pairs StandsIn StandsInValues StandsInPairs

  -- The law: `textual` asks for each string that stands in a value, and for nothing else.
  pub textual-iff : (v : Value) → T (textual v) ↔ AllText (λ l. StandsIn l v)
  textual-iff (boolean b) = without (λ l p. p)
  textual-iff (number m) = without (λ l p. p)
  textual-iff (text m) = (λ h l p. subst (λ (k : List ℕ). T (is_text k)) (sym p) h, λ h. h m refl)
  textual-iff (uid k i) = without (λ l p. p)
  textual-iff (set_of vs) = textual-values vs
  textual-iff (record_of ps) = textual-pairs ps
  textual-iff (call f vs) = textual-values vs

  textual-values : (vs : Values) → T (textual_values vs) ↔ AllText (λ l. StandsInValues l vs)
  textual-values end = without (λ l p. p)
  textual-values (value v vs) = both (textual v) (textual_values vs) (textual-iff v) (textual-values vs)

  textual-pairs : (ps : Pairs) → T (textual_pairs ps) ↔ AllText (λ l. StandsInPairs l ps)
  textual-pairs empty = without (λ l p. p)
  textual-pairs (pair n v ps) = both (textual v) (textual_pairs ps) (textual-iff v) (textual-pairs ps)

-- Where all is whole, a string that is no text refuses by 17, whatever the type, the schema and the rule on counts.
pub text-refused : (c : Counts) (lim : Limits) (schema t v : List ℕ) (s : Schema) (a : Ty) (x : Value) → allowed lim ≡ true → whole_schema lim schema ≡ some s →
    whole_type lim t ≡ some a → whole_value lim v ≡ some x → textual x ≡ false → conforms_by c lim schema t v ≡ refused bad_text
text-refused c lim schema t v s a x y es ea ex h = rw (y, es, ea, ex, h)

-- Another number, or none.
other-number : {C : Type 0} {n m : ℕ} → refused n ≡ refused m → (n ≡ m → ⊥) → C
other-number e k = absurd (k (cc))

verdict-other : {C : Type 0} (d : Verdict) → of_verdict d ≡ refused bad_text → C
verdict-other holds e = absurd (let z : ◌≡◌ {A = ℕ} 0 1 = cc in omega arith)
verdict-other fails e = absurd (let z : ◌≡◌ {A = ℕ} 0 1 = cc in omega arith)
verdict-other fails_inside e = absurd (let z : ◌≡◌ {A = ℕ} 0 1 = cc in omega arith)
verdict-other unknown e = other-number e (λ z. omega arith)

-- A test that was not passed.
refused-test : (b : Bool) (o : Outcome) → (o ≡ refused bad_text → ⊥) → ask bad_text (guard b) (λ _. o) ≡ refused bad_text → b ≡ false
refused-test true o n e = absurd (n e)
refused-test false o n e = refl

-- And 17 comes from nothing else: the value is whole, and a string of it is no text.
pub refused-text : (c : Counts) (lim : Limits) (schema t v : List ℕ) → conforms_by c lim schema t v ≡ refused bad_text →
    (x : Value) × (whole_value lim v ≡ some x) × (textual x ≡ false)
refused-text c lim schema t v e =
    maybe-case (guard (allowed lim)) e (λ _ p. other-number p (λ z. omega arith)) λ _ _ e₀.
    maybe-case (whole_schema lim schema) e₀ (λ _ p. other-number p (λ z. omega arith)) λ s _ e₁.
    maybe-case (whole_type lim t) e₁ (λ _ p. other-number p (λ z. omega arith)) λ a _ e₂.
    maybe-case (whole_value lim v) e₂ (λ _ p. other-number p (λ z. omega arith)) λ x ex e₃.
    (x, ex, refused-test (textual x) (of_verdict (conforms c s a x)) (λ p. verdict-other (conforms c s a x) p) e₃)
