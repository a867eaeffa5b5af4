-- Laws of verdicts: what a yes of the conformance walk says of its parts.
use Rattle.std.specs.Prelude.{ℕ, Bool, true, false, ◌≡◌, refl, T}
use Rattle.std.proofs.Common.{sym, subst}
use Rattle.std.proofs.Math.Option.{Option, none, some}
use Rattle.cedar.specs.Types.{Value, Values, end, value, Pairs, empty, pair, maybe, present}
use Rattle.cedar.specs.Conformance.{Verdict, holds, fails, fails_inside, unknown, verdict, and_then, each_value, each_pair}

-- A yes, as a fact.
abbrev pub Holds : Verdict → Type 0
Holds holds = Unit {0}
Holds fails = ⊥
Holds fails_inside = ⊥
Holds unknown = ⊥

-- A verdict that holds is yes.
pub Holds→yes : (d : Verdict) → Holds d → d ≡ holds
Holds→yes holds h = refl
Holds→yes fails h = absurd h
Holds→yes fails_inside h = absurd h
Holds→yes unknown h = absurd h

-- A verdict that is yes holds.
pub yes→Holds : (d : Verdict) → d ≡ holds → Holds d
yes→Holds d e = subst Holds (sym e) tt

-- A test whose verdict is yes holds.
pub verdict→T : (b : Bool) → Holds (verdict b) → T b
verdict→T true h = tt
verdict→T false h = h

-- The verdict of a test that holds is yes.
pub T→verdict : (b : Bool) → T b → Holds (verdict b)
T→verdict true h = tt
T→verdict false h = h

-- Both parts of a walk are yes.
pub and_then→ : (u v : Verdict) → Holds (and_then u v) → Holds u × Holds v
and_then→ holds v h = (tt, h)
and_then→ fails v h = absurd h
and_then→ fails_inside v h = absurd h
and_then→ unknown v h = absurd h

-- A walk of two parts that are yes.
pub →and_then : (u v : Verdict) → Holds u → Holds v → Holds (and_then u v)
→and_then holds v g h = h
→and_then fails v g h = absurd g
→and_then fails_inside v g h = absurd g
→and_then unknown v g h = absurd g

-- What is yes of a part that must be there goes on to be.
pub maybe-map : {A : Type 0} (o : Option A) (f g : A → Verdict) → ((x : A) → Holds (f x) → Holds (g x)) → Holds (maybe fails f o) → Holds (maybe fails g o)
maybe-map none f g k h = absurd h
maybe-map (some x) f g k h = k x h

-- What is yes of each member goes on to be.
pub each_value-map : (vs : Values) (f g : Value → Verdict) → ((x : Value) → Holds (f x) → Holds (g x)) → Holds (each_value f vs) → Holds (each_value g vs)
each_value-map end f g k h = tt
each_value-map (value v vs) f g k h = let (a, b) = and_then→ (f v) (each_value f vs) h in →and_then (g v) (each_value g vs) (k v a) (each_value-map vs f g k b)

-- What is yes of each pair goes on to be.
pub each_pair-map : (ps : Pairs) (f g : ℕ → Value → Verdict) → ((n : ℕ) (x : Value) → Holds (f n x) → Holds (g n x)) → Holds (each_pair f ps) →
    Holds (each_pair g ps)
each_pair-map empty f g k h = tt
each_pair-map (pair n v ps) f g k h = let (a, b) = and_then→ (f n v) (each_pair f ps) h in →and_then (g n v) (each_pair g ps) (k n v a) (each_pair-map ps f g k b)

-- A part of which something is yes is there.
pub present-verdict : {A : Type 0} (o : Option A) (f : A → Verdict) → Holds (maybe fails f o) → T (present o)
present-verdict none f h = absurd h
present-verdict (some x) f h = tt
