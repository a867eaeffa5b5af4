-- The questions of a call, one by one. Assumes nothing.
use Rattle.std.specs.Prelude.{◌≡◌, refl, List, Bool, true, false, not, ◌&&◌, ℕ, ◌≤◌, leb, length}
use Rattle.std.proofs.Common.{ap, sym, ◌∙◌, arith, leb-true}
use Rattle.std.proofs.Math.Option.{Option, none, some}
use Rattle.std.proofs.lemmas.Bool.{not-true, not-false}
use Rattle.cedar.specs.Types.{present}
use Rattle.cedar.specs.Bytes.{guard}
use Rattle.cedar.specs.Limits.{Limits, allowed}
use Rattle.cedar.specs.Result.{bad_limits, Result, err}
use Rattle.cedar.specs.Whole.{whole_type}
use Rattle.cedar.specs.Outcome.{Outcome}
use Rattle.cedar.specs.Calls.{ask}
use Rattle.cedar.proofs.Laws.Tests.{none_of}
use Rattle.forms.specs.TypeBytes.{whole, dec}
use Rattle.forms.specs.Laws.Parts.{and_l, and_r}
use Rattle.forms.specs.Laws.Sure.{sure-present, sure-yes}
use Rattle.forms.specs.Laws.TypeTwin.{whole-type-twin}
use Rattle.validator.specs.Answers.{answer_of}
use Rattle.validator.specs.declared.answers.Answer.{Answer}

-- A question whose answer is missing refuses; else the call goes on.
module _ {A : Type 0} (n : ℕ) {o : Option A} (k : A → Outcome) where
  pub ask-no : o ≡ none → err n ≡ answer_of (ask n o k)
  ask-no e = sym (ap (λ (z : Option A). answer_of (ask n z k)) e)

  pub ask-on : {a : A} → o ≡ some a → {r : Result Answer} → r ≡ answer_of (k a) → r ≡ answer_of (ask n o k)
  ask-on e q = q ∙ sym (ap (λ (z : Option A). answer_of (ask n z k)) e)

-- A question that a test has answered.
module _ {A : Type 0} (o : Option A) (r : Bool) (q : r ≡ present o) where
  pub missing : not r ≡ true → o ≡ none
  missing h = none_of o (sym q ∙ not-true r h)

  pub there : not r ≡ false → (a : A) × (o ≡ some a)
  there h = go o (sym q ∙ not-false r h)
    where
      go : (o : Option A) → present o ≡ true → (a : A) × (o ≡ some a)
      go none e = absurd (let z : ◌≡◌ {A = ℕ} 0 1 = cc in omega arith)
      go (some a) e = (a, refl)

-- A test as a question.
pub guard-no : (b r : Bool) → r ≡ b → not r ≡ true → guard b ≡ none
guard-no b r q h = ap guard (sym q ∙ not-true r h)

pub guard-yes : (b r : Bool) → r ≡ b → not r ≡ false → guard b ≡ some tt
guard-yes b r q h = ap guard (sym q ∙ not-false r h)

-- Under limits that are allowed a call goes on.
pub within-limits : (lim : Limits) → allowed lim ≡ true → (o : Outcome) {r : Result Answer} → r ≡ answer_of o →
    r ≡ answer_of (ask bad_limits (guard (allowed lim)) (λ _. o))
within-limits lim fair o q = ask-on bad_limits {o = guard (allowed lim)} (λ (_ : Unit {0}). o) (ap guard fair) q

-- The answer of `whole_type`.
module _ (lim : Limits) (b : List ℕ) (r : Bool) (q : r ≡ present (whole_type lim b)) where
  pub type-missing : not r ≡ true → whole_type lim b ≡ none
  type-missing h = missing (whole_type lim b) r q h

  module _ (h : not r ≡ false) where
    both : leb (length b) lim.bytes && whole lim.levels b ≡ true
    both = sym (sure-present (whole-type-twin lim b)) ∙ sym q ∙ not-false r h

    pub type-there : whole_type lim b ≡ some (dec lim.levels b)
    type-there = sure-yes (whole-type-twin lim b) both

    pub type-whole : whole lim.levels b ≡ true
    type-whole = and_r (leb (length b) lim.bytes) _ both

    pub type-few : length b ≤ lim.bytes
    type-few = leb-true (length b) lim.bytes (and_l (leb (length b) lim.bytes) (whole lim.levels b) both)
