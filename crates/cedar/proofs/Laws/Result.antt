-- Laws of results: what an answer says.
use Rattle.std.specs.Prelude.{ℕ, ◌≡◌, refl}
use Rattle.std.proofs.Common.{arith}
use Rattle.cedar.specs.Result.{Result, ok, err, bind}

-- Equal answers.
pub ok-inj : {A : Type 0} {a c : A} → ok a ≡ ok c → a ≡ c
ok-inj e = cc

-- A refusal is no answer.
pub err-ok : {A C : Type 0} {n : ℕ} {c : A} → err n ≡ ok c → C
err-ok e = absurd (let z : ◌≡◌ {A = ℕ} 0 1 = cc in omega arith)

-- An answer put to use that gave an answer.
pub bind_ok : {A B C : Type 0} (r : Result A) (f : A → Result B) {c : B} → bind r f ≡ ok c → ((x : A) → r ≡ ok x → f x ≡ ok c → C) → C
bind_ok (ok a) f e k = k a refl e
bind_ok (err n) f e k = err-ok e
