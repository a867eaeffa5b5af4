-- The arguments of a function. Assumes nothing.
use Rattle.std.specs.Prelude.{◌≡◌, List, [], ◌∷◌, Bool, true, false, not, ◌&&◌, ℕ, zero, suc, ◌+◌, ◌*◌, ◌≤◌, ◌<◌, eqb, leb, length, get_or, take, drop}
use Rattle.std.proofs.Math.Path.{refl}
use Rattle.std.proofs.Common.{ap, ap₂, sym, ◌∙◌, arith, get_or-take, leb-true, le-leb, eq-eqb, ne_eqb}
use Rattle.std.proofs.Math.Bool.{and-false}
use Rattle.std.proofs.Math.Option.{Option, none, some}
use Rattle.std.proofs.Math.Nat.{mul_comm}
use Rattle.std.proofs.Math.Decide.{ℕ_discrete}
use Rattle.std.proofs.lemmas.Bool.{lt-leb, not-true, not-false}
use Rattle.cedar.specs.Types.{Arg, arg_bool, arg_long, arg_string, arg_ext, maybe, present}
use Rattle.cedar.specs.SchemaForm.{arg_of, parse_args}
use Rattle.cedar.specs.Bytes.{◌>>=◌}
use Rattle.forms.specs.Parts.{rest, rd}
use Rattle.forms.specs.Laws.Parts.{and_l, and_r, and-not-l, and_yes, rest-is, rd-take}
use Rattle.schemas.specs.SchemaBytes.{arg_fits, arg_at, args_fit, args_of}

-- What the first argument says stands in its own bytes.
pub arg-own : (k x : List ℕ) → x ≡ take 3 k → (arg_fits x ≡ arg_fits k) × (arg_at x ≡ arg_at k)
arg-own k x q =
    let b : get_or x 0 0 ≡ get_or k 0 0 = ap (λ (z : List ℕ). get_or z 0 0) q ∙ get_or-take 3 k 0 0 (omega arith) in
    let n : rd x 1 ≡ rd k 1 = ap (λ (z : List ℕ). rd z 1) q ∙ rd-take 3 k 1 (omega arith) in
    (ap₂ (λ (i j : ℕ). present (arg_of i j)) b n, ap₂ (λ (i j : ℕ). maybe arg_bool (λ x. x) (arg_of i j)) b n)

-- The kinds 1 to 3.
plain : (k : ℕ) → (k ≡ 4 → ⊥) → present (get_or (none ∷ some arg_bool ∷ some arg_long ∷ some arg_string ∷ []) k none) ≡ (leb 1 k && leb k 3)
plain zero h = refl
plain (suc zero) h = refl
plain (suc (suc zero)) h = refl
plain (suc (suc (suc zero))) h = refl
plain (suc (suc (suc (suc k)))) h = rw (lt-leb (suc (suc (suc (suc k)))) 3 (omega arith), and-false (leb 1 (suc (suc (suc (suc k)))))) refl

-- One argument, by its kind: an extension, and one of the kinds 1 to 3, which names none.
pub arg-extension : (a : List ℕ) → get_or a 0 0 ≡ 4 → true ≡ arg_fits a
arg-extension a e = rw (eq-eqb (get_or a 0 0) 4 e) refl

module _ (a : List ℕ) (n : get_or a 0 0 ≡ 4 → ⊥) (m : ℕ) (q : m ≡ rd a 1) where
  pub arg-named : (m ≡ 0 → ⊥) → false ≡ arg_fits a
  arg-named h = rw (ne_eqb (get_or a 0 0) 4 n, ne_eqb (rd a 1) 0 (λ z. h (q ∙ z))) refl

  plain-is : m ≡ 0 → arg_fits a ≡ (leb 1 (get_or a 0 0) && leb (get_or a 0 0) 3)
  plain-is h = rw (ne_eqb (get_or a 0 0) 4 n, eq-eqb (rd a 1) 0 (sym q ∙ h)) (plain (get_or a 0 0) n)

  pub arg-low : m ≡ 0 → get_or a 0 0 < 1 → false ≡ arg_fits a
  arg-low h l = sym (plain-is h ∙ rw (lt-leb 1 (get_or a 0 0) l) refl)

  pub arg_plain : m ≡ 0 → 1 ≤ get_or a 0 0 → leb (get_or a 0 0) 3 ≡ arg_fits a
  arg_plain h l = sym (plain-is h ∙ and_yes (leb 1 (get_or a 0 0)) _ (le-leb 1 (get_or a 0 0) l))

-- Steps of an Option, as tests.
step_fits : (o : Option Arg) (p : Option (List Arg)) → present (o >>= λ x. p >>= λ xs. some (x ∷ xs)) ≡ (present o && present p)
step_fits none p = refl
step_fits (some x) none = refl
step_fits (some x) (some xs) = refl

-- The first argument, and the others.
args-step : (b : List ℕ) → 0 < length b → args_fit b ≡ (leb 3 (length b) && (arg_fits b && args_fit (rest 3 b)))
unfolding args_fit
args-step [] p = absurd (omega arith)
args-step (k ∷ []) p = refl
args-step (k ∷ a ∷ []) p = refl
args-step (k ∷ a ∷ c ∷ b) p =
    rw (le-leb 3 (suc (suc (suc (length b)))) (omega arith), rest-is 3 (k ∷ a ∷ c ∷ b), mul_comm c 256) (step_fits (arg_of k (a + 256 * c)) (parse_args b))

-- The loop of `arguments_within`: what is left answers for all.
pub record ArgsLeft (b a : List ℕ) : Type 0 where
  pub same : args_fit b ≡ args_fit a

module _ {b a : List ℕ} (i : ArgsLeft b a) where
  pub args_end : length a < 3 → eqb (length a) 0 ≡ args_fit b
  args_end h = go a h ∙ sym i.same
    where
      go : (c : List ℕ) → length c < 3 → eqb (length c) 0 ≡ args_fit c
      go [] h = unfold args_fit in refl
      go (x ∷ c) h =
          ne_eqb (length (x ∷ c)) 0 (λ z. omega arith)
          ∙ and-not-l (leb 3 (length (x ∷ c))) _ (lt-leb 3 (length (x ∷ c)) h) ∙ sym (args-step (x ∷ c) (omega arith))

  pub args-short : 0 < length a → length a < 3 → false ≡ args_fit b
  args-short p h = and-not-l (leb 3 (length a)) _ (lt-leb 3 (length a) h) ∙ sym (i.same ∙ args-step a p)

  module _ (h : 3 ≤ length a) (x others : List ℕ) (f : x ≡ take 3 a) (o : others ≡ drop 3 a) (y : Bool) (q : y ≡ arg_fits x) where
    open-args : args_fit b ≡ (y && args_fit others)
    open-args =
        i.same ∙ args-step a (omega arith) ∙ and_yes (leb 3 (length a)) _ (le-leb 3 (length a) h)
        ∙ ap₂ (λ (z : Bool) (r : List ℕ). z && args_fit r) (sym (q ∙ (arg-own a x f).0)) (rest-is 3 a ∙ sym o)

    pub args-not : not y ≡ true → false ≡ args_fit b
    args-not g = and-not-l y _ (not-true y g) ∙ sym open-args

    pub args-again : not y ≡ false → ArgsLeft b others
    args-again g = record { same = open-args ∙ and_yes y _ (not-false y g) }

-- Walks over whole arguments: the first, and the others.
pub record ArgFirst (b : List ℕ) : Type 0 where
  pub room : 3 ≤ length b
  pub fits : arg_fits b ≡ true
  pub more : args_fit (rest 3 b) ≡ true
  pub is : args_of b ≡ arg_at b ∷ args_of (rest 3 b)

pub args-first : (b : List ℕ) → args_fit b ≡ true → 0 < length b → ArgFirst b
args-first b h p =
    let g = sym (args-step b p) ∙ h in
    let l = leb-true 3 (length b) (and_l (leb 3 (length b)) (arg_fits b && args_fit (rest 3 b)) g) in
    let f = and_r (leb 3 (length b)) (arg_fits b && args_fit (rest 3 b)) g in
    let a = and_l (arg_fits b) (args_fit (rest 3 b)) f in
    let m = and_r (arg_fits b) (args_fit (rest 3 b)) f in
    record { room = l; fits = a; more = m; is = says b l a m }
  where
    step-says : (o : Option Arg) (q : Option (List Arg)) → present o ≡ true → present q ≡ true →
        maybe [] (λ y. y) (o >>= λ x. q >>= λ xs. some (x ∷ xs)) ≡ maybe arg_bool (λ y. y) o ∷ maybe [] (λ y. y) q
    step-says none q h g = absurd (let z : ◌≡◌ {A = ℕ} 0 1 = cc in omega arith)
    step-says (some x) none h g = absurd (let z : ◌≡◌ {A = ℕ} 0 1 = cc in omega arith)
    step-says (some x) (some xs) h g = refl

    says : (c : List ℕ) → 3 ≤ length c → arg_fits c ≡ true → args_fit (rest 3 c) ≡ true → args_of c ≡ arg_at c ∷ args_of (rest 3 c)
    says [] l a m = absurd (omega arith)
    says (k ∷ []) l a m = absurd (omega arith)
    says (k ∷ i ∷ []) l a m = absurd (omega arith)
    says (k ∷ i ∷ j ∷ c) l a m =
        unfold args_of in
        rw (rest-is 3 (k ∷ i ∷ j ∷ c), mul_comm j 256)
        (step-says (arg_of k (i + 256 * j)) (parse_args c) a (unfold args_fit in (rw (rest-is 3 (k ∷ i ∷ j ∷ c)) at m)))

pub args_none : (b : List ℕ) → length b ≤ 0 → args_of b ≡ []
unfolding args_of
args_none [] h = refl
args_none (x ∷ b) h = absurd (omega arith)

-- The first argument, by its kind.
pub arg-kind : (b : List ℕ) → arg_fits b ≡ true → (1 ≤ get_or b 0 0) × (get_or b 0 0 ≤ 4)
arg-kind b h = go (ℕ_discrete (get_or b 0 0) 4) (ℕ_discrete (rd b 1) 0)
  where
    go : Dec (get_or b 0 0 ≡ 4) → Dec (rd b 1 ≡ 0) → (1 ≤ get_or b 0 0) × (get_or b 0 0 ≤ 4)
    go (yes e) m = (omega arith, omega arith)
    go (no e) (no m) = absurd (let z : false ≡ true = arg-named b e (rd b 1) refl m ∙ h in let y : ◌≡◌ {A = ℕ} 0 1 = cc in omega arith)
    go (no e) (yes m) =
        let g = sym (plain-is b e (rd b 1) refl m) ∙ h in
        let l = leb-true 1 (get_or b 0 0) (and_l (leb 1 (get_or b 0 0)) (leb (get_or b 0 0) 3) g) in
        let u = leb-true (get_or b 0 0) 3 (and_r (leb 1 (get_or b 0 0)) (leb (get_or b 0 0) 3) g) in
        (l, omega arith)

pub arg-is-extension : (b : List ℕ) → get_or b 0 0 ≡ 4 → arg_at b ≡ arg_ext (rd b 1)
arg-is-extension b e = rw (eq-eqb (get_or b 0 0) 4 e) refl

module _ (b : List ℕ) (h : arg_fits b ≡ true) where
  no_name : (get_or b 0 0 ≡ 4 → ⊥) → rd b 1 ≡ 0
  no_name n = go (ℕ_discrete (rd b 1) 0)
    where
      go : Dec (rd b 1 ≡ 0) → rd b 1 ≡ 0
      go (yes m) = m
      go (no m) = absurd (let z : false ≡ true = arg-named b n (rd b 1) refl m ∙ h in let y : ◌≡◌ {A = ℕ} 0 1 = cc in omega arith)

  pub arg-is-bool : get_or b 0 0 ≡ 1 → arg_at b ≡ arg_bool
  arg-is-bool e = rw (eq-eqb (rd b 1) 0 (no_name (λ z. omega arith)), e) refl

  pub arg-is-long : get_or b 0 0 ≡ 2 → arg_at b ≡ arg_long
  arg-is-long e = rw (eq-eqb (rd b 1) 0 (no_name (λ z. omega arith)), e) refl

  pub arg-is-string : get_or b 0 0 ≡ 3 → arg_at b ≡ arg_string
  arg-is-string e = rw (eq-eqb (rd b 1) 0 (no_name (λ z. omega arith)), e) refl
