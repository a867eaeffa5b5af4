-- Lengths of results, and how they add up. Assumes nothing.
use Rattle.std.specs.Prelude.{◌≡◌, refl, List, ◌++◌, Bool, ℕ, suc, ◌+◌, ◌*◌, ◌≤◌, length, Result as RustResult, Ok, Err, IsErrAnd}
use Rattle.std.proofs.Common.{ap, ◌∙◌, arith, length-append}
use Rattle.std.proofs.Math.Path.{sym}
use Rattle.cedar.specs.Types.{Ty, Attrs, nil, attr}
use Rattle.cedar.specs.TypeForm.{count, enc, entries, bodies}
use Rattle.cedar.specs.Result.{Result, ok, err, bind}
use Rattle.cedar.specs.Limits.{most_bytes}
use Rattle.forms.specs.Refusals.{number_of}
use Rattle.forms.specs.declared.refusals.Refusal.{Refusal}
use Rattle.writing.specs.FormLengths.{seen, cap, plus, table, form_length_of, form_of, Ready}

pub length-entries : (xs : Attrs) → length (entries xs) ≡ 5 * count xs
unfolding enc
length-entries nil = refl
length-entries (attr n r t xs) = let ih = length-entries xs in omega arith

-- A refusal that was handed on.
pub seen-err : {A : Type 0} (r : RustResult A Refusal) (e : Refusal) → IsErrAnd r (λ d. d ≡ e) → seen r ≡ err (number_of e)
seen-err (Ok a) e h = absurd h
seen-err (Err d) e h = ap (λ (z : Refusal). err (number_of z)) h

-- A result whose length is known, and one that is refused.
module _ {A : Type 0} (w : A → List ℕ) where
  pub of-ok : (r : Result A) (x : Result ℕ) (k : ℕ) → x ≡ form_length_of w r → x ≡ ok k → (a : A) × ((r ≡ ok a) × (k ≡ cap (length (w a))))
  of-ok (ok a) x k p q = (a, (refl, cc))
  of-ok (err e) x k p q = absurd (let z : ◌≡◌ {A = ℕ} 0 1 = cc in omega arith)

  pub not_err : (r : Result A) (x : Result ℕ) (e : ℕ) → x ≡ form_length_of w r → x ≡ err e → r ≡ err e
  not_err (ok a) x e p q = absurd (let z : ◌≡◌ {A = ℕ} 0 1 = cc in omega arith)
  not_err (err d) x e p q = ap err cc

  pub of-small : (r : Result A) (x : Result ℕ) (k : ℕ) → x ≡ form_length_of w r → x ≡ ok k → k ≤ suc most_bytes
  of-small r x k p q = let s = of-ok r x k p q in omega (arith, s.1.1)

  -- Its length is exact where it is no more than the largest form.
  pub exact : (r : Result A) (x : Result ℕ) (k : ℕ) → x ≡ form_length_of w r → x ≡ ok k → k ≤ most_bytes → k ≡ length (form_of w r)
  exact r x k p q h = let s = of-ok r x k p q in omega (arith, s.1.1, ap (λ (z : Result A). length (form_of w z)) s.1.0)

  pub ready : (r : Result A) (x : Result ℕ) (k : ℕ) (o : List ℕ) → x ≡ form_length_of w r → x ≡ ok k → k ≤ most_bytes → k ≤ length o → Ready w r o
  ready r x k o p q h g =
      let s = of-ok r x k p q in
      let l : length (w s.0) ≡ k = omega (arith, s.1.1) in
      record { result = s.0; is = s.1.0; small = omega arith; room = omega arith }

-- A part that is there where the whole is.
pub bind_ok : {A B : Type 0} (r : Result A) (f : A → B) (b : B) → bind r (λ a. ok (f a)) ≡ ok b → (a : A) × ((r ≡ ok a) × (b ≡ f a))
bind_ok (ok a) f b p = (a, (refl, cc))
bind_ok (err e) f b p = absurd (let z : ◌≡◌ {A = ℕ} 0 1 = cc in omega arith)

-- A result s made of a result r: what is written of s is p and then what is written of r.
pub record Cut {A B : Type 0} (w : A → List ℕ) (v : B → List ℕ) (p : List ℕ) (r : Result A) (s : Result B) : Type 0 where
  pub make : A → B
  pub is : s ≡ bind r (λ a. ok (make a))
  pub cut : (a : A) → r ≡ ok a → v (make a) ≡ p ++ w a

-- What stands before a part adds to its length.
pub cut-length : {A B : Type 0} {w : A → List ℕ} {v : B → List ℕ} {p : List ℕ} {r : Result A} {s : Result B} → Cut w v p r s →
    (x y : Result ℕ) → x ≡ form_length_of w r → y ≡ plus (length p) x → y ≡ form_length_of v s
cut-length {w = w} {v} {p} {r} {s} k x y g h = h ∙ ap (plus (length p)) g ∙ sym (ap (form_length_of v) k.is ∙ go r k.cut)
  where
    go : (r : Result _) → ((a : _) → r ≡ ok a → v (k.make a) ≡ p ++ w a) → form_length_of v (bind r (λ a. ok (k.make a))) ≡ plus (length p) (form_length_of w r)
    go (ok a) f = ap ok (let e = ap length (f a refl) ∙ length-append p (w a) in omega (arith, e))
    go (err e) f = refl

-- An attribute before others.
abbrev pub before : ℕ → Bool → Result Ty → Result Attrs → Result Attrs
before n r c cs = bind c (λ t. bind cs (λ l. ok (attr n r t l)))

pub table-length : (n : ℕ) (r : Bool) (t : Ty) (xs : Attrs) → length (table (attr n r t xs)) ≡ length (table xs) + (length (enc t) + 5)
unfolding enc
table-length n r t xs =
    omega (arith, length-append (entries (attr n r t xs)) (bodies (attr n r t xs)), length-append (enc t) (bodies xs), length-append (entries xs) (bodies xs))

-- The loop of a length pass: `all` is to be measured, `sum` bytes are, and `ahead` is left.
pub record Summing (all ahead : Result Attrs) (sum : ℕ) : Type 0 where
  pub small : sum ≤ suc most_bytes
  pub same : form_length_of table all ≡ plus sum (form_length_of table ahead)

plus_none : (x : Result ℕ) → ((k : ℕ) → x ≡ ok k → k ≤ suc most_bytes) → x ≡ plus 0 x
plus_none (ok k) h = ap ok (omega (arith, h k refl))
plus_none (err e) h = refl

pub summing_start : (all : Result Attrs) → Summing all all 0
summing_start all = record { small = omega arith; same = plus_none (form_length_of table all) (λ k q. of-small table all (form_length_of table all) k refl q) }

module _ {all ahead : Result Attrs} {sum : ℕ} (i : Summing all ahead sum) where
  pub summing-end : ahead ≡ ok nil → ok sum ≡ form_length_of table all
  unfolding enc
  summing-end e = sym (i.same ∙ rw e (ap ok (omega (arith, i.small))))

  pub summing-err : (e : ℕ) → ahead ≡ err e → err e ≡ form_length_of table all
  summing-err e q = sym (i.same ∙ rw q refl)

  module _ (n : ℕ) (r : Bool) (c : Result Ty) (cs : Result Attrs) (e : ahead ≡ before n r c cs) (x : Result ℕ) (told : x ≡ form_length_of enc c) where
    pub summing-not : (d : ℕ) → x ≡ err d → err d ≡ form_length_of table all
    summing-not d q = summing-err d (e ∙ rw (not_err enc c x d told q) refl)

    pub summing-more : (k s : ℕ) → x ≡ ok k → s ≡ cap (sum + k + 5) → Summing all cs s
    summing-more k s q g =
        let o = of-ok enc c x k told q in
        record { small = omega arith; same = i.same ∙ rw (e, o.1.0) (go cs o.0 o.1.1) }
      where
        go : (cs : Result Attrs) (t : Ty) → k ≡ cap (length (enc t)) →
            plus sum (form_length_of table (bind cs (λ l. ok (attr n r t l)))) ≡ plus s (form_length_of table cs)
        go (ok l) t h = ap ok (omega (arith, table-length n r t l))
        go (err d) t h = refl
