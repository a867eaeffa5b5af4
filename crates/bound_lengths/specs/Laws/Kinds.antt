-- Bounds by kinds alone. Assumes nothing.
use Rattle.std.specs.Prelude.{◌≡◌, refl, Bool, true, false, not, cond, ℕ, length, zero, suc, ◌≤◌, eqb}
use Rattle.std.proofs.Common.{ap, sym, ◌∙◌, arith, rules}
use denote.Enum.Bare.{sameb, same_true}
use Rattle.forms.specs.Kinds.{kind_number}
use Rattle.forms.specs.contracts.kinds.Kind.{the_type}
use Rattle.forms.specs.declared.kinds.Kind.{Kind}
use Rattle.forms.specs.declared.kinds.Kind.TheVariants as kinds
use Rattle.forms.specs.Laws.Kinds.{kind-same}
use Rattle.forms.specs.Laws.Views.{false-not}
use Rattle.cedar.specs.Types.{Mode, is_permissive, never, true', false', bool, long, string, anyset, anyent, Ty, atom, set, rec, act, ent, ext, same, eq_flag}
use Rattle.cedar.specs.TypeForm.{enc}
use Rattle.cedar.specs.Result.{Result, ok, err}
use Rattle.cedar.specs.Subtype.{sub}
use Rattle.cedar.specs.Bound.{bound}
use Rattle.cedar.specs.Laws.DirectBound.{direct}
use Rattle.writing.specs.FormLengths.{form_length_of}
use Rattle.forms.specs.Codes.{code}
use Rattle.bound_lengths.specs.Kinds.{both_in, unlike, joined_of}

-- Kinds that are compared, by their numbers.
itself : (k : Kind) → sameb the_type k k ≡ true
itself kinds.Never = refl
itself kinds.True = refl
itself kinds.False = refl
itself kinds.Bool = refl
itself kinds.Long = refl
itself kinds.String = refl
itself kinds.AnySet = refl
itself kinds.Set = refl
itself kinds.Record = refl
itself kinds.AnyEntity = refl
itself kinds.Entity = refl
itself kinds.Action = refl
itself kinds.Extension = refl

pub eq-kind : (j k : Kind) → true ≡ sameb the_type j k → kind_number j ≡ kind_number k
eq-kind j k e = ap kind_number (same_true the_type (search rules) j k (sym e))

pub not-kind : (j k : Kind) → false ≡ sameb the_type j k → kind_number j ≡ kind_number k → ⊥
not-kind j k e h = let s = kind-same j k h in let z : false ≡ true = e ∙ ap (λ (i : Kind). sameb the_type i k) s ∙ itself k in false-not z

pub ne-kind : (j k : Kind) → true ≡ not (sameb the_type j k) → kind_number j ≡ kind_number k → ⊥
ne-kind j k e h = let s = kind-same j k h in let z : false ≡ true = sym (e ∙ ap (λ (i : Kind). not (sameb the_type i k)) s ∙ ap not (itself k)) in false-not z

-- The kind of a form that is matched, and of another that was found to have the same.
pub key : {j : Kind} {n : ℕ} (k : Kind) → kind_number j ≡ n → j ≡ k → n ≡ kind_number k
key k e f = sym e ∙ ap kind_number f

pub key-too : (j j' : Kind) {n : ℕ} (k : Kind) → kind_number j' ≡ n → false ≡ not (sameb the_type j j') → j ≡ k → n ≡ kind_number k
key-too j j' k e g f = sym e ∙ sym (eq-kind j j' (go (sameb the_type j j') g)) ∙ ap kind_number f
  where
    go : (x : Bool) → false ≡ not x → true ≡ x
    go true h = refl
    go false h = sym h

pub same-kind : (j k : Kind) {n m : ℕ} → kind_number j ≡ n → kind_number k ≡ m → false ≡ not (sameb the_type j k) → n ≡ m
same-kind j k e f g = sym (key-too j k j f g refl ∙ e)

pub other-kind : (j k : Kind) {n m : ℕ} → kind_number j ≡ n → kind_number k ≡ m → true ≡ not (sameb the_type j k) → n ≡ m → ⊥
other-kind j k e f g h = ne-kind j k g (e ∙ h ∙ sym f)

pub not-key : (j k : Kind) {n : ℕ} → kind_number j ≡ n → (j ≡ k → ⊥) → n ≡ kind_number k → ⊥
not-key j k e h f = h (kind-same j k (e ∙ f))

-- A bound by kinds is one byte long.
one_byte : (m : Mode) (j k : ℕ) (t : Ty) → unlike m j k ≡ ok t → length (enc t) ≡ 1
unfolding enc
one_byte m j k t e = go (both_in 1 3 j k) (both_in 6 7 j k) (both_in 9 11 j k) (both_in 8 11 j k) (is_permissive m) e
  where
    go : (a b c d p : Bool) → cond a (ok (atom bool)) (cond b (ok (atom anyset)) (cond c (cond p (ok (atom anyent)) (err 13)) (cond d (err 14) (err 15)))) ≡ ok
        t → length (enc t) ≡ 1
    go true b c d p e = let z : atom bool ≡ t = cc in rw (← z) refl
    go false true c d p e = let z : atom anyset ≡ t = cc in rw (← z) refl
    go false false true d true e = let z : atom anyent ≡ t = cc in rw (← z) refl
    go false false true d false e = absurd (let z : ◌≡◌ {A = ℕ} 0 1 = cc in omega arith)
    go false false false true p e = absurd (let z : ◌≡◌ {A = ℕ} 0 1 = cc in omega arith)
    go false false false false p e = absurd (let z : ◌≡◌ {A = ℕ} 0 1 = cc in omega arith)

module _ (m : Mode) (j k : ℕ) (x : Result ℕ) (told : x ≡ joined_of (unlike m j k)) where
  pub unlike-of : (b : ℕ) → x ≡ ok b → (t : Ty) × ((unlike m j k ≡ ok t) × ((b ≡ code t) × (length (enc t) ≡ 1)))
  unlike-of b q = go (unlike m j k) refl told
    where
      go : (r : Result Ty) → unlike m j k ≡ r → x ≡ joined_of r → (t : Ty) × ((unlike m j k ≡ ok t) × ((b ≡ code t) × (length (enc t) ≡ 1)))
      go (ok t) e f = (t, (e, (cc, one_byte m j k t e)))
      go (err d) e f = absurd (let z : ◌≡◌ {A = ℕ} 0 1 = cc in omega arith)

  pub unlike-one : (b : ℕ) → x ≡ ok b → ok 1 ≡ form_length_of enc (unlike m j k)
  unlike-one b q = let t = unlike-of b q in rw (t.1.0, t.1.1.1) refl

  pub unlike-not : (d : ℕ) → x ≡ err d → err d ≡ form_length_of enc (unlike m j k)
  unlike-not d q = go (unlike m j k) told
    where
      go : (r : Result Ty) → x ≡ joined_of r → err d ≡ form_length_of enc r
      go (ok t) f = absurd (let z : ◌≡◌ {A = ℕ} 0 1 = cc in omega arith)
      go (err e) f = ap err cc

twice : (p : Bool) (a b : Result Ty) → cond p a (cond p a b) ≡ cond p a b
twice true a b = refl
twice false a b = refl

-- Two types of unlike kinds, neither of them Never.
pub unlike-is : (m : Mode) (u v : Ty) → (code u ≡ code v → ⊥) → (code u ≡ 0 → ⊥) → (code v ≡ 0 → ⊥) → direct m u v ≡ unlike m (code u) (code v)
unfolding direct bound sub same
unlike-is m (atom never) (atom never) h p q = absurd (p refl)
unlike-is m (atom never) (atom true') h p q = absurd (p refl)
unlike-is m (atom never) (atom false') h p q = absurd (p refl)
unlike-is m (atom never) (atom bool) h p q = absurd (p refl)
unlike-is m (atom never) (atom long) h p q = absurd (p refl)
unlike-is m (atom never) (atom string) h p q = absurd (p refl)
unlike-is m (atom never) (atom anyset) h p q = absurd (p refl)
unlike-is m (atom never) (atom anyent) h p q = absurd (p refl)
unlike-is m (atom never) (set t') h p q = absurd (p refl)
unlike-is m (atom never) (rec o' xs') h p q = absurd (p refl)
unlike-is m (atom never) (act n' xs') h p q = absurd (p refl)
unlike-is m (atom never) (ent ns') h p q = absurd (p refl)
unlike-is m (atom never) (ext n') h p q = absurd (p refl)
unlike-is m (atom true') (atom never) h p q = absurd (q refl)
unlike-is m (atom true') (atom true') h p q = absurd (h refl)
unlike-is m (atom true') (atom false') h p q = refl
unlike-is m (atom true') (atom bool) h p q = refl
unlike-is m (atom true') (atom long) h p q = refl
unlike-is m (atom true') (atom string) h p q = refl
unlike-is m (atom true') (atom anyset) h p q = refl
unlike-is m (atom true') (atom anyent) h p q = refl
unlike-is m (atom true') (set t') h p q = refl
unlike-is m (atom true') (rec o' xs') h p q = refl
unlike-is m (atom true') (act n' xs') h p q = refl
unlike-is m (atom true') (ent ns') h p q = refl
unlike-is m (atom true') (ext n') h p q = refl
unlike-is m (atom false') (atom never) h p q = absurd (q refl)
unlike-is m (atom false') (atom true') h p q = refl
unlike-is m (atom false') (atom false') h p q = absurd (h refl)
unlike-is m (atom false') (atom bool) h p q = refl
unlike-is m (atom false') (atom long) h p q = refl
unlike-is m (atom false') (atom string) h p q = refl
unlike-is m (atom false') (atom anyset) h p q = refl
unlike-is m (atom false') (atom anyent) h p q = refl
unlike-is m (atom false') (set t') h p q = refl
unlike-is m (atom false') (rec o' xs') h p q = refl
unlike-is m (atom false') (act n' xs') h p q = refl
unlike-is m (atom false') (ent ns') h p q = refl
unlike-is m (atom false') (ext n') h p q = refl
unlike-is m (atom bool) (atom never) h p q = absurd (q refl)
unlike-is m (atom bool) (atom true') h p q = refl
unlike-is m (atom bool) (atom false') h p q = refl
unlike-is m (atom bool) (atom bool) h p q = absurd (h refl)
unlike-is m (atom bool) (atom long) h p q = refl
unlike-is m (atom bool) (atom string) h p q = refl
unlike-is m (atom bool) (atom anyset) h p q = refl
unlike-is m (atom bool) (atom anyent) h p q = refl
unlike-is m (atom bool) (set t') h p q = refl
unlike-is m (atom bool) (rec o' xs') h p q = refl
unlike-is m (atom bool) (act n' xs') h p q = refl
unlike-is m (atom bool) (ent ns') h p q = refl
unlike-is m (atom bool) (ext n') h p q = refl
unlike-is m (atom long) (atom never) h p q = absurd (q refl)
unlike-is m (atom long) (atom true') h p q = refl
unlike-is m (atom long) (atom false') h p q = refl
unlike-is m (atom long) (atom bool) h p q = refl
unlike-is m (atom long) (atom long) h p q = absurd (h refl)
unlike-is m (atom long) (atom string) h p q = refl
unlike-is m (atom long) (atom anyset) h p q = refl
unlike-is m (atom long) (atom anyent) h p q = refl
unlike-is m (atom long) (set t') h p q = refl
unlike-is m (atom long) (rec o' xs') h p q = refl
unlike-is m (atom long) (act n' xs') h p q = refl
unlike-is m (atom long) (ent ns') h p q = refl
unlike-is m (atom long) (ext n') h p q = refl
unlike-is m (atom string) (atom never) h p q = absurd (q refl)
unlike-is m (atom string) (atom true') h p q = refl
unlike-is m (atom string) (atom false') h p q = refl
unlike-is m (atom string) (atom bool) h p q = refl
unlike-is m (atom string) (atom long) h p q = refl
unlike-is m (atom string) (atom string) h p q = absurd (h refl)
unlike-is m (atom string) (atom anyset) h p q = refl
unlike-is m (atom string) (atom anyent) h p q = refl
unlike-is m (atom string) (set t') h p q = refl
unlike-is m (atom string) (rec o' xs') h p q = refl
unlike-is m (atom string) (act n' xs') h p q = refl
unlike-is m (atom string) (ent ns') h p q = refl
unlike-is m (atom string) (ext n') h p q = refl
unlike-is m (atom anyset) (atom never) h p q = absurd (q refl)
unlike-is m (atom anyset) (atom true') h p q = refl
unlike-is m (atom anyset) (atom false') h p q = refl
unlike-is m (atom anyset) (atom bool) h p q = refl
unlike-is m (atom anyset) (atom long) h p q = refl
unlike-is m (atom anyset) (atom string) h p q = refl
unlike-is m (atom anyset) (atom anyset) h p q = absurd (h refl)
unlike-is m (atom anyset) (atom anyent) h p q = refl
unlike-is m (atom anyset) (set t') h p q = refl
unlike-is m (atom anyset) (rec o' xs') h p q = refl
unlike-is m (atom anyset) (act n' xs') h p q = refl
unlike-is m (atom anyset) (ent ns') h p q = refl
unlike-is m (atom anyset) (ext n') h p q = refl
unlike-is m (atom anyent) (atom never) h p q = absurd (q refl)
unlike-is m (atom anyent) (atom true') h p q = refl
unlike-is m (atom anyent) (atom false') h p q = refl
unlike-is m (atom anyent) (atom bool) h p q = refl
unlike-is m (atom anyent) (atom long) h p q = refl
unlike-is m (atom anyent) (atom string) h p q = refl
unlike-is m (atom anyent) (atom anyset) h p q = refl
unlike-is m (atom anyent) (atom anyent) h p q = absurd (h refl)
unlike-is m (atom anyent) (set t') h p q = refl
unlike-is m (atom anyent) (rec o' xs') h p q = refl
unlike-is m (atom anyent) (act n' xs') h p q = twice (is_permissive m) (ok (atom anyent)) (err 13)
unlike-is m (atom anyent) (ent ns') h p q = twice (is_permissive m) (ok (atom anyent)) (err 13)
unlike-is m (atom anyent) (ext n') h p q = refl
unlike-is m (set t) (atom never) h p q = absurd (q refl)
unlike-is m (set t) (atom true') h p q = refl
unlike-is m (set t) (atom false') h p q = refl
unlike-is m (set t) (atom bool) h p q = refl
unlike-is m (set t) (atom long) h p q = refl
unlike-is m (set t) (atom string) h p q = refl
unlike-is m (set t) (atom anyset) h p q = refl
unlike-is m (set t) (atom anyent) h p q = refl
unlike-is m (set t) (set t') h p q = absurd (h refl)
unlike-is m (set t) (rec o' xs') h p q = refl
unlike-is m (set t) (act n' xs') h p q = refl
unlike-is m (set t) (ent ns') h p q = refl
unlike-is m (set t) (ext n') h p q = refl
unlike-is m (rec o xs) (atom never) h p q = absurd (q refl)
unlike-is m (rec o xs) (atom true') h p q = refl
unlike-is m (rec o xs) (atom false') h p q = refl
unlike-is m (rec o xs) (atom bool) h p q = refl
unlike-is m (rec o xs) (atom long) h p q = refl
unlike-is m (rec o xs) (atom string) h p q = refl
unlike-is m (rec o xs) (atom anyset) h p q = refl
unlike-is m (rec o xs) (atom anyent) h p q = refl
unlike-is m (rec o xs) (set t') h p q = refl
unlike-is m (rec o xs) (rec o' xs') h p q = absurd (h refl)
unlike-is m (rec o xs) (act n' xs') h p q = refl
unlike-is m (rec o xs) (ent ns') h p q = refl
unlike-is m (rec o xs) (ext n') h p q = refl
unlike-is m (act n xs) (atom never) h p q = absurd (q refl)
unlike-is m (act n xs) (atom true') h p q = refl
unlike-is m (act n xs) (atom false') h p q = refl
unlike-is m (act n xs) (atom bool) h p q = refl
unlike-is m (act n xs) (atom long) h p q = refl
unlike-is m (act n xs) (atom string) h p q = refl
unlike-is m (act n xs) (atom anyset) h p q = refl
unlike-is m (act n xs) (atom anyent) h p q = twice (is_permissive m) (ok (atom anyent)) (err 13)
unlike-is m (act n xs) (set t') h p q = refl
unlike-is m (act n xs) (rec o' xs') h p q = refl
unlike-is m (act n xs) (act n' xs') h p q = absurd (h refl)
unlike-is m (act n xs) (ent ns') h p q = refl
unlike-is m (act n xs) (ext n') h p q = refl
unlike-is m (ent ns) (atom never) h p q = absurd (q refl)
unlike-is m (ent ns) (atom true') h p q = refl
unlike-is m (ent ns) (atom false') h p q = refl
unlike-is m (ent ns) (atom bool) h p q = refl
unlike-is m (ent ns) (atom long) h p q = refl
unlike-is m (ent ns) (atom string) h p q = refl
unlike-is m (ent ns) (atom anyset) h p q = refl
unlike-is m (ent ns) (atom anyent) h p q = twice (is_permissive m) (ok (atom anyent)) (err 13)
unlike-is m (ent ns) (set t') h p q = refl
unlike-is m (ent ns) (rec o' xs') h p q = refl
unlike-is m (ent ns) (act n' xs') h p q = refl
unlike-is m (ent ns) (ent ns') h p q = absurd (h refl)
unlike-is m (ent ns) (ext n') h p q = refl
unlike-is m (ext n) (atom never) h p q = absurd (q refl)
unlike-is m (ext n) (atom true') h p q = refl
unlike-is m (ext n) (atom false') h p q = refl
unlike-is m (ext n) (atom bool) h p q = refl
unlike-is m (ext n) (atom long) h p q = refl
unlike-is m (ext n) (atom string) h p q = refl
unlike-is m (ext n) (atom anyset) h p q = refl
unlike-is m (ext n) (atom anyent) h p q = refl
unlike-is m (ext n) (set t') h p q = refl
unlike-is m (ext n) (rec o' xs') h p q = refl
unlike-is m (ext n) (act n' xs') h p q = refl
unlike-is m (ext n) (ent ns') h p q = refl
unlike-is m (ext n) (ext n') h p q = absurd (h refl)

-- Flags.
pub flags-same : (a b : ℕ) → a ≡ b → eq_flag (eqb a 1) (eqb b 1) ≡ true
flags-same a b e = rw e (go (eqb b 1))
  where
    go : (x : Bool) → eq_flag x x ≡ true
    go true = refl
    go false = refl

pub flags-other : (a b : ℕ) → a ≤ 1 → b ≤ 1 → (a ≡ b → ⊥) → eq_flag (eqb a 1) (eqb b 1) ≡ false
flags-other zero zero p q h = absurd (h refl)
flags-other zero (suc zero) p q h = refl
flags-other (suc zero) zero p q h = refl
flags-other (suc zero) (suc zero) p q h = absurd (h refl)
flags-other zero (suc (suc b)) p q h = absurd (omega arith)
flags-other (suc zero) (suc (suc b)) p q h = absurd (omega arith)
flags-other (suc (suc a)) b p q h = absurd (omega arith)
