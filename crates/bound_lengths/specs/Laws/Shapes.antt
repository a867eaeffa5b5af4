-- Forms of unlike shapes say types of unlike kinds. Assumes nothing.
use Rattle.std.specs.Prelude.{◌≡◌, refl, Bool, ℕ, zero, suc, List, cond, eqb}
use Rattle.std.specs.Borrow.{Bor}
use Rattle.std.proofs.Common.{ap, sym, subst, ◌∙◌}
use Rattle.cedar.specs.Types.{never, true', false', bool, long, string, anyset, anyent, Ty, atom, set, rec, act, ent, ext}
use Rattle.forms.specs.Codes.{code}
use Rattle.forms.specs.TypeForms.{type_of, Shaped}
use Rattle.forms.specs.declared.kinds.Kind.{Kind}
use Rattle.forms.specs.declared.type_forms.TypeForm.{TypeForm}
use Rattle.forms.specs.declared.type_forms.AttributeForms.{AttributeForms}
use Rattle.forms.specs.declared.type_forms.Shape.{Shape}
use Rattle.forms.specs.declared.type_forms.Shape.TheVariants as shape

-- Which of the six a shape is, which a type is, and which a first byte says.
abbrev pub sort : Shape → ℕ
sort (shape.Plain k) = 0
sort (shape.Set x) = 1
sort (shape.Record o xs) = 2
sort (shape.Entity ns) = 3
sort (shape.Action n xs) = 4
sort (shape.Extension n) = 5

abbrev sort_of : Ty → ℕ
sort_of (atom k) = 0
sort_of (set t) = 1
sort_of (rec o xs) = 2
sort_of (ent ns) = 3
sort_of (act n xs) = 4
sort_of (ext n) = 5

abbrev sort_at : ℕ → ℕ
sort_at n = cond (eqb n 7) 1 (cond (eqb n 8) 2 (cond (eqb n 10) 3 (cond (eqb n 11) 4 (cond (eqb n 12) 5 0))))

sort-code : (t : Ty) → sort_at (code t) ≡ sort_of t
sort-code (atom never) = refl
sort-code (atom true') = refl
sort-code (atom false') = refl
sort-code (atom bool) = refl
sort-code (atom long) = refl
sort-code (atom string) = refl
sort-code (atom anyset) = refl
sort-code (atom anyent) = refl
sort-code (set t) = refl
sort-code (rec o xs) = refl
sort-code (ent ns) = refl
sort-code (act n xs) = refl
sort-code (ext n) = refl

sort-shaped : (t : TypeForm) (s : Shape) → Shaped t s → sort_of (type_of t) ≡ sort s
sort-shaped t (shape.Plain k) p = ap sort_of p.is
sort-shaped t (shape.Set x) p = ap sort_of p.0
sort-shaped t (shape.Record o xs) p = ap sort_of p.0
sort-shaped t (shape.Entity ns) p = ap sort_of p.0
sort-shaped t (shape.Action n xs) p = ap sort_of p.0
sort-shaped t (shape.Extension n) p = ap sort_of p.0

-- A shape of a sort, with its parts.
abbrev pub IsOf : ℕ → Shape → Type 0
IsOf zero s = (k : Kind) × (s ≡ shape.Plain k)
IsOf (suc zero) s = (x : TypeForm) × (s ≡ shape.Set x)
IsOf (suc (suc zero)) s = (o : Bool) × ((xs : AttributeForms) × (s ≡ shape.Record o xs))
IsOf (suc (suc (suc zero))) s = (ns : Bor (List ℕ)) × (s ≡ shape.Entity ns)
IsOf (suc (suc (suc (suc zero)))) s = (n : ℕ) × ((xs : AttributeForms) × (s ≡ shape.Action n xs))
IsOf (suc (suc (suc (suc (suc j))))) s = (n : ℕ) × (s ≡ shape.Extension n)

parts : (s : Shape) → IsOf (sort s) s
parts (shape.Plain k) = (k, refl)
parts (shape.Set x) = (x, refl)
parts (shape.Record o xs) = (o, (xs, refl))
parts (shape.Entity ns) = (ns, refl)
parts (shape.Action n xs) = (n, (xs, refl))
parts (shape.Extension n) = (n, refl)

-- Two forms, where the first is of a sort that the second is not of.
pub codes-apart : (a b : TypeForm) (s r : Shape) → Shaped a s → Shaped b r → (j : ℕ) → sort s ≡ j → (IsOf j r → ⊥) → code (type_of a) ≡ code (type_of b) → ⊥
codes-apart a b s r p q j e h z =
    let same : sort r ≡ j = sym (sym (sort-code (type_of a)) ∙ ap sort_at z ∙ sort-code (type_of b) ∙ sort-shaped b r q) ∙ sort-shaped a s p ∙ e in
    h (subst (λ (i : ℕ). IsOf i r) same (parts r))
