-- Laws of the kinds of value that a type takes. Assumes nothing.
use Rattle.std.specs.Prelude.{◌≡◌, refl, false, List, ℕ, zero, suc, ◌<◌}
use Rattle.cedar.specs.Types.{Atom, never, true', false', bool, long, string, anyset, anyent, Value}
use Rattle.cedar.specs.ValueForm.{value_kind}
use Rattle.cedar.specs.Conformance.{of_atom}
use Rattle.conformance.specs.Kinds.{atom_takes, takes}
use Rattle.forms.specs.ValueBytes.{dec_v_as}
use Rattle.conformance.specs.Laws.Tables.{by-table}

-- Never and what is no kind take none.
pub takes-rest : (k j : ℕ) → (k ≡ 1 → ⊥) → (k ≡ 2 → ⊥) → (k ≡ 3 → ⊥) → (k ≡ 4 → ⊥) → (k ≡ 5 → ⊥) → (k ≡ 6 → ⊥) → (k ≡ 7 → ⊥) → (k ≡ 8 → ⊥) → (k ≡ 9 → ⊥) →
    (k ≡ 10 → ⊥) → (k ≡ 11 → ⊥) → (k ≡ 12 → ⊥) → false ≡ takes k j
takes-rest zero j p1 p2 p3 p4 p5 p6 p7 p8 p9 p10 p11 p12 = refl
takes-rest (suc zero) j p1 p2 p3 p4 p5 p6 p7 p8 p9 p10 p11 p12 = absurd (p1 refl)
takes-rest (suc (suc zero)) j p1 p2 p3 p4 p5 p6 p7 p8 p9 p10 p11 p12 = absurd (p2 refl)
takes-rest (suc (suc (suc zero))) j p1 p2 p3 p4 p5 p6 p7 p8 p9 p10 p11 p12 = absurd (p3 refl)
takes-rest (suc (suc (suc (suc zero)))) j p1 p2 p3 p4 p5 p6 p7 p8 p9 p10 p11 p12 = absurd (p4 refl)
takes-rest (suc (suc (suc (suc (suc zero))))) j p1 p2 p3 p4 p5 p6 p7 p8 p9 p10 p11 p12 = absurd (p5 refl)
takes-rest (suc (suc (suc (suc (suc (suc zero)))))) j p1 p2 p3 p4 p5 p6 p7 p8 p9 p10 p11 p12 = absurd (p6 refl)
takes-rest (suc (suc (suc (suc (suc (suc (suc zero))))))) j p1 p2 p3 p4 p5 p6 p7 p8 p9 p10 p11 p12 = absurd (p7 refl)
takes-rest (suc (suc (suc (suc (suc (suc (suc (suc zero)))))))) j p1 p2 p3 p4 p5 p6 p7 p8 p9 p10 p11 p12 = absurd (p8 refl)
takes-rest (suc (suc (suc (suc (suc (suc (suc (suc (suc zero))))))))) j p1 p2 p3 p4 p5 p6 p7 p8 p9 p10 p11 p12 = absurd (p9 refl)
takes-rest (suc (suc (suc (suc (suc (suc (suc (suc (suc (suc zero)))))))))) j p1 p2 p3 p4 p5 p6 p7 p8 p9 p10 p11 p12 = absurd (p10 refl)
takes-rest (suc (suc (suc (suc (suc (suc (suc (suc (suc (suc (suc zero))))))))))) j p1 p2 p3 p4 p5 p6 p7 p8 p9 p10 p11 p12 = absurd (p11 refl)
takes-rest (suc (suc (suc (suc (suc (suc (suc (suc (suc (suc (suc (suc zero)))))))))))) j p1 p2 p3 p4 p5 p6 p7 p8 p9 p10 p11 p12 = absurd (p12 refl)
takes-rest (suc (suc (suc (suc (suc (suc (suc (suc (suc (suc (suc (suc (suc k))))))))))))) j p1 p2 p3 p4 p5 p6 p7 p8 p9 p10 p11 p12 = refl

-- A value of the kind j is of an atom just where the atom takes the kind.
pub atom-takes : (d : List ℕ → Value) (b : List ℕ) (a : Atom) (j : ℕ) → j < 8 → of_atom a (dec_v_as d (value_kind j) b) ≡ atom_takes a j
atom-takes d b never j h = refl
atom-takes d b true' j h = by-table (λ i. of_atom true' (dec_v_as d (value_kind i) b)) (atom_takes true') 8 refl j h
atom-takes d b false' j h = by-table (λ i. of_atom false' (dec_v_as d (value_kind i) b)) (atom_takes false') 8 refl j h
atom-takes d b bool j h = by-table (λ i. of_atom bool (dec_v_as d (value_kind i) b)) (atom_takes bool) 8 refl j h
atom-takes d b long j h = by-table (λ i. of_atom long (dec_v_as d (value_kind i) b)) (atom_takes long) 8 refl j h
atom-takes d b string j h = by-table (λ i. of_atom string (dec_v_as d (value_kind i) b)) (atom_takes string) 8 refl j h
atom-takes d b anyset j h = by-table (λ i. of_atom anyset (dec_v_as d (value_kind i) b)) (atom_takes anyset) 8 refl j h
atom-takes d b anyent j h = by-table (λ i. of_atom anyent (dec_v_as d (value_kind i) b)) (atom_takes anyent) 8 refl j h
