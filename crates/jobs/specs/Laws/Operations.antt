-- Laws of the numbers of operations. Assumes nothing.
use Rattle.std.specs.Prelude.{◌≡◌, [], ◌∷◌, true, ℕ, zero, suc, ◌≤◌, ◌<◌, leb, refl, false}
use Rattle.std.proofs.Math.Option.{none, some}
use Rattle.std.proofs.Common.{arith, zero-le}
use Rattle.std.proofs.Math.Decide.{dec_le}
use Rattle.std.proofs.Math.ListN.{get_or-eq_default}
use Rattle.std.proofs.lemmas.Bool.{lt-leb}
use Rattle.cedar.specs.JobForm.{Operation, subtype_op, bound_op, disjoint_op, lookup_op, may_have_op, names_op, consistent_op, convert_op, conforms_op, fold_op, literal_op, full_op}
use Rattle.cedar.specs.JobForm.{operation_of, takes_mode, takes_attribute, takes_second}
use Rattle.forms.specs.Laws.Sure.{Sure, sure-some-of}
use Rattle.jobs.specs.JobBytes.{last_operation, op_of}

-- What holds of each operation's number holds of every number up to the last.
each : (P : ℕ → Type 0) → P 0 → P 1 → P 2 → P 3 → P 4 → P 5 → P 6 → P 7 → P 8 → P 9 → P 10 → P 11 → (k : ℕ) → k ≤ last_operation → P k
each P p0 p1 p2 p3 p4 p5 p6 p7 p8 p9 p10 p11 zero h = p0
each P p0 p1 p2 p3 p4 p5 p6 p7 p8 p9 p10 p11 (suc zero) h = p1
each P p0 p1 p2 p3 p4 p5 p6 p7 p8 p9 p10 p11 (suc (suc zero)) h = p2
each P p0 p1 p2 p3 p4 p5 p6 p7 p8 p9 p10 p11 (suc (suc (suc zero))) h = p3
each P p0 p1 p2 p3 p4 p5 p6 p7 p8 p9 p10 p11 (suc (suc (suc (suc zero)))) h = p4
each P p0 p1 p2 p3 p4 p5 p6 p7 p8 p9 p10 p11 (suc (suc (suc (suc (suc zero))))) h = p5
each P p0 p1 p2 p3 p4 p5 p6 p7 p8 p9 p10 p11 (suc (suc (suc (suc (suc (suc zero)))))) h = p6
each P p0 p1 p2 p3 p4 p5 p6 p7 p8 p9 p10 p11 (suc (suc (suc (suc (suc (suc (suc zero))))))) h = p7
each P p0 p1 p2 p3 p4 p5 p6 p7 p8 p9 p10 p11 (suc (suc (suc (suc (suc (suc (suc (suc zero)))))))) h = p8
each P p0 p1 p2 p3 p4 p5 p6 p7 p8 p9 p10 p11 (suc (suc (suc (suc (suc (suc (suc (suc (suc zero))))))))) h = p9
each P p0 p1 p2 p3 p4 p5 p6 p7 p8 p9 p10 p11 (suc (suc (suc (suc (suc (suc (suc (suc (suc (suc zero)))))))))) h = p10
each P p0 p1 p2 p3 p4 p5 p6 p7 p8 p9 p10 p11 (suc (suc (suc (suc (suc (suc (suc (suc (suc (suc (suc zero))))))))))) h = p11
each P p0 p1 p2 p3 p4 p5 p6 p7 p8 p9 p10 p11 (suc (suc (suc (suc (suc (suc (suc (suc (suc (suc (suc (suc k)))))))))))) h = absurd (omega arith)

-- Those that take no mode, no attribute, no second body.
pub mode-not : (k : ℕ) → k ≤ last_operation → (k ≡ 0 → ⊥) → (k ≡ 1 → ⊥) → (k ≡ 9 → ⊥) → false ≡ takes_mode (op_of k)
mode-not k h = each (λ k. (k ≡ 0 → ⊥) → (k ≡ 1 → ⊥) → (k ≡ 9 → ⊥) → false ≡ takes_mode (op_of k))
    (λ a b c. absurd (a refl)) (λ a b c. absurd (b refl)) (λ a b c. refl) (λ a b c. refl) (λ a b c. refl) (λ a b c. refl)
    (λ a b c. refl) (λ a b c. refl) (λ a b c. refl) (λ a b c. absurd (c refl)) (λ a b c. refl) (λ a b c. refl) k h

pub attribute-not : (k : ℕ) → k ≤ last_operation → (k ≡ 3 → ⊥) → (k ≡ 4 → ⊥) → false ≡ takes_attribute (op_of k)
attribute-not k h = each (λ k. (k ≡ 3 → ⊥) → (k ≡ 4 → ⊥) → false ≡ takes_attribute (op_of k))
    (λ a b. refl) (λ a b. refl) (λ a b. refl) (λ a b. absurd (a refl)) (λ a b. absurd (b refl)) (λ a b. refl)
    (λ a b. refl) (λ a b. refl) (λ a b. refl) (λ a b. refl) (λ a b. refl) (λ a b. refl) k h

pub second-not : (k : ℕ) → k ≤ last_operation → (k ≡ 0 → ⊥) → (k ≡ 1 → ⊥) → (k ≡ 2 → ⊥) → (k ≡ 6 → ⊥) → (k ≡ 8 → ⊥) → (k ≡ 11 → ⊥) → false ≡ takes_second (op_of k)
second-not k h = each (λ k. (k ≡ 0 → ⊥) → (k ≡ 1 → ⊥) → (k ≡ 2 → ⊥) → (k ≡ 6 → ⊥) → (k ≡ 8 → ⊥) → (k ≡ 11 → ⊥) → false ≡ takes_second (op_of k))
    (λ a b c d e f. absurd (a refl)) (λ a b c d e f. absurd (b refl)) (λ a b c d e f. absurd (c refl)) (λ a b c d e f. refl) (λ a b c d e f. refl)
    (λ a b c d e f. refl) (λ a b c d e f. absurd (d refl)) (λ a b c d e f. refl) (λ a b c d e f. absurd (e refl)) (λ a b c d e f. refl)
    (λ a b c d e f. refl) (λ a b c d e f. absurd (f refl)) k h

over_none : (k : ℕ) → last_operation < k → operation_of k ≡ none
over_none k h =
    get_or-eq_default (some subtype_op ∷ some bound_op ∷ some disjoint_op ∷ some lookup_op ∷ some may_have_op ∷ some names_op ∷ some consistent_op ∷ some
    convert_op ∷ some conforms_op ∷ some fold_op ∷ some literal_op ∷ some full_op ∷ []) none h

-- A number has an operation just where it is not past the last.
pub operation-to : (k : ℕ) → Sure (operation_of k) (leb k last_operation) (op_of k)
operation-to k = go (dec_le k last_operation)
  where
    is : (o : Operation) → Sure (some o) true o
    is o = sure-some-of o

    go : Dec (k ≤ last_operation) → Sure (operation_of k) (leb k last_operation) (op_of k)
    go (yes h) =
        each (λ k. Sure (operation_of k) (leb k last_operation) (op_of k)) (is subtype_op) (is bound_op) (is disjoint_op) (is lookup_op) (is may_have_op) (is names_op)
        (is consistent_op) (is convert_op) (is conforms_op) (is fold_op) (is literal_op) (is full_op) k h
    go (no h) = record { is = rw (lt-leb k last_operation (omega arith)) (over_none k (omega arith)) }

-- A number up to the last that is none of the others is full conformance's.
past : {k n : ℕ} → n ≤ k → (k ≡ n → ⊥) → suc n ≤ k
past h p = omega arith

pub full_is : (k : ℕ) → k ≤ last_operation → (k ≡ 0 → ⊥) → (k ≡ 1 → ⊥) → (k ≡ 2 → ⊥) → (k ≡ 3 → ⊥) → (k ≡ 4 → ⊥) → (k ≡ 5 → ⊥) → (k ≡ 6 → ⊥) → (k ≡ 7 → ⊥) →
    (k ≡ 8 → ⊥) → (k ≡ 9 → ⊥) → (k ≡ 10 → ⊥) → op_of k ≡ full_op
full_is k h p0 p1 p2 p3 p4 p5 p6 p7 p8 p9 p10 =
    eleven (past (past (past (past (past (past (past (past (past (past (past zero-le p0) p1) p2) p3) p4) p5) p6) p7) p8) p9) p10)
  where
    eleven : 11 ≤ k → op_of k ≡ full_op
    eleven g = let e : k ≡ 11 = omega arith in rw e refl
