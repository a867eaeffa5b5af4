-- `enc_job` and `parse_job` are inverse.
use Rattle.std.specs.Prelude.{ℕ, zero, suc, ◌+◌, ◌*◌, ◌-◌, ◌≤◌, List, [], ◌∷◌, ◌++◌, ◌&&◌, ◌≡◌, refl, T, leb, length, take, drop}
use Rattle.std.proofs.Math.Nat.{mod-add-div'}
use Rattle.std.proofs.Common.{arith, append-nil, sym, ap, ap₂, ◌∙◌, subst, leb→le, le→leb, length-append, take-append-drop, drop_at, take_at, length-take-le}
use Rattle.std.proofs.Math.Option.{some, some-injective}
use Rattle.std.proofs.Math.Seq.{take-append_seam, drop-append_seam}
use Rattle.cedar.specs.Bytes.{u16, ◌>>=◌, guard, byte, word, finish, Bytes}
use Rattle.cedar.specs.Table.{rows}
use Rattle.cedar.specs.JobForm.{Operation, subtype_op, bound_op, disjoint_op, lookup_op, may_have_op, names_op, consistent_op, convert_op, conforms_op, fold_op}
use Rattle.cedar.specs.JobForm.{literal_op, full_op, operation_of}
use Rattle.cedar.specs.JobForm.{takes_mode, takes_attribute, takes_second, Question, taken_or_zero, read_question, any_question, split_bodies, Job, parse_job}
use Rattle.cedar.proofs.Laws.Encoders.{heads, tails, operation_code, write_question, join_bodies, enc_job}
use Rattle.cedar.proofs.Laws.Tests.{T_and, and_T, none-some}
use Rattle.cedar.proofs.Laws.Bytes.{Reads, Bytes-drop, bind-some, bind-at, guard-some, guard-yes, finish-some, byte-some, word_some}
use Rattle.cedar.proofs.Laws.Table.{ReadsEntry, Follow, rows-some, rows-enc, length-heads}

operation_of-code : (o : Operation) → operation_of (operation_code o) ≡ some o
operation_of-code subtype_op = refl
operation_of-code bound_op = refl
operation_of-code disjoint_op = refl
operation_of-code lookup_op = refl
operation_of-code may_have_op = refl
operation_of-code names_op = refl
operation_of-code consistent_op = refl
operation_of-code convert_op = refl
operation_of-code conforms_op = refl
operation_of-code fold_op = refl
operation_of-code literal_op = refl
operation_of-code full_op = refl

code_of : (k : ℕ) (o p : Operation) → some p ≡ some o → operation_code p ≡ k → operation_code o ≡ k
code_of k o p e q = ap operation_code (sym (some-injective _ _ e)) ∙ q

operation_code-of : (k : ℕ) (o : Operation) → operation_of k ≡ some o → operation_code o ≡ k
operation_code-of zero o e = code_of 0 o subtype_op e refl
operation_code-of (suc zero) o e = code_of 1 o bound_op e refl
operation_code-of (suc (suc zero)) o e = code_of 2 o disjoint_op e refl
operation_code-of (suc (suc (suc zero))) o e = code_of 3 o lookup_op e refl
operation_code-of (suc (suc (suc (suc zero)))) o e = code_of 4 o may_have_op e refl
operation_code-of (suc (suc (suc (suc (suc zero))))) o e = code_of 5 o names_op e refl
operation_code-of (suc (suc (suc (suc (suc (suc zero)))))) o e = code_of 6 o consistent_op e refl
operation_code-of (suc (suc (suc (suc (suc (suc (suc zero))))))) o e = code_of 7 o convert_op e refl
operation_code-of (suc (suc (suc (suc (suc (suc (suc (suc zero)))))))) o e = code_of 8 o conforms_op e refl
operation_code-of (suc (suc (suc (suc (suc (suc (suc (suc (suc zero))))))))) o e = code_of 9 o fold_op e refl
operation_code-of (suc (suc (suc (suc (suc (suc (suc (suc (suc (suc zero)))))))))) o e = code_of 10 o literal_op e refl
operation_code-of (suc (suc (suc (suc (suc (suc (suc (suc (suc (suc (suc zero))))))))))) o e = code_of 11 o full_op e refl
operation_code-of (suc (suc (suc (suc (suc (suc (suc (suc (suc (suc (suc (suc k)))))))))))) o e = none-some e

-- A question whose bodies are so long together: the first is no longer, and the fields that it does not take are 0.
abbrev pub QuestionFits : Question → ℕ → Type 0
QuestionFits q n =
    (q.first_length ≤ n) × T (taken_or_zero (takes_mode q.operation) q.mode) × T (taken_or_zero (takes_attribute q.operation) q.attribute) ×
    T (taken_or_zero (takes_second q.operation) (n - q.first_length))

sub-first : (i j : ℕ) → (i + j) - i ≡ j
sub-first i j = omega arith

add-rest : (i n : ℕ) → i ≤ n → i + (n - i) ≡ n
add-rest i n l = omega arith

read_question-reads : ReadsEntry write_question QuestionFits read_question
read_question-reads = record { into = into; back = back }
  where
    into : (b : List ℕ) (x : Question × ℕ × List ℕ) → Bytes b → read_question b ≡ some x → (write_question x.0 x.1 ++ x.2 ≡ b) × Bytes x.2 ×
        QuestionFits x.0 x.1
    into b x h e =
        bind-some (byte b) _ e λ k ek e₁.
        bind-some (operation_of k.0) _ e₁ λ o eo e₂.
        bind-some (byte k.1) _ e₂ λ m em e₃.
        bind-some (word m.1) _ e₃ λ a ea e₄.
        bind-some (word a.1) _ e₄ λ i ei e₅.
        bind-some (word i.1) _ e₅ λ j ej e₆.
        bind-some (guard (taken_or_zero (takes_mode o) m.0 && (taken_or_zero (takes_attribute o) a.0 && taken_or_zero (takes_second o) j.0))) _ e₆ λ g eg e₇.
        let (s₁, h₁) = byte-some b k h ek in
        let (s₂, h₂) = byte-some k.1 m h₁ em in
        let (s₃, h₃) = word_some m.1 a h₂ ea in
        let (s₄, h₄) = word_some a.1 i h₃ ei in
        let (s₅, h₅) = word_some i.1 j h₄ ej in
        let (t₁, t) = T_and (taken_or_zero (takes_mode o) m.0) (taken_or_zero (takes_attribute o) a.0 && taken_or_zero (takes_second o) j.0)
        (guard-some (taken_or_zero (takes_mode o) m.0 && (taken_or_zero (takes_attribute o) a.0 && taken_or_zero (takes_second o) j.0)) g eg) in
        let (t₂, t₃) = T_and (taken_or_zero (takes_attribute o) a.0) (taken_or_zero (takes_second o) j.0) t in
        subst (λ (y : Question × ℕ × List ℕ). (write_question y.0 y.1 ++ y.2 ≡ b) × Bytes y.2 × QuestionFits y.0 y.1)
        (some-injective _ _ e₇) (
          ap₂ (λ (c d : ℕ). c ∷ m.0 ∷ u16 a.0 ++ (u16 i.0 ++ (u16 d ++ j.1))) (operation_code-of k.0 o eo) (sub-first i.0 j.0) ∙
              rw s₅ (rw s₄ (rw s₃ (rw s₂ s₁))),
          h₅,
          (omega arith, t₁, t₂, subst (λ (z : ℕ). T (taken_or_zero (takes_second o) z)) (sym (sub-first i.0 j.0)) t₃),
        )

    back : (q : Question) (n : ℕ) (b : List ℕ) → QuestionFits q n → read_question (write_question q n ++ b) ≡ some (q, n, b)
    back q n b f = bind-at _ (operation_of-code q.operation)
        ∙ rw (mod-add-div' q.attribute 256, mod-add-div' q.first_length 256, mod-add-div' (n - q.first_length) 256)
        (guard-yes
        (taken_or_zero (takes_mode q.operation)
        q.mode && (taken_or_zero (takes_attribute q.operation) q.attribute && taken_or_zero (takes_second q.operation) (n - q.first_length))) _
        (and_T (taken_or_zero (takes_mode q.operation) q.mode)
        (taken_or_zero (takes_attribute q.operation) q.attribute && taken_or_zero (takes_second q.operation) (n - q.first_length)) f.1
        (and_T (taken_or_zero (takes_attribute q.operation) q.attribute) (taken_or_zero (takes_second q.operation) (n - q.first_length)) f.2 f.3))
        ∙ ap (λ (i : ℕ). some (q, i, b)) (add-rest q.first_length n f.0))

split_bodies-reads : (q : Question) → Reads join_bodies (λ x. length x.0 ≡ q.first_length) (split_bodies q)
split_bodies-reads q = record { into = into; back = back }
  where
    into : (b : List ℕ) (x : List ℕ × List ℕ) → Bytes b → split_bodies q b ≡ some x → (join_bodies x ≡ b) × (length x.0 ≡ q.first_length)
    into b x h e =
        bind-some (guard (leb q.first_length (length b))) _ e λ g eg e₁.
        subst (λ (y : List ℕ × List ℕ). (join_bodies y ≡ b) × (length y.0 ≡ q.first_length)) (some-injective _ _ e₁) (
          take-append-drop q.first_length b,
          length-take-le q.first_length b (leb→le q.first_length (length b) (guard-some (leb q.first_length (length b)) g eg)),
        )

    back : (x : List ℕ × List ℕ) → length x.0 ≡ q.first_length → split_bodies q (join_bodies x) ≡ some x
    back x l =
        guard-yes (leb q.first_length (length (x.0 ++ x.1)))
        _ (le→leb q.first_length (length (x.0 ++ x.1)) (omega (arith, length-append x.0 x.1)))
        ∙ ap₂ (λ (u v : List ℕ). some (u, v)) (take_at x.0 x.1 q.first_length l) (drop_at x.0 x.1 q.first_length l)

-- The questions of a job in order: each question's first body is as long as it says, and the fields that it does not take are 0.
abbrev pub QuestionsGood : List (Question × (List ℕ × List ℕ)) → Type 0
QuestionsGood = Follow any_question join_bodies QuestionFits (λ q x. length x.0 ≡ q.first_length) tt

middle : (n : ℕ) (rest : List ℕ) → T (leb n (length rest)) → length (take n rest) ≡ n
middle n rest t = length-take-le n rest (leb→le n (length rest) t)

job-some : (b : List ℕ) (j : Job) → Bytes b → parse_job b ≡ some j → (enc_job j ≡ b) × QuestionsGood j.questions
job-some b j h e =
    bind-some (word b) _ e λ n en e₁.
    bind-some (word n.1) _ e₁ λ q eq e₂.
    let rest = drop (8 * q.0) q.1 in
    bind-some (guard (leb n.0 (length rest))) _ e₂ λ g eg e₃.
    bind-some (rows read_question any_question split_bodies q.0 tt q.1 (drop n.0 rest)) _ e₃ λ x ex e₄.
    let (f, z) = finish-some _ x.2 e₄ in
    let (s₁, h₁) = word_some b n h en in
    let (s₂, h₂) = word_some n.1 q h₁ eq in
    let (x₁, x₂, x₃, x₄, x₅, x₆) = rows-some write_question read_question any_question join_bodies split_bodies QuestionFits (λ q x. length x.0 ≡ q.first_length)
    read_question-reads split_bodies-reads
    q.0 tt q.1 (drop n.0 rest) x h₂ (Bytes-drop n.0 rest (Bytes-drop (8 * q.0) q.1 h₂)) ex in
    let hs = heads write_question join_bodies x.0 in
    let d : rest ≡ x.1 = ap₂ (λ (i : ℕ) (l : List ℕ). drop (8 * i) l) (sym x₃) (sym x₁) ∙
    drop_at hs x.1 (8 * length x.0) (length-heads write_question join_bodies 8 (λ h n. refl) x.0) in
    let t : tails join_bodies x.0 ≡ drop n.0 rest = sym (append-nil (tails join_bodies x.0)) ∙
    ap (λ (l : List ℕ). tails join_bodies x.0 ++ l) (sym z) ∙ x₂ in
    subst (λ (y : Job). (enc_job y ≡ b) × QuestionsGood y.questions) f
    (rw (middle n.0 rest (guard-some (leb n.0 (length rest)) g eg), x₃, t, take-append-drop n.0 rest) (rw (d, x₁, s₂) s₁), x₄)

job-enc : (j : Job) → QuestionsGood j.questions → parse_job (enc_job j) ≡ some j
job-enc j g =
    let s = j.schema in
    let qs = j.questions in
    let hs = heads write_question join_bodies qs in
    let ts = tails join_bodies qs in
    rw (
      mod-add-div' (length s) 256,
      mod-add-div' (length qs) 256,
      drop_at hs (s ++ ts) (8 * length qs) (length-heads write_question join_bodies 8 (λ h n. refl) qs),
    )
    (guard-yes (leb (length s) (length (s ++ ts))) _ (le→leb (length s) (length (s ++ ts)) (omega (arith, length-append s ts)))
    ∙ rw (drop-append_seam s ts, take-append_seam s ts)
    (ap (λ (l : List ℕ). rows read_question any_question split_bodies (length qs) tt (hs ++ (s ++ ts)) l >>=
    λ x. finish (record { schema = s; questions = x.0 }) x.2) (sym (append-nil ts))
    ∙ bind-at (λ x. finish (record { schema = s; questions = x.0 }) x.2)
    (rows-enc write_question read_question any_question join_bodies split_bodies QuestionFits (λ q x. length x.0 ≡ q.first_length) read_question-reads
    split_bodies-reads tt qs (s ++ ts) [] g)))

-- `parse_job` reads just the jobs in order, each from its own bytes.
pub parse_job-reads : Reads enc_job (λ j. QuestionsGood j.questions) parse_job
parse_job-reads = record { into = job-some; back = job-enc }
