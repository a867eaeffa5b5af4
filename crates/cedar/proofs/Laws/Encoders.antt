-- The bytes of tables, lists, schemas and jobs, for the laws that each form has one tree and each tree one form.
use Rattle.std.specs.Prelude.{ℕ, ◌-◌, List, [], ◌∷◌, ◌++◌, Bool, false, length}
use Rattle.std.proofs.Math.Option.{Option}
use Rattle.cedar.specs.Types.{Ty, Attrs, Arg, arg_bool, arg_long, arg_string, arg_ext, Entity, Action, Function, Schema, maybe, present}
use Rattle.cedar.specs.Bytes.{u16, flag}
use Rattle.cedar.specs.TypeForm.{enc}
use Rattle.cedar.specs.SchemaForm.{enc_body}
use Rattle.cedar.specs.JobForm.{Operation, subtype_op, bound_op, disjoint_op, lookup_op, may_have_op, names_op, consistent_op, convert_op, conforms_op, fold_op}
use Rattle.cedar.specs.JobForm.{literal_op, full_op, Question, Job}

module _ {H A : Type 0} where
  -- The entries of a table.
  abbrev pub heads : (H → ℕ → List ℕ) → (A → List ℕ) → List (H × A) → List ℕ
  heads write e [] = []
  heads write e (x ∷ xs) = write x.0 (length (e x.1)) ++ heads write e xs

  -- The bodies of a table.
  abbrev pub tails : (A → List ℕ) → List (H × A) → List ℕ
  tails e [] = []
  tails e (x ∷ xs) = e x.1 ++ tails e xs

-- The u16 lengths of types.
abbrev pub lengths_of : List Ty → List ℕ
lengths_of [] = []
lengths_of (t ∷ ts) = u16 (length (enc t)) ++ lengths_of ts

-- The types one after another.
abbrev pub forms_of : List Ty → List ℕ
forms_of [] = []
forms_of (t ∷ ts) = enc t ++ forms_of ts

-- The bytes of a list.
abbrev pub enc_list : List Ty → List ℕ
enc_list ts = u16 (length ts) ++ (lengths_of ts ++ forms_of ts)

-- The table of the entity types' section.
abbrev pub entity_rows : List Entity → List ((ℕ × Bool) × (Bool × Attrs))
entity_rows [] = []
entity_rows (e ∷ es) = ((e.name, e.enumerated), (e.is_open, e.attrs)) ∷ entity_rows es

-- The table of the actions' section; their bodies are closed.
abbrev pub action_rows : List Action → List ((ℕ × ℕ) × (Bool × Attrs))
action_rows [] = []
action_rows (a ∷ xs) = ((a.type, a.id), (false, a.attrs)) ∷ action_rows xs

-- The table of the functions' section.
abbrev pub function_rows : List Function → List ((ℕ × Option ℕ) × List Arg)
function_rows [] = []
function_rows (f ∷ fs) = ((f.name, f.returns), f.args) ∷ function_rows fs

-- An entity entry as bytes.
abbrev pub write_entity : ℕ × Bool → ℕ → List ℕ
write_entity h l = u16 h.0 ++ (flag h.1 ∷ u16 l)

-- An action entry as bytes.
abbrev pub write_action : ℕ × ℕ → ℕ → List ℕ
write_action h l = u16 h.0 ++ (u16 h.1 ++ u16 l)

-- A function entry as bytes.
abbrev pub write_function : ℕ × Option ℕ → ℕ → List ℕ
write_function h l = u16 h.0 ++ (flag (present h.1) ∷ u16 (maybe 0 (λ e. e) h.1) ++ u16 l)

-- An argument as bytes.
abbrev pub enc_arg : Arg → List ℕ
enc_arg arg_bool = 1 ∷ 0 ∷ 0 ∷ []
enc_arg arg_long = 2 ∷ 0 ∷ 0 ∷ []
enc_arg arg_string = 3 ∷ 0 ∷ 0 ∷ []
enc_arg (arg_ext e) = 4 ∷ u16 e

-- A function's body as bytes.
abbrev pub enc_args : List Arg → List ℕ
enc_args [] = []
enc_args (a ∷ xs) = enc_arg a ++ enc_args xs

-- The bytes of a schema.
abbrev pub enc_schema : Schema → List ℕ
enc_schema s =
    let xs = entity_rows s.entities in
    let ys = action_rows s.actions in
    let zs = function_rows s.functions in
    u16 (length xs) ++ (u16 (length ys) ++ (u16 (length zs)
    ++ (heads write_entity enc_body xs ++ (heads write_action enc_body ys ++ (heads write_function enc_args zs
    ++ (tails enc_body xs ++ (tails enc_body ys ++ tails enc_args zs)))))))

-- The number of an operation.
abbrev pub operation_code : Operation → ℕ
operation_code subtype_op = 0
operation_code bound_op = 1
operation_code disjoint_op = 2
operation_code lookup_op = 3
operation_code may_have_op = 4
operation_code names_op = 5
operation_code consistent_op = 6
operation_code convert_op = 7
operation_code conforms_op = 8
operation_code fold_op = 9
operation_code literal_op = 10
operation_code full_op = 11

-- A question's entry as bytes.
abbrev pub write_question : Question → ℕ → List ℕ
write_question q n = operation_code q.operation ∷ q.mode ∷ u16 q.attribute ++ (u16 q.first_length ++ u16 (n - q.first_length))

-- A question's two bodies as bytes.
abbrev pub join_bodies : List ℕ × List ℕ → List ℕ
join_bodies x = x.0 ++ x.1

-- The bytes of a job.
abbrev pub enc_job : Job → List ℕ
enc_job j = u16 (length j.schema) ++ (u16 (length j.questions)
    ++ (heads write_question join_bodies j.questions ++ (j.schema ++ tails join_bodies j.questions)))
