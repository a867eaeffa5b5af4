-- The schema form: `parse_schema` reads a schema.
use Rattle.std.specs.Prelude.{ℕ, suc, ◌+◌, ◌*◌, List, [], ◌∷◌, Bool, true, not, ◌||◌, ◌&&◌, cond, eqb, leb, ltb, drop, get_or}
use Rattle.std.proofs.Math.Option.{Option, none, some}
use Rattle.cedar.specs.Types.{Ty, rec, Attrs, Arg, arg_bool, arg_long, arg_string, arg_ext, Entity, Action, Function, Schema, is_action, as_rec}
use Rattle.cedar.specs.Bytes.{guard, word, bit, finish, ◌>>=◌}
use Rattle.cedar.specs.Table.{rows, ascending}
use Rattle.cedar.specs.TypeForm.{enc}
use Rattle.cedar.specs.Limits.{max_entities, max_actions, max_functions}

-- An entity entry: even name, kind (0 standard, 1 enumerated), length.
abbrev pub read_entity : List ℕ → Option ((ℕ × Bool) × ℕ × List ℕ)
read_entity b = do
  (n, b₁) ← word b
  _ ← guard (not (is_action n))
  (k, b₂) ← bit b₁
  (l, b₃) ← word b₂
  some ((n, k), l, b₃)

-- An action entry: odd type, id, length.
abbrev pub read_action : List ℕ → Option ((ℕ × ℕ) × ℕ × List ℕ)
read_action b = do
  (n, b₁) ← word b
  _ ← guard (is_action n)
  (i, b₂) ← word b₁
  (l, b₃) ← word b₂
  some ((n, i), l, b₃)

-- A function entry: name, whether it returns an extension, which (0 if none), length.
abbrev pub read_function : List ℕ → Option ((ℕ × Option ℕ) × ℕ × List ℕ)
read_function b = do
  (n, b₁) ← word b
  (r, b₂) ← bit b₁
  (e, b₃) ← word b₂
  _ ← guard (r || eqb e 0)
  (l, b₄) ← word b₃
  some ((n, cond r (some e) none), l, b₄)

-- Entities and functions ascend by name.
abbrev pub ascending_first : {A : Type 0} → ℕ → ℕ × A → Option ℕ
ascending_first low h = ascending low h.0

-- Actions ascend by type, then id.
abbrev pub ascending_action : ℕ × ℕ → ℕ × ℕ → Option (ℕ × ℕ)
ascending_action low h = cond (ltb low.0 h.0 || (eqb low.0 h.0 && leb low.1 h.1)) (some (h.0, suc h.1)) none

-- A body: a record form, closed where it must be; p reads a type.
abbrev pub read_body : (List ℕ → Option Ty) → Bool → List ℕ → Option (Bool × Attrs)
read_body p closed b = do
  t ← p b
  (o, xs) ← as_rec t
  _ ← guard (not (closed && o))
  some (o, xs)

-- An argument: its kind, 1 to 4, and its extension, 0 unless 4.
abbrev pub arg_of : ℕ → ℕ → Option Arg
arg_of k e = cond (eqb k 4) (some (arg_ext e)) (cond (eqb e 0) (get_or (none ∷ some arg_bool ∷ some arg_long ∷ some arg_string ∷ []) k none) none)

-- A function's body: 3-byte arguments.
abbrev pub parse_args : List ℕ → Option (List Arg)
parse_args [] = some []
parse_args (k ∷ []) = none
parse_args (k ∷ a ∷ []) = none
parse_args (k ∷ a ∷ c ∷ b) = do
  x ← arg_of k (a + c * 256)
  xs ← parse_args b
  some (x ∷ xs)

-- The entity types of their section's table.
abbrev pub entities_of : List ((ℕ × Bool) × (Bool × Attrs)) → List Entity
entities_of [] = []
entities_of (x ∷ xs) = record { name = x.0.0; enumerated = x.0.1; is_open = x.1.0; attrs = x.1.1 } ∷ entities_of xs

-- The actions of their section's table.
abbrev pub actions_of : List ((ℕ × ℕ) × (Bool × Attrs)) → List Action
actions_of [] = []
actions_of (x ∷ xs) = record { type = x.0.0; id = x.0.1; attrs = x.1.1 } ∷ actions_of xs

-- The functions of their section's table.
abbrev pub functions_of : List ((ℕ × Option ℕ) × List Arg) → List Function
functions_of [] = []
functions_of (x ∷ xs) = record { name = x.0.0; returns = x.0.1; args = x.1 } ∷ functions_of xs

-- The three counts, the entries of the three sections, of 5, 6 and 7 bytes as their readers take them, then their bodies, and no byte
-- over; p reads a type.
abbrev pub parse_schema : (List ℕ → Option Ty) → List ℕ → Option Schema
parse_schema p b = do
  (m, b₁) ← word b
  (n, b₂) ← word b₁
  (k, es) ← word b₂
  _ ← guard (leb m max_entities && (leb n max_actions && leb k max_functions))
  (xs, es₁, bs₁) ← rows read_entity ascending_first (λ h. read_body p h.1) m 0 es (drop (5 * m + 6 * n + 7 * k) es)
  (ys, es₂, bs₂) ← rows read_action ascending_action (λ h. read_body p true) n (0, 0) es₁ bs₁
  (zs, es₃, bs₃) ← rows read_function ascending_first (λ h. parse_args) k 0 es₂ bs₂
  finish (record { entities = entities_of xs; actions = actions_of ys; functions = functions_of zs }) bs₃

-- A body, a record form.
abbrev pub enc_body : Bool × Attrs → List ℕ
enc_body x = enc (rec x.0 x.1)
