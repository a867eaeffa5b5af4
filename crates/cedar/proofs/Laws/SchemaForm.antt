-- `enc_schema` and `parse_schema` are inverse, over any reader of a type.
use Rattle.std.specs.Prelude.{ℕ, zero, suc, ◌+◌, ◌*◌, ◌/◌, ◌%◌, ◌≤◌, ◌<◌, List, [], ◌∷◌, ◌++◌, Bool, true, false, not, ◌||◌, ◌&&◌, cond, ◌≡◌, refl, T, eqb, leb, ltb, length, drop, get_or}
use Rattle.std.proofs.Math.Nat.{mod-add-div'}
use Rattle.std.proofs.Common.{arith, append_assoc, append-nil, sym, ap, ap₂, ◌∙◌, subst, eqb→eq, leb→le, le→leb, length-append, drop_at}
use Rattle.std.proofs.Math.Option.{Option, none, some, some-injective}
use Rattle.cedar.specs.Types.{Ty, rec, Attrs, Arg, arg_bool, arg_long, arg_string, arg_ext, Entity, Action, Function, Schema, is_action, maybe, present, as_rec}
use Rattle.cedar.specs.Bytes.{u16, flag, ◌>>=◌, guard, word, bit, Bytes}
use Rattle.cedar.specs.Table.{rows}
use Rattle.cedar.specs.TypeForm.{enc}
use Rattle.cedar.specs.SchemaForm.{read_entity, read_action, read_function, ascending_first, ascending_action, read_body, arg_of, parse_args, entities_of}
use Rattle.cedar.specs.SchemaForm.{actions_of, functions_of, parse_schema}
use Rattle.cedar.specs.SchemaForm.{enc_body}
use Rattle.cedar.specs.Attribute.{entity_in}
use Rattle.cedar.specs.Literal.{action_in}
use Rattle.cedar.specs.Limits.{max_entities, max_actions, max_functions}
use Rattle.cedar.proofs.Laws.Encoders.{heads, tails, entity_rows, action_rows, function_rows, write_entity, write_action, write_function, enc_arg, enc_args}
use Rattle.cedar.proofs.Laws.Encoders.{enc_schema}
use Rattle.cedar.proofs.Laws.Tests.{T_and, and_T, cond-case, none-some, T→true}
use Rattle.cedar.proofs.Laws.Equality.{as_rec-some}
use Rattle.cedar.proofs.Laws.Bytes.{Reads, Bytes-drop, bind-some, bind-at, guard-some, guard-yes, finish-some, word_some, bit-some, bit-flag}
use Rattle.cedar.proofs.Laws.Table.{ReadsEntry, Follow, rows-some, rows-enc, length-heads, ascending-some, ascending-yes}

-- Entity entries in order: even names, ascending from `low` on, an enumerated one closed, each body good.
abbrev pub EntitiesFrom : (Ty → Type 0) → ℕ → List Entity → Type 0
EntitiesFrom Good low [] = Unit {0}
EntitiesFrom Good low (e ∷ es) =
    (low ≤ e.name) × T (not (is_action e.name)) × T (not (e.enumerated && e.is_open)) × Good (rec e.is_open e.attrs) ×
    EntitiesFrom Good (suc e.name) es

-- Action entries in order: odd types, ascending by type, then id, each body closed and good.
abbrev pub ActionsFrom : (Ty → Type 0) → ℕ × ℕ → List Action → Type 0
ActionsFrom Good low [] = Unit {0}
ActionsFrom Good low (a ∷ xs) =
    T (ltb low.0 a.type || (eqb low.0 a.type && leb low.1 a.id)) × T (is_action a.type) × Good (rec false a.attrs) ×
    ActionsFrom Good (a.type, suc a.id) xs

-- Function entries in order: names ascend.
abbrev pub FunctionsFrom : ℕ → List Function → Type 0
FunctionsFrom low [] = Unit {0}
FunctionsFrom low (f ∷ fs) = (low ≤ f.name) × FunctionsFrom (suc f.name) fs

-- A schema in order: its three sections are, and none has too many entries.
pub record OrderedSchema (Good : Ty → Type 0) (s : Schema) : Type 0 where
  pub entities : EntitiesFrom Good 0 s.entities
  pub actions : ActionsFrom Good (0, 0) s.actions
  pub functions : FunctionsFrom 0 s.functions
  pub few_entities : length s.entities ≤ max_entities
  pub few_actions : length s.actions ≤ max_actions
  pub few_functions : length s.functions ≤ max_functions

-- The entries of the three sections.
read_entity-reads : ReadsEntry write_entity (λ h n. T (not (is_action h.0))) read_entity
read_entity-reads = record { into = into; back = back }
  where
    into : (b : List ℕ) (x : (ℕ × Bool) × ℕ × List ℕ) → Bytes b → read_entity b ≡ some x → (write_entity x.0 x.1 ++ x.2 ≡ b) × Bytes x.2 ×
        T (not (is_action x.0.0))
    into b x h e =
        bind-some (word b) _ e λ n en e₁.
        bind-some (guard (not (is_action n.0))) _ e₁ λ g eg e₂.
        bind-some (bit n.1) _ e₂ λ r er e₃.
        bind-some (word r.1) _ e₃ λ l el e₄.
        let (s₁, h₁) = word_some b n h en in
        let (s₂, h₂) = bit-some n.1 r h₁ er in
        let (s₃, h₃) = word_some r.1 l h₂ el in
        subst (λ (y : (ℕ × Bool) × ℕ × List ℕ). (write_entity y.0 y.1 ++ y.2 ≡ b) × Bytes y.2 × T (not (is_action y.0.0)))
        (some-injective _ _ e₄)
        (rw s₃ (rw s₂ s₁), h₃, guard-some (not (is_action n.0)) g eg)

    back : (h : ℕ × Bool) (l : ℕ) (b : List ℕ) → T (not (is_action h.0)) → read_entity (write_entity h l ++ b) ≡ some (h, l, b)
    back h l b t =
        rw (mod-add-div' h.0 256) (guard-yes (not (is_action h.0)) _ t ∙ bind-at _ (bit-flag h.1 (u16 l ++ b)) ∙
        ap (λ (j : ℕ). some (h, j, b)) (mod-add-div' l 256))

read_action-reads : ReadsEntry write_action (λ h n. T (is_action h.0)) read_action
read_action-reads = record { into = into; back = back }
  where
    into : (b : List ℕ) (x : (ℕ × ℕ) × ℕ × List ℕ) → Bytes b → read_action b ≡ some x → (write_action x.0 x.1 ++ x.2 ≡ b) × Bytes x.2 ×
        T (is_action x.0.0)
    into b x h e =
        bind-some (word b) _ e λ n en e₁.
        bind-some (guard (is_action n.0)) _ e₁ λ g eg e₂.
        bind-some (word n.1) _ e₂ λ i ei e₃.
        bind-some (word i.1) _ e₃ λ l el e₄.
        let (s₁, h₁) = word_some b n h en in
        let (s₂, h₂) = word_some n.1 i h₁ ei in
        let (s₃, h₃) = word_some i.1 l h₂ el in
        subst (λ (y : (ℕ × ℕ) × ℕ × List ℕ). (write_action y.0 y.1 ++ y.2 ≡ b) × Bytes y.2 × T (is_action y.0.0)) (some-injective _ _ e₄)
        (rw s₃ (rw s₂ s₁), h₃, guard-some (is_action n.0) g eg)

    back : (h : ℕ × ℕ) (l : ℕ) (b : List ℕ) → T (is_action h.0) → read_action (write_action h l ++ b) ≡ some (h, l, b)
    back h l b t =
        rw (mod-add-div' h.0 256)
        (guard-yes (is_action h.0) _ t ∙ ap₂ (λ (i j : ℕ). some ((h.0, i), j, b)) (mod-add-div' h.1 256) (mod-add-div' l 256))

read_function-reads : ReadsEntry write_function (λ h n. Unit {0}) read_function
read_function-reads = record { into = into; back = back }
  where
    returned : (r : Bool) (e : ℕ) → T (r || eqb e 0) → (flag (present (cond r (some e) none)) ≡ flag r) × (maybe 0 (λ i. i) (cond r (some e) none) ≡ e)
    returned true e t = (refl, refl)
    returned false e t = (refl, sym (eqb→eq e 0 t))

    into : (b : List ℕ) (x : (ℕ × Option ℕ) × ℕ × List ℕ) → Bytes b → read_function b ≡ some x → (write_function x.0 x.1 ++ x.2 ≡ b) × Bytes x.2 ×
        Unit {0}
    into b x h q =
        bind-some (word b) _ q λ n en e₁.
        bind-some (bit n.1) _ e₁ λ r er e₂.
        bind-some (word r.1) _ e₂ λ e ee e₃.
        bind-some (guard (r.0 || eqb e.0 0)) _ e₃ λ g eg e₄.
        bind-some (word e.1) _ e₄ λ l el e₅.
        let (s₁, h₁) = word_some b n h en in
        let (s₂, h₂) = bit-some n.1 r h₁ er in
        let (s₃, h₃) = word_some r.1 e h₂ ee in
        let (s₄, h₄) = word_some e.1 l h₃ el in
        let (f₁, f₂) = returned r.0 e.0 (guard-some (r.0 || eqb e.0 0) g eg) in
        subst (λ (y : (ℕ × Option ℕ) × ℕ × List ℕ). (write_function y.0 y.1 ++ y.2 ≡ b) × Bytes y.2 × Unit {0}) (some-injective _ _ e₅)
        (ap₂ (λ (i j : ℕ). u16 n.0 ++ (i ∷ u16 j ++ (u16 l.0 ++ l.1))) f₁ f₂ ∙ rw s₄ (rw s₃ (rw s₂ s₁)), h₄, tt)

    back : (h : ℕ × Option ℕ) (l : ℕ) (b : List ℕ) → Unit {0} → read_function (write_function h l ++ b) ≡ some (h, l, b)
    back h l b u = go h.1
      where
        go : (r : Option ℕ) → read_function (write_function (h.0, r) l ++ b) ≡ some ((h.0, r), l, b)
        go none = ap₂ (λ (i j : ℕ). some ((i, none), j, b)) (mod-add-div' h.0 256) (mod-add-div' l 256)
        go (some e) = rw (mod-add-div' h.0 256, mod-add-div' e 256, mod-add-div' l 256)

-- The arguments of a function.
arg_of-some : (k a c : ℕ) (x : Arg) → (a < 256) → arg_of k (a + c * 256) ≡ some x → enc_arg x ≡ k ∷ a ∷ c ∷ []
arg_of-some k a c x l e = cond-case (eqb k 4) e
    (λ t p. subst (λ (y : Arg). enc_arg y ≡ k ∷ a ∷ c ∷ []) (some-injective _ _ p) (extension (eqb→eq k 4 t)))
    (λ t p. cond-case (eqb (a + c * 256) 0) p (λ z q. plain k (eqb→eq (a + c * 256) 0 z) q) (λ z q. none-some q))
  where
    extension : k ≡ 4 → enc_arg (arg_ext (a + c * 256)) ≡ k ∷ a ∷ c ∷ []
    extension q =
        let low : (a + c * 256) % 256 ≡ a = omega arith in
        let high : (a + c * 256) / 256 ≡ c = omega arith in
        cc

    zeros : a + c * 256 ≡ 0 → (i : ℕ) → ◌≡◌ {A = List ℕ} (i ∷ 0 ∷ 0 ∷ []) (i ∷ a ∷ c ∷ [])
    zeros z i =
        let low : 0 ≡ a = omega arith in
        let high : 0 ≡ c = omega arith in
        cc

    plain : (i : ℕ) → a + c * 256 ≡ 0 → get_or (none ∷ some arg_bool ∷ some arg_long ∷ some arg_string ∷ []) i none ≡ some x → enc_arg x ≡ i ∷ a ∷ c ∷ []
    plain zero z q = none-some q
    plain (suc zero) z q = subst (λ (y : Arg). enc_arg y ≡ 1 ∷ a ∷ c ∷ []) (some-injective _ _ q) (zeros z 1)
    plain (suc (suc zero)) z q = subst (λ (y : Arg). enc_arg y ≡ 2 ∷ a ∷ c ∷ []) (some-injective _ _ q) (zeros z 2)
    plain (suc (suc (suc zero))) z q = subst (λ (y : Arg). enc_arg y ≡ 3 ∷ a ∷ c ∷ []) (some-injective _ _ q) (zeros z 3)
    plain (suc (suc (suc (suc i)))) z q = none-some q

parse_args-some : (b : List ℕ) (xs : List Arg) → Bytes b → parse_args b ≡ some xs → enc_args xs ≡ b
parse_args-some [] xs h e = subst (λ (y : List Arg). enc_args y ≡ []) (some-injective _ _ e) refl
parse_args-some (k ∷ []) xs h e = none-some e
parse_args-some (k ∷ a ∷ []) xs h e = none-some e
parse_args-some (k ∷ a ∷ c ∷ b) xs h e =
    bind-some (arg_of k (a + c * 256)) _ e λ x ex e₁.
    bind-some (parse_args b) _ e₁ λ ys ey e₂.
    subst (λ (y : List Arg). enc_args y ≡ k ∷ a ∷ c ∷ b) (some-injective _ _ e₂)
    (ap₂ (λ (u v : List ℕ). u ++ v) (arg_of-some k a c x h.1.0 ex) (parse_args-some b ys h.1.1.1 ey))

parse_args-enc : (xs : List Arg) → parse_args (enc_args xs) ≡ some xs
parse_args-enc [] = refl
parse_args-enc (arg_bool ∷ xs) = bind-at (λ ys. some (arg_bool ∷ ys)) (parse_args-enc xs)
parse_args-enc (arg_long ∷ xs) = bind-at (λ ys. some (arg_long ∷ ys)) (parse_args-enc xs)
parse_args-enc (arg_string ∷ xs) = bind-at (λ ys. some (arg_string ∷ ys)) (parse_args-enc xs)
parse_args-enc (arg_ext e ∷ xs) = rw (mod-add-div' e 256) (bind-at (λ ys. some (arg_ext e ∷ ys)) (parse_args-enc xs))

-- A function's body is read just where it is laid out so.
pub parse_args-reads : Reads enc_args (λ xs. Unit {0}) parse_args
parse_args-reads = record { into = λ b xs h e. (parse_args-some b xs h e, tt); back = λ xs u. parse_args-enc xs }

-- Where p reads the good types, `read_body p` reads the good records, closed where they must be.
pub read_body-reads : (Good : Ty → Type 0) (p : List ℕ → Option Ty) (closed : Bool) → Reads enc Good p
    → Reads enc_body (λ x. Good (rec x.0 x.1) × T (not (closed && x.0))) (read_body p closed)
read_body-reads Good p closed r = record { into = into; back = back }
  where
    into : (b : List ℕ) (x : Bool × Attrs) → Bytes b → read_body p closed b ≡ some x → (enc_body x ≡ b) × (Good (rec x.0 x.1) × T (not (closed && x.0)))
    into b x h e =
        bind-some (p b) _ e λ t et e₁.
        bind-some (as_rec t) _ e₁ λ y ey e₂.
        bind-some (guard (not (closed && y.0))) _ e₂ λ g eg e₃.
        let (w, o) = r.into b t h et in
        let z = as_rec-some t y ey in
        subst (λ (v : Bool × Attrs). (enc_body v ≡ b) × (Good (rec v.0 v.1) × T (not (closed && v.0)))) (some-injective _ _ e₃)
        (ap enc (sym z) ∙ w, (subst Good z o, guard-some (not (closed && y.0)) g eg))

    back : (x : Bool × Attrs) → Good (rec x.0 x.1) × T (not (closed && x.0)) → read_body p closed (enc_body x) ≡ some x
    back x g =
        bind-at (λ t. as_rec t >>= λ y. guard (not (closed && y.0)) >>= λ u. some (y.0, y.1)) (r.back (rec x.0 x.1) g.0) ∙
        guard-yes (not (closed && x.0)) (λ u. some (x.0, x.1)) g.1

-- The sections as tables, and back.
entities-rows : (es : List Entity) → entities_of (entity_rows es) ≡ es
entities-rows [] = refl
entities-rows (e ∷ es) = ap {B = List Entity} (λ l. e ∷ l) (entities-rows es)

rows-entities : (xs : List ((ℕ × Bool) × (Bool × Attrs))) → entity_rows (entities_of xs) ≡ xs
rows-entities [] = refl
rows-entities (x ∷ xs) = ap {B = List ((ℕ × Bool) × (Bool × Attrs))} (λ l. x ∷ l) (rows-entities xs)

actions-rows : (es : List Action) → actions_of (action_rows es) ≡ es
actions-rows [] = refl
actions-rows (e ∷ es) = ap {B = List Action} (λ l. e ∷ l) (actions-rows es)

functions-rows : (es : List Function) → functions_of (function_rows es) ≡ es
functions-rows [] = refl
functions-rows (e ∷ es) = ap {B = List Function} (λ l. e ∷ l) (functions-rows es)

rows-functions : (xs : List ((ℕ × Option ℕ) × List Arg)) → function_rows (functions_of xs) ≡ xs
rows-functions [] = refl
rows-functions (x ∷ xs) = ap {B = List ((ℕ × Option ℕ) × List Arg)} (λ l. x ∷ l) (rows-functions xs)

length-entity_rows : (es : List Entity) → length (entity_rows es) ≡ length es
length-entity_rows [] = refl
length-entity_rows (e ∷ es) = ap suc (length-entity_rows es)

length-action_rows : (es : List Action) → length (action_rows es) ≡ length es
length-action_rows [] = refl
length-action_rows (e ∷ es) = ap suc (length-action_rows es)

length-function_rows : (es : List Function) → length (function_rows es) ≡ length es
length-function_rows [] = refl
length-function_rows (e ∷ es) = ap suc (length-function_rows es)

closed-false : (o : Bool) → T (not (true && o)) → false ≡ o
closed-false true h = absurd h
closed-false false h = refl

module _ (Good : Ty → Type 0) where
  -- What a row of each section is.
  abbrev EntityRow : ℕ × Bool → Bool × Attrs → Type 0
  EntityRow h x = Good (rec x.0 x.1) × T (not (h.1 && x.0))

  abbrev ActionRow : ℕ × ℕ → Bool × Attrs → Type 0
  ActionRow h x = Good (rec x.0 x.1) × T (not (true && x.0))

  abbrev FollowEntities : ℕ → List ((ℕ × Bool) × (Bool × Attrs)) → Type 0
  FollowEntities = Follow ascending_first enc_body (λ h n. T (not (is_action h.0))) EntityRow

  abbrev FollowActions : ℕ × ℕ → List ((ℕ × ℕ) × (Bool × Attrs)) → Type 0
  FollowActions = Follow ascending_action enc_body (λ h n. T (is_action h.0)) ActionRow

  abbrev FollowFunctions : ℕ → List ((ℕ × Option ℕ) × List Arg) → Type 0
  FollowFunctions = Follow ascending_first enc_args (λ h n. Unit {0}) (λ h x. Unit {0})

  entities-good : (low : ℕ) (xs : List ((ℕ × Bool) × (Bool × Attrs))) → FollowEntities low xs → EntitiesFrom Good low (entities_of xs)
  entities-good low [] f = tt
  entities-good low (x ∷ xs) f =
      let (a, b) = ascending-some low x.0.0 f.0 f.1 in
      (a, f.2, f.3.1, f.3.0, subst (λ (s : ℕ). EntitiesFrom Good s (entities_of xs)) (sym b) (entities-good f.0 xs f.4))

  good-entities : (low : ℕ) (es : List Entity) → EntitiesFrom Good low es → FollowEntities low (entity_rows es)
  good-entities low [] w = tt
  good-entities low (e ∷ es) w = (suc e.name, ascending-yes low e.name w.0, w.1, (w.3, w.2), good-entities (suc e.name) es w.4)

  actions-good : (low : ℕ × ℕ) (xs : List ((ℕ × ℕ) × (Bool × Attrs))) → FollowActions low xs → ActionsFrom Good low (actions_of xs) ×
      (action_rows (actions_of xs) ≡ xs)
  actions-good low [] f = (tt, refl)
  actions-good low (x ∷ xs) f =
      let (i, j) = actions-good f.0 xs f.4 in
      let o = closed-false x.1.0 f.3.1 in
      let after = ltb low.0 x.0.0 || (eqb low.0 x.0.0 && leb low.1 x.0.1) in
      cond-case after f.1
      (λ t p. (
        (
          t,
          f.2,
          subst (λ (q : Bool). Good (rec q x.1.1)) (sym o) f.3.0,
          subst (λ (s : ℕ × ℕ). ActionsFrom Good s (actions_of xs)) (sym (some-injective _ _ p)) i,
        ),
        ap₂ (λ (q : Bool) (l : List ((ℕ × ℕ) × (Bool × Attrs))). (x.0, (q, x.1.1)) ∷ l) o j,
      ))
      (λ t p. none-some p)

  good-actions : (low : ℕ × ℕ) (es : List Action) → ActionsFrom Good low es → FollowActions low (action_rows es)
  good-actions low [] w = tt
  good-actions low (e ∷ es) w =
      let after = ltb low.0 e.type || (eqb low.0 e.type && leb low.1 e.id) in
      ((e.type, suc e.id), rw (T→true after w.0), w.1, (w.2, tt), good-actions (e.type, suc e.id) es w.3)

  functions-good : (low : ℕ) (xs : List ((ℕ × Option ℕ) × List Arg)) → FollowFunctions low xs → FunctionsFrom low (functions_of xs)
  functions-good low [] f = tt
  functions-good low (x ∷ xs) f =
      let (a, b) = ascending-some low x.0.0 f.0 f.1 in
      (a, subst (λ (s : ℕ). FunctionsFrom s (functions_of xs)) (sym b) (functions-good f.0 xs f.4))

  good-functions : (low : ℕ) (es : List Function) → FunctionsFrom low es → FollowFunctions low (function_rows es)
  good-functions low [] w = tt
  good-functions low (e ∷ es) w = (suc e.name, ascending-yes low e.name w.0, tt, tt, good-functions (suc e.name) es w.1)

-- The three sections as bytes, without their counts; rest stands for their bodies.
abbrev heads_of : List ((ℕ × Bool) × (Bool × Attrs)) → List ((ℕ × ℕ) × (Bool × Attrs)) → List ((ℕ × Option ℕ) × List Arg) → List ℕ → List ℕ
heads_of xs ys zs rest = heads write_entity enc_body xs ++ (heads write_action enc_body ys ++ (heads write_function enc_args zs ++ rest))

abbrev tails_of : List ((ℕ × Bool) × (Bool × Attrs)) → List ((ℕ × ℕ) × (Bool × Attrs)) → List ((ℕ × Option ℕ) × List Arg) → List ℕ → List ℕ
tails_of xs ys zs rest = tails enc_body xs ++ (tails enc_body ys ++ (tails enc_args zs ++ rest))

abbrev schema_bytes : List ((ℕ × Bool) × (Bool × Attrs)) → List ((ℕ × ℕ) × (Bool × Attrs)) → List ((ℕ × Option ℕ) × List Arg) → List ℕ
schema_bytes xs ys zs = u16 (length xs) ++ (u16 (length ys) ++ (u16 (length zs) ++ heads_of xs ys zs (tails_of xs ys zs [])))

no_more : (xs : List ((ℕ × Bool) × (Bool × Attrs))) (ys : List ((ℕ × ℕ) × (Bool × Attrs))) (zs : List ((ℕ × Option ℕ) × List Arg))
    → tails_of xs ys zs [] ≡ tails enc_body xs ++ (tails enc_body ys ++ tails enc_args zs)
no_more xs ys zs = ap (λ (l : List ℕ). tails enc_body xs ++ (tails enc_body ys ++ l)) (append-nil (tails enc_args zs))

-- The bodies begin after the entries.
drop-heads : (xs : List ((ℕ × Bool) × (Bool × Attrs))) (ys : List ((ℕ × ℕ) × (Bool × Attrs))) (zs : List ((ℕ × Option ℕ) × List Arg)) (rest : List ℕ)
    → drop (5 * length xs + 6 * length ys + 7 * length zs) (heads_of xs ys zs rest) ≡ rest
drop-heads xs ys zs rest =
    let a = heads write_entity enc_body xs in
    let b = heads write_action enc_body ys in
    let c = heads write_function enc_args zs in
    ap (drop (5 * length xs + 6 * length ys + 7 * length zs)) (ap (λ (l : List ℕ). a ++ l) (sym (append_assoc b c rest)) ∙ sym (append_assoc a (b ++ c) rest))
    ∙ drop_at (a ++ (b ++ c)) rest (5 * length xs + 6 * length ys + 7 * length zs)
    (omega (
      arith,
      length-append a (b ++ c),
      length-append b c,
      length-heads write_entity enc_body 5 (λ h n. refl) xs,
      length-heads write_action enc_body 6 (λ h n. refl) ys,
      length-heads write_function enc_args 7 (λ h n. refl) zs,
    ))

-- What was read of the three sections, put together.
sections-bytes : (b : List ℕ) (m n k : ℕ × List ℕ) (xs : List ((ℕ × Bool) × (Bool × Attrs))) (ys : List ((ℕ × ℕ) × (Bool × Attrs)))
    (zs : List ((ℕ × Option ℕ) × List Arg)) (rest : List ℕ)
    → u16 m.0 ++ m.1 ≡ b → u16 n.0 ++ n.1 ≡ m.1 → u16 k.0 ++ k.1 ≡ n.1 → heads_of xs ys zs rest ≡ k.1 →
    tails_of xs ys zs [] ≡ drop (5 * m.0 + 6 * n.0 + 7 * k.0) k.1
    → length xs ≡ m.0 → length ys ≡ n.0 → length zs ≡ k.0 → schema_bytes xs ys zs ≡ b
sections-bytes b m n k xs ys zs rest m₁ n₁ k₁ hs ts lx ly lz =
    let d : tails_of xs ys zs [] ≡ rest = ts ∙ rw (← lx, ← ly, ← lz, ← hs) (drop-heads xs ys zs rest) in
    ap (λ (l : List ℕ). u16 (length xs) ++ (u16 (length ys) ++ (u16 (length zs) ++ heads_of xs ys zs l))) d ∙ rw (lx, ly, lz, hs, k₁, n₁) m₁

sections-ordered : (Good : Ty → Type 0) (m n k : ℕ) (xs : List ((ℕ × Bool) × (Bool × Attrs))) (ys : List ((ℕ × ℕ) × (Bool × Attrs)))
    (zs : List ((ℕ × Option ℕ) × List Arg))
    → length xs ≡ m → length ys ≡ n → length zs ≡ k → FollowEntities Good 0 xs → FollowActions Good (0, 0) ys → FollowFunctions Good 0 zs
    → T (leb m max_entities && (leb n max_actions && leb k max_functions)) →
    OrderedSchema Good (record { entities = entities_of xs; actions = actions_of ys; functions = functions_of zs })
sections-ordered Good m n k xs ys zs lx ly lz fx fy fz t =
    let (t₁, u) = T_and (leb m max_entities) (leb n max_actions && leb k max_functions) t in
    let (t₂, t₃) = T_and (leb n max_actions) (leb k max_functions) u in
    let (ay, ry) = actions-good Good (0, 0) ys fy in
    record {
      entities = entities-good Good 0 xs fx;
      actions = ay;
      functions = functions-good Good 0 zs fz;
      few_entities =
          subst (λ (i : ℕ). i ≤ max_entities) (sym lx ∙ ap length (sym (rows-entities xs)) ∙ length-entity_rows (entities_of xs)) (leb→le m max_entities t₁);
      few_actions = subst (λ (i : ℕ). i ≤ max_actions) (sym ly ∙ ap length (sym ry) ∙ length-action_rows (actions_of ys)) (leb→le n max_actions t₂);
      few_functions =
          subst (λ (i : ℕ). i ≤ max_functions) (sym lz ∙ ap length (sym (rows-functions zs)) ∙ length-function_rows (functions_of zs)) (leb→le k max_functions t₃);
    }

schema-bytes : (b : List ℕ) (m n k : ℕ × List ℕ) (xs : List ((ℕ × Bool) × (Bool × Attrs))) (ys : List ((ℕ × ℕ) × (Bool × Attrs)))
    (zs : List ((ℕ × Option ℕ) × List Arg)) (rest : List ℕ)
    → u16 m.0 ++ m.1 ≡ b → u16 n.0 ++ n.1 ≡ m.1 → u16 k.0 ++ k.1 ≡ n.1 → heads_of xs ys zs rest ≡ k.1 →
    tails_of xs ys zs [] ≡ drop (5 * m.0 + 6 * n.0 + 7 * k.0) k.1
    → length xs ≡ m.0 → length ys ≡ n.0 → length zs ≡ k.0 → action_rows (actions_of ys) ≡ ys →
    enc_schema (record { entities = entities_of xs; actions = actions_of ys; functions = functions_of zs }) ≡ b
schema-bytes b m n k xs ys zs rest m₁ n₁ k₁ hs ts lx ly lz ry =
    rw (rows-entities xs, ry, rows-functions zs, ← no_more xs ys zs) (sections-bytes b m n k xs ys zs rest m₁ n₁ k₁ hs ts lx ly lz)

schema-equal : {es fs : List Entity} {us vs : List Action} {gs hs : List Function} → es ≡ fs → us ≡ vs → gs ≡ hs
    → ◌≡◌ {A = Schema} (record { entities = es; actions = us; functions = gs }) (record { entities = fs; actions = vs; functions = hs })
schema-equal e f g = cc

module _ (Good : Ty → Type 0) (p : List ℕ → Option Ty) (r : Reads enc Good p) where
  schema-some : (b : List ℕ) (s : Schema) → Bytes b → parse_schema p b ≡ some s → (enc_schema s ≡ b) × OrderedSchema Good s
  schema-some b s h q =
      bind-some (word b) _ q λ m em q₁.
      bind-some (word m.1) _ q₁ λ n en q₂.
      bind-some (word n.1) _ q₂ λ k ek q₃.
      bind-some (guard (leb m.0 max_entities && (leb n.0 max_actions && leb k.0 max_functions))) _ q₃ λ g eg q₄.
      let bodies = drop (5 * m.0 + 6 * n.0 + 7 * k.0) k.1 in
      bind-some (rows read_entity ascending_first (λ h. read_body p h.1) m.0 0 k.1 bodies) _ q₄ λ x ex q₅.
      bind-some (rows read_action ascending_action (λ h. read_body p true) n.0 (0, 0) x.1 x.2) _ q₅ λ y ey q₆.
      bind-some (rows read_function ascending_first (λ h. parse_args) k.0 0 y.1 y.2) _ q₆ λ z ez q₇.
      let (f, e) = finish-some _ z.2 q₇ in
      let (m₁, hm) = word_some b m h em in
      let (n₁, hn) = word_some m.1 n hm en in
      let (k₁, hk) = word_some n.1 k hn ek in
      let (x₁, x₂, x₃, x₄, x₅, x₆) = rows-some write_entity read_entity ascending_first enc_body (λ h. read_body p h.1) (λ h n. T (not (is_action h.0)))
      (EntityRow Good) read_entity-reads (λ h. read_body-reads Good p h.1 r)
      m.0 0 k.1 bodies x hk (Bytes-drop (5 * m.0 + 6 * n.0 + 7 * k.0) k.1 hk) ex in
      let (y₁, y₂, y₃, y₄, y₅, y₆) = rows-some write_action read_action ascending_action enc_body (λ h. read_body p true) (λ h n. T (is_action h.0))
      (ActionRow Good) read_action-reads (λ h. read_body-reads Good p true r)
      n.0 (0, 0) x.1 x.2 y x₅ x₆ ey in
      let (z₁, z₂, z₃, z₄, z₅, z₆) = rows-some write_function read_function ascending_first enc_args (λ h. parse_args) (λ h n. Unit {0}) (λ h x. Unit {0})
      read_function-reads (λ h. parse_args-reads)
      k.0 0 y.1 y.2 z y₅ y₆ ez in
      subst (λ (t : Schema). (enc_schema t ≡ b) × OrderedSchema Good t) f (
        schema-bytes b m n k x.0 y.0 z.0 z.1 m₁ n₁ k₁
            (ap (λ (l : List ℕ). heads write_entity enc_body x.0 ++ l) (ap (λ (l : List ℕ). heads write_action enc_body y.0 ++ l) z₁ ∙ y₁) ∙ x₁)
            (ap (λ (l : List ℕ). tails enc_body x.0 ++ l)
            (ap (λ (l : List ℕ). tails enc_body y.0 ++ l) (ap (λ (l : List ℕ). tails enc_args z.0 ++ l) (sym e) ∙ z₂) ∙ y₂) ∙ x₂) x₃ y₃ z₃
            (actions-good Good (0, 0) y.0 y₄).1,
        sections-ordered Good m.0 n.0 k.0 x.0 y.0 z.0 x₃ y₃ z₃ x₄ y₄ z₄
            (guard-some (leb m.0 max_entities && (leb n.0 max_actions && leb k.0 max_functions)) g eg),
      )

  schema-enc : (s : Schema) → OrderedSchema Good s → parse_schema p (enc_schema s) ≡ some s
  schema-enc s o =
      let xs = entity_rows s.entities in
      let ys = action_rows s.actions in
      let zs = function_rows s.functions in
      let few : T (leb (length xs) max_entities && (leb (length ys) max_actions && leb (length zs) max_functions)) =
      and_T (leb (length xs) max_entities) (leb (length ys) max_actions && leb (length zs) max_functions)
      (le→leb (length xs) max_entities (rw (length-entity_rows s.entities) o.few_entities))
      (and_T (leb (length ys) max_actions) (leb (length zs) max_functions) (le→leb (length ys) max_actions (rw (length-action_rows s.actions) o.few_actions))
      (le→leb (length zs) max_functions (rw (length-function_rows s.functions) o.few_functions))) in
      ap (λ (l : List ℕ). parse_schema p (u16 (length xs) ++ (u16 (length ys) ++ (u16 (length zs) ++ heads_of xs ys zs l)))) (sym (no_more xs ys zs))
      ∙ rw (mod-add-div' (length xs) 256, mod-add-div' (length ys) 256, mod-add-div' (length zs) 256)
      (guard-yes (leb (length xs) max_entities && (leb (length ys) max_actions && leb (length zs) max_functions)) _ few
      ∙ rw (drop-heads xs ys zs (tails_of xs ys zs []))
      (bind-at _ (rows-enc write_entity read_entity ascending_first enc_body (λ h. read_body p h.1) (λ h n. T (not (is_action h.0))) (EntityRow Good)
      read_entity-reads (λ h. read_body-reads Good p h.1 r)
      0 xs _ _ (good-entities Good 0 s.entities o.entities))
      ∙
      bind-at _ (rows-enc write_action read_action ascending_action enc_body (λ h. read_body p true) (λ h n. T (is_action h.0)) (ActionRow Good)
      read_action-reads (λ h. read_body-reads Good p true r)
      (0, 0) ys _ _ (good-actions Good (0, 0) s.actions o.actions))
      ∙
      bind-at _
      (rows-enc write_function read_function ascending_first enc_args (λ h. parse_args) (λ h n. Unit {0}) (λ h x. Unit {0})
      read_function-reads (λ h. parse_args-reads)
      0 zs _ _ (good-functions Good 0 s.functions o.functions))
      ∙ ap some (schema-equal (entities-rows s.entities) (actions-rows s.actions) (functions-rows s.functions))))

  -- Where p reads the good types, `parse_schema p` reads the schemas in order whose bodies are good.
  pub parse_schema-reads : Reads enc_schema (OrderedSchema Good) (parse_schema p)
  parse_schema-reads = record { into = schema-some; back = schema-enc }

-- An entity entry that is found has the name, and its body is good.
pub entity_in-good : (Good : Ty → Type 0) (es : List Entity) (low n : ℕ) (e : Entity) → EntitiesFrom Good low es → entity_in es n ≡ some e →
    (n ≡ e.name) × Good (rec e.is_open e.attrs)
entity_in-good Good [] low n e w q = none-some q
entity_in-good Good (d ∷ es) low n e w q = cond-case (eqb n d.name) q
    (λ t p. subst (λ (x : Entity). (n ≡ x.name) × Good (rec x.is_open x.attrs)) (some-injective _ _ p) (eqb→eq n d.name t, w.3))
    (λ t p. entity_in-good Good es (suc d.name) n e w.4 p)

-- The body of an action entry that is found is good.
pub action_in-good : (Good : Ty → Type 0) (xs : List Action) (low : ℕ × ℕ) (k i : ℕ) (a : Action) → ActionsFrom Good low xs → action_in xs k i ≡ some a →
    Good (rec false a.attrs)
action_in-good Good [] low k i a w q = none-some q
action_in-good Good (d ∷ xs) low k i a w q = cond-case (eqb k d.type && eqb i d.id) q
    (λ t p. subst (λ (x : Action). Good (rec false x.attrs)) (some-injective _ _ p) w.2)
    (λ t p. action_in-good Good xs (d.type, suc d.id) k i a w.3 p)
