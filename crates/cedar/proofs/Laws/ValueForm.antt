-- `enc_value` and `parse_value` are inverse: on bytes, `parse_value l b` is v just where `enc_value v` is b and v is in order, of at most l levels.
use Rattle.std.specs.Prelude.{ℕ, zero, suc, ◌≤◌, List, [], ◌∷◌, ◌++◌, Bool, true, false, ◌≡◌, refl, T, eqb, length}
use Rattle.std.proofs.Common.{suc-le-suc, zero-le, not-suc-le-zero, le_of_suc-le-suc, le_trans, sym, ap, ap₂, ◌∙◌, subst, eqb→eq}
use Rattle.std.proofs.Math.Nat.{mod-add-div', le-max_left, le-max_right, max-le}
use Rattle.std.proofs.Math.Option.{Option, some, some-injective}
use Rattle.std.proofs.Math.Dec.{eqb_refl}
use Rattle.cedar.specs.Types.{Value, boolean, number, text, uid, set_of, record_of, call, Values, end, value, Pairs, empty, pair}
use Rattle.cedar.proofs.Laws.Encoders.{heads, tails}
use Rattle.cedar.specs.Levels.{depth_value, depth_values, depth_pairs}
use Rattle.cedar.specs.Laws.Shape.{OrderedValue, OrderedValues, OrderedPairs, WFValue}
use Rattle.cedar.specs.Bytes.{u16, flag, guard, word, Bytes}
use Rattle.cedar.specs.Table.{ascending, any_order, read_length}
use Rattle.cedar.specs.ValueForm.{ValueKind, bool_kind, long_kind, string_kind, uid_kind, set_kind, record_kind, call_kind, no_kind, value_kind, count_values}
use Rattle.cedar.specs.ValueForm.{count_pairs, enc_value, lengths, bodies_of, entries_of, values_of}
use Rattle.cedar.specs.ValueForm.{read_pair, values_from, pairs_from, parse_values, parse_pairs, parse_value_as, parse_value}
use Rattle.cedar.proofs.Laws.Tests.{none-some}
use Rattle.cedar.proofs.Laws.Bytes.{Reads, reads-map, reads-injective, bind-some, bind-at, guard-some, guard-yes, finish-some, word_some}
use Rattle.cedar.proofs.Laws.Table.{ReadsEntry, Follow, parse_counted-reads, ascending-some, ascending-yes, write_length, read_length-reads}

abbrev write_pair : ℕ → ℕ → List ℕ
write_pair n l = u16 n ++ u16 l

read_pair-reads : ReadsEntry write_pair (λ h n. Unit {0}) read_pair
read_pair-reads = record { into = into; back = back }
  where
    into : (b : List ℕ) (x : ℕ × ℕ × List ℕ) → Bytes b → read_pair b ≡ some x → (write_pair x.0 x.1 ++ x.2 ≡ b) × Bytes x.2 × Unit {0}
    into b x h e =
        bind-some (word b) _ e λ n en e₁.
        bind-some (word n.1) _ e₁ λ l el e₂.
        let (s₁, h₁) = word_some b n h en in
        let (s₂, h₂) = word_some n.1 l h₁ el in
        subst (λ (y : ℕ × ℕ × List ℕ). (write_pair y.0 y.1 ++ y.2 ≡ b) × Bytes y.2 × Unit {0}) (some-injective _ _ e₂) (rw s₂ s₁, h₂, tt)

    back : (n l : ℕ) (b : List ℕ) → Unit {0} → read_pair (write_pair n l ++ b) ≡ some (n, l, b)
    back n l b u = ap₂ (λ (i j : ℕ). some (i, j, b)) (mod-add-div' n 256) (mod-add-div' l 256)

-- The values of a table, and the table of values.
value_table : Values → List (Unit {0} × Value)
value_table end = []
value_table (value v vs) = (tt, v) ∷ value_table vs

values-table : (vs : Values) → values_from (value_table vs) ≡ vs
unfolding value_table
values-table end = refl
values-table (value v vs) = ap (value v) (values-table vs)

lengths-of : (xs : List (Unit {0} × Value)) → lengths (values_from xs) ≡ heads write_length enc_value xs
unfolding enc_value
lengths-of [] = refl
lengths-of (x ∷ xs) = ap (λ (l : List ℕ). u16 (length (enc_value x.1)) ++ l) (lengths-of xs)

bodies_of-of : (xs : List (Unit {0} × Value)) → bodies_of (values_from xs) ≡ tails enc_value xs
unfolding enc_value
bodies_of-of [] = refl
bodies_of-of (x ∷ xs) = ap (λ (l : List ℕ). enc_value x.1 ++ l) (bodies_of-of xs)

count_values-of : (xs : List (Unit {0} × Value)) → count_values (values_from xs) ≡ length xs
count_values-of [] = refl
count_values-of (x ∷ xs) = ap suc (count_values-of xs)

-- The bytes of members or arguments, after what their holder puts first.
abbrev pub enc_values : Values → List ℕ
enc_values vs = u16 (count_values vs) ++ (lengths vs ++ bodies_of vs)

-- Members or arguments in order, of at most so many levels.
abbrev pub WFValues : ℕ → Values → Type 0
WFValues l vs = (depth_values vs ≤ l) × OrderedValues vs

values-good : (l : ℕ) (s : Unit {0}) (xs : List (Unit {0} × Value)) → Follow any_order enc_value (λ h n. Unit {0}) (λ h. WFValue l) s xs →
    WFValues l (values_from xs)
unfolding depth_value OrderedValue
values-good l s [] f = (zero-le, tt)
values-good l s (x ∷ xs) f = let (d, o) = values-good l f.0 xs f.4 in (max-le f.3.0 d, (f.3.1, o))

good-values : (l : ℕ) (vs : Values) → WFValues l vs → Follow any_order enc_value (λ h n. Unit {0}) (λ h. WFValue l) tt (value_table vs)
unfolding depth_value OrderedValue value_table
good-values l end w = tt
good-values l (value v vs) w = (
  tt,
  refl,
  tt,
  (le_trans (le-max_left (depth_value v) (depth_values vs)) w.0, w.1.0),
  good-values l vs (le_trans (le-max_right (depth_value v) (depth_values vs)) w.0, w.1.1),
)

-- Where p reads the values of l levels, `parse_values p` reads the members or arguments of l levels.
pub parse_values-reads : (p : List ℕ → Option Value) (l : ℕ) → Reads enc_value (WFValue l) p → Reads enc_values (WFValues l) (parse_values p)
parse_values-reads p l r =
    reads-map values_from value_table values-table (λ xs. rw (count_values-of xs, lengths-of xs, bodies_of-of xs)) (values-good l tt) (good-values l)
    (parse_counted-reads write_length read_length any_order enc_value (λ h. p) (λ h n. Unit {0}) (λ h. WFValue l) read_length-reads (λ h. r) 2 (λ h n. refl) tt)

-- The pairs of a table, and the table of pairs.
pair_table : Pairs → List (ℕ × Value)
pair_table empty = []
pair_table (pair n v ps) = (n, v) ∷ pair_table ps

pairs-table : (ps : Pairs) → pairs_from (pair_table ps) ≡ ps
unfolding pair_table
pairs-table empty = refl
pairs-table (pair n v ps) = ap (pair n v) (pairs-table ps)

entries_of-of : (xs : List (ℕ × Value)) → entries_of (pairs_from xs) ≡ heads write_pair enc_value xs
unfolding enc_value
entries_of-of [] = refl
entries_of-of (x ∷ xs) = ap (λ (l : List ℕ). u16 x.0 ++ u16 (length (enc_value x.1)) ++ l) (entries_of-of xs)

values_of-of : (xs : List (ℕ × Value)) → values_of (pairs_from xs) ≡ tails enc_value xs
unfolding enc_value
values_of-of [] = refl
values_of-of (x ∷ xs) = ap (λ (l : List ℕ). enc_value x.1 ++ l) (values_of-of xs)

count_pairs-of : (xs : List (ℕ × Value)) → count_pairs (pairs_from xs) ≡ length xs
count_pairs-of [] = refl
count_pairs-of (x ∷ xs) = ap suc (count_pairs-of xs)

-- The bytes of pairs, after what their holder puts first.
abbrev pub enc_pairs : Pairs → List ℕ
enc_pairs ps = u16 (count_pairs ps) ++ (entries_of ps ++ values_of ps)

-- Pairs in order from a name on, of at most so many levels.
abbrev pub WFPairs : ℕ → ℕ → Pairs → Type 0
WFPairs l low ps = (depth_pairs ps ≤ l) × OrderedPairs low ps

pairs-good : (l low : ℕ) (xs : List (ℕ × Value)) → Follow ascending enc_value (λ h n. Unit {0}) (λ h. WFValue l) low xs → WFPairs l low (pairs_from xs)
unfolding depth_value OrderedValue
pairs-good l low [] f = (zero-le, tt)
pairs-good l low (x ∷ xs) f =
    let (a, b) = ascending-some low x.0 f.0 f.1 in
    let (d, o) = pairs-good l f.0 xs f.4 in
    (max-le f.3.0 d, (a, f.3.1, subst (λ (s : ℕ). OrderedPairs s (pairs_from xs)) (sym b) o))

good-pairs : (l low : ℕ) (ps : Pairs) → WFPairs l low ps → Follow ascending enc_value (λ h n. Unit {0}) (λ h. WFValue l) low (pair_table ps)
unfolding depth_value OrderedValue pair_table
good-pairs l low empty w = tt
good-pairs l low (pair n v ps) w = (
  suc n,
  ascending-yes low n w.1.0,
  tt,
  (le_trans (le-max_left (depth_value v) (depth_pairs ps)) w.0, w.1.1),
  good-pairs l (suc n) ps (le_trans (le-max_right (depth_value v) (depth_pairs ps)) w.0, w.1.2),
)

-- Where p reads the values of l levels, `parse_pairs p` reads the pairs of l levels.
pub parse_pairs-reads : (p : List ℕ → Option Value) (l : ℕ) → Reads enc_value (WFValue l) p → Reads enc_pairs (WFPairs l 0) (parse_pairs p)
parse_pairs-reads p l r =
    reads-map pairs_from pair_table pairs-table (λ xs. rw (count_pairs-of xs, entries_of-of xs, values_of-of xs)) (pairs-good l 0) (good-pairs l 0)
    (parse_counted-reads write_pair read_pair ascending enc_value (λ h. p) (λ h n. Unit {0}) (λ h. WFValue l) read_pair-reads (λ h. r) 4 (λ h n. refl) 0)

value_code : ValueKind → ℕ
value_code (bool_kind b) = flag b
value_code long_kind = 2
value_code string_kind = 3
value_code uid_kind = 4
value_code set_kind = 5
value_code record_kind = 6
value_code call_kind = 7
value_code no_kind = 0

pos : {l : ℕ} → 1 ≤ suc l
pos = suc-le-suc zero-le

parse_value_as-some : (p : List ℕ → Option Value) (l : ℕ) → Reads enc_value (WFValue l) p → (k : ValueKind) (b : List ℕ) (v : Value) → Bytes b →
    parse_value_as p k b ≡ some v → (enc_value v ≡ value_code k ∷ b) × WFValue (suc l) v
unfolding enc_value depth_value OrderedValue value_code
parse_value_as-some p l good (bool_kind x) b v h e =
    let (s, n) = finish-some _ b e in
    subst (λ (y : Value). (enc_value y ≡ flag x ∷ b) × WFValue (suc l) y) s (ap {B = List ℕ} (λ r. flag x ∷ r) (sym n), (pos, tt))
parse_value_as-some p l good long_kind b v h e =
    bind-some (guard (eqb (length b) 8)) _ e λ g eg e₁.
    subst (λ (y : Value). (enc_value y ≡ 2 ∷ b) × WFValue (suc l) y)
    (some-injective _ _ e₁) (refl, (pos, eqb→eq (length b) 8 (guard-some (eqb (length b) 8) g eg)))
parse_value_as-some p l good string_kind b v h e =
    bind-some (word b) _ e λ n en e₁.
    bind-some (guard (eqb (length n.1) n.0)) _ e₁ λ g eg e₂.
    let (s, hs) = word_some b n h en in
    subst (λ (y : Value). (enc_value y ≡ 3 ∷ b) × WFValue (suc l) y) (some-injective _ _ e₂)
    (ap {B = List ℕ} (λ r. 3 ∷ r) (ap (λ (i : ℕ). u16 i ++ n.1) (eqb→eq (length n.1) n.0 (guard-some (eqb (length n.1) n.0) g eg)) ∙ s), (pos, tt))
parse_value_as-some p l good uid_kind b v h e =
    bind-some (word b) _ e λ k ek e₁.
    bind-some (word k.1) _ e₁ λ i ei e₂.
    let (s₁, h₁) = word_some b k h ek in
    let (s₂, h₂) = word_some k.1 i h₁ ei in
    let (f, z) = finish-some _ i.1 e₂ in
    subst (λ (y : Value). (enc_value y ≡ 4 ∷ b) × WFValue (suc l) y) f (ap {B = List ℕ} (λ r. 4 ∷ r) (rw (← s₁, ← s₂, z)), (pos, tt))
parse_value_as-some p l good set_kind b v h e =
    bind-some (parse_values p b) _ e λ vs ev e₁.
    let (s, (d, o)) = (parse_values-reads p l good).into b vs h ev in
    subst (λ (y : Value). (enc_value y ≡ 5 ∷ b) × WFValue (suc l) y) (some-injective _ _ e₁) (ap {B = List ℕ} (λ r. 5 ∷ r) s, (suc-le-suc d, o))
parse_value_as-some p l good record_kind b v h e =
    bind-some (parse_pairs p b) _ e λ ps ep e₁.
    let (s, (d, o)) = (parse_pairs-reads p l good).into b ps h ep in
    subst (λ (y : Value). (enc_value y ≡ 6 ∷ b) × WFValue (suc l) y) (some-injective _ _ e₁) (ap {B = List ℕ} (λ r. 6 ∷ r) s, (suc-le-suc d, o))
parse_value_as-some p l good call_kind b v h e =
    bind-some (word b) _ e λ f ef e₁.
    bind-some (parse_values p f.1) _ e₁ λ vs ev e₂.
    let (s, hs) = word_some b f h ef in
    let (r, (d, o)) = (parse_values-reads p l good).into f.1 vs hs ev in
    subst (λ (y : Value). (enc_value y ≡ 7 ∷ b) × WFValue (suc l) y)
    (some-injective _ _ e₂) (ap {B = List ℕ} (λ r. 7 ∷ r) (ap (λ (z : List ℕ). u16 f.0 ++ z) r ∙ s), (suc-le-suc d, o))
parse_value_as-some p l good no_kind b v h e = none-some e

value_kind-code : (k : ℕ) (p : List ℕ → Option Value) (b : List ℕ) (v : Value) → parse_value_as p (value_kind k) b ≡ some v → value_code (value_kind k) ≡ k
unfolding value_code
value_kind-code zero p b v e = refl
value_kind-code (suc zero) p b v e = refl
value_kind-code (suc (suc zero)) p b v e = refl
value_kind-code (suc (suc (suc zero))) p b v e = refl
value_kind-code (suc (suc (suc (suc zero)))) p b v e = refl
value_kind-code (suc (suc (suc (suc (suc zero))))) p b v e = refl
value_kind-code (suc (suc (suc (suc (suc (suc zero)))))) p b v e = refl
value_kind-code (suc (suc (suc (suc (suc (suc (suc zero))))))) p b v e = refl
value_kind-code (suc (suc (suc (suc (suc (suc (suc (suc k)))))))) p b v e = none-some e

bool-enc : (p : List ℕ → Option Value) (b : Bool) → parse_value_as p (value_kind (flag b)) [] ≡ some (boolean b)
bool-enc p true = refl
bool-enc p false = refl

parse_value-suc-enc : (l : ℕ) → Reads enc_value (WFValue l) (parse_value l) → (v : Value) → WFValue (suc l) v → parse_value (suc l) (enc_value v) ≡ some v
unfolding parse_value enc_value depth_value OrderedValue
parse_value-suc-enc l r (boolean b) w = bool-enc (parse_value l) b
parse_value-suc-enc l r (number n) w = guard-yes (eqb (length n) 8) (λ u. some (number n)) (subst (λ (i : ℕ). T (eqb (length n) i)) w.1 (eqb_refl (length n)))
parse_value-suc-enc l r (text s) w = rw (mod-add-div' (length s) 256) (guard-yes (eqb (length s) (length s)) (λ u. some (text s)) (eqb_refl (length s)))
parse_value-suc-enc l r (uid k i) w = ap₂ (λ (a b : ℕ). some (uid a b)) (mod-add-div' k 256) (mod-add-div' i 256)
parse_value-suc-enc l r (set_of vs) w = bind-at (λ ys. some (set_of ys)) ((parse_values-reads (parse_value l) l r).back vs (le_of_suc-le-suc w.0, w.1))
parse_value-suc-enc l r (record_of ps) w = bind-at (λ ys. some (record_of ys)) ((parse_pairs-reads (parse_value l) l r).back ps (le_of_suc-le-suc w.0, w.1))
parse_value-suc-enc l r (call f vs) w =
    rw (mod-add-div' f 256) (bind-at (λ ys. some (call f ys)) ((parse_values-reads (parse_value l) l r).back vs (le_of_suc-le-suc w.0, w.1)))

parse_value-suc-some : (l : ℕ) → Reads enc_value (WFValue l) (parse_value l) → (b : List ℕ) (v : Value) → Bytes b → parse_value (suc l) b ≡ some v →
    (enc_value v ≡ b) × WFValue (suc l) v
unfolding parse_value
parse_value-suc-some l r [] v h e = none-some e
parse_value-suc-some l r (k ∷ b) v h e =
    let (s, w) = parse_value_as-some (parse_value l) l r (value_kind k) b v h.1 e in
    (s ∙ ap {B = List ℕ} (λ r. r ∷ b) (value_kind-code k (parse_value l) b v e), w)

depth_value-pos : (v : Value) → 1 ≤ depth_value v
unfolding depth_value
depth_value-pos (boolean b) = pos
depth_value-pos (number l) = pos
depth_value-pos (text l) = pos
depth_value-pos (uid k i) = pos
depth_value-pos (set_of vs) = pos
depth_value-pos (record_of ps) = pos
depth_value-pos (call f vs) = pos

-- `parse_value l` reads just the values in order of at most l levels, each from its own bytes.
pub parse_value-reads : (l : ℕ) → Reads enc_value (WFValue l) (parse_value l)
unfolding parse_value
parse_value-reads zero = record { into = λ b v h e. none-some e; back = λ v w. absurd (not-suc-le-zero (le_trans (depth_value-pos v) w.0)) }
parse_value-reads (suc l) = record { into = parse_value-suc-some l (parse_value-reads l); back = parse_value-suc-enc l (parse_value-reads l) }

-- Equal bytes, equal values.
pub enc_value-injective : (l : ℕ) (v w : Value) → WFValue l v → WFValue l w → enc_value v ≡ enc_value w → v ≡ w
enc_value-injective l = reads-injective (parse_value-reads l)
