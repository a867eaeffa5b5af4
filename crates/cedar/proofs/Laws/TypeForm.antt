-- `enc` and `parse` are inverse: on bytes, `parse l b` is t just where `enc t` is b and t is in order, of at most l levels.
use Rattle.std.specs.Prelude.{ℕ, zero, suc, ◌≤◌, List, [], ◌∷◌, ◌++◌, Bool, ◌≡◌, refl, ◌↔◌, leb, length}
use Rattle.std.proofs.Common.{suc-le-suc, zero-le, not-suc-le-zero, le_of_suc-le-suc, le_trans, sym, ap, ap₂, ◌∙◌, subst, leb→le, le→leb}
use Rattle.std.proofs.Math.Nat.{mod-add-div', le-max_left, le-max_right, max-le}
use Rattle.std.proofs.Math.Option.{Option, some, some-injective}
use Rattle.cedar.specs.Types.{Atom, never, true', false', bool, long, string, anyset, anyent, Ty, atom, set, rec, act, ent, ext, Attrs, nil, attr}
use Rattle.cedar.proofs.Laws.Encoders.{heads, tails}
use Rattle.cedar.specs.Levels.{depth, depths}
use Rattle.cedar.specs.Laws.Shape.{Ordered, OrderedFrom, WF}
use Rattle.cedar.specs.Bytes.{u16, flag, ◌>>=◌, guard, word, bit, enc_names, parse_names, Bytes}
use Rattle.cedar.specs.TypeForm.{Kind, one, set_kind, rec_kind, ent_kind, act_kind, ext_kind, no_kind, kind_of, atom_code, count, enc, entries, bodies}
use Rattle.cedar.specs.TypeForm.{read_attr, ascending_attr, attrs_of, parse_attrs, parse_as, parse}
use Rattle.cedar.proofs.Laws.Tests.{none-some}
use Rattle.cedar.proofs.Laws.Bytes.{Reads, reads-map, reads-iff, reads-injective, bind-some, bind-at, guard-some, guard-yes, finish-some, word_some}
use Rattle.cedar.proofs.Laws.Bytes.{bit-some, bit-flag, parse_names-some, parse_names-enc}
use Rattle.cedar.proofs.Laws.Table.{ReadsEntry, Follow, parse_counted-reads, ascending-some, ascending-yes}

abbrev write_attr : ℕ × Bool → ℕ → List ℕ
write_attr h l = u16 h.0 ++ (flag h.1 ∷ u16 l)

read_attr-reads : ReadsEntry write_attr (λ h n. Unit {0}) read_attr
read_attr-reads = record { into = into; back = back }
  where
    into : (b : List ℕ) (x : (ℕ × Bool) × ℕ × List ℕ) → Bytes b → read_attr b ≡ some x → (write_attr x.0 x.1 ++ x.2 ≡ b) × Bytes x.2 × Unit {0}
    into b x h e =
        bind-some (word b) _ e λ n en e₁.
        bind-some (bit n.1) _ e₁ λ r er e₂.
        bind-some (word r.1) _ e₂ λ l el e₃.
        let (s₁, h₁) = word_some b n h en in
        let (s₂, h₂) = bit-some n.1 r h₁ er in
        let (s₃, h₃) = word_some r.1 l h₂ el in
        subst (λ (y : (ℕ × Bool) × ℕ × List ℕ). (write_attr y.0 y.1 ++ y.2 ≡ b) × Bytes y.2 × Unit {0})
        (some-injective _ _ e₃) (rw s₃ (rw s₂ s₁), h₃, tt)

    back : (h : ℕ × Bool) (l : ℕ) (b : List ℕ) → Unit {0} → read_attr (write_attr h l ++ b) ≡ some (h, l, b)
    back h l b u = bind-at _ (bit-flag h.1 (u16 l ++ b)) ∙ ap₂ (λ (i j : ℕ). some ((i, h.1), j, b)) (mod-add-div' h.0 256) (mod-add-div' l 256)

-- The attributes of a table, and the table of attributes.
table_of : Attrs → List ((ℕ × Bool) × Ty)
table_of nil = []
table_of (attr n r t xs) = ((n, r), t) ∷ table_of xs

attrs-table : (xs : Attrs) → attrs_of (table_of xs) ≡ xs
unfolding table_of
attrs-table nil = refl
attrs-table (attr n r t xs) = ap (attr n r t) (attrs-table xs)

entries-of : (xs : List ((ℕ × Bool) × Ty)) → entries (attrs_of xs) ≡ heads write_attr enc xs
unfolding enc
entries-of [] = refl
entries-of (x ∷ xs) = ap (λ (l : List ℕ). write_attr x.0 (length (enc x.1)) ++ l) (entries-of xs)

bodies_of : (xs : List ((ℕ × Bool) × Ty)) → bodies (attrs_of xs) ≡ tails enc xs
unfolding enc
bodies_of [] = refl
bodies_of (x ∷ xs) = ap (λ (l : List ℕ). enc x.1 ++ l) (bodies_of xs)

count_of : (xs : List ((ℕ × Bool) × Ty)) → count (attrs_of xs) ≡ length xs
count_of [] = refl
count_of (x ∷ xs) = ap suc (count_of xs)

-- The bytes of an attribute list, after what its holder puts first.
abbrev pub enc_attrs : Attrs → List ℕ
enc_attrs xs = u16 (count xs) ++ (entries xs ++ bodies xs)

-- An attribute list in order, of at most so many levels.
abbrev pub WFAttrs : ℕ → ℕ → Attrs → Type 0
WFAttrs l low xs = (depths xs ≤ l) × OrderedFrom low xs

table-good : (l low : ℕ) (xs : List ((ℕ × Bool) × Ty)) → Follow ascending_attr enc (λ h n. Unit {0}) (λ h. WF l) low xs → WFAttrs l low (attrs_of xs)
unfolding depth Ordered
table-good l low [] f = (zero-le, tt)
table-good l low (x ∷ xs) f =
    let (a, b) = ascending-some low x.0.0 f.0 f.1 in
    let (d, o) = table-good l f.0 xs f.4 in
    (max-le f.3.0 d, (a, f.3.1, subst (λ (s : ℕ). OrderedFrom s (attrs_of xs)) (sym b) o))

good-table : (l low : ℕ) (xs : Attrs) → WFAttrs l low xs → Follow ascending_attr enc (λ h n. Unit {0}) (λ h. WF l) low (table_of xs)
unfolding depth Ordered table_of
good-table l low nil w = tt
good-table l low (attr n r t xs) w = (
  suc n,
  ascending-yes low n w.1.0,
  tt,
  (le_trans (le-max_left (depth t) (depths xs)) w.0, w.1.1),
  good-table l (suc n) xs (le_trans (le-max_right (depth t) (depths xs)) w.0, w.1.2),
)

-- Where p reads the types of l levels, `parse_attrs p` reads the attribute lists of l levels.
pub parse_attrs-reads : (p : List ℕ → Option Ty) (l : ℕ) → Reads enc (WF l) p → Reads enc_attrs (WFAttrs l 0) (parse_attrs p)
parse_attrs-reads p l r = reads-map attrs_of table_of attrs-table (λ xs. rw (count_of xs, entries-of xs, bodies_of xs)) (table-good l 0) (good-table l 0)
    (parse_counted-reads write_attr read_attr ascending_attr enc (λ h. p) (λ h n. Unit {0}) (λ h. WF l) read_attr-reads (λ h. r) 5 (λ h n. refl) 0)

-- The first byte of a kind.
code_of : Kind → ℕ
code_of (one k) = atom_code k
code_of set_kind = 7
code_of rec_kind = 8
code_of ent_kind = 10
code_of act_kind = 11
code_of ext_kind = 12
code_of no_kind = 0

pos : {l : ℕ} → 1 ≤ suc l
pos = suc-le-suc zero-le

parse_as-some : (p : List ℕ → Option Ty) (l : ℕ) → Reads enc (WF l) p → (k : Kind) (b : List ℕ) (t : Ty) → Bytes b → parse_as p k b ≡ some t
    → (enc t ≡ code_of k ∷ b) × WF (suc l) t
unfolding enc depth Ordered code_of
parse_as-some p l good (one k) b t h e =
    let (s, n) = finish-some _ b e in
    subst (λ (y : Ty). (enc y ≡ atom_code k ∷ b) × WF (suc l) y) s (ap {B = List ℕ} (λ r. atom_code k ∷ r) (sym n), (pos, tt))
parse_as-some p l good set_kind b t h e =
    bind-some (p b) _ e λ u eu e₁.
    let (t₁, (t₂, t₃)) = good.into b u h eu in
    subst (λ (y : Ty). (enc y ≡ 7 ∷ b) × WF (suc l) y) (some-injective _ _ e₁) (ap {B = List ℕ} (λ r. 7 ∷ r) t₁, (suc-le-suc t₂, t₃))
parse_as-some p l good rec_kind b t h e =
    bind-some (bit b) _ e λ o eo e₁.
    bind-some (parse_attrs p o.1) _ e₁ λ xs ex e₂.
    let (s, hs) = bit-some b o h eo in
    let (a₁, (a₂, a₃)) = (parse_attrs-reads p l good).into o.1 xs hs ex in
    subst (λ (y : Ty). (enc y ≡ 8 ∷ b) × WF (suc l) y)
    (some-injective _ _ e₂) (ap {B = List ℕ} (λ r. 8 ∷ r) (ap {B = List ℕ} (λ r. flag o.0 ∷ r) a₁ ∙ s), (suc-le-suc a₂, a₃))
parse_as-some p l good ent_kind b t h e =
    bind-some (word b) _ e λ c ec e₁.
    bind-some (guard (leb 1 c.0)) _ e₁ λ g eg e₂.
    bind-some (parse_names c.0 0 c.1) _ e₂ λ ns en e₃.
    let (s, hs) = word_some b c h ec in
    let (i₁, i₂, i₃) = parse_names-some c.0 0 c.1 ns hs en in
    subst (λ (y : Ty). (enc y ≡ 10 ∷ b) × WF (suc l) y) (some-injective _ _ e₃)
    (ap {B = List ℕ} (λ r. 10 ∷ r) (rw (i₃, i₁) s), (pos, (rw i₃ (leb→le 1 c.0 (guard-some (leb 1 c.0) g eg)), i₂)))
parse_as-some p l good act_kind b t h e =
    bind-some (word b) _ e λ n en e₁.
    bind-some (parse_attrs p n.1) _ e₁ λ xs ex e₂.
    let (s, hs) = word_some b n h en in
    let (a₁, (a₂, a₃)) = (parse_attrs-reads p l good).into n.1 xs hs ex in
    subst (λ (y : Ty). (enc y ≡ 11 ∷ b) × WF (suc l) y)
    (some-injective _ _ e₂) (ap {B = List ℕ} (λ r. 11 ∷ r) (ap (λ (r : List ℕ). u16 n.0 ++ r) a₁ ∙ s), (suc-le-suc a₂, a₃))
parse_as-some p l good ext_kind b t h e =
    bind-some (word b) _ e λ n en e₁.
    let (s, hs) = word_some b n h en in
    let (f, z) = finish-some _ n.1 e₁ in
    subst (λ (y : Ty). (enc y ≡ 12 ∷ b) × WF (suc l) y) f (ap {B = List ℕ} (λ r. 12 ∷ r) (rw (← s, z)), (pos, tt))
parse_as-some p l good no_kind b t h e = none-some e

kind-code : (k : ℕ) (p : List ℕ → Option Ty) (b : List ℕ) (t : Ty) → parse_as p (kind_of k) b ≡ some t → code_of (kind_of k) ≡ k
unfolding code_of
kind-code zero p b t e = refl
kind-code (suc zero) p b t e = refl
kind-code (suc (suc zero)) p b t e = refl
kind-code (suc (suc (suc zero))) p b t e = refl
kind-code (suc (suc (suc (suc zero)))) p b t e = refl
kind-code (suc (suc (suc (suc (suc zero))))) p b t e = refl
kind-code (suc (suc (suc (suc (suc (suc zero)))))) p b t e = refl
kind-code (suc (suc (suc (suc (suc (suc (suc zero))))))) p b t e = refl
kind-code (suc (suc (suc (suc (suc (suc (suc (suc zero)))))))) p b t e = refl
kind-code (suc (suc (suc (suc (suc (suc (suc (suc (suc zero))))))))) p b t e = refl
kind-code (suc (suc (suc (suc (suc (suc (suc (suc (suc (suc zero)))))))))) p b t e = refl
kind-code (suc (suc (suc (suc (suc (suc (suc (suc (suc (suc (suc zero))))))))))) p b t e = refl
kind-code (suc (suc (suc (suc (suc (suc (suc (suc (suc (suc (suc (suc zero)))))))))))) p b t e = refl
kind-code (suc (suc (suc (suc (suc (suc (suc (suc (suc (suc (suc (suc (suc k))))))))))))) p b t e = none-some e

atom-enc : (p : List ℕ → Option Ty) (k : Atom) → parse_as p (kind_of (atom_code k)) [] ≡ some (atom k)
atom-enc p never = refl
atom-enc p true' = refl
atom-enc p false' = refl
atom-enc p bool = refl
atom-enc p long = refl
atom-enc p string = refl
atom-enc p anyset = refl
atom-enc p anyent = refl

parse-suc-enc : (l : ℕ) → Reads enc (WF l) (parse l) → (t : Ty) → WF (suc l) t → parse (suc l) (enc t) ≡ some t
unfolding parse enc depth Ordered
parse-suc-enc l r (atom k) w = atom-enc (parse l) k
parse-suc-enc l r (set t) w = bind-at _ (r.back t (le_of_suc-le-suc w.0, w.1))
parse-suc-enc l r (rec p xs) w = bind-at _ (bit-flag p _) ∙ bind-at _ ((parse_attrs-reads (parse l) l r).back xs (le_of_suc-le-suc w.0, w.1))
parse-suc-enc l r (act n xs) w =
    rw (mod-add-div' n 256) (bind-at (λ ys. some (act n ys)) ((parse_attrs-reads (parse l) l r).back xs (le_of_suc-le-suc w.0, w.1)))
parse-suc-enc l r (ent ns) w = rw (mod-add-div' (length ns) 256)
    (guard-yes (leb 1 (length ns)) (λ u. parse_names (length ns) 0 (enc_names ns) >>= λ ks. some (ent ks)) (le→leb 1 (length ns) w.1.0) ∙
    bind-at (λ ks. some (ent ks)) (parse_names-enc 0 ns w.1.1))
parse-suc-enc l r (ext n) w = ap (λ (k : ℕ). some (ext k)) (mod-add-div' n 256)

parse-suc-some : (l : ℕ) → Reads enc (WF l) (parse l) → (b : List ℕ) (t : Ty) → Bytes b → parse (suc l) b ≡ some t → (enc t ≡ b) × WF (suc l) t
unfolding parse
parse-suc-some l r [] t h e = none-some e
parse-suc-some l r (k ∷ b) t h e =
    let (s, w) = parse_as-some (parse l) l r (kind_of k) b t h.1 e in
    (s ∙ ap {B = List ℕ} (λ r. r ∷ b) (kind-code k (parse l) b t e), w)

-- A type has a level.
pub depth_pos : (t : Ty) → 1 ≤ depth t
unfolding depth
depth_pos (atom k) = pos
depth_pos (set t) = pos
depth_pos (rec o xs) = pos
depth_pos (act n xs) = pos
depth_pos (ent ns) = pos
depth_pos (ext n) = pos

-- `parse l` reads just the types in order of at most l levels, each from its own bytes.
pub parse-reads : (l : ℕ) → Reads enc (WF l) (parse l)
unfolding parse
parse-reads zero = record { into = λ b t h e. none-some e; back = λ t w. absurd (not-suc-le-zero (le_trans (depth_pos t) w.0)) }
parse-reads (suc l) = record { into = parse-suc-some l (parse-reads l); back = parse-suc-enc l (parse-reads l) }

-- On bytes, what `parse` reads is the type that `enc` writes so.
pub parse-iff : (l : ℕ) (b : List ℕ) (t : Ty) → Bytes b → (parse l b ≡ some t) ↔ ((enc t ≡ b) × WF l t)
parse-iff l = reads-iff (parse-reads l)

-- Equal bytes, equal types.
pub enc-injective : (l : ℕ) (t u : Ty) → WF l t → WF l u → enc t ≡ enc u → t ≡ u
enc-injective l = reads-injective (parse-reads l)
