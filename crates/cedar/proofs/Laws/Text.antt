-- What text means: the encodings of characters, each in its shortest form, one after another; and of one list of characters only.
use Rattle.std.specs.Prelude.{ℕ, zero, suc, ◌+◌, ◌*◌, ◌-◌, ◌/◌, ◌%◌, ◌≤◌, ◌<◌, List, [], ◌∷◌, ◌++◌, true, false, cond, ◌≡◌, refl, ◌⊎◌, ◌↔◌, T, leb, ltb, length, get_or}
use Rattle.std.proofs.Common.{arith, sym, ap, ap₂, ◌∙◌, subst, inl, inr, leb→le, le→leb, ltb→lt, nltb→le, length-append}
use Rattle.std.proofs.Math.Option.{none, some, some-injective}
use Rattle.cedar.specs.Text.{Range, in_range, tail, TextRow, text_rows, followed, goes_on, is_text}
use Rattle.cedar.specs.CodePoints.{IsCharacter, AllCharacters, encode_point, encode_points}
use Rattle.cedar.proofs.Laws.Tests.{T_and, and_T, T→true, not-T→false, cond-case, none-some, maybe-T, T-maybe, T-case}

-- A number from the first of a range to its last.
abbrev pub Between : Range → ℕ → Type 0
Between r x = (r.0 ≤ x) × (x ≤ r.1)

pub in_between : (r : Range) (x : ℕ) → T (in_range r x) → Between r x
in_between r x t = let (a, b) = T_and (leb r.0 x) (leb x r.1) t in (leb→le r.0 x a, leb→le x r.1 b)

pub between_in : (r : Range) (x : ℕ) → Between r x → T (in_range r x)
between_in r x (a, b) = and_T (leb r.0 x) (leb x r.1) (le→leb r.0 x a) (le→leb x r.1 b)

-- Below a number, or not.
pub split : {C : Type 0} (a b : ℕ) → (a < b → C) → (b ≤ a → C) → C
split a b f g = T-case (ltb a b) (λ t. f (ltb→lt a b t)) (λ t. g (nltb→le a b t))

-- ---- The four lengths

leb_yes : (a b : ℕ) → a ≤ b → leb a b ≡ true
leb_yes a b h = T→true (leb a b) (le→leb a b h)

leb_no : (a b : ℕ) → b < a → leb a b ≡ false
leb_no a b h = not-T→false (leb a b) (λ t. let k = leb→le a b t in omega arith)

abbrev two_bytes : ℕ → List ℕ
two_bytes c = (0xC0 + c / 64) ∷ (0x80 + c % 64) ∷ []

abbrev three_bytes : ℕ → List ℕ
three_bytes c = (0xE0 + c / 4096) ∷ (0x80 + c / 64 % 64) ∷ (0x80 + c % 64) ∷ []

abbrev four_bytes : ℕ → List ℕ
four_bytes c = (0xF0 + c / 262144) ∷ (0x80 + c / 4096 % 64) ∷ (0x80 + c / 64 % 64) ∷ (0x80 + c % 64) ∷ []

encode_one : (c : ℕ) → c < 0x80 → encode_point c ≡ c ∷ []
encode_one c h = rw (leb_yes c 0x7F (omega arith))

encode-two : (c : ℕ) → 0x80 ≤ c → c < 0x800 → encode_point c ≡ two_bytes c
encode-two c l h = rw (leb_no c 0x7F (omega arith), leb_yes c 0x7FF (omega arith))

encode-three : (c : ℕ) → 0x800 ≤ c → c < 0x10000 → encode_point c ≡ three_bytes c
encode-three c l h = rw (leb_no c 0x7F (omega arith), leb_no c 0x7FF (omega arith), leb_yes c 0xFFFF (omega arith))

encode-four : (c : ℕ) → 0x10000 ≤ c → encode_point c ≡ four_bytes c
encode-four c l = rw (leb_no c 0x7F (omega arith), leb_no c 0x7FF (omega arith), leb_no c 0xFFFF (omega arith))

-- A code point by the length of its encoding.
by_length : (c : ℕ) (P : List ℕ → Type 0) → (c < 0x80 → P (c ∷ [])) → (0x80 ≤ c → c < 0x800 → P (two_bytes c)) →
    (0x800 ≤ c → c < 0x10000 → P (three_bytes c)) → (0x10000 ≤ c → P (four_bytes c)) → P (encode_point c)
by_length c P one two three four =
    split c 0x80 (λ h. subst P (sym (encode_one c h)) (one h)) λ h.
    split c 0x800 (λ k. subst P (sym (encode-two c h k)) (two h k)) λ k.
    split c 0x10000 (λ m. subst P (sym (encode-three c k m)) (three k m)) λ m.
    subst P (sym (encode-four c m)) (four m)

most-character : (c : ℕ) → IsCharacter c → c ≤ 0x10FFFF
most-character c (inl h) = omega arith
most-character c (inr h) = h.1

-- ---- From bytes to a character

-- Bytes one in each range.
abbrev Fill : List Range → List ℕ → Type 0
Fill [] [] = Unit {0}
Fill [] (y ∷ p) = ⊥
Fill (r ∷ rs) [] = ⊥
Fill (r ∷ rs) (y ∷ p) = Between r y × Fill rs p

-- A character whose encoding these bytes are.
abbrev Means : List ℕ → Type 0
Means b = (c : ℕ) × IsCharacter c × (encode_point c ≡ b)

-- Every filling of a row is the encoding of a character.
abbrev Spells : TextRow → Type 0
Spells r = (x : ℕ) (p : List ℕ) → Between r.0 x → Fill r.1 p → Means (x ∷ p)

abbrev point₂ : ℕ → ℕ → ℕ
point₂ x y = (x - 0xC0) * 64 + (y - 0x80)

abbrev point₃ : ℕ → ℕ → ℕ → ℕ
point₃ x y z = (x - 0xE0) * 4096 + (y - 0x80) * 64 + (z - 0x80)

abbrev point₄ : ℕ → ℕ → ℕ → ℕ → ℕ
point₄ w x y z = (w - 0xF0) * 262144 + (x - 0x80) * 4096 + (y - 0x80) * 64 + (z - 0x80)

cons : {a b : ℕ} {p q : List ℕ} → a ≡ b → p ≡ q → a ∷ p ≡ b ∷ q
cons e f = ap₂ (λ (i : ℕ) (l : List ℕ). i ∷ l) e f

spells-two : (x y : ℕ) → Between (0xC2, 0xDF) x → Between tail y → Means (x ∷ y ∷ [])
spells-two x y h k =
    let c = point₂ x y in
    let a : 0xC0 + c / 64 ≡ x = omega arith in
    let b : 0x80 + c % 64 ≡ y = omega arith in
    (c, inl (omega arith), encode-two c (omega arith) (omega arith) ∙ cons a (cons b refl))

spells-three : (x y z : ℕ) → Between (0xE0, 0xEF) x → Between tail y → Between tail z → 0x800 ≤ point₃ x y z → IsCharacter (point₃ x y z) →
    Means (x ∷ y ∷ z ∷ [])
spells-three x y z h k l m n =
    let c = point₃ x y z in
    let a : 0xE0 + c / 4096 ≡ x = omega arith in
    let b : 0x80 + c / 64 % 64 ≡ y = omega arith in
    let d : 0x80 + c % 64 ≡ z = omega arith in
    (c, n, encode-three c m (omega arith) ∙ cons a (cons b (cons d refl)))

spells-four : (w x y z : ℕ) → Between (0xF0, 0xF4) w → Between tail x → Between tail y → Between tail z → 0x10000 ≤ point₄ w x y z →
    point₄ w x y z ≤ 0x10FFFF → Means (w ∷ x ∷ y ∷ z ∷ [])
spells-four w x y z g h k l m n =
    let c = point₄ w x y z in
    let a : 0xF0 + c / 262144 ≡ w = omega arith in
    let b : 0x80 + c / 4096 % 64 ≡ x = omega arith in
    let d : 0x80 + c / 64 % 64 ≡ y = omega arith in
    let e : 0x80 + c % 64 ≡ z = omega arith in
    (c, inr (omega arith, n), encode-four c m ∙ cons a (cons b (cons d (cons e refl))))

-- The rows of each length.
row_one : Spells ((0x00, 0x7F), [])
row_one x [] h f = (x, inl (omega arith), encode_one x (omega arith))
row_one x (y ∷ p) h f = absurd f

row-two : Spells ((0xC2, 0xDF), tail ∷ [])
row-two x [] h f = absurd f
row-two x (y ∷ []) h f = spells-two x y h f.0
row-two x (y ∷ z ∷ p) h f = absurd f.1

row-three : (r q : Range) → ((x y z : ℕ) → Between r x → Between q y → Between tail z → Means (x ∷ y ∷ z ∷ [])) → Spells (r, q ∷ tail ∷ [])
row-three r q g x [] h f = absurd f
row-three r q g x (y ∷ []) h f = absurd f.1
row-three r q g x (y ∷ z ∷ []) h f = g x y z h f.0 f.1.0
row-three r q g x (y ∷ z ∷ w ∷ p) h f = absurd f.1.1

row-four : (r q : Range) → ((w x y z : ℕ) → Between r w → Between q x → Between tail y → Between tail z → Means (w ∷ x ∷ y ∷ z ∷ [])) →
    Spells (r, q ∷ tail ∷ tail ∷ [])
row-four r q g w [] h f = absurd f
row-four r q g w (x ∷ []) h f = absurd f.1
row-four r q g w (x ∷ y ∷ []) h f = absurd f.1.1
row-four r q g w (x ∷ y ∷ z ∷ []) h f = g w x y z h f.0 f.1.0 f.1.1.0
row-four r q g w (x ∷ y ∷ z ∷ v ∷ p) h f = absurd f.1.1.1

-- Each of some rows.
abbrev pub Each : (TextRow → Type 0) → List TextRow → Type 0
Each P [] = Unit {0}
Each P (r ∷ rs) = P r × Each P rs

row-E0 : Spells ((0xE0, 0xE0), (0xA0, 0xBF) ∷ tail ∷ [])
row-E0 = row-three (0xE0, 0xE0) (0xA0, 0xBF) λ x y z h k l. spells-three x y z (omega arith) (omega arith) l (omega arith) (inl (omega arith))

row-E1 : Spells ((0xE1, 0xEC), tail ∷ tail ∷ [])
row-E1 = row-three (0xE1, 0xEC) tail λ x y z h k l. spells-three x y z (omega arith) k l (omega arith) (inl (omega arith))

row-ED : Spells ((0xED, 0xED), (0x80, 0x9F) ∷ tail ∷ [])
row-ED = row-three (0xED, 0xED) (0x80, 0x9F) λ x y z h k l. spells-three x y z (omega arith) (omega arith) l (omega arith) (inl (omega arith))

row-EE : Spells ((0xEE, 0xEF), tail ∷ tail ∷ [])
row-EE = row-three (0xEE, 0xEF) tail λ x y z h k l. spells-three x y z (omega arith) k l (omega arith) (inr (omega arith, omega arith))

row-F0 : Spells ((0xF0, 0xF0), (0x90, 0xBF) ∷ tail ∷ tail ∷ [])
row-F0 = row-four (0xF0, 0xF0) (0x90, 0xBF) λ w x y z h k l m. spells-four w x y z (omega arith) (omega arith) l m (omega arith) (omega arith)

row-F1 : Spells ((0xF1, 0xF3), tail ∷ tail ∷ tail ∷ [])
row-F1 = row-four (0xF1, 0xF3) tail λ w x y z h k l m. spells-four w x y z (omega arith) k l m (omega arith) (omega arith)

row-F4 : Spells ((0xF4, 0xF4), (0x80, 0x8F) ∷ tail ∷ tail ∷ [])
row-F4 = row-four (0xF4, 0xF4) (0x80, 0x8F) λ w x y z h k l m. spells-four w x y z (omega arith) (omega arith) l m (omega arith) (omega arith)

rows-spell : Each Spells text_rows
rows-spell = (row_one, (row-two, (row-E0, (row-E1, (row-ED, (row-EE, (row-F0, (row-F1, (row-F4, tt)))))))))

-- A first byte and bytes that fill what must follow are the encoding of a character.
followed-means : (rows : List TextRow) → Each Spells rows → (x : ℕ) (rs : List Range) (p : List ℕ) → followed rows x ≡ some rs → Fill rs p → Means (x ∷ p)
followed-means [] g x rs p e f = none-some e
followed-means (r ∷ rows) g x rs p e f = cond-case (in_range r.0 x) e
    (λ t q. g.0 x p (in_between r.0 x t) (subst (λ (l : List Range). Fill l p) (sym (some-injective _ _ q)) f))
    (λ t q. followed-means rows g.1 x rs p q f)

-- What goes on fills its ranges, and the rest is text.
goes-fill : (rs : List Range) (b : List ℕ) → T (goes_on rs b) → (p : List ℕ) × (r : List ℕ) × Fill rs p × (p ++ r ≡ b) × T (is_text r)
unfolding goes_on
goes-fill [] b h = ([], b, tt, refl, h)
goes-fill (q ∷ rs) [] h = absurd h
goes-fill (q ∷ rs) (x ∷ b) h =
    let (t, u) = T_and (in_range q x) (goes_on rs b) h in
    let (p, r, f, e, k) = goes-fill rs b u in
    (x ∷ p, r, (in_between q x t, f), cons refl e, k)

-- Text is the encodings of characters.
text-points : (n : ℕ) (b : List ℕ) → length b ≤ n → T (is_text b) → (cs : List ℕ) × AllCharacters cs × (encode_points cs ≡ b)
unfolding goes_on
text-points zero [] l h = ([], tt, refl)
text-points zero (x ∷ b) l h = absurd (omega arith)
text-points (suc n) [] l h = ([], tt, refl)
text-points (suc n) (x ∷ b) l h = maybe-T (followed text_rows x) (λ rs. goes_on rs b) h λ rs e k.
    let (p, r, f, s, t) = goes-fill rs b k in
    let (c, g, m) = followed-means text_rows rows-spell x rs p e f in
    let (cs, gs, ms) = text-points n r (omega (arith, length-append p r, ap length s)) t in
    (c ∷ cs, (g, gs), ap₂ (λ (u v : List ℕ). u ++ v) m ms ∙ cons refl s)

-- ---- From a character to bytes

-- A row stands among some.
abbrev pub OneOf : TextRow → List TextRow → Type 0
OneOf r [] = ⊥
OneOf r (q ∷ rows) = (r ≡ q) ⊎ OneOf r rows

-- The first ranges of rows ascend.
abbrev pub Rising : ℕ → List TextRow → Type 0
Rising low [] = Unit {0}
Rising low (r ∷ rs) = (low ≤ r.0.0) × (r.0.0 ≤ r.0.1) × Rising (suc r.0.1) rs

pub rows-rise : Rising 0 text_rows
rows-rise = omega arith

rising-low : (low : ℕ) (rows : List TextRow) (r : TextRow) → Rising low rows → OneOf r rows → low ≤ r.0.0
rising-low low [] r h i = absurd i
rising-low low (q ∷ rows) r h (inl e) = subst (λ (y : TextRow). low ≤ y.0.0) (sym e) h.0
rising-low low (q ∷ rows) r h (inr i) = let k = rising-low (suc q.0.1) rows r h.2 i in omega arith

-- A byte of a row's first range: the row's other ranges must follow.
pub followed-row : (low : ℕ) (rows : List TextRow) (r : TextRow) (x : ℕ) → Rising low rows → OneOf r rows → Between r.0 x → followed rows x ≡ some r.1
followed-row low [] r x h i w = absurd i
followed-row low (q ∷ rows) r x h (inl e) w =
    rw (T→true (in_range q.0 x) (subst (λ (y : TextRow). T (in_range y.0 x)) e (between_in r.0 x w)))
    (ap (λ (y : TextRow). some y.1) (sym e))
followed-row low (q ∷ rows) r x h (inr i) w =
    let m = rising-low (suc q.0.1) rows r h.2 i in
    rw (not-T→false (in_range q.0 x) (λ t. let k = in_between q.0 x t in omega arith)) (followed-row (suc q.0.1) rows r x h.2 i w)

-- A byte outside every first range: no character begins with it.
pub followed-none : (rows : List TextRow) (x : ℕ) → Each (λ r. (x < r.0.0) ⊎ (r.0.1 < x)) rows → followed rows x ≡ none
followed-none [] x h = refl
followed-none (r ∷ rows) x h = rw (not-T→false (in_range r.0 x) (λ t. go h.0 (in_between r.0 x t))) (followed-none rows x h.1)
  where
    go : (x < r.0.0) ⊎ (r.0.1 < x) → Between r.0 x → ⊥
    go (inl l) w = omega arith
    go (inr l) w = omega arith

-- Some row is filled by these bytes.
abbrev Fills : List ℕ → Type 0
Fills [] = ⊥
Fills (x ∷ p) = (r : TextRow) × OneOf r text_rows × Between r.0 x × Fill r.1 p

fills-three : (c : ℕ) → 0x800 ≤ c → c < 0x10000 → IsCharacter c → Fills (three_bytes c)
fills-three c l h (inl s) =
    split c 0x1000 (λ k. (((0xE0, 0xE0), (0xA0, 0xBF) ∷ tail ∷ []), inr (inr (inl refl)), omega arith, (omega arith, (omega arith, tt)))) λ k.
    split c 0xD000 (λ m. (((0xE1, 0xEC), tail ∷ tail ∷ []), inr (inr (inr (inl refl))), omega arith, (omega arith, (omega arith, tt)))) λ m.
    (((0xED, 0xED), (0x80, 0x9F) ∷ tail ∷ []), inr (inr (inr (inr (inl refl)))), omega arith, (omega arith, (omega arith, tt)))
fills-three c l h (inr s) = (((0xEE, 0xEF), tail ∷ tail ∷ []), inr (inr (inr (inr (inr (inl refl))))), omega arith, (omega arith, (omega arith, tt)))

fills-four : (c : ℕ) → 0x10000 ≤ c → c ≤ 0x10FFFF → Fills (four_bytes c)
fills-four c l h =
    split c 0x40000 (λ k. (
      ((0xF0, 0xF0), (0x90, 0xBF) ∷ tail ∷ tail ∷ []),
      inr (inr (inr (inr (inr (inr (inl refl)))))),
      omega arith,
      (omega arith, (omega arith, (omega arith, tt))),
    )) λ k.
    split c 0x100000 (λ m. (
      ((0xF1, 0xF3), tail ∷ tail ∷ tail ∷ []),
      inr (inr (inr (inr (inr (inr (inr (inl refl))))))),
      omega arith,
      (omega arith, (omega arith, (omega arith, tt))),
    )) λ m. (
      ((0xF4, 0xF4), (0x80, 0x8F) ∷ tail ∷ tail ∷ []),
      inr (inr (inr (inr (inr (inr (inr (inr (inl refl)))))))),
      omega arith,
      (omega arith, (omega arith, (omega arith, tt))),
    )

-- The encoding of a character fills a row.
point-fills : (c : ℕ) → IsCharacter c → Fills (encode_point c)
point-fills c s = by_length c Fills
    (λ h. (((0x00, 0x7F), []), inl refl, omega arith, tt))
    (λ h k. (((0xC2, 0xDF), tail ∷ []), inr (inl refl), omega arith, (omega arith, tt)))
    (λ h k. fills-three c h k s)
    (λ h. fills-four c h (most-character c s))

-- What fills its ranges goes on, before text.
fill-goes : (rs : List Range) (p b : List ℕ) → Fill rs p → T (is_text b) → T (goes_on rs (p ++ b))
unfolding goes_on
fill-goes [] [] b f h = h
fill-goes [] (y ∷ p) b f h = absurd f
fill-goes (r ∷ rs) [] b f h = absurd f
fill-goes (r ∷ rs) (y ∷ p) b f h = and_T (in_range r y) (goes_on rs (p ++ b)) (between_in r y f.0) (fill-goes rs p b f.1 h)

-- What fills a row is text, before text.
fills-text : (p b : List ℕ) → Fills p → T (is_text b) → T (is_text (p ++ b))
unfolding goes_on
fills-text [] b f h = absurd f
fills-text (x ∷ p) b (r, i, w, f) h = T-maybe (λ rs. goes_on rs (p ++ b)) (followed-row 0 text_rows r x rows-rise i w) (fill-goes r.1 p b f h)

-- The encodings of characters are text.
points-text : (cs : List ℕ) → AllCharacters cs → T (is_text (encode_points cs))
unfolding goes_on
points-text [] g = tt
points-text (c ∷ cs) g = fills-text (encode_point c) (encode_points cs) (point-fills c g.0) (points-text cs g.1)

-- The law: text is exactly the encodings of characters in their shortest form, one after another.
pub is_text-iff : (b : List ℕ) → T (is_text b) ↔ ((cs : List ℕ) × AllCharacters cs × (encode_points cs ≡ b))
is_text-iff b = (text-points (length b) b (omega arith), λ t. subst (λ (l : List ℕ). T (is_text l)) t.2 (points-text t.0 t.1))

-- ---- One list of characters

-- The character that some bytes begin with, by the first byte.
first_point : List ℕ → ℕ
first_point b =
    let x = get_or b 0 0 in
    let y = get_or b 1 0 in
    let z = get_or b 2 0 in
    cond (leb x 0x7F) x (cond (leb x 0xDF) (point₂ x y) (cond (leb x 0xEF) (point₃ x y z) (point₄ x y z (get_or b 3 0))))

-- Four parts of a number, put together.
four-parts : (c : ℕ) → point₄ (0xF0 + c / 262144) (0x80 + c / 4096 % 64) (0x80 + c / 64 % 64) (0x80 + c % 64) ≡ c
four-parts c =
    let a : c / 4096 ≡ c / 64 / 64 = omega arith in
    let b : c / 262144 ≡ c / 4096 / 64 = omega arith in
    let d : c / 4096 ≡ c / 262144 * 64 + c / 4096 % 64 = omega arith in
    let e : c / 64 ≡ c / 4096 * 64 + c / 64 % 64 = omega arith in
    let f : c ≡ c / 64 * 64 + c % 64 = omega arith in
    parts (c / 262144) (c / 4096) (c / 4096 % 64) (c / 64) (c / 64 % 64) (c % 64) d e f
  where
    parts : (h m i n j k : ℕ) → m ≡ h * 64 + i → n ≡ m * 64 + j → c ≡ n * 64 + k → point₄ (0xF0 + h) (0x80 + i) (0x80 + j) (0x80 + k) ≡ c
    parts h m i n j k d e f = omega arith

first_point-encode : (c : ℕ) (b : List ℕ) → IsCharacter c → first_point (encode_point c ++ b) ≡ c
unfolding first_point
first_point-encode c b s = let most = most-character c s in by_length c (λ p. first_point (p ++ b) ≡ c)
    (λ h. rw (leb_yes c 0x7F (omega arith)))
    (λ h k. rw (leb_no (0xC0 + c / 64) 0x7F (omega arith), leb_yes (0xC0 + c / 64) 0xDF (omega arith)) (omega arith))
    (λ h k. rw (leb_no (0xE0 + c / 4096) 0x7F (omega arith), leb_no (0xE0 + c / 4096) 0xDF (omega arith), leb_yes (0xE0 + c / 4096) 0xEF (omega arith))
    (omega arith))
    (λ h. rw (leb_no (0xF0 + c / 262144) 0x7F (omega arith), leb_no (0xF0 + c / 262144) 0xDF (omega arith), leb_no (0xF0 + c / 262144) 0xEF (omega arith))
    (four-parts c))

cancel : (p a b : List ℕ) → p ++ a ≡ p ++ b → a ≡ b
cancel [] a b e = e
cancel (x ∷ p) a b e = cancel p a b (cc)

-- No encoding is empty.
encode-some : (c : ℕ) (b : List ℕ) → encode_point c ++ b ≡ [] → ⊥
encode-some c b = by_length c (λ p. p ++ b ≡ [] → ⊥) (λ h e. clash e) (λ h k e. clash e) (λ h k e. clash e) (λ h e. clash e)
  where
    clash : {x : ℕ} {l : List ℕ} → x ∷ l ≡ [] → ⊥
    clash q = let z : ◌≡◌ {A = ℕ} 0 1 = cc in omega arith

-- The characters of a text are determined by it.
pub encode_points-injective : (cs ds : List ℕ) → AllCharacters cs → AllCharacters ds → encode_points cs ≡ encode_points ds → cs ≡ ds
encode_points-injective [] [] g h e = refl
encode_points-injective [] (d ∷ ds) g h e = absurd (encode-some d (encode_points ds) (sym e))
encode_points-injective (c ∷ cs) [] g h e = absurd (encode-some c (encode_points cs) e)
encode_points-injective (c ∷ cs) (d ∷ ds) g h e =
    let q : c ≡ d = sym (first_point-encode c (encode_points cs) g.0) ∙ ap first_point e ∙ first_point-encode d (encode_points ds) h.0 in
    let r : encode_point d ++ encode_points cs ≡ encode_point d ++ encode_points ds = subst
    (λ (k : ℕ). encode_point k ++ encode_points cs ≡ encode_point d ++ encode_points ds) q e in
    cons q (encode_points-injective cs ds g.1 h.1 (cancel (encode_point d) (encode_points cs) (encode_points ds) r))
