-- Type forms in the borrow checker's terms: the test that one is whole and a total decoder, by levels. Assumes nothing: these are definitions.
use Rattle.std.specs.Prelude.{ℕ, zero, suc, ◌+◌, ◌*◌, List, [], ◌∷◌, Bool, true, false, ◌&&◌, ◌≡◌, eqb, leb, ltb, length, get_or}
use Rattle.cedar.specs.Types.{Ty, Attrs, atom, set, rec, act, ent, ext, never}
use Rattle.cedar.specs.TypeForm.{Kind, one, set_kind, rec_kind, ent_kind, act_kind, ext_kind, no_kind, kind_of, attrs_of}
use Rattle.forms.specs.Parts.{rest, rd, kind}
use Rattle.forms.specs.Rows.{Row, rows_to, rows_of, none_left, table_fits, table_of}

-- n names that ascend strictly, from low on.
unfoldable pub names_up : ℕ → ℕ → List ℕ → Bool
names_up zero low b = true
names_up (suc n) low b = leb low (rd b 0) && names_up n (rd b 0 + 1) (rest 2 b)

-- The names that n rows of one width begin with.
unfoldable pub names_by : ℕ → ℕ → List ℕ → List ℕ
names_by w zero b = []
names_by w (suc n) b = rd b 0 ∷ names_by w n (rest w b)

-- An entity form after its first byte: a count of at least 1, and so many names.
abbrev pub names_fit : List ℕ → Bool
names_fit b = leb 3 (length b) && (leb 1 (rd b 1) && (eqb (length b) (3 + 2 * rd b 1) && names_up (rd b 1) 0 (rest 3 b)))

-- An attribute's entry: name, required, length. Names ascend strictly.
abbrev pub attr_row : Row ℕ (ℕ × Bool)
attr_row = record { width = 5; ok = λ low es. leb (get_or es 2 0) 1 && leb low (rd es 0); next = λ es. rd es 0 + 1; head = λ es. (rd es 0, eqb (get_or es 2 0) 1) }

-- n attributes, names from low on, with no byte over.
abbrev pub whole_a : (List ℕ → Bool) → ℕ → ℕ → List ℕ → List ℕ → Bool
whole_a w n low es bs = rows_to attr_row (λ _. w) none_left n low es bs

-- The attributes that they say.
abbrev pub dec_a : (List ℕ → Ty) → ℕ → List ℕ → List ℕ → Attrs
dec_a d n es bs = attrs_of (rows_of attr_row (λ _. d) n es bs)

-- By the first byte's kind; w tests a part, d decodes one.
abbrev pub whole_as : (List ℕ → Bool) → Kind → List ℕ → Bool
whole_as w (one k) b = eqb (length b) 1
whole_as w set_kind b = w (rest 1 b)
whole_as w rec_kind b = leb 2 (length b) && (leb (get_or b 1 0) 1 && table_fits attr_row (λ _. w) 0 2 b)
whole_as w ent_kind b = names_fit b
whole_as w act_kind b = table_fits attr_row (λ _. w) 0 3 b
whole_as w ext_kind b = eqb (length b) 3
whole_as w no_kind b = false

-- The type that a form of such a kind says.
abbrev pub dec_as : (List ℕ → Ty) → Kind → List ℕ → Ty
dec_as d (one k) b = atom k
dec_as d set_kind b = set (d (rest 1 b))
dec_as d rec_kind b = rec (eqb (get_or b 1 0) 1) (attrs_of (table_of attr_row (λ _. d) 2 b))
dec_as d ent_kind b = ent (names_by 2 (rd b 1) (rest 3 b))
dec_as d act_kind b = act (rd b 1) (attrs_of (table_of attr_row (λ _. d) 3 b))
dec_as d ext_kind b = ext (rd b 1)
dec_as d no_kind b = atom never

-- A whole type form of at most so many levels.
unfoldable pub whole : ℕ → List ℕ → Bool
whole zero b = false
whole (suc l) b = ltb 0 (length b) && whole_as (whole l) (kind_of (kind b)) b

-- The type that a form says; some type where it is not whole.
unfoldable pub dec : ℕ → List ℕ → Ty
dec zero b = atom never
dec (suc l) b = dec_as (dec l) (kind_of (kind b)) b

-- n attributes of at most l levels each, names from low on, with no byte over.
pub record Sound (l n low : ℕ) (es bs : List ℕ) : Type 0 where
  pub sized : length es ≡ 5 * n
  pub good : whole_a (whole l) n low es bs ≡ true
