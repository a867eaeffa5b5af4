-- Value forms in the borrow checker's terms: the test that one is whole and a total decoder, by levels. Assumes nothing: these are definitions.
use Rattle.std.specs.Prelude.{ℕ, zero, suc, ◌+◌, List, Bool, true, false, ◌&&◌, eqb, leb, ltb, length}
use Rattle.cedar.specs.Types.{Value, boolean, number, text, uid, set_of, record_of, call}
use Rattle.cedar.specs.ValueForm.{ValueKind, bool_kind, long_kind, string_kind, uid_kind, set_kind, record_kind, call_kind, no_kind, value_kind, values_from, pairs_from}
use Rattle.forms.specs.Parts.{rest, rd, kind}
use Rattle.forms.specs.Rows.{Row, rows_to, none_left, table_fits, table_of}

-- A member's entry: length. Members stand in any order.
abbrev pub member_row : Row (Unit {0}) (Unit {0})
member_row = record { width = 2; ok = λ s es. true; next = λ es. tt; head = λ es. tt }

-- A pair's entry: name, length. Names ascend strictly.
abbrev pub pair_row : Row ℕ ℕ
pair_row = record { width = 4; ok = λ low es. leb low (rd es 0); next = λ es. rd es 0 + 1; head = λ es. rd es 0 }

-- n members, with no byte over; n pairs, names from low on, with no byte over.
abbrev pub whole_ms : (List ℕ → Bool) → ℕ → List ℕ → List ℕ → Bool
whole_ms w n es bs = rows_to member_row (λ _. w) none_left n tt es bs

-- n pairs, names from low on, with no byte over.
abbrev pub whole_ps : (List ℕ → Bool) → ℕ → ℕ → List ℕ → List ℕ → Bool
whole_ps w n low es bs = rows_to pair_row (λ _. w) none_left n low es bs

-- By the first byte's kind; w tests a part, d decodes one.
abbrev pub whole_v_as : (List ℕ → Bool) → ValueKind → List ℕ → Bool
whole_v_as w (bool_kind x) b = eqb (length b) 1
whole_v_as w long_kind b = eqb (length b) 9
whole_v_as w string_kind b = leb 3 (length b) && eqb (length b) (3 + rd b 1)
whole_v_as w uid_kind b = eqb (length b) 5
whole_v_as w set_kind b = table_fits member_row (λ _. w) tt 1 b
whole_v_as w record_kind b = table_fits pair_row (λ _. w) 0 1 b
whole_v_as w call_kind b = table_fits member_row (λ _. w) tt 3 b
whole_v_as w no_kind b = false

-- The value that a form of such a kind says.
abbrev pub dec_v_as : (List ℕ → Value) → ValueKind → List ℕ → Value
dec_v_as d (bool_kind x) b = boolean x
dec_v_as d long_kind b = number (rest 1 b)
dec_v_as d string_kind b = text (rest 3 b)
dec_v_as d uid_kind b = uid (rd b 1) (rd b 3)
dec_v_as d set_kind b = set_of (values_from (table_of member_row (λ _. d) 1 b))
dec_v_as d record_kind b = record_of (pairs_from (table_of pair_row (λ _. d) 1 b))
dec_v_as d call_kind b = call (rd b 1) (values_from (table_of member_row (λ _. d) 3 b))
dec_v_as d no_kind b = boolean false

-- A whole value form of at most so many levels.
unfoldable pub whole_v : ℕ → List ℕ → Bool
whole_v zero b = false
whole_v (suc l) b = ltb 0 (length b) && whole_v_as (whole_v l) (value_kind (kind b)) b

-- The value that a form says; some value where it is not whole.
unfoldable pub dec_v : ℕ → List ℕ → Value
dec_v zero b = boolean false
dec_v (suc l) b = dec_v_as (dec_v l) (value_kind (kind b)) b
