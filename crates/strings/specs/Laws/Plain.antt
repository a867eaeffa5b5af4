-- Bytes that are all below 128: every string in them is text, whatever value they say. Assumes nothing.
use Rattle.std.specs.Prelude.{◌≡◌, List, true, length, get_or, drop}
use Rattle.std.proofs.Math.Path.{refl}
use Rattle.std.proofs.Common.{sym, ap, subst, ◌∙◌, arith, length-take, length-drop, get_or-take, get_or-drop}
use Prim.Native.Nat.{ℕ, zero, suc, ◌+◌, ◌*◌, ◌-◌, ◌<◌}
use Rattle.cedar.specs.Types.{Value}
use Rattle.cedar.specs.ValueForm.{ValueKind, bool_kind, long_kind, string_kind, uid_kind, set_kind, record_kind, call_kind, no_kind, value_kind, values_from}
use Rattle.cedar.specs.Text.{is_text, textual, textual_values}
use Rattle.forms.specs.Parts.{part, rest, rd, kind}
use Rattle.forms.specs.Rows.{body_row, rows_of}
use Rattle.forms.specs.ValueBytes.{dec_v_as, dec_v}
use Rattle.forms.specs.Laws.Parts.{and_yes}
use Rattle.strings.specs.Bodies.{bodies_at}
use Rattle.strings.specs.Steps.{Plain}
use Rattle.strings.specs.Laws.Steps.{passes_none, passes-block, text-yes}
use Rattle.strings.specs.Laws.Bodies.{pair-strings}

-- All of these bytes are below 128.
abbrev pub AllPlain : List ℕ → Type 0
AllPlain b = Plain b 0 (length b)

plain-part : (a e : ℕ) (b : List ℕ) → AllPlain b → AllPlain (part a e b)
plain-part a e b h =
    record {
      each = λ k l.
          let short : (k < e - a) × (k < length b - a) = omega (arith, length-take (e - a) (drop a b), length-drop a b) in
          let there : a + (0 + k) ≡ 0 + (a + k) = omega arith in
          subst (λ (x : ℕ). x < 128)
          (sym (get_or-take (e - a) (drop a b) (0 + k) 0 (omega arith) ∙ get_or-drop a b (0 + k) 0 ∙ ap (λ (i : ℕ). get_or b i 0) there))
          (h.each (a + k) (omega arith));
    }

plain-text : (b : List ℕ) → AllPlain b → is_text b ≡ true
plain-text b h = sym (text-yes (passes-block (length b) (passes_none b 0 (omega arith)) (omega arith) h) (omega arith))

module _ (d : List ℕ → Value) (all : (b : List ℕ) → AllPlain b → textual (d b) ≡ true) where
  plain_rows : (width n : ℕ) (es bs : List ℕ) → AllPlain bs → textual_values (values_from (rows_of (body_row width) (λ _. d) n es bs)) ≡ true
  unfolding rows_of textual_values
  plain_rows width zero es bs h = refl
  plain_rows width (suc n) es bs h =
      let len = rd es (width - 2) in
      and_yes (textual (d (part 0 len bs))) _ (all (part 0 len bs) (plain-part 0 len bs h)) ∙
      plain_rows width n (rest width es) (rest len bs) (plain-part len (length bs) bs h)

  plain-as : (k : ValueKind) (b : List ℕ) → AllPlain b → textual (dec_v_as d k b) ≡ true
  unfolding textual
  plain-as (bool_kind x) b h = refl
  plain-as long_kind b h = refl
  plain-as string_kind b h = plain-text (rest 3 b) (plain-part 3 (length b) b h)
  plain-as uid_kind b h = refl
  plain-as set_kind b h = plain_rows 2 (rd b 1) (part 3 (3 + 2 * rd b 1) b) (rest (3 + 2 * rd b 1) b) (plain-part (3 + 2 * rd b 1) (length b) b h)
  plain-as record_kind b h =
      pair-strings d (rd b 1) (part 3 (3 + 4 * rd b 1) b) (rest (3 + 4 * rd b 1) b) ∙
      plain_rows 4 (rd b 1) (part 3 (3 + 4 * rd b 1) b) (rest (3 + 4 * rd b 1) b) (plain-part (3 + 4 * rd b 1) (length b) b h)
  plain-as call_kind b h = plain_rows 2 (rd b 3) (part 5 (5 + 2 * rd b 3) b) (rest (5 + 2 * rd b 3) b) (plain-part (5 + 2 * rd b 3) (length b) b h)
  plain-as no_kind b h = refl

plain_value : (l : ℕ) (b : List ℕ) → AllPlain b → textual (dec_v l b) ≡ true
unfolding dec_v textual
plain_value zero b h = refl
plain_value (suc l) b h = plain-as (dec_v l) (plain_value l) (value_kind (kind b)) b h

-- The bodies of a table, all plain.
pub plain-bodies : (l width c : ℕ) (b : List ℕ) (n : ℕ) → n ≡ rd b c → AllPlain (rest (c + 2 + width * n) b) → true ≡ textual_values (bodies_at l width c b)
plain-bodies l width c b n q h =
    sym (rw (← q) (plain_rows (dec_v l) (plain_value l) width n (part (c + 2) (c + 2 + width * n) b) (rest (c + 2 + width * n) b) h))
