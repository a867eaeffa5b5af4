-- A whole form is as long as what is written of its type. Assumes nothing.
use Rattle.std.specs.Prelude.{◌≡◌, List, Bool, true, ℕ, zero, suc, ◌+◌, ◌*◌, ◌-◌, eqb, length, get_or}
use Rattle.std.proofs.Common.{ap, sym, ◌∙◌, arith, sub-one, eqb-true, length-append}
use Rattle.cedar.specs.Types.{Ty, rec, act, Attrs}
use Rattle.cedar.specs.TypeForm.{enc, entries, bodies}
use Rattle.forms.specs.Parts.{part, rest, rd}
use Rattle.forms.specs.Rows.{rows_to}
use Rattle.forms.specs.TypeBytes.{whole, dec, dec_a, names_by, Sound}
use Rattle.forms.specs.Tables.{attrs_at}
use Rattle.forms.specs.TypeForms.{type_of}
use Rattle.forms.specs.declared.type_forms.TypeForm.{TypeForm}
use Rattle.forms.specs.Laws.Attributes.{entry, attrs-none}
use Rattle.forms.specs.Laws.Names.{names-length}
use Rattle.forms.specs.Laws.Parts.{length_rest, length_part}
use Rattle.forms.specs.Laws.Tables.{attrs-count}
use Rattle.forms.specs.Laws.Views.{Seen, see, seen-set, seen-record, seen-entity, seen-action, seen-extension, seen-atom, whole-level}
use Rattle.writing.specs.FormLengths.{table}
use Rattle.writing.specs.Laws.FormLengths.{length-entries}
use Rattle.bound_lengths.specs.Laws.Names.{names-long}

pub record-long : (o : Bool) (xs : Attrs) → length (enc (rec o xs)) ≡ length (table xs) + 4
unfolding enc
record-long o xs = omega arith

pub action-long : (n : ℕ) (xs : Attrs) → length (enc (act n xs)) ≡ length (table xs) + 5
unfolding enc
action-long n xs = omega arith

-- Forms within one level less are as long.
module _ (l : ℕ) (below : (b : List ℕ) → whole l b ≡ true → length (enc (dec l b)) ≡ length b) where
  bodies-long : (n low : ℕ) (es bs : List ℕ) → Sound l n low es bs → length (bodies (dec_a (dec l) n es bs)) ≡ length bs
  unfolding enc rows_to
  bodies-long zero low es bs s = let z = eqb-true (length bs) 0 s.good in rw (attrs-none (dec l) 0 es bs (omega arith)) (sym z)
  bodies-long (suc n) low es bs s =
      let e = entry s (omega arith) in
      let more : Sound l n (rd es 0 + 1) (rest 5 es) (rest (rd es 3) bs) = rw (sub-one (suc n)) at e.more in
      let first = dec l (part 0 (rd es 3) bs) in
      let others = dec_a (dec l) n (rest 5 es) (rest (rd es 3) bs) in
      rw (e.is, sub-one (suc n))
      (omega (
        arith,
        length-append (enc first) (bodies others),
        below (part 0 (rd es 3) bs) e.body,
        bodies-long n (rd es 0 + 1) (rest 5 es) (rest (rd es 3) bs) more,
        length_part 0 (rd es 3) bs e.fit,
        length_rest (rd es 3) bs,
        e.fit,
      ))

  table-long : {n low : ℕ} {es bs : List ℕ} → Sound l n low es bs → length (table (dec_a (dec l) n es bs)) ≡ 5 * n + length bs
  table-long {n} {low} {es} {bs} s =
      let xs = dec_a (dec l) n es bs in
      omega (arith, length-append (entries xs) (bodies xs), length-entries xs, attrs-count (dec l) n es bs, bodies-long n low es bs s)

form-step : (l : ℕ) → ((b : List ℕ) → whole (l - 1) b ≡ true → length (enc (dec (l - 1) b)) ≡ length b) → (b : List ℕ) → whole l b ≡ true → length (enc (dec l b)) ≡ length b
unfolding enc
form-step l below b h = go (see l b h)
  where
    go : Seen l b → length (enc (dec l b)) ≡ length b
    go (seen-set e i) = ap (λ (t : Ty). length (enc t)) i.is ∙ omega (arith, below (rest 1 b) i.good, length_rest 1 b, i.some)
    go (seen-record e i) =
        ap (λ (t : Ty). length (enc t)) i.is ∙ record-long (eqb (get_or b 1 0) 1) (attrs_at (l - 1) 2 b) ∙ omega (arith, table-long (l - 1) below i.sound, length_rest (4 + 5 * rd b 2) b, i.fit)
    go (seen-entity e i) =
        ap (λ (t : Ty). length (enc t)) i.is ∙ names-long (names_by 2 (rd b 1) (rest 3 b)) ∙ omega (arith, names-length 2 (rd b 1) (rest 3 b), i.sized)
    go (seen-action e i) =
        ap (λ (t : Ty). length (enc t)) i.is ∙ action-long (rd b 1) (attrs_at (l - 1) 3 b) ∙ omega (arith, table-long (l - 1) below i.sound, length_rest (5 + 5 * rd b 3) b, i.fit)
    go (seen-extension e i) = ap (λ (t : Ty). length (enc t)) i.is ∙ omega (arith, i.sized)
    go (seen-atom i) = ap (λ (t : Ty). length (enc t)) i.is ∙ omega (arith, i.sized)

form-long : (l : ℕ) (b : List ℕ) → whole l b ≡ true → length (enc (dec l b)) ≡ length b
form-long zero b h = absurd (omega (arith, whole-level zero b h))
form-long (suc l) b h = form-step (suc l) (λ c g. rw (sub-one (suc l)) (form-long l c (rw (sub-one (suc l)) at g))) b h

pub type-length : (t : TypeForm) → length (enc (type_of t)) ≡ length t.bytes.now
type-length t = form-long t.levels t.bytes.now t.whole
