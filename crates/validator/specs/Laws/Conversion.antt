-- The call of conversion, question by question. Assumes nothing.
use Rattle.std.specs.Prelude.{◌≡◌, List, true, ℕ, ◌<◌, get_or}
use Rattle.std.specs.Borrow.{Bor}
use Rattle.std.proofs.Math.Path.{refl}
use Rattle.std.proofs.Common.{ap, ◌∙◌}
use Rattle.std.proofs.Math.Option.{Option, none, some}
use Rattle.cedar.specs.Types.{Ty}
use Rattle.cedar.specs.Conversion.{convert}
use Rattle.cedar.specs.Limits.{Limits, allowed}
use Rattle.cedar.specs.Whole.{whole_type}
use Rattle.cedar.specs.Result.{ok}
use Rattle.cedar.specs.Outcome.{refused}
use Rattle.cedar.specs.Laws.Shape.{WF}
use Rattle.cedar.proofs.Laws.Result.{ok-inj, err-ok}
use Rattle.cedar.proofs.Laws.Depth.{convert-WF}
use Rattle.cedar.specs.Calls.{ask, write_type, convert_call}
use Rattle.forms.specs.TypeForms.{type_of}
use Rattle.forms.specs.declared.type_forms.TypeForm.{TypeForm}
use Rattle.forms.specs.Laws.Bytes.{Bytes-index, dec-reads}
use Rattle.writing.specs.FormLengths.{or_refuse}
use Rattle.conversions.specs.CoreTypes.{core}

module _ (lim : Limits) (fair : allowed lim ≡ true) (b : List ℕ) (room : ℕ) where
  pub convert-not : whole_type lim b ≡ none → convert_call lim b room ≡ refused 3
  convert-not e = rw (fair, e) refl

  pub convert-whole : (t : Ty) → whole_type lim b ≡ some t → convert_call lim b room ≡ write_type lim room (core t)
  unfolding core
  convert-whole t e = rw (fair, e) (go (convert t))
    where
      go : (o : Option Ty) → ask 8 o (λ c. write_type lim room (ok c)) ≡ write_type lim room (or_refuse 8 o)
      go none = refl
      go (some c) = refl

-- What is written is in order, within the levels.
pub core-within : (lim : Limits) (b : Bor (List ℕ)) (t : TypeForm) → t.bytes ≡ b → t.levels ≡ lim.levels → ((i : ℕ) → get_or b.now i 0 < 256) → (c : Ty) →
    core (type_of t) ≡ ok c → WF lim.levels c
unfolding core
core-within lim b t same levels known c e = rw levels at (go (convert (type_of t)) refl e)
  where
    bytes : (i : ℕ) → get_or t.bytes.now i 0 < 256
    bytes i = rw same (known i)

    go : (o : Option Ty) → convert (type_of t) ≡ o → or_refuse 8 o ≡ ok c → WF t.levels c
    go none p q = err-ok q
    go (some d) p q =
        convert-WF t.levels (type_of t) c (dec-reads t.levels t.bytes.now (Bytes-index t.bytes.now bytes) t.whole).1 (p ∙ ap (λ (x : Ty). some x) (ok-inj q))
