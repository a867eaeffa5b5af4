-- The calls that measure, question by question. Assumes nothing.
use Rattle.std.specs.Prelude.{ℕ, ◌<◌, List, Bool, true, false, ◌≡◌, refl, length, get_or}
use Rattle.std.proofs.Math.Option.{none, some}
use Rattle.std.proofs.Common.{ap₂, ap, sym}
use Rattle.cedar.specs.Levels.{depth, depth_value}
use Rattle.cedar.specs.Result.{ok, err}
use Rattle.cedar.specs.Limits.{Limits, allowed}
use Rattle.cedar.specs.Whole.{whole_type, whole_value}
use Rattle.cedar.specs.Text.{textual}
use Rattle.cedar.specs.Calls.{measure_type_call, measure_value_call}
use Rattle.forms.specs.TypeBytes.{whole, dec}
use Rattle.forms.specs.ValueBytes.{whole_v, dec_v}
use Rattle.forms.specs.Laws.Bytes.{Bytes-index, dec-reads, dec_v-reads}
use Rattle.validator.specs.declared.answers.Answer.TheVariants.{Measured}
use Rattle.validator.specs.Answers.{answer_of}

module _ (lim : Limits) (fair : allowed lim ≡ true) (b : List ℕ) where
  pub measure-no-type : whole_type lim b ≡ none → err 3 ≡ answer_of (measure_type_call lim b)
  measure-no-type e = rw (fair, e) refl

  pub measure-no-value : whole_value lim b ≡ none → err 5 ≡ answer_of (measure_value_call lim b)
  measure-no-value e = rw (fair, e) refl

  -- A whole form has the length that it is lent with.
  module _ (known : (i : ℕ) → get_or b i 0 < 256) (d : ℕ) where
    pub measure-whole-type : whole_type lim b ≡ some (dec lim.levels b) → whole lim.levels b ≡ true → d ≡ depth (dec lim.levels b) →
        ok (Measured (length b) d) ≡ answer_of (measure_type_call lim b)
    measure-whole-type e w q = rw (fair, e) (ap ok (ap₂ Measured (ap length (sym (dec-reads lim.levels b (Bytes-index b known) w).0)) q))

    module _ (e : whole_value lim b ≡ some (dec_v lim.levels b)) (w : whole_v lim.levels b ≡ true) (x : Bool)
        (told : x ≡ textual (dec_v lim.levels b)) where
      pub measure-whole-value : x ≡ true → d ≡ depth_value (dec_v lim.levels b) → ok (Measured (length b) d) ≡ answer_of (measure_value_call lim b)
      measure-whole-value y q =
          rw (fair, e, ← told, y) (ap ok (ap₂ Measured (ap length (sym (dec_v-reads lim.levels b (Bytes-index b known) w).0)) q))

  pub measure-no-text : whole_value lim b ≡ some (dec_v lim.levels b) → (x : Bool) → x ≡ textual (dec_v lim.levels b) → x ≡ false →
      err 17 ≡ answer_of (measure_value_call lim b)
  measure-no-text e x told y = rw (fair, e, ← told, y) refl
