-- The value's question. Assumes nothing.
use Rattle.std.specs.Prelude.{◌≡◌, List, ℕ, Bool, true, false, not, ◌&&◌, leb, length}
use Rattle.std.proofs.Common.{sym, ◌∙◌}
use Rattle.std.proofs.Math.Option.{none, some}
use Rattle.std.proofs.lemmas.Bool.{not-true, not-false}
use Rattle.cedar.specs.Types.{present}
use Rattle.cedar.specs.Limits.{Limits}
use Rattle.cedar.specs.Whole.{whole_value}
use Rattle.cedar.proofs.Laws.Tests.{none_of}
use Rattle.forms.specs.ValueBytes.{whole_v, dec_v}
use Rattle.forms.specs.Laws.Parts.{and_r}
use Rattle.forms.specs.Laws.Sure.{sure-present, sure-yes}
use Rattle.forms.specs.Laws.ValueTwin.{whole-value-twin}

-- The answer of `whole_value`.
module _ (lim : Limits) (b : List ℕ) (r : Bool) (q : r ≡ present (whole_value lim b)) where
  pub value-missing : not r ≡ true → whole_value lim b ≡ none
  value-missing h = none_of (whole_value lim b) (sym q ∙ not-true r h)

  module _ (h : not r ≡ false) where
    both : leb (length b) lim.bytes && whole_v lim.levels b ≡ true
    both = sym (sure-present (whole-value-twin lim b)) ∙ sym q ∙ not-false r h

    pub value_there : whole_value lim b ≡ some (dec_v lim.levels b)
    value_there = sure-yes (whole-value-twin lim b) both

    pub value-whole : whole_v lim.levels b ≡ true
    value-whole = and_r (leb (length b) lim.bytes) _ both
