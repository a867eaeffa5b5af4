-- A value of another kind has no members, no pairs, no uid, no call. Assumes nothing.
use Rattle.std.specs.Prelude.{◌≡◌, refl, List, cond, ℕ, ◌<◌, eqb}
use Rattle.std.proofs.Common.{◌∙◌, ne_eqb}
use Rattle.std.proofs.Math.Option.{none}
use Rattle.cedar.specs.Types.{Value}
use Rattle.cedar.specs.ValueForm.{uid_kind, set_kind, record_kind, call_kind, value_kind}
use Rattle.cedar.specs.Conformance.{members, pairs, uid_type, as_call}
use Rattle.forms.specs.ValueBytes.{dec_v_as}
use Rattle.conformance.specs.Laws.Tables.{by-table}

-- A value of another kind has no such view.
module _ (d : List ℕ → Value) (b : List ℕ) {j : ℕ} (h : j < 8) where
  pub no-members : (j ≡ 5 → ⊥) → members (dec_v_as d (value_kind j) b) ≡ none
  no-members p =
      by-table (λ i. members (dec_v_as d (value_kind i) b)) (λ i. cond (eqb i 5) (members (dec_v_as d set_kind b)) none) 8 refl j h ∙ rw (ne_eqb j 5 p) refl

  pub no_pairs : (j ≡ 6 → ⊥) → pairs (dec_v_as d (value_kind j) b) ≡ none
  no_pairs p = by-table (λ i. pairs (dec_v_as d (value_kind i) b)) (λ i. cond (eqb i 6) (pairs (dec_v_as d record_kind b)) none) 8 refl j h ∙ rw (ne_eqb j 6 p) refl

  pub no-uid : (j ≡ 4 → ⊥) → uid_type (dec_v_as d (value_kind j) b) ≡ none
  no-uid p = by-table (λ i. uid_type (dec_v_as d (value_kind i) b)) (λ i. cond (eqb i 4) (uid_type (dec_v_as d uid_kind b)) none) 8 refl j h ∙ rw (ne_eqb j 4 p) refl

  pub no_call : (j ≡ 7 → ⊥) → as_call (dec_v_as d (value_kind j) b) ≡ none
  no_call p = by-table (λ i. as_call (dec_v_as d (value_kind i) b)) (λ i. cond (eqb i 7) (as_call (dec_v_as d call_kind b)) none) 8 refl j h ∙ rw (ne_eqb j 7 p) refl
