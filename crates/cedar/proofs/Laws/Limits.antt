-- Limits within their ranges, and what a call answers under others.
use Rattle.std.specs.Prelude.{ℕ, ◌≤◌, true, false, ◌&&◌, ◌≡◌, refl, List, T, leb}
use Rattle.std.proofs.Common.{sym, subst, leb→le}
use Rattle.cedar.specs.Limits.{Limits, standard, most_levels, fewest_bytes, most_bytes, allowed}
use Rattle.cedar.specs.Result.{bad_limits}
use Rattle.cedar.specs.Outcome.{refused}
use Rattle.cedar.specs.Conformance.{Counts}
use Rattle.cedar.specs.Calls.{literal_call, disjoint_call, subtype_call, bound_call, fold_call, lookup_call, own_attribute_call, may_have_call, names_call}
use Rattle.cedar.specs.Calls.{consistent_call, convert_call, conforms_by, measure_type_call, measure_value_call}
use Rattle.cedar.proofs.Laws.Tests.{T_and}

-- The programs' limits are allowed.
pub standard-allowed : allowed standard ≡ true
standard-allowed = refl

module _ (lim : Limits) (h : allowed lim ≡ true) where
  -- Both limits are within their ranges.
  in-ranges : T (leb 1 lim.levels && leb lim.levels most_levels) × T (leb fewest_bytes lim.bytes && leb lim.bytes most_bytes)
  in-ranges =
      T_and (leb 1 lim.levels && leb lim.levels most_levels) (leb fewest_bytes lim.bytes && leb lim.bytes most_bytes) (subst T (sym h) tt)

  -- Allowed levels are 1 to 32.
  pub allowed-levels : (1 ≤ lim.levels) × (lim.levels ≤ most_levels)
  allowed-levels =
      let b = T_and (leb 1 lim.levels) (leb lim.levels most_levels) in-ranges.0 in
      (leb→le 1 lim.levels b.0, leb→le lim.levels most_levels b.1)

  -- Allowed bytes are 64 to 8,192.
  pub allowed-bytes : (fewest_bytes ≤ lim.bytes) × (lim.bytes ≤ most_bytes)
  allowed-bytes =
      let b = T_and (leb fewest_bytes lim.bytes) (leb lim.bytes most_bytes) in-ranges.1 in
      (leb→le fewest_bytes lim.bytes b.0, leb→le lim.bytes most_bytes b.1)

-- Under limits out of their ranges every call is refused by 20, whatever else it was given.
module _ (lim : Limits) (h : allowed lim ≡ false) where
  pub measure-type-refused : (t : List ℕ) → measure_type_call lim t ≡ refused bad_limits
  measure-type-refused t = rw h refl

  pub measure-value-refused : (v : List ℕ) → measure_value_call lim v ≡ refused bad_limits
  measure-value-refused v = rw h refl

  pub literal-refused : (s v : List ℕ) (room : ℕ) → literal_call lim s v room ≡ refused bad_limits
  literal-refused s v room = rw h refl

  pub disjoint-refused : (a b : List ℕ) → disjoint_call lim a b ≡ refused bad_limits
  disjoint-refused a b = rw h refl

  pub subtype-refused : (mode : ℕ) (s a b : List ℕ) → subtype_call lim mode s a b ≡ refused bad_limits
  subtype-refused mode s a b = rw h refl

  pub bound-refused : (mode : ℕ) (s a b : List ℕ) (room : ℕ) → bound_call lim mode s a b room ≡ refused bad_limits
  bound-refused mode s a b room = rw h refl

  pub fold-refused : (mode : ℕ) (s l : List ℕ) (room work : ℕ) → fold_call lim mode s l room work ≡ refused bad_limits
  fold-refused mode s l room work = rw h refl

  pub lookup-refused : (s : List ℕ) (n : ℕ) (t : List ℕ) (room work : ℕ) → lookup_call lim s n t room work ≡ refused bad_limits
  lookup-refused s n t room work = rw h refl

  pub own-attribute-refused : (s : List ℕ) (n : ℕ) (t : List ℕ) → own_attribute_call lim s n t ≡ refused bad_limits
  own-attribute-refused s n t = rw h refl

  pub may-have-refused : (s : List ℕ) (n : ℕ) (t : List ℕ) → may_have_call lim s n t ≡ refused bad_limits
  may-have-refused s n t = rw h refl

  pub names-refused : (s t : List ℕ) (room work : ℕ) → names_call lim s t room work ≡ refused bad_limits
  names-refused s t room work = rw h refl

  pub consistent-refused : (a b : List ℕ) → consistent_call lim a b ≡ refused bad_limits
  consistent-refused a b = rw h refl

  pub convert-refused : (t : List ℕ) (room : ℕ) → convert_call lim t room ≡ refused bad_limits
  convert-refused t room = rw h refl

  pub conforms-refused : (c : Counts) (s t v : List ℕ) → conforms_by c lim s t v ≡ refused bad_limits
  conforms-refused c s t v = rw h refl
