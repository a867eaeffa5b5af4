-- Down the sets that types begin with. Assumes nothing.
use Rattle.std.specs.Prelude.{◌≡◌, ◌≤◌, ◌+◌, Bool, refl}
use Rattle.std.proofs.Common.{arith, ap, sym, ◌∙◌}
use Rattle.std.proofs.Math.Option.{Option, none, some}
use Rattle.cedar.specs.Types.{Mode, Ty, set, as_set}
use Rattle.cedar.specs.Subtype.{sub}
use Rattle.cedar.specs.Consistency.{plain, consistent}
use Rattle.forms.specs.TypeForms.{type_of}
use Rattle.forms.specs.declared.type_forms.TypeForm.{TypeForm}
use Rattle.relations.specs.Sets.{PastSets, PastOwnSets}
use Rattle.relations.specs.Laws.Subtype.{set-under}
use Rattle.relations.specs.Laws.Consistent.{with-set}
use Rattle.relations.specs.Laws.Plain.{plain-set}

-- So far as two types were gone down.
pub record Down (a b x y : TypeForm) : Type 0 where
  pub same : (m : Mode) → sub m (type_of x) (type_of y) ≡ sub m (type_of a) (type_of b)
  pub meets : consistent (type_of x) (type_of y) ≡ consistent (type_of a) (type_of b)
  pub below : y.levels ≤ b.levels

module _ {a b x y : TypeForm} (d : Down a b x y) where
  -- A set under a set is gone down.
  pub down-again : (s t : TypeForm) → (type_of x ≡ set (type_of s)) × (s.levels + 1 ≡ x.levels) → (type_of y ≡ set (type_of t)) × (t.levels + 1 ≡ y.levels) →
      Down a b s t
  down-again s t p q =
      record {
        same = λ m. set-under m (type_of x) (type_of y) p.0 q.0 ∙ d.same m;
        meets = with-set (type_of x) (type_of y) p.0 q.0 ∙ d.meets;
        below = omega (arith, q.1, d.below);
      }

  -- The walk ends where one is no set.
  pub down-lower : as_set (type_of x) ≡ none → PastSets a b x y
  down-lower h = record { same = d.same; meets = d.meets; below = d.below; apart = λ e. h }

  pub down-upper : as_set (type_of y) ≡ none → PastSets a b x y
  down-upper h = record { same = d.same; meets = d.meets; below = d.below; apart = λ e. absurd (some-none (sym (ap as_set e) ∙ h)) }
    where
      some-none : {t : Ty} → some t ≡ none → ⊥
      some-none p = cc

pub down-start : (a b : TypeForm) → Down a b a b
down-start a b = record { same = λ m. refl; meets = refl; below = omega arith }

-- So far as one type was gone down.
pub record OwnDown (a x : TypeForm) : Type 0 where
  pub same : plain (type_of x) ≡ plain (type_of a)
  pub below : x.levels ≤ a.levels

pub own-start : (a : TypeForm) → OwnDown a a
own-start a = record { same = refl; below = omega arith }

module _ {a x : TypeForm} (d : OwnDown a x) where
  pub own-again : (s : TypeForm) → (type_of x ≡ set (type_of s)) × (s.levels + 1 ≡ x.levels) → OwnDown a s
  own-again s p = record { same = plain-set (type_of x) p.0 ∙ d.same; below = omega (arith, p.1, d.below) }

  pub own-end : as_set (type_of x) ≡ none → PastOwnSets a x
  own-end h = record { same = d.same; below = d.below; apart = h }

-- What is no set is not one.
pub never-set : {b : Bool} {t u : Ty} → as_set t ≡ none → t ≡ set u → b ≡ plain t
never-set h e = absurd (some_none (sym (ap as_set e) ∙ h))
  where
    some_none : {v : Ty} → some v ≡ none → ⊥
    some_none p = cc
