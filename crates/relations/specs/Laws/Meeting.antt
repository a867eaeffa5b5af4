-- A walk over a core attribute list and another one. Assumes nothing.
use Rattle.std.specs.Prelude.{◌≡◌, Bool, true, false, not, ◌||◌, ◌&&◌, ℕ, suc, ◌≤◌}
use Rattle.std.proofs.Math.Path.{refl, ap, sym}
use Rattle.std.proofs.Common.{ap₂, ◌∙◌, arith}
use Rattle.std.proofs.Math.Option.{Option, none}
use Rattle.cedar.specs.Types.{Ty, Attrs, nil, attr, names, find, maybe}
use Rattle.cedar.specs.Laws.Shape.{Ascend}
use Rattle.cedar.specs.Consistency.{consistent, consistent_attrs}
use Rattle.forms.specs.TypeForms.{type_of, listed, TookFirstAttribute, PassedAttributes, IsAttribute}
use Rattle.forms.specs.declared.type_forms.AttributeForm.{AttributeForm}
use Rattle.forms.specs.declared.type_forms.AttributeForms.{AttributeForms}
use Rattle.relations.specs.Laws.Walks.{above}

-- Two lists that have the same from a name on are the same to a core list from there on.
meet-later : (o : Bool) (xs zs ys : Attrs) (low : ℕ) → Ascend low (names ys) → ((k : ℕ) → low ≤ k → find k xs ≡ find k zs) →
    consistent_attrs o xs ys ≡ consistent_attrs o zs ys
unfolding consistent
meet-later o xs zs nil low a h = refl
meet-later o xs zs (attr n s u ys) low a h =
    ap₂ (λ (y z : Bool). y && z)
    (ap (λ (x : Option (Bool × Ty)). maybe (not s || o) (λ y. consistent y.1 u) x) (h n a.0))
    (meet-later o xs zs ys (suc n) a.1 (λ k g. h k (let p = a.0 in omega arith)))

-- A walk that has come so far: what is left of both lists answers for the whole.
pub record Meeting (o all : Bool) (attributes core : AttributeForms) : Type 0 where
  pub same : all ≡ consistent_attrs o (listed attributes) (listed core)

module _ {o all : Bool} {attributes core : AttributeForms} (i : Meeting o all attributes core) where
  pub meeting-end : listed core ≡ nil → true ≡ all
  unfolding consistent
  meeting-end h = sym (i.same ∙ ap (λ (z : Attrs). consistent_attrs o (listed attributes) z) h)

  module _ {more : AttributeForms} {a : AttributeForm} (t : TookFirstAttribute core more a) where
    step : (x : Option (Bool × Ty)) → find a.name (listed attributes) ≡ x → all ≡
        (maybe (not a.required || o) (λ y. consistent y.1 (type_of a.form)) x && consistent_attrs o (listed attributes) (listed more))
    unfolding consistent
    step x h =
        i.same ∙ ap (λ (z : Attrs). consistent_attrs o (listed attributes) z) t.all
        ∙ ap (λ (z : Option (Bool × Ty)). maybe (not a.required || o) (λ y. consistent y.1 (type_of a.form)) z
        && consistent_attrs o (listed attributes) (listed more)) h

    -- A test of the first that has a yes: what is left answers.
    again : {later : AttributeForms} → PassedAttributes attributes a.name later → (y : Bool) →
        all ≡ (y && consistent_attrs o (listed attributes) (listed more)) → y ≡ true → Meeting o all later more
    again {later} p y e h =
        record {
          same =
              e ∙ rw h
              (meet-later o (listed attributes) (listed later) (listed more) (suc a.name) (above t) (λ k g. p.later k (omega arith)));
        }

    module _ (g : find a.name (listed attributes) ≡ none) where
      pub alone-not : a.required ≡ true → o ≡ false → false ≡ all
      alone-not h k = sym (step none g ∙ rw (h, k) refl)

      module _ {later : AttributeForms} (p : PassedAttributes attributes a.name later) where
        pub alone-optional : a.required ≡ false → Meeting o all later more
        alone-optional h = again p (not a.required || o) (step none g) (rw h refl)

        pub alone-open : o ≡ true → Meeting o all later more
        alone-open h = again p (not a.required || o) (step none g) (ap (λ (x : Bool). not a.required || x) h ∙ go (not a.required))
          where
            go : (x : Bool) → x || true ≡ true
            go true = refl
            go false = refl

    module _ {f : AttributeForm} (s : IsAttribute attributes a.name f) (y : Bool) (yq : y ≡ consistent (type_of f.form) (type_of a.form)) where
      both : all ≡ (y && consistent_attrs o (listed attributes) (listed more))
      both = step _ s.found ∙ rw (sym yq) refl

      pub meeting-not : y ≡ false → false ≡ all
      meeting-not h = sym (both ∙ rw h refl)

      pub meeting-again : {later : AttributeForms} → PassedAttributes attributes a.name later → y ≡ true → Meeting o all later more
      meeting-again p h = again p y both h
