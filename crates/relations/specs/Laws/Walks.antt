-- Walks over two lists of attributes, which ascend by name. Assumes nothing.
use Rattle.std.specs.Prelude.{◌≡◌, refl, List, Bool, true, false, ◌&&◌, ℕ, zero, suc, ◌+◌, ◌≤◌}
use Rattle.std.proofs.Math.Path.{ap, sym}
use Rattle.std.proofs.Common.{ap₂, ◌∙◌, sub-one, add-one, arith}
use Rattle.std.proofs.Math.Option.{Option, none}
use Rattle.cedar.specs.Types.{Mode, Ty, Attrs, nil, attr, names, find, maybe}
use Rattle.cedar.specs.Laws.Shape.{Ascend}
use Rattle.cedar.specs.Subtype.{sub_flag, sub, sub_attrs}
use Rattle.forms.specs.Parts.{rest, rd}
use Rattle.forms.specs.TypeBytes.{dec, dec_a, Sound}
use Rattle.forms.specs.TypeForms.{type_of, listed, TookFirstAttribute, PassedAttributes, IsAttribute}
use Rattle.forms.specs.declared.type_forms.AttributeForm.{AttributeForm}
use Rattle.forms.specs.declared.type_forms.AttributeForms.{AttributeForms}
use Rattle.forms.specs.Laws.Attributes.{entry, attrs-none}

-- The names of attributes in order ascend.
pub sound-ascends : {l n low : ℕ} {es bs : List ℕ} → Sound l n low es bs → Ascend low (names (dec_a (dec l) n es bs))
sound-ascends {l} {n} {low} {es} {bs} s = go n low es bs s
  where
    go : (n low : ℕ) (es bs : List ℕ) → Sound l n low es bs → Ascend low (names (dec_a (dec l) n es bs))
    go zero low es bs s = rw (attrs-none (dec l) zero es bs (omega arith)) tt
    go (suc n) low es bs s =
        let t = entry s (omega arith) in
        let h = go n (rd es 0 + 1) (rest 5 es) (rest (rd es 3) bs) (rw (sub-one (suc n)) at t.more) in
        rw (t.is, sub-one (suc n)) (t.up, rw (add-one (rd es 0)) at h)

-- What is left of a list is above the attribute that was taken.
pub above : {xs ys : AttributeForms} {a : AttributeForm} → TookFirstAttribute xs ys a → Ascend (suc a.name) (names (listed ys))
above {xs} t = let h : Ascend 0 (names (listed xs)) = sound-ascends xs.sound in (rw t.all at h).1

-- Two lists that have the same from a name on are the same to a list of names from there on.
pub sub-later : (m : Mode) (xs zs ys : Attrs) (low : ℕ) → Ascend low (names ys) → ((k : ℕ) → low ≤ k → find k xs ≡ find k zs) →
    sub_attrs m xs ys ≡ sub_attrs m zs ys
unfolding sub
sub-later m xs zs nil low a h = refl
sub-later m xs zs (attr n s u ys) low a h =
    ap₂ (λ (y z : Bool). y && z)
    (ap (λ (o : Option (Bool × Ty)). maybe false (λ x. sub_flag m x.0 s && sub m x.1 u) o) (h n a.0))
    (sub-later m xs zs ys (suc n) a.1 (λ k g. h k (let p = a.0 in omega arith)))

-- A walk that has come so far: what is left of both lists answers for the whole.
pub record Under (m : Mode) (all : Bool) (lower upper : AttributeForms) : Type 0 where
  pub same : all ≡ sub_attrs m (listed lower) (listed upper)

module _ {m : Mode} {all : Bool} {lower upper : AttributeForms} (i : Under m all lower upper) where
  pub under-end : listed upper ≡ nil → true ≡ all
  unfolding sub
  under-end h = sym (i.same ∙ ap (λ (z : Attrs). sub_attrs m (listed lower) z) h)

  module _ {more : AttributeForms} {a : AttributeForm} (t : TookFirstAttribute upper more a) where
    step : (o : Option (Bool × Ty)) → find a.name (listed lower) ≡ o → all ≡
        (maybe false (λ x. sub_flag m x.0 a.required && sub m x.1 (type_of a.form)) o && sub_attrs m (listed lower) (listed more))
    unfolding sub
    step o h =
        i.same ∙ ap (λ (z : Attrs). sub_attrs m (listed lower) z) t.all
        ∙ ap (λ (z : Option (Bool × Ty)). maybe false (λ x. sub_flag m x.0 a.required && sub m x.1 (type_of a.form)) z
        && sub_attrs m (listed lower) (listed more)) h

    pub under-missing : find a.name (listed lower) ≡ none → false ≡ all
    under-missing g = sym (step none g)

    module _ {o : AttributeForm} (f : IsAttribute lower a.name o) where
      both : all ≡ ((sub_flag m o.required a.required && sub m (type_of o.form) (type_of a.form)) && sub_attrs m (listed lower) (listed more))
      both = step _ f.found

      module _ (x : Bool) (xq : x ≡ sub_flag m o.required a.required) where
        pub under-flag : x ≡ false → false ≡ all
        under-flag h = sym (both ∙ rw (sym xq ∙ h) refl)

        module _ (xh : x ≡ true) (y : Bool) (yq : y ≡ sub m (type_of o.form) (type_of a.form)) where
          pub under-type : y ≡ false → false ≡ all
          under-type h = sym (both ∙ rw (sym xq ∙ xh, sym yq ∙ h) refl)

          pub under-again : {later : AttributeForms} → PassedAttributes lower a.name later → y ≡ true → Under m all later more
          under-again {later} p h =
              record {
                same =
                    both ∙ rw (sym xq ∙ xh, sym yq ∙ h)
                    (sub-later m (listed lower) (listed later) (listed more) (suc a.name) (above t) (λ k g. p.later k (omega arith)));
              }
