-- What is not shown as a set is none; the same of records and entities. Assumes nothing.
use Rattle.std.specs.Prelude.{◌≡◌, Bool, List, ℕ}
use Rattle.std.specs.Borrow.{Bor}
use Rattle.std.proofs.Math.Path.{refl, ap}
use Rattle.std.proofs.Math.Option.{none}
use Rattle.cedar.specs.Types.{as_set, as_rec, as_ent}
use Rattle.forms.specs.TypeForms.{type_of, Shaped}
use Rattle.forms.specs.declared.type_forms.TypeForm.{TypeForm}
use Rattle.forms.specs.declared.type_forms.AttributeForms.{AttributeForms}
use Rattle.forms.specs.declared.type_forms.Shape.{Shape}
use Rattle.forms.specs.declared.type_forms.Shape.TheVariants as shape

module _ (t : TypeForm) where
  pub no-set : (s : Shape) → Shaped t s → ((x : TypeForm) → s ≡ shape.Set x → ⊥) → as_set (type_of t) ≡ none
  no-set (shape.Plain k) p n = ap as_set p.is
  no-set (shape.Set x) p n = absurd (n x refl)
  no-set (shape.Record o xs) p n = ap as_set p.0
  no-set (shape.Entity ns) p n = ap as_set p.0
  no-set (shape.Action i xs) p n = ap as_set p.0
  no-set (shape.Extension i) p n = ap as_set p.0

  pub no-record : (s : Shape) → Shaped t s → ((o : Bool) (xs : AttributeForms) → s ≡ shape.Record o xs → ⊥) → as_rec (type_of t) ≡ none
  no-record (shape.Plain k) p n = ap as_rec p.is
  no-record (shape.Set x) p n = ap as_rec p.0
  no-record (shape.Record o xs) p n = absurd (n o xs refl)
  no-record (shape.Entity ns) p n = ap as_rec p.0
  no-record (shape.Action i xs) p n = ap as_rec p.0
  no-record (shape.Extension i) p n = ap as_rec p.0

  pub no-entity : (s : Shape) → Shaped t s → ((ns : Bor (List ℕ)) → s ≡ shape.Entity ns → ⊥) → as_ent (type_of t) ≡ none
  no-entity (shape.Plain k) p n = ap as_ent p.is
  no-entity (shape.Set x) p n = ap as_ent p.0
  no-entity (shape.Record o xs) p n = ap as_ent p.0
  no-entity (shape.Entity ns) p n = absurd (n ns refl)
  no-entity (shape.Action i xs) p n = ap as_ent p.0
  no-entity (shape.Extension i) p n = ap as_ent p.0
