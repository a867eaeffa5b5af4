-- Whether a type may have an attribute, by what it is made of and by the entries of its entity types. Assumes nothing.
use Rattle.std.specs.Prelude.{ℕ, ◌<◌, List, ◌++◌, Bool, true, false, ◌||◌, ◌≡◌, refl, length, zero, suc, ◌*◌, ◌-◌, ◌≤◌, get_or, Option as Maybe, Some, None}
use Rattle.std.specs.declared.slice.ChunksExact.{ChunksExact}
use Rattle.std.proofs.Common.{ap, sym, ◌∙◌, arith, eq-eqb, ne_eqb}
use Rattle.cedar.specs.Types.{Atom, never, true', false', bool, long, string, anyset, anyent, Ty, Attrs, set, rec, act, ent, ext, find, Schema as Said, present, is, atom}
use Rattle.cedar.specs.TypeForm.{one, atom_code, Kind as FormKind, set_kind, rec_kind, ent_kind, act_kind, ext_kind, no_kind, kind_of}
use Rattle.cedar.specs.Attribute.{may_have_type, may_have_names, may_have, own_attr}
use Rattle.forms.specs.Parts.{rd, rest, kind}
use Rattle.forms.specs.TypeForms.{IsPlain}
use Rattle.forms.specs.declared.kinds.Kind.{Kind}
use Rattle.forms.specs.declared.kinds.Kind.TheVariants as kinds
use Rattle.forms.specs.Laws.Kinds.{kind-same}
use Rattle.forms.specs.Laws.NamesIn.{NamesLeft, names-end, name-first}
use Rattle.forms.specs.Laws.TypeForms.{plain-code}
use Rattle.forms.specs.TypeBytes.{whole, dec, names_by}
use Rattle.forms.specs.Laws.Views.{is-record, is-action, is-entity, is-atom, see, seen-set, seen-record, seen-entity, seen-action, seen-extension, seen-atom}
use Rattle.schemas.specs.Schema.{said_by}
use Rattle.schemas.specs.declared.schema.Schema.{Schema}
use Rattle.attributes.specs.MayHave.{record_may_have}
use Rattle.attributes.specs.declared.own_attribute.Attribute.{Attribute}
use Rattle.attributes.specs.declared.entity_attribute.EntityAttribute.{EntityAttribute}
use Rattle.attributes.specs.declared.entity_attribute.EntityAttribute.TheVariants.{Found, Absent, Missing}
use Rattle.attributes.specs.EntityAttribute.{AttributeIn}
use Rattle.attributes.specs.Laws.EntityAttribute.{attribute-found, attribute-absent, attribute-missing}
use Rattle.std.proofs.Math.Option.{Option}
use Rattle.attributes.specs.Place.{Placed}
use Rattle.attributes.specs.Laws.Place.{placed_at, place_none}

-- The loop over an entity's types.
module _ (s : Said) (name : ℕ) {all : Bool} {left : ChunksExact ℕ} (i : NamesLeft all (may_have_names s name) left) where
  pub none-may-have : length left.rest.now < left.size → false ≡ all
  none-may-have h = sym (names-end i h)

  module _ (pair b : List ℕ) (cut : left.rest.now ≡ pair ++ b) (size : length pair ≡ left.size) (r : Bool) (k : ℕ) (q : k ≡ rd pair 0)
      (h : r ≡ may_have_type s name k) where
    pub one-may-have : r ≡ true → true ≡ all
    one-may-have e = sym (name-first i pair b cut size ∙ rw (← q, ← h, e) refl)

    pub next-may-have : r ≡ false → (next : ChunksExact ℕ) → next.size ≡ left.size → next.rest.now ≡ b → NamesLeft all (may_have_names s name) next
    next-may-have e next z f = record { size = z ∙ i.size; same = name-first i pair b cut size ∙ rw (← q, ← h, e, f) refl }

-- A type by what it is made of.
module _ (s : Said) (name : ℕ) (t : Ty) where
  pub open-may-have : {xs : Attrs} → t ≡ rec true xs → true ≡ may_have s name t
  open-may-have e = rw e refl

  -- It lists the attribute.
  module _ {xs : Attrs} (r : Bool) (h : r ≡ present (find name xs)) where
    pub closed-may-have : t ≡ rec false xs → r ≡ may_have s name t
    closed-may-have e = h ∙ rw e refl

    pub action-may-have : {n : ℕ} → t ≡ act n xs → r ≡ may_have s name t
    action-may-have e = h ∙ rw e refl

  pub entity-may-have : {ns : List ℕ} → t ≡ ent ns → (r : Bool) → r ≡ may_have_names s name ns → r ≡ may_have s name t
  entity-may-have e r h = h ∙ rw e refl

  pub set-may-have : {x : Ty} → t ≡ set x → false ≡ may_have s name t
  set-may-have e = rw e refl

  pub extension-may-have : {n : ℕ} → t ≡ ext n → false ≡ may_have s name t
  extension-may-have e = rw e refl

  -- One that is nothing but its kind may have an attribute if it is Never or any entity.
  module _ {k : Kind} (p : IsPlain t k) where
    pub never-may-have : k ≡ kinds.Never → true ≡ may_have s name t
    never-may-have e = let z : one never ≡ one p.which = rw e at p.kind in let y : never ≡ p.which = cc in rw (p.is, ← y) refl

    pub any-may-have : k ≡ kinds.AnyEntity → true ≡ may_have s name t
    any-may-have e = let z : one anyent ≡ one p.which = rw e at p.kind in let y : anyent ≡ p.which = cc in rw (p.is, ← y) refl

    pub other-may-have : (k ≡ kinds.Never → ⊥) → (k ≡ kinds.AnyEntity → ⊥) → false ≡ may_have s name t
    other-may-have p0 p9 = rw p.is (go p.which (λ z. p0 (kind-same k kinds.Never (sym (plain-code p) ∙ ap atom_code z))) (λ z. p9 (kind-same k kinds.AnyEntity (sym (plain-code p) ∙ ap atom_code z))))
      where
        go : (a : Atom) → (a ≡ never → ⊥) → (a ≡ anyent → ⊥) → false ≡ (is a never || is a anyent)
        go never p q = absurd (p refl)
        go true' p q = refl
        go false' p q = refl
        go bool p q = refl
        go long p q = refl
        go string p q = refl
        go anyset p q = refl
        go anyent p q = absurd (q refl)

-- A place by its cases.
module _ (l : ℕ) (b : List ℕ) (o : Option (Bool × Ty)) (r : Maybe Attribute) (p : Placed l b o r) where
  pub placed-present : (x : Attribute) → r ≡ Some x → true ≡ present o
  placed-present x h = rw (placed_at r p x h).is refl

  pub placed-absent : r ≡ None → false ≡ present o
  placed-absent h = rw (place_none l b o r p h) refl

-- An entity type, by what is found of it.
module _ (s : Schema) (n name : ℕ) (r : EntityAttribute) (p : AttributeIn s n name r) where
  pub found-may-have : (x : Attribute) → r ≡ Found x → true ≡ may_have_type (said_by s) name n
  found-may-have x h = sym (attribute-found s n name r p x h).may

  pub absent-may-have : (o : Bool) → r ≡ Absent o → o ≡ may_have_type (said_by s) name n
  absent-may-have o h = sym (attribute-absent s n name r p o h).1

  pub missing-may-have : r ≡ Missing → true ≡ may_have_type (said_by s) name n
  missing-may-have h = rw (attribute-missing s n name r p h) refl

-- A record, by its open byte.
module _ (name l : ℕ) (b : List ℕ) (w : whole l b ≡ true) (k : kind b ≡ 8) where
  pub open-record-may-have : get_or b 1 0 ≡ 1 → true ≡ record_may_have name (dec l b)
  open-record-may-have e = rw ((is-record l b w k).is, eq-eqb (get_or b 1 0) 1 e) refl

  pub closed-record-may-have : (r : Bool) → (get_or b 1 0 ≡ 1 → ⊥) → r ≡ present (own_attr name (dec l b)) → r ≡ record_may_have name (dec l b)
  closed-record-may-have r e q = q ∙ rw ((is-record l b w k).is, ne_eqb (get_or b 1 0) 1 e) refl

-- A kind with nothing after the first byte may have an attribute if it is Never or any entity.
abbrev may_any : FormKind → Bool
may_any (one a) = is a never || is a anyent
may_any set_kind = false
may_any rec_kind = false
may_any ent_kind = false
may_any act_kind = false
may_any ext_kind = false
may_any no_kind = false

any-kind : (k : ℕ) → (k ≡ 0 → ⊥) → (k ≡ 9 → ⊥) → may_any (kind_of k) ≡ false
any-kind zero p q = absurd (p refl)
any-kind (suc zero) p q = refl
any-kind (suc (suc zero)) p q = refl
any-kind (suc (suc (suc zero))) p q = refl
any-kind (suc (suc (suc (suc zero)))) p q = refl
any-kind (suc (suc (suc (suc (suc zero))))) p q = refl
any-kind (suc (suc (suc (suc (suc (suc zero)))))) p q = refl
any-kind (suc (suc (suc (suc (suc (suc (suc zero))))))) p q = refl
any-kind (suc (suc (suc (suc (suc (suc (suc (suc zero)))))))) p q = refl
any-kind (suc (suc (suc (suc (suc (suc (suc (suc (suc zero))))))))) p q = absurd (q refl)
any-kind (suc (suc (suc (suc (suc (suc (suc (suc (suc (suc zero)))))))))) p q = refl
any-kind (suc (suc (suc (suc (suc (suc (suc (suc (suc (suc (suc zero))))))))))) p q = refl
any-kind (suc (suc (suc (suc (suc (suc (suc (suc (suc (suc (suc (suc zero)))))))))))) p q = refl
any-kind (suc (suc (suc (suc (suc (suc (suc (suc (suc (suc (suc (suc (suc k))))))))))))) p q = refl

-- A type by its first byte.
module _ (s : Said) (name l : ℕ) (b : List ℕ) (w : whole l b ≡ true) where
  pub record_is : kind b ≡ 8 → (r : Bool) → r ≡ record_may_have name (dec l b) → r ≡ may_have s name (dec l b)
  record_is k r q = q ∙ rw (is-record l b w k).is refl

  pub action-is : kind b ≡ 11 → (r : Bool) → r ≡ present (own_attr name (dec l b)) → r ≡ may_have s name (dec l b)
  action-is k r q = q ∙ rw (is-action l b w k).is refl

  pub entity-is : kind b ≡ 10 → (n : ℕ) → n ≡ rd b 1 → (r : Bool) → r ≡ may_have_names s name (names_by 2 n (rest 3 b)) → r ≡ may_have s name (dec l b)
  entity-is k n e r q = q ∙ rw ((is-entity l b w k).is, e) refl

  pub entity-names : kind b ≡ 10 → (n : ℕ) → n ≡ rd b 1 → 2 * n ≤ length b - 3
  entity-names k n e = omega (arith, (is-entity l b w k).sized, e)

  -- The kinds that may have any attribute, and those that have none.
  module _ (a : Atom) (k : ℕ) (e : kind b ≡ k) (o : kind_of k ≡ one a) where
    pub any-is : (k ≡ 7 → ⊥) → (k ≡ 8 → ⊥) → (k ≡ 10 → ⊥) → (k ≡ 11 → ⊥) → (k ≡ 12 → ⊥) → dec l b ≡ atom a
    any-is p7 p8 p10 p11 p12 =
        let v = is-atom l b w (λ z. p7 (sym e ∙ z)) (λ z. p8 (sym e ∙ z)) (λ z. p10 (sym e ∙ z)) (λ z. p11 (sym e ∙ z)) (λ z. p12 (sym e ∙ z)) in
        let f : one v.kind-of ≡ one a = sym v.kind-is ∙ ap kind_of e ∙ o in
        v.is ∙ ap atom cc

  pub never-is : kind b ≡ 0 → true ≡ may_have s name (dec l b)
  never-is k = rw (any-is never 0 k refl (λ z. omega arith) (λ z. omega arith) (λ z. omega arith) (λ z. omega arith) (λ z. omega arith)) refl

  pub any-entity-is : kind b ≡ 9 → true ≡ may_have s name (dec l b)
  any-entity-is k = rw (any-is anyent 9 k refl (λ z. omega arith) (λ z. omega arith) (λ z. omega arith) (λ z. omega arith) (λ z. omega arith)) refl

  pub other-is : (((((Unit {0} × (kind b ≡ 0 → ⊥)) × (kind b ≡ 9 → ⊥)) × (kind b ≡ 8 → ⊥)) × (kind b ≡ 10 → ⊥)) × (kind b ≡ 11 → ⊥)) →
      false ≡ may_have s name (dec l b)
  other-is n = elim (see l b w) [
    | seen-set k v ↦ rw v.is refl
    | seen-record k v ↦ absurd (n.0.0.1 k)
    | seen-entity k v ↦ absurd (n.0.1 k)
    | seen-action k v ↦ absurd (n.1 k)
    | seen-extension k v ↦ rw v.is refl
    | seen-atom v ↦ rw v.is (sym (rw v.kind-is at (any-kind (kind b) n.0.0.0.0.1 n.0.0.0.1)))
  ]
