-- The attributes of an entity type, from its entry's body to the schema. Assumes nothing.
use Rattle.std.specs.Prelude.{ℕ, ◌+◌, ◌*◌, ◌-◌, List, [], Bool, true, false, ◌||◌, ◌≡◌, refl, eqb, length, get_or, Option as Maybe, Some, None, option_map, ◌≤◌, take, drop}
use Rattle.std.proofs.Common.{arith, ap, sym, ◌∙◌, subst, take-take, drop-drop}
use Rattle.std.proofs.Math.Option.{some}
use Rattle.cedar.specs.Types.{present, maybe, names}
use Rattle.cedar.specs.Attribute.{attr_of, own_attr, may_have_type, entity_of}
use Rattle.forms.specs.Parts.{part, rest, rd}
use Rattle.forms.specs.Search.{Laid}
use Rattle.forms.specs.TypeBytes.{whole, dec, names_by}
use Rattle.forms.specs.declared.rows.Row.{Row}
use Rattle.forms.specs.declared.rows.Rows.{Rows}
use Rattle.forms.specs.Laws.Parts.{length_part, drop-take}
use Rattle.forms.specs.Laws.Names.{names-of-entries}
use Rattle.forms.specs.Laws.Attributes.{laid}
use Rattle.schemas.specs.Entries.{entry_at, row_bytes}
use Rattle.schemas.specs.Schema.{limits_in, said_by}
use Rattle.schemas.specs.declared.entries.Key.TheVariants.{Name}
use Rattle.schemas.specs.Laws.Finders.{EntityAt}
use Rattle.schemas.specs.declared.schema.Schema.{Schema}
use Rattle.attributes.specs.declared.own_attribute.Attribute.{Attribute}
use Rattle.attributes.specs.declared.entity_attribute.EntityAttribute.TheVariants.{Absent, Found, Missing}
use Rattle.attributes.specs.Place.{Placed}
use Rattle.attributes.specs.EntityAttribute.{body_in, HasAttribute, AttributeIn, HasRows, RowsIn}
use Rattle.attributes.specs.Laws.Place.{placed_at, place_none}
use Rattle.attributes.specs.declared.entity_attribute.EntityAttribute.{EntityAttribute}

-- A part of a part.
pub part-part : (a z s e : ℕ) (b : List ℕ) → z ≤ length b → e ≤ length (part a z b) → part s e (part a z b) ≡ part (a + s) (a + e) b
part-part a z s e b h g =
    let l = length_part a z b h in
    let d : drop s (part a z b) ≡ take (z - a - s) (drop (a + s) b) = drop-take s (z - a) (drop a b) ∙
    ap (λ (y : List ℕ). take (z - a - s) y) (drop-drop s a b) in
    let m : a + e - (a + s) ≡ e - s = omega arith in
    rw (d, m) (take-take (e - s) (z - a - s) (drop (a + s) b) (omega arith))

-- What is said of an attribute of an entity type wherever it stands: HasAttribute but for its place.
pub record AttributeOf (s : Schema) (k a : ℕ) (x : Attribute) : Type 0 where
  pub few : length x.form.now ≤ (limits_in s).bytes
  pub good : whole ((limits_in s).levels - 1) x.form.now ≡ true
  pub is : attr_of (said_by s) a k ≡ some (x.required, dec ((limits_in s).levels - 1) x.form.now)
  pub may : may_have_type (said_by s) a k ≡ true

pub attribute-of : {s : Schema} {k a : ℕ} {x : Attribute} → HasAttribute s k a x → AttributeOf s k a x
attribute-of h = record { few = h.few; good = h.good; is = h.is; may = h.may }

-- What is said of its rows wherever they stand: HasRows but for their place.
pub record RowsOf (s : Schema) (k : ℕ) (x : Rows 5) : Type 0 where
  pub laid : Laid 5 x.left x.entries.now x.bodies.now
  pub few : 5 * x.left ≤ (limits_in s).bytes
  pub is : maybe [] (λ e. names e.attrs) (entity_of (said_by s) k) ≡ names_by 5 x.left x.entries.now

pub rows-of : {s : Schema} {k : ℕ} {x : Rows 5} → HasRows s k x → RowsOf s k x
rows-of h = record { laid = h.laid; few = h.few; is = h.is }

or-true : (b : Bool) → b || true ≡ true
or-true true = refl
or-true false = refl

or-false : (b : Bool) → b || false ≡ b
or-false true = refl
or-false false = refl

-- The body of the entry that is found is that of the entity type.
pub body-there : (s : Schema) (n : ℕ) (o : Maybe Row) → option_map row_bytes o ≡ entry_at 5 (Name n) s.sections.entities s.bytes.now →
    (r : Row) → o ≡ Some r → body_in s n ≡ Some r.body.now
body-there s n o q r h = ap (option_map (λ (y : List ℕ × List ℕ). y.1)) (sym q ∙ ap (option_map row_bytes) h)

module _ (s : Schema) {n : ℕ} {c : List ℕ} (v : EntityAt (limits_in s) s.bytes.now n c) where
  abbrev top : ℕ
  top = (limits_in s).levels

  abbrev below : ℕ
  below = (limits_in s).levels - 1

  -- An entity type may have an attribute where its body is open or lists it.
  may-is : (name : ℕ) → may_have_type (said_by s) name n ≡ (eqb (get_or c 1 0) 1 || present (attr_of (said_by s) name n))
  may-is name = rw v.is refl

  -- The rows of its attributes.
  pub rows-in : (x : Rows 5) → x.left ≡ rd c 2 → x.entries.now ≡ part 4 (4 + 5 * rd c 2) c → x.bodies.now ≡ rest (4 + 5 * rd c 2) c → RowsOf s n x
  rows-in x q e f =
      record {
        laid = rw (q, e, f) (laid v.body.view.sound);
        few = omega (arith, q, v.body.view.fit, v.body.few);
        is = rw (v.is, q, e) (names-of-entries (dec below) (rd c 2) (part 4 (4 + 5 * rd c 2) c) (rest (4 + 5 * rd c 2) c));
      }

  -- The same at their place, in the body of the schema's first entry.
  pub rows-there : body_in s n ≡ Some c → (x : Rows 5) → x.left ≡ rd c 2 → x.entries.now ≡ part 4 (4 + 5 * rd c 2) c →
      x.bodies.now ≡ rest (4 + 5 * rd c 2) c → HasRows s n x
  rows-there b x q e f =
      let r = rows-in x q e f in
      record {
        there = ap (option_map (part 4 (4 + 5 * x.left))) b ∙ ap Some (rw q (sym e));
        behind = ap (option_map (rest (4 + 5 * x.left))) b ∙ ap Some (rw q (sym f));
        laid = r.laid;
        few = r.few;
        is = r.is;
      }

  module _ (name : ℕ) (r : Maybe Attribute) (p : Placed below c (own_attr name (dec top c)) r) where
    own_is : attr_of (said_by s) name n ≡ own_attr name (dec top c)
    own_is = rw (v.is, v.body.view.is) refl

    pub entity-lacks : r ≡ None → AttributeIn s n name (Absent (eqb (get_or c 1 0) 1))
    entity-lacks h =
        let e = own_is ∙ place_none below c (own_attr name (dec top c)) r p h in
        (e, may-is name ∙ rw e (or-false (eqb (get_or c 1 0) 1)))

    pub entity-has : (x : Attribute) → r ≡ Some x → AttributeOf s n name x
    entity-has x h =
        let t = placed_at r p x h in
        let is = own_is ∙ t.is in
        record {
          few = omega (arith, ap length t.there, length_part x.start (x.start + length x.form.now) c t.inside, t.inside, v.body.few);
          good = t.good;
          is = is;
          may = may-is name ∙ rw is (or-true (eqb (get_or c 1 0) 1));
        }

    -- The same at its place, in the body of the schema's first entry.
    pub entity-has-there : body_in s n ≡ Some c → (x : Attribute) → r ≡ Some x → HasAttribute s n name x
    entity-has-there b x h =
        let t = placed_at r p x h in
        let a = entity-has x h in
        record {
          there = ap (option_map (part x.start (x.start + length x.form.now))) b ∙ ap Some (sym t.there);
          few = a.few;
          good = a.good;
          is = a.is;
          may = a.may;
        }

-- An attribute by its cases.
module _ (s : Schema) (k a : ℕ) (r : EntityAttribute) (p : AttributeIn s k a r) where
  pub attribute-found : (x : Attribute) → r ≡ Found x → HasAttribute s k a x
  attribute-found x h = subst (λ (y : EntityAttribute). AttributeIn s k a y) h p

  pub attribute-absent : (o : Bool) → r ≡ Absent o → AttributeIn s k a (Absent o)
  attribute-absent o h = subst (λ (y : EntityAttribute). AttributeIn s k a y) h p

  pub attribute-missing : r ≡ Missing → AttributeIn s k a Missing
  attribute-missing h = subst (λ (y : EntityAttribute). AttributeIn s k a y) h p

-- Rows by their cases.
module _ (s : Schema) (k : ℕ) (r : Maybe (Rows 5)) (p : RowsIn s k r) where
  pub rows-found : (x : Rows 5) → r ≡ Some x → HasRows s k x
  rows-found x h = subst (λ (y : Maybe (Rows 5)). RowsIn s k y) h p

  pub rows-missing : r ≡ None → RowsIn s k None
  rows-missing h = subst (λ (y : Maybe (Rows 5)). RowsIn s k y) h p
