-- The outcome of the entry that hands back a part, by its cases. Assumes nothing.
use Rattle.std.specs.Prelude.{ℕ, ◌+◌, ◌≤◌, ◌<◌, List, [], Bool, true, false, ◌≡◌, refl, length, get_or, Option as Maybe, Some, None}
use Rattle.std.proofs.Common.{arith, ap, sym, subst, ◌∙◌}
use Rattle.std.proofs.Math.Option.{Option, none, some}
use Rattle.std.specs.Borrow.{Bor}
use Rattle.cedar.specs.Types.{Ty, Schema}
use Rattle.cedar.specs.Bytes.{Bytes}
use Rattle.cedar.specs.TypeForm.{enc}
use Rattle.cedar.specs.Limits.{Limits, most_bytes, allowed}
use Rattle.cedar.specs.Result.{Result, ok, err}
use Rattle.cedar.specs.Whole.{whole_type, whole_schema}
use Rattle.cedar.specs.Outcome.{Outcome, refused, nothing, attribute, bytes_of}
use Rattle.cedar.specs.Attribute.{own_attr}
use Rattle.cedar.specs.BodyPlace.{body_place, body_in}
use Rattle.cedar.specs.Calls.{own_attribute_call}
use Rattle.cedar.proofs.Laws.Limits.{allowed-bytes, own-attribute-refused}
use Rattle.cedar.proofs.Laws.Whole.{whole_type-reads}
use Rattle.cedar.proofs.Laws.BodyPlace.{Stands, body-in-stands}
use Rattle.forms.specs.Parts.{part}
use Rattle.forms.specs.Laws.Bytes.{Bytes-index}
use Rattle.attributes.specs.declared.own_attribute.Attribute.{Attribute}
use Rattle.attributes.specs.Place.{span_of as place_span}
use Rattle.validator.specs.Handed.{part_of, span_of, told_of, IsPart, Handed}
use Rattle.validator.specs.declared.own_attribute_type.OwnPart.{OwnPart}

-- The part, question by question.
module _ (lim : Limits) (fair : allowed lim ≡ true) (schema : List ℕ) (a : ℕ) (b : List ℕ) where
  abbrev part_here : Result (Maybe OwnPart)
  part_here = part_of (own_attribute_call lim schema a b) (body_in lim a b)

  -- The schema is not whole: 2.
  pub part-no-schema : whole_schema lim schema ≡ none → err 2 ≡ part_here
  part-no-schema e = rw (fair, e) refl

  module _ (w : Schema) (f : whole_schema lim schema ≡ some w) where
    -- The type is not whole: 3.
    pub part-no-type : whole_type lim b ≡ none → err 3 ≡ part_here
    part-no-type e = rw (fair, f, e) refl

    module _ (u : Ty) (e : whole_type lim b ≡ some u) where
      -- There is no such attribute.
      pub part-nothing : own_attr a u ≡ none → ok None ≡ part_here
      part-nothing o = rw (fair, f, e, o) refl

      -- The attribute found from s to z, with its flag.
      pub part_at : (y : Ty) (r : Maybe Attribute) (x : Attribute) → own_attr a u ≡ some (x.required, y) → r ≡ Some x → place_span r ≡ body_place a u →
          ok (Some (record { start = x.start; end = x.start + length x.form.now; required = x.required })) ≡ part_here
      part_at y r x o at p =
          let here : body_place a u ≡ some (x.start, x.start + length x.form.now) = sym p ∙ ap place_span at in
          rw (fair, f, e, o, here) refl

-- What the call comes to on bytes: a refusal; none; an attribute, whose type's form stands at its place.
pub data Comes (b : List ℕ) (o : Outcome) (place : Option (ℕ × ℕ)) : Type 0 where
  refuses : (n : ℕ) → o ≡ refused n → Comes b o place
  lacks : o ≡ nothing → Comes b o place
  has : (q : Bool) (y : Ty) → o ≡ attribute q y → Stands b place (enc y) → length b ≤ most_bytes → Comes b o place

pub comes : (lim : Limits) (schema : List ℕ) (a : ℕ) (b : List ℕ) → Bytes b → Comes b (own_attribute_call lim schema a b) (body_in lim a b)
comes lim schema a b h = limits (allowed lim) refl
  where
    own : allowed lim ≡ true → (w : Schema) → whole_schema lim schema ≡ some w → (u : Ty) → whole_type lim b ≡ some u → (y : Option (Bool × Ty)) →
        own_attr a u ≡ y → Comes b (own_attribute_call lim schema a b) (body_in lim a b)
    own fair w e u f none g = lacks (rw (fair, e, f, g) refl)
    own fair w e u f (some y) g =
        let r = (whole_type-reads lim).into b u h f in
        let few : length b ≤ lim.bytes = subst (λ (l : List ℕ). length l ≤ lim.bytes) r.0 r.1.1 in
        has y.0 y.1 (rw (fair, e, f, g) refl) (body-in-stands lim a b u f h y g) (omega (arith, few, (allowed-bytes lim fair).1))

    go : allowed lim ≡ true → (x : Option Schema) → whole_schema lim schema ≡ x → (t : Option Ty) → whole_type lim b ≡ t →
        Comes b (own_attribute_call lim schema a b) (body_in lim a b)
    go fair none e t f = refuses 2 (rw (fair, e) refl)
    go fair (some w) e none f = refuses 3 (rw (fair, e, f) refl)
    go fair (some w) e (some u) f = own fair w e u f (own_attr a u) refl

    limits : (y : Bool) → allowed lim ≡ y → Comes b (own_attribute_call lim schema a b) (body_in lim a b)
    limits false bad = refuses 20 (own-attribute-refused lim bad schema a b)
    limits true fair = go fair (whole_schema lim schema) refl (whole_type lim b) refl

-- An attribute with its flag, and the form b from its start to its end.
pub record Found (b : List ℕ) (o : Outcome) (x : OwnPart) : Type 0 where
  pub type : Ty
  pub is : o ≡ attribute x.required type
  pub order : x.start ≤ x.end
  pub inside : x.end ≤ length b
  pub few : length b ≤ most_bytes
  pub bytes : part x.start x.end b ≡ enc type

-- What is handed back, by the part.
module _ (t : Bor (List ℕ)) (o : Outcome) (place : Option (ℕ × ℕ)) (c : Comes t.now o place) (p : Result (Maybe OwnPart)) (e : p ≡ part_of o place) where
  refused_as : (n : ℕ) → o ≡ refused n → p ≡ err n
  refused_as n i = e ∙ ap (λ (z : Outcome). part_of z place) i

  nothing-as : o ≡ nothing → p ≡ ok None
  nothing-as i = e ∙ ap (λ (z : Outcome). part_of z place) i

  at-as : (q : Bool) (y : Ty) → o ≡ attribute q y → (s : Stands t.now place (enc y)) → p ≡ ok (Some (record { start = s.start; end = s.end; required = q }))
  at-as q y i s = e ∙ ap (λ (z : Outcome). part_of z place) i ∙ ap (λ (z : Option (ℕ × ℕ)). part_of (attribute q y) z) s.is

  -- The empty part before the first byte.
  front : {r : Bor (List ℕ)} → r.ref_ptr ≡ t.ref_ptr → r.now ≡ [] → (x : Result (Maybe OwnPart)) → span_of x ≡ (0, 0) → IsPart (span_of x) t r
  front {r} i j x z =
      subst (λ (s : ℕ × ℕ). IsPart s t r) (sym z) record { block = ap (λ (k : ℕ × ℕ). k.0) i; offset = ap (λ (k : ℕ × ℕ). k.1) i ∙ omega arith; bytes = j }

  clash : {A : Type 0} {x y : Result (Maybe OwnPart)} → p ≡ x → p ≡ y → (x ≡ y → A) → A
  clash i j f = f (sym i ∙ j)

  handed-refused : (n : ℕ) → p ≡ err n → (r : Bor (List ℕ)) → r.ref_ptr ≡ t.ref_ptr → r.now ≡ [] → Handed o place t r n
  handed-refused n q r i j = go c
    where
      go : Comes t.now o place → Handed o place t r n
      go (refuses m k) = clash (refused_as m k) q λ z.
          let same : m ≡ n = cc in
          record { handed = j ∙ sym (ap bytes_of k); stands = front i j (part_of o place) (ap span_of (sym e ∙ q)); which = sym same ∙ sym (ap told_of k) }
      go (lacks k) = clash (nothing-as k) q λ z. absurd (let y : ◌≡◌ {A = ℕ} 0 1 = cc in omega arith)
      go (has b y k s l) = clash (at-as b y k s) q λ z. absurd (let y : ◌≡◌ {A = ℕ} 0 1 = cc in omega arith)

  handed-nothing : p ≡ ok None → (r : Bor (List ℕ)) → r.ref_ptr ≡ t.ref_ptr → r.now ≡ [] → Handed o place t r 0
  handed-nothing q r i j = go c
    where
      go : Comes t.now o place → Handed o place t r 0
      go (refuses m k) = clash (refused_as m k) q λ z. absurd (let y : ◌≡◌ {A = ℕ} 0 1 = cc in omega arith)
      go (lacks k) = record { handed = j ∙ sym (ap bytes_of k); stands = front i j (part_of o place) (ap span_of (sym e ∙ q)); which = sym (ap told_of k) }
      go (has b y k s l) = clash (at-as b y k s) q λ z. absurd (let y : ◌≡◌ {A = ℕ} 0 1 = cc in omega arith)

  -- An attribute that is found.
  module _ (x : OwnPart) (at : p ≡ ok (Some x)) where
    found : Found t.now o x
    found = go c
      where
        go : Comes t.now o place → Found t.now o x
        go (refuses m k) = clash (refused_as m k) at λ i. absurd (let y : ◌≡◌ {A = ℕ} 0 1 = cc in omega arith)
        go (lacks k) = clash (nothing-as k) at λ i. absurd (let y : ◌≡◌ {A = ℕ} 0 1 = cc in omega arith)
        go (has b y k w l) = clash (at-as b y k w) at λ i.
            let same : ◌≡◌ {A = OwnPart} (record { start = w.start; end = w.end; required = b }) x = cc in
            let es = ap (λ (v : OwnPart). v.start) same in
            let ez = ap (λ (v : OwnPart). v.end) same in
            record {
              type = y;
              is = k ∙ ap (λ (v : OwnPart). attribute v.required y) same;
              order = omega (arith, es, ez, w.order);
              inside = omega (arith, ez, w.inside);
              few = l;
              bytes = ap (λ (v : OwnPart). part v.start v.end t.now) (sym same) ∙ w.bytes;
            }

    module _ (r : Bor (List ℕ)) (block : r.ref_ptr.0 ≡ t.ref_ptr.0) (offset : r.ref_ptr.1 ≡ t.ref_ptr.1 + x.start) (bytes : r.now ≡ part x.start x.end t.now) where
      told : (n : ℕ) → n ≡ told_of (attribute x.required found.type) → Handed o place t r n
      told n m = record {
        handed = bytes ∙ found.bytes ∙ sym (ap bytes_of found.is);
        stands = subst (λ (v : ℕ × ℕ). IsPart v t r) (sym (ap span_of (sym e ∙ at))) record { block = block; offset = offset; bytes = bytes };
        which = m ∙ sym (ap told_of found.is);
      }

      handed-required : x.required ≡ true → Handed o place t r 114
      handed-required y = told 114 (ap (λ (v : Bool). told_of (attribute v found.type)) (sym y))

      handed-optional : x.required ≡ false → Handed o place t r 111
      handed-optional y = told 111 (ap (λ (v : Bool). told_of (attribute v found.type)) (sym y))

-- The same of the call.
module _ (lim : Limits) (schema : List ℕ) (a : ℕ) (t : Bor (List ℕ)) (known : (i : ℕ) → get_or t.now i 0 < 256) (p : Result (Maybe OwnPart))
    (e : p ≡ part_of (own_attribute_call lim schema a t.now) (body_in lim a t.now)) where
  comes-here : Comes t.now (own_attribute_call lim schema a t.now) (body_in lim a t.now)
  comes-here = comes lim schema a t.now (Bytes-index t.now known)

  abbrev HandedHere : Bor (List ℕ) → ℕ → Type 0
  HandedHere r n = Handed (own_attribute_call lim schema a t.now) (body_in lim a t.now) t r n

  pub here-refused : (n : ℕ) → p ≡ err n → (r : Bor (List ℕ)) → r.ref_ptr ≡ t.ref_ptr → r.now ≡ [] → HandedHere r n
  here-refused = handed-refused t _ _ comes-here p e

  pub here-nothing : p ≡ ok None → (r : Bor (List ℕ)) → r.ref_ptr ≡ t.ref_ptr → r.now ≡ [] → HandedHere r 0
  here-nothing = handed-nothing t _ _ comes-here p e

  module _ (x : OwnPart) (at : p ≡ ok (Some x)) where
    pub here_found : Found t.now (own_attribute_call lim schema a t.now) x
    here_found = found t _ _ comes-here p e x at

    module _ (r : Bor (List ℕ)) (block : r.ref_ptr.0 ≡ t.ref_ptr.0) (offset : r.ref_ptr.1 ≡ t.ref_ptr.1 + x.start)
        (bytes : r.now ≡ part x.start x.end t.now) where
      pub here-required : x.required ≡ true → HandedHere r 114
      here-required = handed-required t _ _ comes-here p e x at r block offset bytes

      pub here-optional : x.required ≡ false → HandedHere r 111
      here-optional = handed-optional t _ _ comes-here p e x at r block offset bytes
