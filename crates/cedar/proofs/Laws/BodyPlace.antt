-- The place of an attribute's body holds that body: in the bodies as many others stand before it as entries before its entry.
use Rattle.std.specs.Prelude.{ℕ, ◌+◌, ◌*◌, ◌-◌, ◌≤◌, List, ◌∷◌, ◌++◌, Bool, not, ◌≡◌, refl, T, eqb, length, take, drop}
use Rattle.std.proofs.Common.{arith, append_assoc, sym, ap, ◌∙◌, subst, T_not, eqb→eq, length-append}
use Rattle.std.proofs.Math.Option.{Option, none, some, some-injective}
use Rattle.std.proofs.Math.Seq.{take-append_seam, drop-append_seam}
use Rattle.cedar.specs.Types.{Ty, atom, set, rec, act, ent, ext, Attrs, nil, attr, find}
use Rattle.cedar.specs.Bytes.{Bytes, u16, flag}
use Rattle.cedar.specs.TypeForm.{record_code, action_code, count, enc, entries, bodies, entry_width}
use Rattle.cedar.specs.Limits.{Limits}
use Rattle.cedar.specs.Whole.{whole_type}
use Rattle.cedar.specs.Attribute.{own_attr}
use Rattle.cedar.specs.BodyPlace.{record_head, action_head, body_from, body_place, body_in}
use Rattle.cedar.proofs.Laws.Tests.{T→true, not-T→false, cond-case, none-some}
use Rattle.cedar.proofs.Laws.Lengths.{length-entries}
use Rattle.cedar.proofs.Laws.Whole.{whole_type-reads}

-- The attribute a with its flag and type y among attributes: those ahead of it and those behind it, and its place, the first body starting at `at`.
pub record Among (at a : ℕ) (xs : Attrs) (y : Bool × Ty) : Type 0 where
  pub ahead : Attrs
  pub behind : Attrs
  pub entry : entries xs ≡ entries ahead ++ (u16 a ++ (flag y.0 ∷ u16 (length (enc y.1)) ++ entries behind))
  pub body : bodies xs ≡ bodies ahead ++ (enc y.1 ++ bodies behind)
  pub place : body_from at a xs ≡ some (at + length (bodies ahead), at + length (bodies ahead) + length (enc y.1))

-- Two places with the same ends.
pub same_place : {s e s' e' : ℕ} → s ≡ s' → e ≡ e' → ◌≡◌ {A = Option (ℕ × ℕ)} (some (s, e)) (some (s', e'))
same_place p q = cc

-- The first attribute.
among_first : (at a k : ℕ) (r : Bool) (t : Ty) (xs : Attrs) → T (eqb a k) → Among at a (attr k r t xs) (r, t)
unfolding enc
among_first at a k r t xs h = record {
  ahead = nil;
  behind = xs;
  entry = ap (λ (n : ℕ). u16 n ++ (flag r ∷ u16 (length (enc t)) ++ entries xs)) (sym (eqb→eq a k h));
  body = refl;
  place = rw (T→true (eqb a k) h) (same_place (omega arith) (omega arith));
}

-- An attribute behind the first.
among_next : (at a k : ℕ) (r : Bool) (t : Ty) (xs : Attrs) (y : Bool × Ty) → T (not (eqb a k)) → Among (at + length (enc t)) a xs y →
    Among at a (attr k r t xs) y
unfolding enc
among_next at a k r t xs y h i = record {
  ahead = attr k r t i.ahead;
  behind = i.behind;
  entry = ap (λ (l : List ℕ). u16 k ++ (flag r ∷ u16 (length (enc t)) ++ l)) i.entry;
  body = ap (λ (l : List ℕ). enc t ++ l) i.body ∙ sym (append_assoc (enc t) (bodies i.ahead) (enc y.1 ++ bodies i.behind));
  place =
      rw (not-T→false (eqb a k) (T_not (eqb a k) h))
      (i.place ∙ same_place (omega (arith, length-append (enc t) (bodies i.ahead))) (omega (arith, length-append (enc t) (bodies i.ahead))));
}

-- What is found among attributes.
pub among : (xs : Attrs) (at a : ℕ) (y : Bool × Ty) → find a xs ≡ some y → Among at a xs y
among nil at a y e = none-some e
among (attr k r t xs) at a y e = cond-case (eqb a k) e
    (λ h p. subst (λ (z : Bool × Ty). Among at a (attr k r t xs) z) (some-injective _ _ p) (among_first at a k r t xs h))
    (λ h p. among_next at a k r t xs y h (among xs (at + length (enc t)) a y p))

-- What is not found has no place.
pub from-none : (xs : Attrs) (at a : ℕ) → find a xs ≡ none → body_from at a xs ≡ none
from-none nil at a e = refl
from-none (attr k r t xs) at a e =
    cond-case (eqb a k) e (λ h p. none-some (sym p)) (λ h p. rw (not-T→false (eqb a k) (T_not (eqb a k) h)) (from-none xs (at + length (enc t)) a p))

-- A body that stands at a place of a form.
pub record Stands (form : List ℕ) (place : Option (ℕ × ℕ)) (body : List ℕ) : Type 0 where
  pub start : ℕ
  pub end : ℕ
  pub is : place ≡ some (start, end)
  pub order : start ≤ end
  pub inside : end ≤ length form
  pub bytes : take (end - start) (drop start form) ≡ body

-- A table's form: its head, its entries, its bodies.
table-stands : (head : List ℕ) (xs : Attrs) (a : ℕ) (y : Bool × Ty) → find a xs ≡ some y →
    Stands (head ++ (entries xs ++ bodies xs)) (body_from (length head + entry_width * count xs) a xs) (enc y.1)
table-stands head xs a y e =
    let i = among xs (length head + entry_width * count xs) a y e in
    let before = head ++ (entries xs ++ bodies i.ahead) in
    let body = enc y.1 in
    let after = bodies i.behind in
    let many : length before ≡ length head + entry_width * count xs + length (bodies i.ahead)
    = length-append head (entries xs ++ bodies i.ahead) ∙ omega (arith, length-append (entries xs) (bodies i.ahead), length-entries xs) in
    let splits : head ++ (entries xs ++ bodies xs) ≡ before ++ (body ++ after)
    = ap (λ (l : List ℕ). head ++ (entries xs ++ l)) i.body
    ∙ ap (λ (l : List ℕ). head ++ l) (sym (append_assoc (entries xs) (bodies i.ahead) (body ++ after)))
    ∙ sym (append_assoc head (entries xs ++ bodies i.ahead) (body ++ after)) in
    let start = length head + entry_width * count xs + length (bodies i.ahead) in
    let wide : start + length body - start ≡ length body = omega arith in
    record {
      start = start;
      end = start + length body;
      is = i.place;
      order = omega arith;
      inside = omega (arith, ap length splits, length-append before (body ++ after), length-append body after, many);
      bytes = ap (λ (l : List ℕ). take (start + length body - start) (drop start l)) splits
          ∙ ap (λ (n : ℕ). take (start + length body - start) (drop n (before ++ (body ++ after)))) (sym many)
          ∙ ap (λ (l : List ℕ). take (start + length body - start) l) (drop-append_seam before (body ++ after))
          ∙ ap (λ (n : ℕ). take n (body ++ after)) wide ∙ take-append_seam body after;
    }

-- The bytes at the place are the form of the attribute's type.
pub body-stands : (a : ℕ) (t : Ty) (y : Bool × Ty) → own_attr a t ≡ some y → Stands (enc t) (body_place a t) (enc y.1)
unfolding enc
body-stands a (atom k) y e = none-some e
body-stands a (set t) y e = none-some e
body-stands a (rec o xs) y e = table-stands (record_code ∷ flag o ∷ u16 (count xs)) xs a y e
body-stands a (act n xs) y e = table-stands (action_code ∷ u16 n ++ u16 (count xs)) xs a y e
body-stands a (ent ns) y e = none-some e
body-stands a (ext n) y e = none-some e

-- There is no place where there is no such attribute.
pub body-none : (a : ℕ) (t : Ty) → own_attr a t ≡ none → body_place a t ≡ none
body-none a (atom k) e = refl
body-none a (set t) e = refl
body-none a (rec o xs) e = from-none xs (record_head + entry_width * count xs) a e
body-none a (act n xs) e = from-none xs (action_head + entry_width * count xs) a e
body-none a (ent ns) e = refl
body-none a (ext n) e = refl

-- The same of a whole form.
module _ (lim : Limits) (a : ℕ) (b : List ℕ) (u : Ty) (w : whole_type lim b ≡ some u) where
  pub body-in : body_in lim a b ≡ body_place a u
  body-in = rw w refl

  pub body-in-stands : Bytes b → (y : Bool × Ty) → own_attr a u ≡ some y → Stands b (body_in lim a b) (enc y.1)
  body-in-stands h y e = subst (λ (l : List ℕ). Stands l (body_in lim a b) (enc y.1)) ((whole_type-reads lim).into b u h w).0
      (subst (λ (o : Option (ℕ × ℕ)). Stands (enc u) o (enc y.1)) (sym body-in) (body-stands a u y e))
