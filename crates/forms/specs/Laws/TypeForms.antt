-- What a whole form is made of, as the code hands it out. Assumes nothing.
use Rattle.std.specs.Prelude.{◌≡◌, Option, Some, None, List, Bool, true, ◌&&◌, ◌≤◌, ℕ, zero, suc, ◌/◌, leb, length, get_or}
use Rattle.std.proofs.Common.{arith, ap, sym, ◌∙◌, le-leb, leb-true}
use Rattle.std.proofs.Math.Option.{some}
use Rattle.cedar.specs.Limits.{Limits}
use Rattle.cedar.specs.Types.{Ty, ent, present}
use Rattle.cedar.specs.Whole.{whole_type}
use Rattle.cedar.specs.TypeForm.{kind_of, atom_code, count}
use Rattle.forms.specs.Kinds.{kind_number}
use Rattle.forms.specs.Names.{names_in, Ascending}
use Rattle.forms.specs.Parts.{part, rest, rd, kind}
use Rattle.forms.specs.Rows.{none_left, rows_to}
use Rattle.forms.specs.TypeBytes.{names_up, attr_row, whole_a, whole, dec, Sound}
use Rattle.forms.specs.RowBytes.{Taken, Skipped}
use Rattle.forms.specs.declared.rows.Row.{Row}
use Rattle.forms.specs.Laws.AttributeRows.{taken-attribute, ahead}
use Rattle.forms.specs.TypeForms.{type_of, listed, IsPlain, PassedAttributes}
use Rattle.forms.specs.declared.kinds.Kind.{Kind}
use Rattle.forms.specs.declared.kinds.Kind.TheVariants as kinds
use Rattle.forms.specs.declared.type_forms.AttributeForms.{AttributeForms}
use Rattle.forms.specs.declared.type_forms.TypeForm.{TypeForm}
use Rattle.forms.specs.Codes.{code}
use Rattle.forms.specs.Laws.Codes.{kind-code, code-dec}
use Rattle.forms.specs.Laws.Kinds.{kind-same}
use Rattle.forms.specs.Laws.NamesIn.{names-of-entity}
use Rattle.forms.specs.Laws.Parts.{and_l, and_r, and_yes, length_rest}
use Rattle.forms.specs.Laws.Sure.{sure-present, sure-yes}
use Rattle.forms.specs.Laws.Tables.{attrs-count}
use Rattle.forms.specs.Laws.TypeTwin.{whole-type-twin}
use Rattle.forms.specs.Laws.Views.{IsSet, IsRecord, IsEntity, IsAction, IsExtension, is_set, is-record, is-entity, is-action, is-extension, is-atom}

-- A form of each kind.
module _ (t : TypeForm) where
  pub as_set : kind t.bytes.now ≡ 7 → IsSet t.levels t.bytes.now
  as_set = is_set t.levels t.bytes.now t.whole

  pub as_record : kind t.bytes.now ≡ 8 → IsRecord t.levels t.bytes.now
  as_record = is-record t.levels t.bytes.now t.whole

  pub as_entity : kind t.bytes.now ≡ 10 → IsEntity t.levels t.bytes.now
  as_entity = is-entity t.levels t.bytes.now t.whole

  pub as_action : kind t.bytes.now ≡ 11 → IsAction t.levels t.bytes.now
  as_action = is-action t.levels t.bytes.now t.whole

  pub as_extension : kind t.bytes.now ≡ 12 → IsExtension t.levels t.bytes.now
  as_extension = is-extension t.levels t.bytes.now t.whole

  -- Its kind is what its first byte says.
  pub kind-said : code (type_of t) ≡ kind t.bytes.now
  kind-said = code-dec t.levels t.bytes.now t.whole

  -- The names of an entity.
  pub entity-names : kind t.bytes.now ≡ 10 → (type_of t ≡ ent (names_in (rest 3 t.bytes.now))) × Ascending (rest 3 t.bytes.now)
  entity-names k =
      let e = as_entity k in
      let n : rd t.bytes.now 1 ≡ length (rest 3 t.bytes.now) / 2 = omega (arith, e.sized, length_rest 3 t.bytes.now) in (
        names-of-entity t.levels t.bytes.now t.whole k,
        record {
          low = 0;
          even = omega (arith, e.sized, length_rest 3 t.bytes.now);
          up = ap (λ (j : ℕ). names_up j 0 (rest 3 t.bytes.now)) (sym n) ∙ e.up;
        },
      )

  -- None of these kinds.
  pub plain-form : (k : Kind) → kind_number k ≡ kind t.bytes.now → (k ≡ kinds.Set → ⊥) → (k ≡ kinds.Record → ⊥) → (k ≡ kinds.Entity → ⊥) → (k ≡ kinds.Action → ⊥) →
      (k ≡ kinds.Extension → ⊥) → IsPlain (type_of t) k
  plain-form k e p q r s u =
      let other : (j : Kind) → (k ≡ j → ⊥) → kind t.bytes.now ≡ kind_number j → ⊥ = λ j h z. h (kind-same k j (e ∙ z)) in
      let a = is-atom t.levels t.bytes.now t.whole (other kinds.Set p) (other kinds.Record q) (other kinds.Entity r) (other kinds.Action s) (other kinds.Extension u) in
      record { which = a.kind-of; kind = ap kind_of e ∙ a.kind-is; is = a.is }

-- Names from some name on are names from 0 on.
pub sound-low : {l n low : ℕ} {es bs : List ℕ} → Sound l n low es bs → Sound l n 0 es bs
unfolding rows_to
sound-low {l} {n} {low} {es} {bs} s = record { sized = s.sized; good = go n s.good }
  where
    go : (k : ℕ) → whole_a (whole l) k low es bs ≡ true → whole_a (whole l) k 0 es bs ≡ true
    go zero h = h
    go (suc k) h =
        let flag = leb (get_or es 2 0) 1 in
        let more = leb (rd es 3) (length bs) && (whole l (part 0 (rd es 3) bs)
        && rows_to attr_row (λ _. whole l) none_left k (attr_row.next es) (rest 5 es) (rest (rd es 3) bs)) in
        let from : leb 0 (rd es 0) ≡ true = le-leb 0 (rd es 0) (omega arith) in
        and_yes (flag && leb 0 (rd es 0)) more (and_yes flag (leb 0 (rd es 0)) (and_l flag (leb low (rd es 0)) (and_l (flag && leb low (rd es 0)) more h)) ∙ from)
        ∙ and_r (flag && leb low (rd es 0)) more h

-- What is left of a list once its first attribute was taken, if it has one.
pub sound-taken : {l n m : ℕ} {es bs fs cs : List ℕ} (r : Option Row) → Sound l n 0 es bs → Taken 5 n es bs m fs cs r → Sound l m 0 fs cs
sound-taken (Some x) s t = sound-low (taken-attribute s t).more
sound-taken None s t = let e : _ ≡ _ = t.none ∙ sym t.left in rw (← e, t.entries, t.bodies) s

-- What is left of a list where lower names were passed.
module _ (xs : AttributeForms) (name : ℕ) {m : ℕ} {fs cs : List ℕ} (p : Skipped 5 xs.rows.left name xs.rows.entries.now xs.rows.bodies.now m fs cs) where
  pub sound-ahead : Sound xs.levels m 0 fs cs
  sound-ahead = sound-low (ahead xs.sound p).sound

  pub passed-ahead : (ys : AttributeForms) → ys.levels ≡ xs.levels → ys.rows.left ≡ m → ys.rows.entries.now ≡ fs → ys.rows.bodies.now ≡ cs → PassedAttributes xs name ys
  passed-ahead ys l n e b = record { later = λ k h. rw (l, n, e, b) ((ahead xs.sound p).later k h); levels = l }

-- A list has as many attributes as rows.
pub listed-count : (xs : AttributeForms) → count (listed xs) ≡ xs.rows.left
listed-count xs = attrs-count (dec xs.levels) xs.rows.left xs.rows.entries.now xs.rows.bodies.now

-- The number of an atom's kind.
pub plain-code : {t : Ty} {k : Kind} (p : IsPlain t k) → atom_code p.which ≡ kind_number k
plain-code {k = k} p = kind-code (kind_number k) p.which p.kind

-- The answer of `whole_type`, where it is a yes.
module _ (lim : Limits) (b : List ℕ) (r : Bool) (q : r ≡ present (whole_type lim b)) (h : r ≡ true) where
  both : leb (length b) lim.bytes && whole lim.levels b ≡ true
  both = sym (sure-present (whole-type-twin lim b)) ∙ sym q ∙ h

  pub form-there : whole_type lim b ≡ some (dec lim.levels b)
  form-there = sure-yes (whole-type-twin lim b) both

  pub form-whole : whole lim.levels b ≡ true
  form-whole = and_r (leb (length b) lim.bytes) (whole lim.levels b) both

  pub form-few : length b ≤ lim.bytes
  form-few = leb-true (length b) lim.bytes (and_l (leb (length b) lim.bytes) (whole lim.levels b) both)
