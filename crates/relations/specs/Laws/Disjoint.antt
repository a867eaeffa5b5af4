-- The names of types, and whether two types share one. Assumes nothing.
use Rattle.std.specs.Prelude.{◌≡◌, ℕ, ◌≤◌, length, refl, List, Bool, false, not}
use Rattle.std.proofs.Math.Path.{ap, sym}
use Rattle.std.proofs.Common.{◌∙◌}
use Rattle.std.proofs.Math.Option.{some, none}
use native.Mathlib.Omega.{arith}
use Rattle.cedar.specs.Types.{Attrs, act, Ty, atom, set, rec, ent, ext}
use Rattle.cedar.specs.Disjoint.{type_names, shares, disjoint}
use Rattle.forms.specs.Codes.{code}
use Rattle.forms.specs.Parts.{part, kind}
use Rattle.forms.specs.TypeForms.{type_of}
use Rattle.forms.specs.declared.type_forms.TypeForm.{TypeForm}
use Rattle.forms.specs.Laws.TypeForms.{as_action, kind-said}
use Rattle.relations.specs.TypeNames.{NamesFound}
use Rattle.relations.specs.Laws.Names.{one-name, one-name-is}

-- An action's form has its name in two bytes.
module _ (t : TypeForm) {n : ℕ} {xs : Attrs} (e : type_of t ≡ act n xs) where
  action-kind : kind t.bytes.now ≡ 11
  action-kind = sym (kind-said t) ∙ ap code e

  pub name-room : 3 ≤ length t.bytes.now
  name-room = omega (arith, (as_action t action-kind).some)

  pub named-action : NamesFound (type_names (type_of t)) (part 1 3 t.bytes.now)
  named-action =
      record {
        is = ap type_names (as_action t action-kind).is ∙ ap some (sym (one-name-is 1 t.bytes.now name-room));
        up = one-name 1 t.bytes.now name-room;
      }

-- Which types have names, and what disjoint ones are by their names.
pub no_names : (t : Ty) → (code t ≡ 10 → ⊥) → (code t ≡ 11 → ⊥) → type_names t ≡ none
no_names (atom k) p q = refl
no_names (set t) p q = refl
no_names (rec o xs) p q = refl
no_names (act n xs) p q = absurd (q refl)
no_names (ent ns) p q = absurd (p refl)
no_names (ext n) p q = refl

pub disjoint-first : (t u : Ty) → type_names t ≡ none → false ≡ disjoint t u
disjoint-first t u e = rw e refl

pub disjoint-second : (t u : Ty) (ns : List ℕ) → type_names t ≡ some ns → type_names u ≡ none → false ≡ disjoint t u
disjoint-second t u ns e f = rw (e, f) refl

pub disjoint-both : (t u : Ty) (ns ks : List ℕ) (r : Bool) → type_names t ≡ some ns → type_names u ≡ some ks → r ≡ shares ns ks → not r ≡ disjoint t u
disjoint-both t u ns ks r e f q = rw (e, f, q) refl
