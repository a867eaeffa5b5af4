-- For the code: a name was lost just where fewer names are kept than either list has.
use Rattle.std.specs.Prelude.{ℕ, List, Bool, not, ◌&&◌, ◌≡◌, T, eqb, length}
use Rattle.std.proofs.Common.{sym, ap, ap₂, ◌∙◌, subst, eqb→eq}
use Rattle.cedar.specs.Types.{Mode, Attrs, eq_names, names}
use Rattle.cedar.specs.Laws.Shape.{OrderedFrom}
use Rattle.cedar.specs.TypeForm.{count}
use Rattle.cedar.specs.Bound.{lost}
use Rattle.cedar.proofs.Laws.Tests.{T-ext, eqb-equal}
use Rattle.cedar.proofs.Laws.Equality.{eq_names→eq, eq_names-refl}
use Rattle.cedar.proofs.Laws.Names.{In, ascend-within}
use Rattle.cedar.proofs.Laws.Attributes.{count-names, ascend-names}
use Rattle.cedar.proofs.Laws.Join.{JoinAttrs, join_attrs-ordered, join-names-left, join-names-right}

-- Of two lists in order, the names of one all names of the other: they are the same just where they are as many.
pub eq_names-count : (cs xs : Attrs) → OrderedFrom 0 cs → OrderedFrom 0 xs → ((x : ℕ) → In x (names cs) → In x (names xs)) →
    eq_names (names cs) (names xs) ≡ eqb (count cs) (count xs)
eq_names-count cs xs oc ox f = T-ext (eq_names (names cs) (names xs)) (eqb (count cs) (count xs))
    (λ t. eqb-equal (count cs) (count xs) (count-names cs ∙ ap length (eq_names→eq (names cs) (names xs) t) ∙ sym (count-names xs)))
    (λ t. subst (λ (l : List ℕ). T (eq_names (names cs) l))
    ((ascend-within (names xs) 0 (names cs) (ascend-names cs 0 oc) (ascend-names xs 0 ox) f).1
    (sym (count-names cs) ∙ eqb→eq (count cs) (count xs) t ∙ count-names xs)) (eq_names-refl (names cs)))

-- A name was lost just where the bound has fewer names than one of the lists.
pub lost-count : {m : Mode} {xs ys cs : Attrs} → JoinAttrs m xs ys cs → OrderedFrom 0 xs → OrderedFrom 0 ys →
    lost cs xs ys ≡ not (eqb (count cs) (count xs) && eqb (count cs) (count ys))
lost-count {m} {xs} {ys} {cs} j ox oy =
    let oc = join_attrs-ordered j 0 ox oy in
    ap₂ (λ (a b : Bool). not (a && b)) (eq_names-count cs xs oc ox (join-names-left j)) (eq_names-count cs ys oc oy (join-names-right j))
