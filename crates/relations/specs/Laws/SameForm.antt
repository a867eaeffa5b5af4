-- Equal forms have equal bytes: names, and types. Assumes nothing.
use Rattle.std.specs.Prelude.{◌≡◌, refl, List, false, ℕ, true}
use Rattle.std.proofs.Common.{◌∙◌, ap}
use Rattle.cedar.specs.Bytes.{Bytes}
use Rattle.cedar.specs.Types.{Mode, is_permissive, eq_names, same}
use Rattle.cedar.specs.Subtype.{sub_names}
use Rattle.forms.specs.Names.{names_in, Ascending}
use Rattle.forms.specs.Laws.SameForm.{same-names, bytes-test}
use Rattle.cedar.specs.TypeForm.{enc}
use Rattle.cedar.proofs.Laws.Equality.{same→eq, same_refl}
use Rattle.cedar.proofs.Laws.TypeForm.{parse-reads}
use Rattle.forms.specs.TypeBytes.{whole, dec}
use Rattle.forms.specs.Laws.Sure.{sure-yes}
use Rattle.forms.specs.Laws.TypeTwin.{type-twin}

-- Two types of whole forms of some levels.
pub same-types : (l : ℕ) (a b : List ℕ) → Bytes a → Bytes b → whole l a ≡ true → whole l b ≡ true → eq_names a b ≡ same (dec l a) (dec l b)
same-types l a b x y h g =
    bytes-test enc (dec l a) (dec l b) a b (written a x h) (written b y g) (same (dec l a) (dec l b))
    (λ t. same→eq (dec l a) (dec l b) t) (λ e. rw e (same_refl (dec l b))) (λ e. ap (dec l) e)
  where
    written : (c : List ℕ) → Bytes c → whole l c ≡ true → enc (dec l c) ≡ c
    written c z k = ((parse-reads l).into c (dec l c) z (sure-yes (type-twin l c) k)).0

-- Entities, as `entity_under` compares their names.
pub names-strict : (m : Mode) (a b : List ℕ) → Bytes a → Bytes b → Ascending a → Ascending b → is_permissive m ≡ false → eq_names a b ≡ sub_names m (names_in a) (names_in b)
names-strict m a b x y f g e = same-names a b x y f g ∙ rw e refl
