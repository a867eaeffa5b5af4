-- The first byte of a whole form is that of its type. Assumes nothing.
use Rattle.std.specs.Prelude.{◌≡◌, refl, List, true, ℕ, zero, suc}
use Rattle.std.proofs.Common.{ap, sym, ◌∙◌, arith}
use Rattle.std.proofs.Math.Option.{none}
use Rattle.cedar.specs.Types.{Atom, Ty, atom, set, rec, act, ent, ext, as_set}
use Rattle.cedar.specs.TypeForm.{Kind, one, set_kind, rec_kind, ent_kind, act_kind, ext_kind, no_kind, kind_of, atom_code}
use Rattle.forms.specs.Parts.{kind}
use Rattle.forms.specs.Codes.{code}
use Rattle.forms.specs.TypeBytes.{whole, dec}
use Rattle.forms.specs.Laws.Views.{IsAtom, is-atom, Seen, seen-set, seen-record, seen-entity, seen-action, seen-extension, seen-atom, see}

-- A type of another code is no set.
pub no-set-code : (a : Ty) → (code a ≡ 7 → ⊥) → as_set a ≡ none
no-set-code (atom k) n = refl
no-set-code (set t) n = absurd (n refl)
no-set-code (rec o xs) n = refl
no-set-code (act i xs) n = refl
no-set-code (ent ns) n = refl
no-set-code (ext i) n = refl

-- The code of a kind.
code_of : Kind → ℕ → ℕ
code_of (one a) k = atom_code a
code_of set_kind k = k
code_of rec_kind k = k
code_of ent_kind k = k
code_of act_kind k = k
code_of ext_kind k = k
code_of no_kind k = k

code-kind : (k : ℕ) → code_of (kind_of k) k ≡ k
unfolding code_of
code-kind zero = refl
code-kind (suc zero) = refl
code-kind (suc (suc zero)) = refl
code-kind (suc (suc (suc zero))) = refl
code-kind (suc (suc (suc (suc zero)))) = refl
code-kind (suc (suc (suc (suc (suc zero))))) = refl
code-kind (suc (suc (suc (suc (suc (suc zero)))))) = refl
code-kind (suc (suc (suc (suc (suc (suc (suc zero))))))) = refl
code-kind (suc (suc (suc (suc (suc (suc (suc (suc zero)))))))) = refl
code-kind (suc (suc (suc (suc (suc (suc (suc (suc (suc zero))))))))) = refl
code-kind (suc (suc (suc (suc (suc (suc (suc (suc (suc (suc zero)))))))))) = refl
code-kind (suc (suc (suc (suc (suc (suc (suc (suc (suc (suc (suc zero))))))))))) = refl
code-kind (suc (suc (suc (suc (suc (suc (suc (suc (suc (suc (suc (suc zero)))))))))))) = refl
code-kind (suc (suc (suc (suc (suc (suc (suc (suc (suc (suc (suc (suc (suc k))))))))))))) = refl

pub kind-code : (n : ℕ) (a : Atom) → kind_of n ≡ one a → atom_code a ≡ n
unfolding code_of
kind-code n a e = ap (λ (k : Kind). code_of k n) (sym e) ∙ code-kind n

pub atom-code : {l : ℕ} {b : List ℕ} (i : IsAtom l b) → atom_code i.kind-of ≡ kind b
atom-code {l} {b} i = kind-code (kind b) i.kind-of i.kind-is

pub code-dec : (l : ℕ) (b : List ℕ) → whole l b ≡ true → code (dec l b) ≡ kind b
code-dec l b h = go (see l b h)
  where
    go : Seen l b → code (dec l b) ≡ kind b
    go (seen-set e s) = ap code s.is ∙ sym e
    go (seen-record e s) = ap code s.is ∙ sym e
    go (seen-entity e s) = ap code s.is ∙ sym e
    go (seen-action e s) = ap code s.is ∙ sym e
    go (seen-extension e s) = ap code s.is ∙ sym e
    go (seen-atom s) = ap code s.is ∙ atom-code s

-- A form of a first byte that is an atom's.
pub atom-at : (l : ℕ) (b : List ℕ) → whole l b ≡ true → (k : ℕ) → kind b ≡ k → (a : Atom) → kind_of k ≡ one a → dec l b ≡ atom a
atom-at l b h k e a z =
    let i = is-atom l b h (other 7 refl) (other 8 refl) (other 10 refl) (other 11 refl) (other 12 refl) in
    let s : one i.kind-of ≡ one a = sym i.kind-is ∙ ap kind_of e ∙ z in
    i.is ∙ ap atom cc
  where
    is_one : Kind → ℕ
    is_one (one a) = 1
    is_one set_kind = 0
    is_one rec_kind = 0
    is_one ent_kind = 0
    is_one act_kind = 0
    is_one ext_kind = 0
    is_one no_kind = 0

    other : (j : ℕ) → is_one (kind_of j) ≡ 0 → kind b ≡ j → ⊥
    other j f q = let w : is_one (kind_of j) ≡ 1 = ap (λ (m : ℕ). is_one (kind_of m)) (sym q ∙ e) ∙ ap is_one z in omega arith
