-- Loose mode: where it is as permissive and where it is not, and its settled readings, from bytes through the calls.
use Rattle.std.specs.Prelude.{ℕ, List, [], ◌∷◌, ◌++◌, Bool, true, false, ◌&&◌, ◌||◌, cond, ◌≡◌, refl, T}
use Rattle.std.proofs.Common.{ap, ap₂, arith}
use Rattle.std.proofs.Math.Option.{none}
use Rattle.cedar.specs.Types.{Mode, strict, permissive, loose, is_permissive, is_loose, Atom, Ty, atom, set, rec, act, ent, ext, Attrs, nil, attr}
use Rattle.cedar.specs.Types.{find, same, is_never, as_set, as_rec}
use Rattle.cedar.specs.Limits.{standard}
use Rattle.cedar.specs.TypeForm.{enc, parse}
use Rattle.cedar.specs.Subtype.{sub_atom, sub_flag, sub_record, sub, sub_attrs}
use Rattle.cedar.specs.Result.{Result, ok, err, bind, no_bound}
use Rattle.cedar.specs.Bound.{join_one, join_set, join_record, upper, bound, join_attrs}
use Rattle.cedar.specs.Outcome.{said, nothing}
use Rattle.cedar.specs.Calls.{subtype_call, bound_call, fold_call, lookup_call, names_call}
use Rattle.cedar.proofs.Laws.Tests.{T_and, maybe-cong, eqb-true}
use Rattle.cedar.proofs.Laws.Starred.{Seen, seen, refusal, written, set_long, set_string, any_set, entity2, action3}

-- Loose is permissive.
pub loose-permissive : (m : Mode) → is_loose m ≡ true → is_permissive m ≡ true
loose-permissive strict h = h
loose-permissive permissive h = refl
loose-permissive loose h = refl

sub_atom-loose : (a : Ty) (k : Atom) → sub_atom loose a k ≡ sub_atom permissive a k
sub_atom-loose (atom j) k = refl
sub_atom-loose (set t) k = refl
sub_atom-loose (rec o xs) k = refl
sub_atom-loose (act n xs) k = refl
sub_atom-loose (ent ns) k = refl
sub_atom-loose (ext n) k = refl

mutual
  unfolding sub

  -- Subtype is as in permissive.
  pub sub-loose : (b a : Ty) → sub loose a b ≡ sub permissive a b
  sub-loose (atom k) a = ap (λ (x : Bool). is_never a || x) (sub_atom-loose a k)
  sub-loose (set u) a = ap (λ (x : Bool). is_never a || x) (maybe-cong (as_set a) refl (λ t e. sub-loose u t))
  sub-loose (rec p ys) a = ap (λ (x : Bool). is_never a || x)
      (maybe-cong (as_rec a) refl (λ x e. ap (λ (z : Bool). sub_record permissive x p ys && z) (sub_attrs-loose ys x.1)))
  sub-loose (act n ys) a = refl
  sub-loose (ent ks) a = refl
  sub-loose (ext n) a = refl

  sub_attrs-loose : (ys xs : Attrs) → sub_attrs loose xs ys ≡ sub_attrs permissive xs ys
  sub_attrs-loose nil xs = refl
  sub_attrs-loose (attr n s u ys) xs = ap₂ ◌&&◌
      (maybe-cong (find n xs) refl (λ x e. ap (λ (z : Bool). sub_flag permissive x.0 s && z) (sub-loose u x.1)))
      (sub_attrs-loose ys xs)

unfoldable mutual
  -- No set stands anywhere in a type.
  pub setless : Ty → Bool
  setless (atom k) = true
  setless (set t) = false
  setless (rec o xs) = setless_attrs xs
  setless (act n xs) = setless_attrs xs
  setless (ent ns) = true
  setless (ext n) = true

  -- None stands in an attribute list.
  pub setless_attrs : Attrs → Bool
  setless_attrs nil = true
  setless_attrs (attr n r t xs) = setless t && setless_attrs xs

upper-loose : (a b : Ty) {r s : Result Ty} → r ≡ s → upper loose a b r ≡ upper permissive a b s
upper-loose a b e = rw (sub-loose b a, sub-loose a b) (ap (upper permissive a b) e)

mutual
  unfolding bound setless

  -- Without a set the bound is as in permissive.
  pub bound-loose : (a b : Ty) → T (setless a) → bound loose a b ≡ bound permissive a b
  bound-loose (atom k) b h = upper-loose (atom k) b refl
  bound-loose (set t) b h = absurd h
  bound-loose (rec o xs) b h = upper-loose (rec o xs) b (maybe-cong (as_rec b) refl
      (λ y e. ap (λ (r : Result Attrs). bind r (λ cs. ok (join_record o y.0 xs y.1 cs))) (join_attrs-loose xs y.1 h)))
  bound-loose (act n xs) b h = upper-loose (act n xs) b refl
  bound-loose (ent ns) b h = upper-loose (ent ns) b refl
  bound-loose (ext n) b h = upper-loose (ext n) b refl

  join_attrs-loose : (xs ys : Attrs) → T (setless_attrs xs) → join_attrs loose xs ys ≡ join_attrs permissive xs ys
  join_attrs-loose nil ys h = refl
  join_attrs-loose (attr n r t xs) ys h =
      let (first, others) = T_and (setless t) (setless_attrs xs) h in
      maybe-cong (find n ys) (join_attrs-loose xs ys others)
      (λ y e. ap₂ (join_one permissive n r y.0) (bound-loose t y.1 first) (join_attrs-loose xs ys others))

-- Two sets have a bound.
pub sets-joined : (t u : Ty) (e : ℕ) → bound loose (set t) (set u) ≡ err e → ⊥
unfolding bound
sets-joined t u e h = go (sub loose (set t) (set u)) (sub loose (set u) (set t)) (bound loose t u) h
  where
    go : (p q : Bool) (r : Result Ty) → cond p (ok (set u)) (cond q (ok (set t)) (join_set loose r)) ≡ err e → ⊥
    go true q r h = let z : ◌≡◌ {A = ℕ} 0 1 = cc in omega arith
    go false true r h = let z : ◌≡◌ {A = ℕ} 0 1 = cc in omega arith
    go false false (ok c) h = let z : ◌≡◌ {A = ℕ} 0 1 = cc in omega arith
    go false false (err d) h = let z : ◌≡◌ {A = ℕ} 0 1 = cc in omega arith

-- In every mode actions of one name join as in strict.
pub actions-joined : (m : Mode) (n : ℕ) (xs ys : Attrs) → bound m (act n xs) (act n ys) ≡ bound strict (act n xs) (act n ys)
unfolding bound sub
actions-joined m n xs ys = rw (eqb-true n) refl

-- In every mode a set with what is no set, and neither under it nor above it, is 15.
pub set_apart : (m : Mode) (t b : Ty) → sub m (set t) b ≡ false → sub m b (set t) ≡ false → as_set b ≡ none → bound m (set t) b ≡ err no_bound
unfolding bound
set_apart m t b p q e = rw (p, q, e) refl

-- Closed (1: t), required, and action 3 with that attribute, of a type of two bytes.
abbrev holding : List ℕ → List ℕ
holding t = 8 ∷ 0 ∷ 1 ∷ 0 ∷ 1 ∷ 0 ∷ 1 ∷ 2 ∷ 0 ∷ t

abbrev acting : List ℕ → List ℕ
acting t = 11 ∷ 3 ∷ 0 ∷ 1 ∷ 0 ∷ 1 ∷ 0 ∷ 1 ∷ 2 ∷ 0 ∷ t

-- Entities 2 and 4 together, and a schema with an entry for each: closed (1: 07 04) and closed (1: 07 05).
abbrev either : List ℕ
either = 10 ∷ 2 ∷ 0 ∷ 2 ∷ 0 ∷ 4 ∷ 0 ∷ []

abbrev schema : List ℕ
schema = 2 ∷ 0 ∷ 0 ∷ 0 ∷ 0 ∷ 0 ∷ 2 ∷ 0 ∷ 0 ∷ 11 ∷ 0 ∷ 4 ∷ 0 ∷ 0 ∷ 11 ∷ 0 ∷ (holding set_long ++ holding set_string)

-- A bound under that schema, with a result buffer of 4,096 bytes.
joined : ℕ → List ℕ → List ℕ → Seen
joined mode a b = seen (bound_call standard mode schema a b 4096)

pub asked : List Seen
asked =
    -- 07 04 with 07 05, in each mode; sets of them; their fold with a workspace of 4 bytes.
    joined 0 set_long set_string ∷ joined 1 set_long set_string ∷ joined 2 set_long set_string ∷ joined 3 set_long set_string ∷
    joined 2 (7 ∷ set_long) (7 ∷ set_string) ∷
    seen (fold_call standard 2 schema (2 ∷ 0 ∷ 2 ∷ 0 ∷ 2 ∷ 0 ∷ 7 ∷ 4 ∷ 7 ∷ 5 ∷ []) 4096 4) ∷
    -- Within a record; within an action, bare and in a set; unlike actions of one name in a set.
    joined 2 (holding set_long) (holding set_string) ∷
    joined 2 (acting set_long) (acting set_string) ∷ joined 2 (7 ∷ acting set_long) (7 ∷ acting set_string) ∷
    joined 2 action3 (acting set_long) ∷ joined 2 (7 ∷ action3) (7 ∷ acting set_long) ∷
    -- A set with Long, with 06 and with Never.
    joined 2 set_long (4 ∷ []) ∷ joined 2 set_long any_set ∷ joined 2 set_long (0 ∷ []) ∷
    -- Subtype asks as in permissive.
    seen (subtype_call standard 2 schema entity2 either) ∷ seen (subtype_call standard 3 schema set_long set_long) ∷
    -- Lookup and names are permissive.
    seen (lookup_call standard schema 1 either 4096 8192) ∷ seen (names_call standard schema either 4096 8192) ∷
    []

pub answers : List Seen
answers =
    refusal 15 ∷ refusal 15 ∷ written (6 ∷ []) ∷ refusal 1 ∷
    written (7 ∷ 6 ∷ []) ∷
    written (6 ∷ []) ∷
    written (8 ∷ 0 ∷ 1 ∷ 0 ∷ 1 ∷ 0 ∷ 1 ∷ 1 ∷ 0 ∷ 6 ∷ []) ∷
    refusal 15 ∷ written (6 ∷ []) ∷
    refusal 12 ∷ written (6 ∷ []) ∷
    refusal 15 ∷ written (6 ∷ []) ∷ written set_long ∷
    seen (said true) ∷ refusal 1 ∷
    seen nothing ∷ written [] ∷
    []

-- Every settled reading holds.
pub readings : asked ≡ answers
unfolding asked answers joined seen refusal written enc parse same sub bound
readings = refl
