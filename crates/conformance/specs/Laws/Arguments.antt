-- The stand-in for arguments, and the loop of `arguments_fit`. Assumes nothing.
use Rattle.std.specs.Prelude.{◌≡◌, List, [], ◌∷◌, Bool, true, false, ℕ, ◌+◌, ◌*◌, ◌≤◌, ◌<◌, eqb, leb, length, take, drop}
use Rattle.std.proofs.Math.Path.{refl}
use Rattle.std.proofs.Common.{ap, ap₂, sym, ◌∙◌, arith, ne_eqb}
use Rattle.std.proofs.Math.Bool.{cond}
use Rattle.std.proofs.Math.Option.{Option, none, some}
use Rattle.cedar.specs.Types.{Arg, arg_bool, arg_long, arg_string, arg_ext, Value, boolean, number, text, uid, set_of, record_of, call, Values, end, value, Schema}
use Rattle.cedar.specs.Types.{Function, maybe}
use Rattle.cedar.specs.ValueForm.{value_kind, call_kind, values_from}
use Rattle.cedar.specs.Conformance.{Verdict as Said, holds, fails, fails_inside, unknown, verdict, and_then, Counts, shorter, exact, left_over, of_argument, of_arguments, is_extension}
use Rattle.cedar.specs.Conformance.{function_of, returns_ext, is_arg, arg_extension}
use Rattle.forms.specs.Parts.{part, rest, rd}
use Rattle.forms.specs.Rows.{rows_of}
use Rattle.std.proofs.Math.Decide.{dec_lt}
use Rattle.forms.specs.Search.{Laid}
use Rattle.forms.specs.RowBytes.{TookFirst}
use Rattle.forms.specs.declared.rows.Row.{Row}
use Rattle.forms.specs.Laws.Parts.{pos, rest-is}
use Rattle.conformance.specs.Laws.Taken.{ahead-laid, taken-again, taken-body, taken-decoded}
use Rattle.schemas.specs.SchemaBytes.{arg_fits, arg_at, args_fit, args_of}
use Rattle.schemas.specs.Laws.Arguments.{arg-own, ArgFirst, args-first, args_none}
use Rattle.conformance.specs.declared.verdicts.Verdict.{Verdict}
use Rattle.conformance.specs.declared.verdicts.Verdict.TheVariants.{Holds}
use Rattle.conformance.specs.Verdicts.{verdict_of, inside_of}
use Rattle.forms.specs.ValueBytes.{member_row, whole_v, whole_v_as, dec_v, dec_v_as}
use Rattle.conformance.specs.Walks.{arguments_of}
use Rattle.conformance.specs.Laws.Verdicts.{Then, then-stop, then-on}
use Rattle.conformance.specs.Laws.Tables.{by-table}
use Rattle.forms.specs.Laws.Ahead.{Ahead, decoded-none, table-ahead, table-decoded}

-- Arguments that are no call, by the kind of value.
module _ (rule : Counts) (s : Schema) (d : List ℕ → Value) (b : List ℕ) (j : ℕ) (h : j < 8) where
  pub fits_bool : of_argument rule s (dec_v_as d (value_kind j) b) arg_bool ≡ verdict (leb j 1)
  unfolding of_argument
  fits_bool = by-table (λ i. of_argument rule s (dec_v_as d (value_kind i) b) arg_bool) (λ i. verdict (leb i 1)) 8 refl j h

  pub fits-long : of_argument rule s (dec_v_as d (value_kind j) b) arg_long ≡ verdict (eqb j 2)
  unfolding of_argument
  fits-long = by-table (λ i. of_argument rule s (dec_v_as d (value_kind i) b) arg_long) (λ i. verdict (eqb i 2)) 8 refl j h

  pub fits-string : of_argument rule s (dec_v_as d (value_kind j) b) arg_string ≡ verdict (eqb j 3)
  unfolding of_argument
  fits-string = by-table (λ i. of_argument rule s (dec_v_as d (value_kind i) b) arg_string) (λ i. verdict (eqb i 3)) 8 refl j h

  pub fits-other : (e : ℕ) → (j ≡ 7 → ⊥) → of_argument rule s (dec_v_as d (value_kind j) b) (arg_ext e) ≡ fails
  unfolding of_argument
  fits-other e p =
      by-table (λ i. of_argument rule s (dec_v_as d (value_kind i) b) (arg_ext e))
      (λ i. cond (eqb i 7) (of_argument rule s (dec_v_as d (value_kind 7) b) (arg_ext e)) fails) 8 refl j h
      ∙ rw (ne_eqb j 7 p) refl

-- Inside an argument no function is unknown.
inside-then : (x : Bool) (v : Said) → inside_of (verdict_of v) ≡ verdict_of v → inside_of (verdict_of (and_then (verdict x) v)) ≡ verdict_of (and_then (verdict x) v)
inside-then true v h = h
inside-then false v h = refl

inside_both : (u v : Said) → inside_of (verdict_of u) ≡ verdict_of u → inside_of (verdict_of v) ≡ verdict_of v →
    inside_of (verdict_of (and_then u v)) ≡ verdict_of (and_then u v)
inside_both holds v g h = h
inside_both fails v g h = refl
inside_both fails_inside v g h = refl
inside_both unknown v g h = g

inside-test : (x : Bool) → inside_of (verdict_of (verdict x)) ≡ verdict_of (verdict x)
inside-test true = refl
inside-test false = refl

inside-over : (rule : Counts) → inside_of (verdict_of (left_over rule)) ≡ verdict_of (left_over rule)
inside-over shorter = refl
inside-over exact = refl

inside-call : (o : Option ℕ) (p : Option Function) (r : Function → Said) → ((g : Function) → inside_of (verdict_of (r g)) ≡ verdict_of (r g)) →
    inside_of (verdict_of (maybe fails (λ e. maybe fails_inside (λ g. and_then (verdict (returns_ext g e)) (r g)) p) o))
    ≡ verdict_of (maybe fails (λ e. maybe fails_inside (λ g. and_then (verdict (returns_ext g e)) (r g)) p) o)
inside-call none p r h = refl
inside-call (some e) none r h = refl
inside-call (some e) (some g) r h = inside-then (returns_ext g e) (r g) (h g)

mutual
  unfolding of_argument of_arguments

  fits-inside : (rule : Counts) (s : Schema) (v : Value) (a : Arg) → inside_of (verdict_of (of_argument rule s v a)) ≡ verdict_of (of_argument rule s v a)
  fits-inside rule s (boolean b) a = inside-test (is_arg a (boolean b))
  fits-inside rule s (number b) a = inside-test (is_arg a (number b))
  fits-inside rule s (text b) a = inside-test (is_arg a (text b))
  fits-inside rule s (uid k i) a = refl
  fits-inside rule s (set_of vs) a = refl
  fits-inside rule s (record_of ps) a = refl
  fits-inside rule s (call f vs) a = inside-call (arg_extension a) (function_of s f) (λ g. of_arguments rule s vs g.args) (λ g. all-inside rule s vs g.args)

  all-inside : (rule : Counts) (s : Schema) (vs : Values) (ks : List Arg) → inside_of (verdict_of (of_arguments rule s vs ks)) ≡ verdict_of (of_arguments rule s vs ks)
  all-inside rule s end [] = refl
  all-inside rule s end (a ∷ ks) = inside-over rule
  all-inside rule s (value v vs) [] = inside-over rule
  all-inside rule s (value v vs) (a ∷ ks) = inside_both (of_argument rule s v a) (of_arguments rule s vs ks) (fits-inside rule s v a) (all-inside rule s vs ks)

-- A call as an argument: as a value of the extension, where an unknown function is a no.
pub call-inside : (rule : Counts) (s : Schema) (e f : ℕ) (vs : Values) →
    inside_of (verdict_of (is_extension rule s e (f, vs))) ≡ verdict_of (of_argument rule s (call f vs) (arg_ext e))
unfolding of_argument
call-inside rule s e f vs = go (function_of s f)
  where
    go : (o : Option Function) → inside_of (verdict_of (maybe unknown (λ g. and_then (verdict (returns_ext g e)) (of_arguments rule s vs g.args)) o))
        ≡ verdict_of (maybe fails_inside (λ g. and_then (verdict (returns_ext g e)) (of_arguments rule s vs g.args)) o)
    go none = refl
    go (some g) = inside-then (returns_ext g e) (of_arguments rule s vs g.args) (all-inside rule s vs g.args)

-- The loop of `arguments_fit`: what is left answers for all.
pub record ArgumentsAhead (l : ℕ) (rule : Counts) (s : Schema) (all : Said) (left : ℕ) (e b k : List ℕ) : Type 0 where
  pub rows : Ahead member_row (λ _. whole_v l) left tt e b
  pub asked : args_fit k ≡ true
  pub same : all ≡ of_arguments rule s (values_from (rows_of member_row (λ _. dec_v l) left e b)) (args_of k)

pub arguments-start : (l : ℕ) (rule : Counts) (s : Schema) (v k : List ℕ) → whole_v_as (whole_v l) call_kind v ≡ true → args_fit k ≡ true →
    {n : ℕ} {e b : List ℕ} → n ≡ rd v 3 → e ≡ part 5 (5 + 2 * rd v 3) v → b ≡ rest (5 + 2 * rd v 3) v →
    ArgumentsAhead l rule s (of_arguments rule s (arguments_of l v) (args_of k)) n e b k
arguments-start l rule s v k h a q x y =
    rw (q, x, y)
    (record {
      rows = table-ahead member_row (λ _. whole_v l) tt 3 v h (rd v 3) refl;
      asked = a;
      same = ap (λ xs. of_arguments rule s (values_from xs) (args_of k)) (table-decoded member_row (λ _. whole_v l) tt 3 v h (rd v 3) refl (λ _. dec_v l));
    })

no_more : (rule : Counts) (s : Schema) → of_arguments rule s end [] ≡ holds
unfolding of_arguments
no_more rule s = refl

no-values : (rule : Counts) (s : Schema) (a : Arg) (ks : List Arg) → of_arguments rule s end (a ∷ ks) ≡ left_over rule
unfolding of_arguments
no-values rule s a ks = refl

no-asked : (rule : Counts) (s : Schema) (v : Value) (vs : Values) → of_arguments rule s (value v vs) [] ≡ left_over rule
unfolding of_arguments
no-asked rule s v vs = refl

both : (rule : Counts) (s : Schema) (v : Value) (vs : Values) (a : Arg) (ks : List Arg) →
    of_arguments rule s (value v vs) (a ∷ ks) ≡ and_then (of_argument rule s v a) (of_arguments rule s vs ks)
unfolding of_arguments
both rule s v vs a ks = refl

module _ {l : ℕ} {rule : Counts} {s : Schema} {all : Said} {left : ℕ} {e b k : List ℕ} (i : ArgumentsAhead l rule s all left e b k) where
  pub arguments-laid : Laid 2 left e b
  arguments-laid = ahead-laid i.rows (omega arith)

  -- No value is left.
  at-end : left ≡ 0 → {ks : List Arg} → args_of k ≡ ks → all ≡ of_arguments rule s end ks
  at-end h q = i.same ∙ ap₂ (λ xs ks. of_arguments rule s (values_from xs) ks) (decoded-none member_row (λ _. dec_v l) left e b (omega arith)) q

  pub arguments-end : left ≡ 0 → length k ≡ 0 → Holds ≡ verdict_of all
  arguments-end h z = ap verdict_of (sym (at-end h (args_none k (omega arith)) ∙ no_more rule s))

  pub arguments-few : (x : Verdict) → x ≡ verdict_of (left_over rule) → left ≡ 0 → (length k ≡ 0 → ⊥) → x ≡ verdict_of all
  arguments-few x y h z = y ∙ ap verdict_of (sym (at-end h (args-first k i.asked (pos (length k) z)).is ∙ no-values rule s _ _))

  -- The first argument that is asked for.
  pub arguments-first : (length k ≡ 0 → ⊥) → ArgFirst k
  arguments-first h = args-first k i.asked (pos (length k) h)

  -- No argument is asked for that is shorter than one.
  nothing-asked : length k < 3 → length k ≡ 0
  nothing-asked h = go (dec_lt 0 (length k))
    where
      go : Dec (0 < length k) → length k ≡ 0
      go (yes q) = let room = (args-first k i.asked q).room in absurd (omega arith)
      go (no q) = omega arith

  module _ {m : ℕ} {fs cs : List ℕ} {r : Row} (t : TookFirst 2 left e b m fs cs r) where
    pub argument-whole : whole_v l r.body.now ≡ true
    argument-whole = taken-body i.rows t

    pub arguments-over : (x : Verdict) → x ≡ verdict_of (left_over rule) → length k < 3 → x ≡ verdict_of all
    arguments-over x y z =
        y ∙ ap verdict_of
        (sym (i.same ∙ ap₂ (λ xs ks. of_arguments rule s (values_from xs) ks) (taken-decoded member_row (λ _. dec_v l) t)
        (args_none k (omega (arith, nothing-asked z))) ∙ no-asked rule s _ _))

    module _ (h : 3 ≤ length k) (first others : List ℕ) (q : first ≡ take 3 k) (u : others ≡ drop 3 k) where
      asks : ArgFirst k
      asks = args-first k i.asked (omega arith)

      pub argument-asked : arg_fits first ≡ true
      argument-asked = (arg-own k first q).0 ∙ asks.fits

      behind : rest 3 k ≡ others
      behind = rest-is 3 k ∙ sym u

      step : Then all (of_argument rule s (dec_v l r.body.now) (arg_at first))
          (of_arguments rule s (values_from (rows_of member_row (λ _. dec_v l) m fs cs)) (args_of others))
      step =
          record {
            is =
                i.same
                ∙ ap₂ (λ xs ks. of_arguments rule s (values_from xs) ks) (taken-decoded member_row (λ _. dec_v l) t) asks.is
                ∙ both rule s _ _ _ _
                ∙ rw ((arg-own k first q).1, behind) refl;
          }

      module _ (x : Verdict) (y : x ≡ verdict_of (of_argument rule s (dec_v l r.body.now) (arg_at first))) where
        pub arguments-stop : (x ≡ Holds → ⊥) → x ≡ verdict_of all
        arguments-stop g = then-stop step x y g

        pub arguments-again : x ≡ Holds → ArgumentsAhead l rule s all m fs cs others
        arguments-again g = record { rows = taken-again i.rows t; asked = rw behind at asks.more; same = then-on step x y g }
