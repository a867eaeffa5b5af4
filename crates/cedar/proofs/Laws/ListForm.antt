-- `enc_list` and `parse_list` are inverse, over any reader of a type.
use Rattle.std.specs.Prelude.{ℕ, suc, ◌≤◌, ◌≡◌, leb, length}
use mathlib.Core.List.{List, [], ◌∷◌, ◌++◌}
use Rattle.std.proofs.Math.Path.{refl}
use Rattle.std.proofs.Common.{sym, ap, ◌∙◌, subst, leb→le, le→leb}
use Rattle.std.proofs.Math.Option.{Option, some, some-injective}
use Rattle.cedar.specs.Types.{Ty}
use Rattle.cedar.specs.Bytes.{u16, ◌>>=◌, guard, Bytes}
use Rattle.cedar.specs.Table.{parse_counted, any_order, read_length, seconds}
use Rattle.cedar.specs.TypeForm.{enc}
use Rattle.cedar.specs.ListForm.{parse_list}
use Rattle.cedar.specs.Limits.{max_listed}
use Rattle.cedar.proofs.Laws.Encoders.{heads, tails, lengths_of, forms_of, enc_list}
use Rattle.cedar.proofs.Laws.Bytes.{Reads, bind-some, bind-at, guard-some, guard-yes}
use Rattle.cedar.proofs.Laws.Table.{Follow, parse_counted-reads, write_length, read_length-reads}

-- Each type of a list is good.
abbrev pub Each : (Ty → Type 0) → List Ty → Type 0
Each Good [] = Unit {0}
Each Good (t ∷ ts) = Good t × Each Good ts

-- The table of a list.
list_table : List Ty → List (Unit {0} × Ty)
list_table [] = []
list_table (t ∷ ts) = (tt, t) ∷ list_table ts

seconds-table : (ts : List Ty) → seconds (list_table ts) ≡ ts
unfolding list_table
seconds-table [] = refl
seconds-table (t ∷ ts) = ap {B = List Ty} (λ l. t ∷ l) (seconds-table ts)

lengths_of-of : (xs : List (Unit {0} × Ty)) → lengths_of (seconds xs) ≡ heads write_length enc xs
lengths_of-of [] = refl
lengths_of-of (x ∷ xs) = ap (λ (l : List ℕ). u16 (length (enc x.1)) ++ l) (lengths_of-of xs)

forms_of-of : (xs : List (Unit {0} × Ty)) → forms_of (seconds xs) ≡ tails enc xs
forms_of-of [] = refl
forms_of-of (x ∷ xs) = ap (λ (l : List ℕ). enc x.1 ++ l) (forms_of-of xs)

length-seconds : (xs : List (Unit {0} × Ty)) → length (seconds xs) ≡ length xs
length-seconds [] = refl
length-seconds (x ∷ xs) = ap suc (length-seconds xs)

module _ (Good : Ty → Type 0) where
  list-good : (s : Unit {0}) (xs : List (Unit {0} × Ty)) → Follow any_order enc (λ h n. Unit {0}) (λ h. Good) s xs → Each Good (seconds xs)
  list-good s [] f = tt
  list-good s (x ∷ xs) f = (f.3, list-good f.0 xs f.4)

  good-list : (ts : List Ty) → Each Good ts → Follow any_order enc (λ h n. Unit {0}) (λ h. Good) tt (list_table ts)
  unfolding list_table
  good-list [] w = tt
  good-list (t ∷ ts) w = (tt, refl, tt, w.0, good-list ts w.1)

  -- Where p reads the good types, `parse_list p` reads the lists of at most 64 of them.
  pub parse_list-reads : (p : List ℕ → Option Ty) → Reads enc Good p → Reads enc_list (λ ts. Each Good ts × (length ts ≤ max_listed)) (parse_list p)
  parse_list-reads p r = record { into = into; back = back }
    where
      table : Reads (λ (xs : List (Unit {0} × Ty)). u16 (length xs) ++ (heads write_length enc xs ++ tails enc xs))
          (Follow any_order enc (λ h n. Unit {0}) (λ h. Good) tt) (parse_counted read_length any_order (λ h. p) 2 tt)
      table = parse_counted-reads write_length read_length any_order enc (λ h. p) (λ h n. Unit {0}) (λ h. Good) read_length-reads (λ h. r) 2 (λ h n. refl) tt

      into : (b : List ℕ) (ts : List Ty) → Bytes b → parse_list p b ≡ some ts → (enc_list ts ≡ b) × (Each Good ts × (length ts ≤ max_listed))
      into b ts h q =
          bind-some (parse_counted read_length any_order (λ h. p) 2 tt b) _ q λ xs ex q₁.
          bind-some (guard (leb (length xs) max_listed)) _ q₁ λ g eg q₂.
          let (w, f) = table.into b xs h ex in
          subst (λ (y : List Ty). (enc_list y ≡ b) × (Each Good y × (length y ≤ max_listed))) (some-injective _ _ q₂) (
            rw (length-seconds xs, lengths_of-of xs, forms_of-of xs) w,
            (list-good tt xs f, rw (length-seconds xs) (leb→le (length xs) max_listed (guard-some (leb (length xs) max_listed) g eg))),
          )

      bytes : (ts : List Ty) → enc_list ts ≡ u16 (length (list_table ts)) ++ (heads write_length enc (list_table ts) ++ tails enc (list_table ts))
      bytes ts = ap enc_list (sym (seconds-table ts)) ∙ rw (length-seconds (list_table ts), lengths_of-of (list_table ts), forms_of-of (list_table ts))

      few : (ts : List Ty) → length ts ≤ max_listed → length (list_table ts) ≤ max_listed
      few ts l = rw (← length-seconds (list_table ts), seconds-table ts) l

      back : (ts : List Ty) → Each Good ts × (length ts ≤ max_listed) → parse_list p (enc_list ts) ≡ some ts
      back ts g =
          bind-at (λ xs. guard (leb (length xs) max_listed) >>= λ u. some (seconds xs))
          (ap (parse_counted read_length any_order (λ h. p) 2 tt) (bytes ts) ∙ table.back (list_table ts) (good-list ts g.0))
          ∙ guard-yes (leb (length (list_table ts)) max_listed) (λ u. some (seconds (list_table ts))) (le→leb (length (list_table ts)) max_listed (few ts g.1))
          ∙ ap (λ (l : List Ty). some l) (seconds-table ts)
