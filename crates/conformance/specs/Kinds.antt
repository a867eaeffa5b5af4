-- Which kinds of value a type takes, by the first bytes of their forms. Assumes nothing: these are definitions.
use Rattle.std.specs.Prelude.{ℕ, Bool, true, false, eqb, leb}
use Rattle.cedar.specs.Types.{Atom, never, true', false', bool, long, string, anyset, anyent}
use Rattle.cedar.specs.Bytes.{flag}
use Rattle.cedar.specs.ValueForm.{long_code, string_code, uid_code, set_of_code, record_of_code, call_code}
use Rattle.cedar.specs.TypeForm.{Kind, one, set_kind, rec_kind, ent_kind, act_kind, ext_kind, no_kind, kind_of}

-- Whether a type without parts takes a value of the first byte j.
abbrev pub atom_takes : Atom → ℕ → Bool
atom_takes never j = false
atom_takes true' j = eqb j (flag true)
atom_takes false' j = eqb j (flag false)
atom_takes bool j = leb j (flag true)
atom_takes long j = eqb j long_code
atom_takes string j = eqb j string_code
atom_takes anyset j = eqb j set_of_code
atom_takes anyent j = eqb j uid_code

-- The same for a type of any kind.
abbrev pub kind_takes : Kind → ℕ → Bool
kind_takes (one a) j = atom_takes a j
kind_takes set_kind j = eqb j set_of_code
kind_takes rec_kind j = eqb j record_of_code
kind_takes ent_kind j = eqb j uid_code
kind_takes act_kind j = eqb j uid_code
kind_takes ext_kind j = eqb j call_code
kind_takes no_kind j = false

-- The same by the first byte of the type's form.
abbrev pub takes : ℕ → ℕ → Bool
takes k j = kind_takes (kind_of k) j
