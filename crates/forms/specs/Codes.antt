-- The first byte of a form. Assumes nothing: this is a definition.
use Rattle.std.specs.Prelude.{ℕ}
use Rattle.cedar.specs.Types.{Ty, atom, set, rec, act, ent, ext}
use Rattle.cedar.specs.TypeForm.{atom_code, set_code, record_code, entity_code, action_code, extension_code}

-- The first byte of a type's form.
abbrev pub code : Ty → ℕ
code (atom k) = atom_code k
code (set t) = set_code
code (rec o xs) = record_code
code (ent ns) = entity_code
code (act n xs) = action_code
code (ext n) = extension_code
