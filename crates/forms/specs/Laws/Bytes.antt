-- The bytes of a whole form are those of its tree. Assumes nothing.
use Rattle.std.specs.Prelude.{ℕ, zero, suc, ◌<◌, ◌-◌, List, [], ◌∷◌, true, ◌≡◌, get_or}
use Rattle.cedar.specs.Bytes.{Bytes}
use Rattle.cedar.specs.TypeForm.{enc}
use Rattle.cedar.specs.ValueForm.{enc_value}
use Rattle.cedar.proofs.Laws.Bytes.{Bytes-take, Bytes-drop}
use Rattle.cedar.specs.Laws.Shape.{WF, WFValue}
use Rattle.cedar.proofs.Laws.TypeForm.{parse-iff}
use Rattle.cedar.proofs.Laws.ValueForm.{parse_value-reads}
use Rattle.forms.specs.Parts.{part}
use Rattle.forms.specs.TypeBytes.{whole, dec}
use Rattle.forms.specs.ValueBytes.{whole_v, dec_v}
use Rattle.forms.specs.Laws.Sure.{sure-yes}
use Rattle.forms.specs.Laws.TypeTwin.{type-twin}
use Rattle.forms.specs.Laws.ValueTwin.{value-twin}

-- What is known of each element of a `&[u8]`, as a fact of the list.
pub Bytes-index : (b : List ℕ) → ((i : ℕ) → get_or b i 0 < 256) → Bytes b
Bytes-index [] f = tt
Bytes-index (x ∷ b) f = (f zero, Bytes-index b (λ i. f (suc i)))

-- A part of bytes is bytes.
pub Bytes-part : (a e : ℕ) (b : List ℕ) → Bytes b → Bytes (part a e b)
Bytes-part a e b h = Bytes-take (e - a) _ (Bytes-drop a b h)

-- A whole form says a type in order, within its levels, and is written as its own bytes.
pub dec-reads : (l : ℕ) (b : List ℕ) → Bytes b → whole l b ≡ true → (enc (dec l b) ≡ b) × WF l (dec l b)
dec-reads l b h w = (parse-iff l b (dec l b) h).0 (sure-yes (type-twin l b) w)

pub enc-dec : (l : ℕ) (b : List ℕ) → Bytes b → whole l b ≡ true → enc (dec l b) ≡ b
enc-dec l b h w = (dec-reads l b h w).0

-- So is the form of a value.
pub dec_v-reads : (l : ℕ) (b : List ℕ) → Bytes b → whole_v l b ≡ true → (enc_value (dec_v l b) ≡ b) × WFValue l (dec_v l b)
dec_v-reads l b h w = (parse_value-reads l).into b (dec_v l b) h (sure-yes (value-twin l b) w)
