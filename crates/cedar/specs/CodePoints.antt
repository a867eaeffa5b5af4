-- What text means: code points, and the bytes that RFC 3629, section 3, gives each.
use Rattle.std.specs.Prelude.{ℕ, ◌+◌, ◌/◌, ◌%◌, ◌≤◌, List, [], ◌∷◌, ◌++◌, cond, ◌⊎◌, leb}

-- A character is a code point from 0 to D7FF or from E000 to 10FFFF.
abbrev pub IsCharacter : ℕ → Type 0
IsCharacter c = (c ≤ 0xD7FF) ⊎ ((0xE000 ≤ c) × (c ≤ 0x10FFFF))

-- Each is a character.
abbrev pub AllCharacters : List ℕ → Type 0
AllCharacters [] = Unit {0}
AllCharacters (c ∷ cs) = IsCharacter c × AllCharacters cs

-- The shortest form of a code point, by the last one of each length: 7 bits; 5 and 6; 4, 6 and 6; 3, 6, 6 and 6.
abbrev pub encode_point : ℕ → List ℕ
encode_point c =
    cond (leb c 0x7F) (c ∷ [])
    (cond (leb c 0x7FF) ((0xC0 + c / 64) ∷ (0x80 + c % 64) ∷ [])
    (cond (leb c 0xFFFF) ((0xE0 + c / 4096) ∷ (0x80 + c / 64 % 64) ∷ (0x80 + c % 64) ∷ [])
    ((0xF0 + c / 262144) ∷ (0x80 + c / 4096 % 64) ∷ (0x80 + c / 64 % 64) ∷ (0x80 + c % 64) ∷ [])))

-- One form after another.
abbrev pub encode_points : List ℕ → List ℕ
encode_points [] = []
encode_points (c ∷ cs) = encode_point c ++ encode_points cs
