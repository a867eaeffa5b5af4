-- The line of an answer, by what an entry answers and the result buffer after it. Assumes nothing: these are definitions.
use Rattle.std.specs.Prelude.{ℕ, ◌+◌, ◌*◌, ◌≤◌, ◌<◌, List, [], ◌∷◌, ◌++◌, Bool, true, false, length, take}
use Rattle.cedar.specs.Lines.{decimal, hex}
use Rattle.cedar.specs.Result.{Result, ok, err}
use Rattle.validator.specs.declared.answers.Answer.{Answer}
use Rattle.validator.specs.declared.answers.Answer.TheVariants.{Yes, No, Nothing, Measured, Typed, Attribute, Named}

-- The refusal's number, or 0.
abbrev pub number_in : Result Answer → ℕ
number_in (ok a) = 0
number_in (err n) = n

-- How many bytes of the result buffer are the answer's.
abbrev pub many_in : Result Answer → ℕ
many_in (err n) = 0
many_in (ok Yes) = 0
many_in (ok No) = 0
many_in (ok Nothing) = 0
many_in (ok (Measured n l)) = 0
many_in (ok (Typed n l)) = n
many_in (ok (Attribute r n l)) = n
many_in (ok (Named n)) = n

-- r: or o:.
abbrev pub required_word : Bool → List ℕ
required_word true = 114 ∷ 58 ∷ []
required_word false = 111 ∷ 58 ∷ []

-- The answer as text: -, yes, no, none, or hex, an attribute's behind r: or o:.
abbrev pub text_in : Result Answer → List ℕ → List ℕ
text_in (err n) result = 45 ∷ []
text_in (ok Yes) result = 121 ∷ 101 ∷ 115 ∷ []
text_in (ok No) result = 110 ∷ 111 ∷ []
text_in (ok Nothing) result = 110 ∷ 111 ∷ 110 ∷ 101 ∷ []
text_in (ok (Measured n l)) result = []
text_in (ok (Typed n l)) result = hex (take n result)
text_in (ok (Attribute r n l)) result = required_word r ++ hex (take n result)
text_in (ok (Named n)) result = hex (take n result)

-- A number and a space.
unfoldable pub field : ℕ → List ℕ
field n = decimal n ++ (32 ∷ [])

-- The line.
unfoldable pub line_in : ℕ → Result Answer → List ℕ → List ℕ
line_in i a result = ((field i ++ field (number_in a)) ++ text_in a result) ++ (10 ∷ [])

-- Where a line fits whatever the answer is: an index of five digits, a refusal of three, two spaces, a word of four, two
-- digits a byte, a newline.
pub record LineRoom (index : ℕ) (a : Result Answer) (result out : List ℕ) : Type 0 where
  pub small : index < 65536
  pub inside : many_in a ≤ length result
  pub room : 15 + 2 * length result ≤ length out
