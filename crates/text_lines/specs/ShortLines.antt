-- Lines of a letter and three numbers.
use Rattle.std.specs.Prelude.{◌≡◌, ℕ, List, [], ◌∷◌, ◌++◌, Some}
use Rattle.text_lines.specs.Lines.{fields}
use Rattle.text_lines.specs.Scans.{number_with}
use Rattle.text_lines.specs.Texts.{spelled, IsWord}
use Rattle.text_lines.specs.Words.{held_word}

-- a word of digits with this number, followed by this byte
pub record IsNumberThen (bytes : List ℕ) (end number : ℕ) : Type 0 where
  pub word : List ℕ
  pub is : bytes ≡ word ++ end ∷ []
  pub is_word : IsWord word
  pub number_is : number_with (Some 0) word ≡ Some number

-- the written line of a letter and three numbers
pub record IsShortLine (bytes : List ℕ) (letter first second third : ℕ) : Type 0 where
  pub one : List ℕ
  pub two : List ℕ
  pub three : List ℕ
  pub is : bytes ≡ spelled ((letter ∷ []) ∷ one ∷ two ∷ three ∷ [])
  pub words : IsWord (letter ∷ []) × IsWord one × IsWord two × IsWord three
  pub numbers : (number_with (Some 0) one ≡ Some first) × (number_with (Some 0) two ≡ Some second) × (number_with (Some 0) three ≡ Some third)

-- the fields of a line are a letter and three numbers
pub record HasShortFields (line : List ℕ) (letter first second third : ℕ) : Type 0 where
  pub one : List ℕ
  pub two : List ℕ
  pub three : List ℕ
  pub is : fields line ≡ (letter ∷ []) ∷ one ∷ two ∷ three ∷ []
  pub first_is : (held_word one).number ≡ Some first
  pub second_is : (held_word two).number ≡ Some second
  pub third_is : (held_word three).number ≡ Some third
