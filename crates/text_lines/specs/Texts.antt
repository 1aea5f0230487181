-- The one written spelling of a text: lines of words, with one space between them and an LF at each
-- line's end.
use Rattle.std.specs.Prelude.{ℕ, ◌<◌, List, [], ◌∷◌, ◌++◌, length, decimal, flat_map, map, All}
use Rattle.std.specs.List.{join_with_byte, AllByRecursion}

-- a line of words
unfoldable pub spelled : List (List ℕ) → List ℕ
spelled words = join_with_byte 32 words ++ 10 ∷ []

-- lines of words, one after the other
abbrev pub text_of : List (List (List ℕ)) → List ℕ
text_of ls = flat_map spelled ls

-- what may be a word: some bytes, each above the space
abbrev pub IsWord : List ℕ → Type 0
IsWord f = (0 < length f) × All (λ b. 32 < b) f

-- lines that are read as they are written
abbrev pub AreLines : List (List (List ℕ)) → Type 0
AreLines ls = AllByRecursion (AllByRecursion IsWord) ls

-- a word, and the numbers of a list
abbrev pub list_words : List ℕ → List ℕ → List (List ℕ)
list_words word numbers = word ∷ map decimal numbers

-- the numbers after the word, to the line's end
abbrev pub spaced : List ℕ → List ℕ
spaced [] = 10 ∷ []
spaced (n ∷ ns) = (32 ∷ decimal n) ++ spaced ns
