-- The one written spelling of questions: lines of words.
use Rattle.std.specs.Prelude.{ℕ, List, [], ◌∷◌, length, map, codes, decimal}
use Rattle.text_lines.specs.Texts.{text_of, list_words}
use Rattle.road_files.specs.declared.questions.Kind.{Kind}
use Rattle.road_files.specs.declared.questions.Kind.TheVariants.{Sources, Pairs, Multi}
use Rattle.road_files.specs.Asked.{Question, FromSource, BetweenPair, FromSources, Asked}

-- the word that names a kind
abbrev pub kind_word : Kind → List ℕ
kind_word Sources = codes "ss"
kind_word Pairs = codes "p2p"
kind_word Multi = codes "ms"

-- `p aux sp KIND K`
abbrev pub problem_words : Kind → ℕ → List (List ℕ)
problem_words kind count = codes "p" ∷ codes "aux" ∷ codes "sp" ∷ kind_word kind ∷ decimal count ∷ []

-- `s SOURCE`, `q SOURCE TARGET` or `m SOURCE ..`
abbrev pub question_words : Question → List (List ℕ)
question_words (FromSource s) = codes "s" ∷ decimal s ∷ []
question_words (BetweenPair s t) = codes "q" ∷ decimal s ∷ decimal t ∷ []
question_words (FromSources ss) = list_words (codes "m") ss

-- a problem line, and a line for each question
abbrev pub question_lines : Asked → List (List (List ℕ))
question_lines a = problem_words a.kind (length a.questions) ∷ map question_words a.questions

-- the text of questions
unfoldable pub questions_text : Asked → List ℕ
questions_text a = text_of (question_lines a)
