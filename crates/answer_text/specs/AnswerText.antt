-- The one written spelling of answers, by lines of words.
use Rattle.std.specs.Prelude.{ℕ, ◌+◌, List, [], ◌∷◌, ◌++◌, Option, Some, None, codes, decimal, length}
use Rattle.text_lines.specs.Texts.{spelled, text_of, list_words}
use Rattle.path_algebra.specs.declared.name.AlgebraName.{AlgebraName}
use Rattle.path_algebra.specs.Names.{name_text}
use Rattle.road_files.specs.declared.questions.Kind.{Kind}
use Rattle.road_files.specs.WrittenQuestions.{kind_word}
use Rattle.answer_text.specs.declared.answers.Reached.{Reached}
use Rattle.answer_text.specs.AnswerData.{FoundData, AnswerData, SourceAnswer, PairAnswer, SourcesAnswer, AnswerList}

-- the header before this many answers
abbrev pub header_words : Kind → ℕ → AlgebraName → List (List ℕ)
header_words kind count name = codes "p" ∷ codes "ans" ∷ kind_word kind ∷ decimal count ∷ name_text name ∷ []

-- the line that names one source
abbrev pub source_words : ℕ → List (List ℕ)
source_words source = codes "s" ∷ decimal source ∷ []

-- the line that names a pair
abbrev pub pair_words : ℕ → ℕ → List (List ℕ)
pair_words source target = codes "q" ∷ decimal source ∷ decimal target ∷ []

-- the line of a value and its hops
abbrev pub found_words : ℕ → ℕ → List (List ℕ)
found_words code hops = codes "d" ∷ decimal code ∷ decimal hops ∷ []

-- the line of a vertex: reached or not
abbrev pub vertex_words : ℕ → Option Reached → List (List ℕ)
vertex_words v None = codes "u" ∷ decimal v ∷ []
vertex_words v (Some r) = codes "d" ∷ decimal v ∷ decimal r.code ∷ decimal r.hops ∷ decimal r.parent ∷ []

-- the lines of the vertices from v on
abbrev pub vertex_lines : ℕ → List (Option Reached) → List (List (List ℕ))
vertex_lines v [] = []
vertex_lines v (x ∷ xs) = vertex_words v x ∷ vertex_lines (v + 1) xs

-- the lines of a pair: its value and route, or that no walk joins it
abbrev pub found_lines : Option FoundData → List (List (List ℕ))
found_lines None = (codes "u" ∷ []) ∷ []
found_lines (Some f) = found_words f.code f.hops ∷ list_words (codes "r") f.route ∷ []

-- the lines of an answer
abbrev pub answer_lines : AnswerData → List (List (List ℕ))
answer_lines (SourceAnswer s ls) = source_words s ∷ vertex_lines 1 ls
answer_lines (PairAnswer s t f) = pair_words s t ∷ found_lines f
answer_lines (SourcesAnswer ss ls) = list_words (codes "m") ss ∷ vertex_lines 1 ls

-- the text of an answer
unfoldable pub answer_text : AnswerData → List ℕ
answer_text a = text_of (answer_lines a)

-- the texts of answers, one after the other
abbrev pub blocks_text : List AnswerData → List ℕ
blocks_text [] = []
blocks_text (a ∷ more) = answer_text a ++ blocks_text more

-- the text of the header before this many answers
unfoldable pub header_text : Kind → ℕ → AlgebraName → List ℕ
header_text kind count name = spelled (header_words kind count name)

-- the text of all answers
abbrev pub answers_text : AnswerList → List ℕ
answers_text a = header_text a.kind (length a.list) a.name ++ blocks_text a.list
