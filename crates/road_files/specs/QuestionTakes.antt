-- The state of the parser of a question file, in the terms of the rules.
use Rattle.std.specs.Prelude.{◌≡◌, ℕ, ◌≤◌, min, List, [], ◌∷◌, length, drop, map, Bool, true, Option, Some, None, option_map, Result, Ok, Err, IfOk}
use Rattle.text_lines.specs.declared.faults.ReadFault.{ReadFault}
use Rattle.text_lines.specs.declared.faults.Rule.{Rule}
use Rattle.text_lines.specs.Takes.{GivesBy}
use Rattle.text_lines.specs.Meaning.{Meaning}
use Rattle.text_lines.specs.Words.{word_of}
use Rattle.road_files.specs.declared.questions.Kind.{Kind}
use Rattle.road_files.specs.declared.questions.Questions.{Questions}
use Rattle.road_files.specs.declared.present_list.PresentList.{PresentList}
use Rattle.road_files.specs.declared.questions_builder.QuestionsBuilder.{QuestionsBuilder}
use Rattle.road_files.specs.declared.question_parser.QuestionParser.{QuestionParser}
use Rattle.road_files.specs.Asked.{Asked, asked_of, AreQuestionsOf}
use Rattle.road_files.specs.QuestionFiles.{AskedSoFar, vertices_in, begins_list, may_be, question_rules}

-- the sources that were listed, or the first fault among them
abbrev pub sources_or : Option Rule → List ℕ → Result (List ℕ) ℕ
sources_or None sources = Ok sources
sources_or (Some rule) sources = Err rule.number

-- what the vertices of the present list give so far
abbrev pub sources_given : PresentList → Result (List ℕ) ℕ
sources_given l = sources_or l.broken l.sources.items

-- these are the fields of the present line so far
pub record ListSoFar (l : PresentList) (fs : List (List ℕ)) : Type 0 where
  pub count : l.count ≡ min (length fs) 1026
  pub letter : l.is_list ≡ begins_list (map word_of fs)
  pub sources : l.is_list ≡ true → length fs ≤ 1025 → vertices_in l.vertices (drop 1 (map word_of fs)) ≡ sources_given l

-- what was announced, and the questions that were taken
abbrev pub asked_so_far : QuestionsBuilder → AskedSoFar
asked_so_far t = record { kind = (asked_of t.questions).kind; announced = t.announced; questions = (asked_of t.questions).questions }

-- the same, if a problem line was read
abbrev pub questions_begun : QuestionParser → Option AskedSoFar
questions_begun s = option_map asked_so_far s.begun

-- the questions fit the graph, and are of the kind that was asked for
pub record FitsFile (n : ℕ) (only : Option Kind) (q : Questions) : Type 0 where
  pub fit : AreQuestionsOf n q
  pub kind : may_be only (asked_of q).kind ≡ true

-- the lines from a line number on give this
abbrev pub GivesQuestions : Bool → QuestionParser → ℕ → List (List ℕ) → Result Questions ReadFault → Type 0
GivesQuestions cut s at ls r = GivesBy (question_rules s.list.vertices s.only) (questions_begun s) asked_of cut at ls r × IfOk r (FitsFile s.list.vertices s.only)

-- the fields of a list are kept before its line ends
abbrev pub question_meaning : Meaning QuestionParser Questions
question_meaning = record { gives = GivesQuestions; so_far = λ s fs. ListSoFar s.list fs }

-- the questions that have ended, if any
abbrev pub asked_list : Option Questions → List (Result Asked ℕ)
asked_list None = []
asked_list (Some q) = Ok (asked_of q) ∷ []
