-- Answers as plain data: numbers and lists.
use Rattle.std.specs.Prelude.{ℕ, List, Option, map, option_map}
use Rattle.path_algebra.specs.declared.name.AlgebraName.{AlgebraName}
use Rattle.road_files.specs.declared.questions.Kind.{Kind}
pub use Rattle.route_tree.specs.Found.{FoundData, found_of}
use Rattle.answer_text.specs.declared.answers.Reached.{Reached}
use Rattle.answer_text.specs.declared.answers.Answer.{Answer}
use Rattle.answer_text.specs.declared.answers.Answer.TheVariants
use Rattle.answer_text.specs.declared.answers.Answers.{Answers}

-- the answer to a question; entry i of a list of lines is that of vertex i + 1
pub data AnswerData : Type 0 where
  SourceAnswer : (source : ℕ) → (lines : List (Option Reached)) → AnswerData
  PairAnswer : (source target : ℕ) → (found : Option FoundData) → AnswerData
  SourcesAnswer : (sources : List ℕ) → (lines : List (Option Reached)) → AnswerData

-- the answers to all questions of a file
pub record AnswerList : Type 0 where
  pub name : AlgebraName
  pub kind : Kind
  pub n : ℕ
  pub list : List AnswerData

-- an answer in memory as plain data
abbrev pub answer_data : Answer → AnswerData
answer_data (TheVariants.Source s ls) = SourceAnswer s ls.items
answer_data (TheVariants.Pair s t f) = PairAnswer s t (option_map found_of f)
answer_data (TheVariants.Multi ss ls) = SourcesAnswer ss.items ls.items

-- all answers in memory as plain data
abbrev pub answer_list : Answers → AnswerList
answer_list a = record { name = a.name; kind = a.kind; n = a.n; list = map answer_data a.list.items }
