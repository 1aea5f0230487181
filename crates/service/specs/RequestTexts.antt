-- Requests as question texts.
use Rattle.std.specs.Prelude.{◌≡◌, ℕ, ◌+◌, false, List, ◌++◌, length, None}
use Rattle.text_lines.specs.Rules.{value_of_lines}
use Rattle.road_files.specs.QuestionFiles.{question_rules}
use Rattle.road_files.specs.ServiceText.{Request}

-- some consecutive lines, as a question text by themselves, are the request: they ask what it asks,
-- or have its first fault
pub record IsTextIn (n at : ℕ) (ls : List (List ℕ)) (r : Request) : Type 0 where
  pub before : List (List ℕ)
  pub own : List (List ℕ)
  pub after : List (List ℕ)
  pub lines_are : ls ≡ before ++ (own ++ after)
  pub read : value_of_lines false (question_rules n None) (at + length before) None own ≡ r
