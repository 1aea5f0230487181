-- Question files, one after the other.
use Rattle.std.specs.Prelude.{◌≡◌, ℕ, List, [], ◌∷◌, ◌++◌, None, Ok}
use Rattle.text_lines.specs.Rules.{text_read}
use Rattle.road_files.specs.Asked.{Asked}
use Rattle.road_files.specs.QuestionFiles.{question_rules}

-- a question file that asks this, and ends at a line's end
pub record IsFileOf (n : ℕ) (file : List ℕ) (asked : Asked) : Type 0 where
  pub asks : text_read (question_rules n None) file ≡ Ok asked
  pub prefix : List ℕ
  pub ends : file ≡ prefix ++ 10 ∷ []
