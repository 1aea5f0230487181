-- What a verdict on answers promises of the three inputs, and how it is written.
use Rattle.std.specs.Prelude.{◌≡◌, ◌≢◌, ℕ, ◌⊎◌, List, [], ◌∷◌, Option, None, Err, IfSome, codes, decimal}
use Rattle.road_graph.specs.GraphData.{GraphData}
use Rattle.text_lines.specs.Reads.{IsNumberFrom}
use Rattle.text_lines.specs.Rules.{text_read}
use Rattle.text_lines.specs.Texts.{spelled}
use Rattle.road_files.specs.Asked.{Asked}
use Rattle.graph_text.specs.GraphFiles.{gr_rules}
use Rattle.road_files.specs.QuestionFiles.{question_rules}
use Rattle.path_algebra.specs.declared.name.AlgebraName.TheVariants.{Own}
use Rattle.answer_text.specs.AnswerFiles.{answer_rules}
use Rattle.answer_text.specs.AnswerData.{AnswerList}
use Rattle.answer_check.specs.declared.verdict.Verdict.{Verdict}
use Rattle.answer_check.specs.declared.verdict.Verdict.TheVariants.{Valid, Invalid}
use Rattle.answer_check.specs.Reasons.{reason_number}
use Rattle.answer_check.specs.Verdicts.{IsVerdict}
use Rattle.batch_inputs.specs.declared.faults.RunFault.{RunFault}
use Rattle.batch_inputs.specs.declared.faults.File.TheVariants.{Graph, Questions, Answers}
use Rattle.batch_inputs.specs.Spelled.{IsPairOf, IsReadAs}
use Rattle.batch_inputs.specs.InputFaults.{IsTextFault, IsRoadNumber}
use Rattle.path_algebra.specs.declared.choice.AlgebraChoice.{AlgebraChoice}
use Rattle.path_algebra.specs.Choices.{GoTogether, Under, limit_of, name_of}

-- three inputs spell this graph, these questions over it, and these answers for it
pub record AreInputs (graph questions answers : Option (List ℕ)) (g : GraphData) (asked : Asked) (told : AnswerList) : Type 0 where
  pub graph_is : IsReadAs gr_rules graph g
  pub questions_are : IsReadAs (question_rules g.vertices None) questions asked
  pub answers_are : IsReadAs (answer_rules g.vertices) answers told

-- this is the verdict on the answers that were read, under the algebra that they name and the limit
pub record IsJudged (graph questions answers : Option (List ℕ)) (limit : Option ℕ) (verdict : Verdict) : Type 0 where
  pub roads : GraphData
  pub asked : Asked
  pub told : AnswerList
  pub read : AreInputs graph questions answers roads asked told
  pub chosen : AlgebraChoice
  pub named : name_of chosen ≡ told.name
  pub limited : limit_of chosen ≡ limit
  pub judged : Under chosen (λ V A. IsVerdict A roads asked told verdict)

-- the graph and the questions have no fault, and the answers have this one
pub record IsAnswersFault (graph questions answers : Option (List ℕ)) (f : RunFault) : Type 0 where
  pub roads : GraphData
  pub asked : Asked
  pub read : IsPairOf graph questions roads asked
  pub fault : IsTextFault f → IfSome answers (λ b. text_read (answer_rules roads.vertices) b ≡ Err (record { number = f.number; line = f.line }))

-- the answers were read, and they name an algebra of a caller's own
pub record IsOwnFault (graph questions answers : Option (List ℕ)) (f : RunFault) : Type 0 where
  pub roads : GraphData
  pub asked : Asked
  pub told : AnswerList
  pub read : AreInputs graph questions answers roads asked told
  pub own : told.name ≡ Own
  pub fault : f ≡ record { number = 31; file = Answers; line = 0 }

-- the answers were read, the algebra that they name is one of the program's, and it does not go
-- with the limit
pub record IsLimitFault (graph questions answers : Option (List ℕ)) (limit : Option ℕ) : Type 0 where
  pub roads : GraphData
  pub asked : Asked
  pub told : AnswerList
  pub read : AreInputs graph questions answers roads asked told
  pub not_own : told.name ≢ Own
  pub apart : GoTogether told.name limit → ⊥

-- a fault of one of the three inputs, with a number of its own
abbrev pub IsReadingFault : RunFault → Type 0
IsReadingFault f = (((f.file ≡ Graph) ⊎ (f.file ≡ Questions)) × IsRoadNumber f.number) ⊎ ((f.file ≡ Answers) × IsNumberFrom 30 36 f.number)

-- the line of a verdict
abbrev pub verdict_text : Verdict → List ℕ
verdict_text Valid = spelled (codes "valid" ∷ [])
verdict_text (Invalid question vertex reason) = spelled (codes "invalid" ∷ decimal question ∷ decimal vertex ∷ decimal (reason_number reason) ∷ [])

-- the exit status of a verdict
abbrev pub verdict_status : Verdict → ℕ
verdict_status Valid = 0
verdict_status (Invalid question vertex reason) = 1
