-- The faults of the inputs of a batch.
use Rattle.std.specs.Prelude.{◌≡◌, ◌≢◌, ℕ, ◌≤◌, ◌⊎◌, List, Option, None, Err, IfSome}
use Rattle.road_graph.specs.GraphData.{GraphData}
use Rattle.text_lines.specs.Reads.{IsNumberFrom}
use Rattle.text_lines.specs.Rules.{text_read}
use Rattle.graph_text.specs.GraphFiles.{gr_rules}
use Rattle.road_files.specs.QuestionFiles.{question_rules}
use Rattle.road_files.specs.BundleFiles.{bundle_rules}
use Rattle.batch_inputs.specs.Spelled.{IsReadAs}
use Rattle.batch_inputs.specs.declared.faults.File.{File}
use Rattle.batch_inputs.specs.declared.faults.File.TheVariants.{Graph, Questions, Bundle, Answers, Order, NoFile}
use Rattle.batch_inputs.specs.declared.faults.RunFault.{RunFault}

-- the fault of a line, and none of reading or of memory
abbrev pub IsTextFault : RunFault → Type 0
IsTextFault f = (2 ≤ f.number) × (f.number ≢ 3)

-- the graph has this fault
abbrev pub IsGraphFault : Option (List ℕ) → RunFault → Type 0
IsGraphFault graph f = IsTextFault f → IfSome graph (λ b. text_read gr_rules b ≡ Err (record { number = f.number; line = f.line }))

-- the graph has none, and the questions have this one
abbrev pub IsQuestionsFault : Option (List ℕ) → Option (List ℕ) → RunFault → Type 0
IsQuestionsFault graph questions f =
    (g : GraphData) × IsReadAs gr_rules graph g
    × (IsTextFault f → IfSome questions (λ b. text_read (question_rules g.vertices None) b ≡ Err (record { number = f.number; line = f.line })))

-- the bundle has this fault
abbrev pub IsBundleFault : Option (List ℕ) → RunFault → Type 0
IsBundleFault input f = IsTextFault f → IfSome input (λ b. text_read bundle_rules b ≡ Err (record { number = f.number; line = f.line }))

-- the number of a fault of an input with roads: 1 to 3, or 10 to 19
abbrev pub IsRoadNumber : ℕ → Type 0
IsRoadNumber number = IsNumberFrom 10 19 number

-- that of a fault of an order of elimination: 1 to 3, or 10 to 20
abbrev pub IsOrderNumber : ℕ → Type 0
IsOrderNumber number = IsNumberFrom 10 20 number

-- the number of a fault of this input
abbrev pub IsNumberOf : File → ℕ → Type 0
IsNumberOf Graph = IsRoadNumber
IsNumberOf Questions = IsRoadNumber
IsNumberOf Bundle = IsRoadNumber
IsNumberOf Answers = IsRoadNumber
IsNumberOf Order = IsOrderNumber
IsNumberOf NoFile = IsRoadNumber

-- the inputs of a pair are these, and that of a bundle is this one
abbrev pub IsPairFile : File → Type 0
IsPairFile file = (file ≡ Graph) ⊎ (file ≡ Questions)

abbrev pub IsBundleFile : File → Type 0
IsBundleFile file = file ≡ Bundle
