-- What a batch promises of its inputs and its output.
use Rattle.std.specs.Prelude.{◌≡◌, ℕ, ◌<◌, ◌⊎◌, List, [], length}
use Rattle.road_graph.specs.GraphData.{GraphData}
use Rattle.text_lines.specs.Streams.{Output}
use Rattle.road_files.specs.Asked.{Asked}
use Rattle.path_algebra.specs.Algebra.{Algebra}
use Rattle.batch_inputs.specs.InputFaults.{IsNumberOf}
use Rattle.batch_inputs.specs.declared.faults.RunFault.{RunFault}
use Rattle.batch_inputs.specs.declared.faults.File.{File}
use Rattle.batch_inputs.specs.declared.faults.File.TheVariants.{NoFile}
use Rattle.batch_run.specs.Answered.{WroteAnswers, WroteAnswersPrefix, WroteWhole}

-- the answers to what was read were written, whole
pub record Done {V X : Type 0} (A : Algebra V) (IsRead : GraphData → Asked → Type 0) (old new : Output X) : Type 0 where
  pub graph : GraphData
  pub asked : Asked
  pub read : IsRead graph asked
  pub wrote : WroteAnswers A graph asked old new

-- a prefix of them was
pub record Begun {V X : Type 0} (A : Algebra V) (IsRead : GraphData → Asked → Type 0) (old new : Output X) : Type 0 where
  pub graph : GraphData
  pub asked : Asked
  pub read : IsRead graph asked
  pub wrote : WroteAnswersPrefix A graph asked old new

-- the header was, and the answers to the first questions, each of them whole; fewer than were
-- asked, if any were
pub record BegunWhole {V X : Type 0} (A : Algebra V) (IsRead : GraphData → Asked → Type 0) (old new : Output X) : Type 0 where
  pub graph : GraphData
  pub asked : Asked
  pub read : IsRead graph asked
  pub wrote : WroteWhole A graph asked old new

-- the header was, and the answers to the first questions, each of them whole, but not to all
pub record BegunUnfinished {V X : Type 0} (A : Algebra V) (IsRead : GraphData → Asked → Type 0) (old new : Output X) : Type 0 where
  pub begun : BegunWhole A IsRead old new
  pub fewer : begun.wrote.count < length begun.asked.questions

-- a fault of one of these inputs, with a number of theirs; or one of the run: memory or a thread, a
-- limit of turns, a gate, a write, or a setting
abbrev pub IsRunFaultOf : (File → Type 0) → RunFault → Type 0
IsRunFaultOf inputs f =
    (inputs f.file × IsNumberOf f.file f.number)
    ⊎ ((f.file ≡ NoFile) × (f.line ≡ 0) × ((f.number ≡ 3) ⊎ ((f.number ≡ 40) ⊎ ((f.number ≡ 41) ⊎ ((f.number ≡ 42) ⊎ (f.number ≡ 43))))))
