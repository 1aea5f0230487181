-- The text of a fault.
use Rattle.std.specs.Prelude.{ℕ, List, [], ◌++◌, codes, decimal, nat_eq, if◌then◌else◌}
use Rattle.batch_inputs.specs.declared.faults.File.{File}
use Rattle.batch_inputs.specs.declared.faults.File.TheVariants.{Graph, Questions, Bundle, Answers, Order, NoFile}
use Rattle.batch_inputs.specs.declared.faults.RunFault.{RunFault}

-- the word for an input, after a space
abbrev pub file_text : File → List ℕ
file_text Graph = codes " graph"
file_text Questions = codes " questions"
file_text Bundle = codes " bundle"
file_text Answers = codes " answers"
file_text Order = codes " order"
file_text NoFile = []

-- the words for a line, if there is one
abbrev pub line_text : ℕ → List ℕ
line_text line = if nat_eq line 0 then [] else (codes " line " ++ decimal line)

-- what a fault shows: its number, the input and the line
abbrev pub fault_shown : RunFault → List ℕ
fault_shown f = codes "fault " ++ decimal f.number ++ file_text f.file ++ line_text f.line
