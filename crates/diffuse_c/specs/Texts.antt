-- What the text of a graph file in memory gives.
use Rattle.std.specs.Prelude.{◌≡◌, ℕ, ◌<◌, ◌≤◌, ◌⊎◌, List, length, ℤ, pos, Option, Some, None, Ok, Err}
use Rattle.road_graph.specs.GraphData.{GraphData}
use Rattle.text_lines.specs.declared.faults.ReadFault.{ReadFault}
use Rattle.text_lines.specs.Reads.{BreaksNone, RunsOutAfter}
use Rattle.text_lines.specs.Rules.{text_read, fault_at}
use Rattle.graph_text.specs.GraphFiles.{gr_rules}
use Rattle.answer_lists.specs.Sharing.{Shared, unfactored}

-- there is a graph, it is the value of the text, and it is not factored
abbrev pub IsGraphOf : List ℕ → Option Shared → Type 0
IsGraphOf bytes None = ⊥
IsGraphOf bytes (Some g) = (text_read gr_rules bytes ≡ Ok g.roads) × (g ≡ unfactored g.roads)

-- the text is longer than any that is read
abbrev pub IsTooLongText : List ℕ → Type 0
IsTooLongText bytes = 4294967296 < length bytes

-- the number of a rule of graph files
abbrev pub IsFaultNumber : ℕ → Type 0
IsFaultNumber n = (10 ≤ n) × (n ≤ 19)

-- why no graph was read: out of memory, or this is the first fault of the text
abbrev pub IsReadFaultOf : List ℕ → ReadFault → Type 0
IsReadFaultOf bytes f = (f.number ≡ 3) ⊎ (IsFaultNumber f.number × (text_read gr_rules bytes ≡ Err f))

-- memory ran out while the text was read: of the bytes that were taken no line breaks a rule, but
-- for those of the last read
pub record RunsOutWithin (bytes : List ℕ) : Type 0 where
  pub rest : Option (List ℕ)
  pub after : RunsOutAfter (BreaksNone gr_rules) (Some bytes) rest

-- why there is no memory: it ran out while the text was read, or it did not suffice for the graph
-- that the text spells
abbrev pub IsShortOfMemory : List ℕ → Type 0
IsShortOfMemory bytes = RunsOutWithin bytes ⊎ ((g : GraphData) × (text_read gr_rules bytes ≡ Ok g))

-- the status is the number of the first fault of the text, which is in this line
pub record IsFaultReported (bytes : List ℕ) (status : ℤ) (line : ℕ) : Type 0 where
  pub number : ℕ
  pub is_number : IsFaultNumber number
  pub status_is : status ≡ pos number
  pub first : text_read gr_rules bytes ≡ Err (fault_at line number)
