-- The state of the parser of a graph file, in the terms of the rules.
use Rattle.std.specs.Prelude.{◌≡◌, ℕ, ◌<◌, ◌≤◌, length, List, Option, option_map, IfSome, Result, Bool}
use Rattle.road_graph.specs.GraphData.{GraphData}
use Rattle.text_lines.specs.declared.faults.ReadFault.{ReadFault}
use Rattle.text_lines.specs.Takes.{GivesBy}
use Rattle.text_lines.specs.Meaning.{Meaning}
use Rattle.graph_text.specs.declared.graph_builder.GraphBuilder.{GraphBuilder}
use Rattle.graph_text.specs.declared.graph_parser.GraphParser.{GraphParser}
use Rattle.graph_text.specs.GraphFiles.{RoadsSoFar, gr_rules}

-- what was announced, and the arcs that were taken
abbrev pub roads_so_far : GraphBuilder → RoadsSoFar
roads_so_far t = record { vertices = t.vertices; announced = t.announced; arcs = t.arcs.items }

-- one more arc is announced, and this one breaks no rule
pub record FitsArc (roads : RoadsSoFar) (tail head weight : ℕ) : Type 0 where
  pub room : length roads.arcs < roads.announced
  pub tail_in : (1 ≤ tail) × (tail ≤ roads.vertices)
  pub head_in : (1 ≤ head) × (head ≤ roads.vertices)
  pub weight_in : weight ≤ 4294967295

-- what was announced and taken, if a problem line was read
abbrev pub taken_of : GraphParser → Option RoadsSoFar
taken_of s = option_map roads_so_far s.taken

-- no memory is reserved for arcs before the first of them is read, whatever was announced
abbrev pub HoldsNoRoom : Option GraphBuilder → Type 0
HoldsNoRoom taken = IfSome taken (λ t. t.arcs.cap ≡ 0)

-- the lines from a line number on give this, where `roads` is the data of a graph
abbrev pub GivesRoads : {G : Type 0} → (G → GraphData) → Bool → GraphParser → ℕ → List (List ℕ) → Result G ReadFault → Type 0
GivesRoads roads cut s at ls r = GivesBy gr_rules (taken_of s) roads cut at ls r

-- no field is kept before its line ends
abbrev pub graph_meaning : {S G : Type 0} → (S → GraphParser) → (G → GraphData) → Meaning S G
graph_meaning parser roads = record { gives = λ cut s at ls r. GivesRoads roads cut (parser s) at ls r; so_far = λ _ _. Unit {0} }
