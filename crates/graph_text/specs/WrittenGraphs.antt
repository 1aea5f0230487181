-- The one written spelling of a graph: lines of words.
use Rattle.std.specs.Prelude.{ℕ, List, [], ◌∷◌, length, map, codes, decimal}
use Rattle.road_graph.specs.declared.RoadArc.{RoadArc}
use Rattle.road_graph.specs.GraphData.{GraphData}
use Rattle.text_lines.specs.Texts.{text_of}

-- `p sp N M`
abbrev pub graph_words : ℕ → ℕ → List (List ℕ)
graph_words vertices arcs = codes "p" ∷ codes "sp" ∷ decimal vertices ∷ decimal arcs ∷ []

-- `a U V W`
abbrev pub arc_words : RoadArc → List (List ℕ)
arc_words a = codes "a" ∷ decimal a.tail ∷ decimal a.head ∷ decimal a.weight ∷ []

-- a problem line, and a line for each arc
abbrev pub graph_lines : GraphData → List (List (List ℕ))
graph_lines g = graph_words g.vertices (length g.arcs) ∷ map arc_words g.arcs

-- the text of a graph
unfoldable pub gr_text : GraphData → List ℕ
gr_text g = text_of (graph_lines g)
