-- Graph files, by their lines: comments, a problem line `p sp N M`, and M arc lines `a U V W`.
use Rattle.std.specs.Prelude.{ℕ, ◌==◌, not, List, [], ◌∷◌, ◌++◌, length, map, slice_index, if◌then◌else◌, Option, Some, None, nat_lt, is_none, Result, Ok, Err, codes, bytes_eq}
use Rattle.road_graph.specs.declared.RoadArc.{RoadArc}
use Rattle.road_graph.specs.GraphData.{GraphData}
use Rattle.text_lines.specs.Rules.{◌>>=◌, unless, Rules}
use Rattle.text_lines.specs.Words.{Word, word_of, word_at}
use Rattle.graph_text.specs.Numbers.{up_to, vertex_in}

-- what the problem line announces, and the arcs so far
pub record RoadsSoFar : Type 0 where
  pub vertices : ℕ
  pub announced : ℕ
  pub arcs : List RoadArc

-- what the problem line announced: 10 if there was none
abbrev pub roads_before : Option RoadsSoFar → Result RoadsSoFar ℕ
roads_before None = Err 10
roads_before (Some s) = Ok s

-- a problem line: it is the first, it has four fields, the second is `sp`, then the numbers of
-- vertices and of arcs
unfoldable pub gr_problem : Option RoadsSoFar → List Word → Result (Option RoadsSoFar) ℕ
gr_problem s ws = do
  _ ← unless (is_none s) 11
  _ ← unless (length ws == 4) 12
  _ ← unless (bytes_eq (word_at 1 ws).text (codes "sp")) 12
  vertices ← up_to 33554432 (word_at 2 ws).number
  announced ← up_to 134217728 (word_at 3 ws).number
  Ok (Some (record { vertices = vertices; announced = announced; arcs = [] }))

-- an arc line after the problem line: it is announced, it has four fields, then tail, head and
-- weight
unfoldable pub one_arc : RoadsSoFar → List Word → Result RoadsSoFar ℕ
one_arc roads ws = do
  _ ← unless (nat_lt (length roads.arcs) roads.announced) 18
  _ ← unless (length ws == 4) 14
  tail ← vertex_in roads.vertices (word_at 1 ws).number
  head ← vertex_in roads.vertices (word_at 2 ws).number
  weight ← up_to 4294967295 (word_at 3 ws).number
  Ok (record roads { arcs = roads.arcs ++ record { tail = tail; head = head; weight = weight } ∷ [] })

-- an arc line
abbrev pub gr_arc : Option RoadsSoFar → List Word → Result (Option RoadsSoFar) ℕ
gr_arc s ws = do
  roads ← roads_before s
  more ← one_arc roads ws
  Ok (Some more)

-- a line: blank, a comment, a problem line, an arc line, or unknown
unfoldable pub gr_line : Option RoadsSoFar → List Word → Result (Option RoadsSoFar) ℕ
gr_line s ws =
    if length ws == 0 then Ok s
    else if slice_index (word_at 0 ws).text 0 == 99 then Ok s
    else if bytes_eq (word_at 0 ws).text (codes "p") then gr_problem s ws
    else if bytes_eq (word_at 0 ws).text (codes "a") then gr_arc s ws
    else Err 13

-- the end: all announced arcs are there
abbrev pub gr_whole : Option RoadsSoFar → Result RoadsSoFar ℕ
gr_whole s = do
  roads ← roads_before s
  _ ← unless (not (nat_lt (length roads.arcs) roads.announced)) 19
  Ok roads

-- the graph that was read
abbrev pub graph_read : RoadsSoFar → GraphData
graph_read r = record { vertices = r.vertices; arcs = r.arcs }

-- the graph, if all announced arcs are there
abbrev pub gr_end : Option RoadsSoFar → Result GraphData ℕ
gr_end s = do
  roads ← gr_whole s
  Ok (graph_read roads)

-- the rules of graph files
abbrev pub gr_rules : Rules (Option RoadsSoFar) GraphData
gr_rules = record { start = None; line = λ s fs. gr_line s (map word_of fs); end = gr_end }
