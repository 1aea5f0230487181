-- Bundles, by their lines: a graph part and then a question part, which begins at a problem line
-- with `aux`.
use Rattle.std.specs.Prelude.{ℕ, ◌&&◌, List, length, map, if◌then◌else◌, Option, None, Result, Ok, Err, codes, bytes_eq, Bool, nat_lt, drop}
use Rattle.road_graph.specs.GraphData.{GraphData}
use Rattle.text_lines.specs.Rules.{◌>>=◌, Rules}
use Rattle.text_lines.specs.Words.{Word, word_of, word_at}
use Rattle.graph_text.specs.GraphFiles.{RoadsSoFar, gr_line, gr_whole, graph_read}
use Rattle.road_files.specs.Asked.{Asked, asked_of}
use Rattle.road_files.specs.declared.questions.Questions.{Questions}
use Rattle.road_files.specs.QuestionFiles.{AskedSoFar, question_problem, question_line_of, begins_list, vertices_in, question_end}

-- a graph and questions in memory as plain data
abbrev pub bundle_of : GraphData × Questions → GraphData × Asked
bundle_of b = (b.0, asked_of b.1)

-- the same for any type of graph, whose data is `roads`
abbrev pub bundle_with : {G : Type 0} → (G → GraphData) → G × Questions → GraphData × Asked
bundle_with roads b = (roads b.0, asked_of b.1)

-- the part that is being read, with what was read so far
pub data BundleSoFar : Type 0 where
  InGraph : (graph : Option RoadsSoFar) → BundleSoFar
  InQuestions : (graph : RoadsSoFar) → (questions : Option AskedSoFar) → BundleSoFar

-- a problem line whose second field is `aux`
unfoldable pub begins_questions : List Word → Bool
begins_questions ws = nat_lt 1 (length ws) && (bytes_eq (word_at 0 ws).text (codes "p") && bytes_eq (word_at 1 ws).text (codes "aux"))

-- the line that ends the graph part: the graph is whole, and the line is the problem line of the
-- question part
abbrev pub first_question_line : Option RoadsSoFar → List Word → Result BundleSoFar ℕ
first_question_line s ws = do
  roads ← gr_whole s
  questions ← question_problem None None ws
  Ok (InQuestions roads questions)

-- a line of the graph part
abbrev pub graph_part_line : Option RoadsSoFar → List Word → Result BundleSoFar ℕ
graph_part_line s ws = do
  graph ← gr_line s ws
  Ok (InGraph graph)

-- a line of the question part
abbrev pub question_part_line : RoadsSoFar → Option AskedSoFar → List Word → Bool → ℕ → Result (List ℕ) ℕ → Result BundleSoFar ℕ
question_part_line roads s ws in_list count vertices = do
  questions ← question_line_of roads.vertices None s ws in_list count vertices
  Ok (InQuestions roads questions)

-- a line, in the part that is being read
abbrev pub bundle_line : BundleSoFar → List Word → Result BundleSoFar ℕ
bundle_line (InGraph s) ws = if begins_questions ws then first_question_line s ws else graph_part_line s ws
bundle_line (InQuestions roads s) ws = question_part_line roads s ws (begins_list ws) (length ws) (vertices_in roads.vertices (drop 1 ws))

-- the end; in the graph part it has a fault: the graph is not whole, or there are no questions
abbrev pub bundle_end : BundleSoFar → Result (GraphData × Asked) ℕ
bundle_end (InGraph s) = gr_whole s >>= λ roads. Err 10
bundle_end (InQuestions roads s) = do
  asked ← question_end s
  Ok (graph_read roads, asked)

-- the rules of bundles
abbrev pub bundle_rules : Rules BundleSoFar (GraphData × Asked)
bundle_rules = record { start = InGraph None; line = λ s fs. bundle_line s (map word_of fs); end = bundle_end }
