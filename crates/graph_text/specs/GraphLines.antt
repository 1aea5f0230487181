-- What the lines of a text say of a graph: each arc line is an arc, and the problem line counts
-- vertices and arcs.
use Rattle.std.specs.Prelude.{◌≡◌, ℕ, Bool, List, [], ◌∷◌, length, filter, Some, ⊤, codes, bytes_eq}
use Rattle.road_graph.specs.declared.RoadArc.{RoadArc}
use Rattle.road_graph.specs.GraphData.{GraphData}
use Rattle.text_lines.specs.Lines.{fields, number}

-- the first field of a line, empty if it has none
abbrev pub first_field : List (List ℕ) → List ℕ
first_field [] = []
first_field (f ∷ fs) = f

-- whether the first field of a line is this word
abbrev pub begins_with : List ℕ → List ℕ → Bool
begins_with word line = bytes_eq (first_field (fields line)) word

-- the lines that begin with `a`
abbrev pub arc_lines : List (List ℕ) → List (List ℕ)
arc_lines lines = filter (begins_with (codes "a")) lines

-- the lines that begin with `p`
abbrev pub problem_lines : List (List ℕ) → List (List ℕ)
problem_lines lines = filter (begins_with (codes "p")) lines

-- the line is `a U V W`, and U, V and W are the arc's tail, head and weight
pub record SaysArc (line : List ℕ) (a : RoadArc) : Type 0 where
  pub tail : List ℕ
  pub head : List ℕ
  pub weight : List ℕ
  pub fields_are : fields line ≡ codes "a" ∷ tail ∷ head ∷ weight ∷ []
  pub tail_is : number tail ≡ Some a.tail
  pub head_is : number head ≡ Some a.head
  pub weight_is : number weight ≡ Some a.weight

-- the line is `p sp N M`, and N and M are the numbers of vertices and of arcs
pub record SaysSizes (line : List ℕ) (vertices arcs : ℕ) : Type 0 where
  pub n : List ℕ
  pub m : List ℕ
  pub fields_are : fields line ≡ codes "p" ∷ codes "sp" ∷ n ∷ m ∷ []
  pub vertices_is : number n ≡ Some vertices
  pub arcs_is : number m ≡ Some arcs

-- line i says arc i, and there are as many lines as arcs
abbrev pub SayArcs : List (List ℕ) → List RoadArc → Type 0
SayArcs [] [] = ⊤
SayArcs [] (a ∷ as') = ⊥
SayArcs (l ∷ ls) [] = ⊥
SayArcs (l ∷ ls) (a ∷ as') = SaysArc l a × SayArcs ls as'

-- the arcs of the graph are those of the arc lines, in order, and the one problem line counts
-- vertices and arcs
pub record SayGraph (lines : List (List ℕ)) (g : GraphData) : Type 0 where
  pub arcs : SayArcs (arc_lines lines) g.arcs
  pub problem : List ℕ
  pub only_problem : problem_lines lines ≡ problem ∷ []
  pub sizes : SaysSizes problem g.vertices (length g.arcs)
