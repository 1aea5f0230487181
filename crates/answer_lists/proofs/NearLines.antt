-- Labels and a tree give the lines of a list of vertices.
use Rattle.answer_lists.proofs.Words.{◌≡◌, ℕ, List, [], ◌∷◌, refl, AllZip, All, map, GraphData, IsGraph, HasVertex, Algebra, IsLawful, label_of, IsToldOf, hops_of, parent_of, TreeSearcherState, IsVertexLine, HasReached, code_at, hops_at, parent_at, HasLowCodes, line_of, lines_of}
use Rattle.std.proofs.lemmas.List.{get_or_default, length-map}
use Rattle.std.proofs.lemmas.List.Elements.{All-head, All-tail}
use Rattle.tree_search.specs.Nearest.{AreNearest}
use Rattle.answer_lists.proofs.Telling.{told_at}

module _ {V : Type 0} (A : Algebra V) (g : GraphData) (sources vertices : List ℕ) (nearest : AreNearest A g sources vertices) where
  -- what is reached are vertices
  are_vertices : All (HasVertex g) vertices
  are_vertices = λ k d lt. ((nearest.reached _).0 (k, lt, get_or_default vertices k _ d lt)).0

module _ {V : Type 0} (A : Algebra V) (lawful : IsLawful A) (low : HasLowCodes A) (g : GraphData) (roads : IsGraph g) (sources : List ℕ) (t : TreeSearcherState V)
    (agree : (v : ℕ) → HasVertex g v → IsToldOf A g sources v (label_of t.labels v) (hops_of t.tree v) (parent_of t.tree v)) where
  -- the line of each vertex
  line_at : (v : ℕ) → HasVertex g v → IsVertexLine A g sources v (line_of (code_at A t.labels v) (hops_at t.tree v) (parent_at t.tree v))
  line_at v in_v = told_at A lawful low g roads sources v (label_of t.labels v) (hops_of t.tree v) (parent_of t.tree v) (agree v in_v) _ _ _ refl refl refl

  lines_at : (vs : List ℕ) → All (HasVertex g) vs →
      AllZip (IsVertexLine A g sources) vs (lines_of (map (code_at A t.labels) vs) (map (hops_at t.tree) vs) (map (parent_at t.tree) vs))
  lines_at [] all = tt
  lines_at (v ∷ vs) all = (line_at v (All-head (HasVertex g) v vs all), lines_at vs (All-tail (HasVertex g) v vs all))

  -- so it has reached what it lists
  pub has_reached : t.roads ≡ g → AreNearest A g sources t.reached → HasReached A g sources t
  has_reached same nearest = let inside = are_vertices A g sources t.reached nearest in record {
    roads = same;
    vertices = inside;
    near = record {
      nearest = nearest;
      places = (length-map t.reached (code_at A t.labels), length-map t.reached (hops_at t.tree), length-map t.reached (parent_at t.tree));
      lines = lines_at t.reached inside;
    };
    lines = line_at;
  }
