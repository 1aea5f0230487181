-- Relaxing by heads and weights is relaxing by arc numbers.
use Rattle.tree_search.proofs.Words.{◌≡◌, ℕ, ◌+◌, List, [], ◌∷◌, refl, Option, Algebra, marked_if, relaxed_marks, Mark}
use Rattle.road_graph.specs.GraphData.{GraphData, arc_of, roads_of}
use Rattle.road_graph.specs.declared.OutRoad.{OutRoad}

-- the marks after u was extended along each road of a list
abbrev pub relaxed_by_roads : {V : Type 0} → Algebra V → ℕ → V → ℕ → List (Option (Mark V)) → List OutRoad → List (Option (Mark V))
relaxed_by_roads A u x h marks [] = marks
relaxed_by_roads A u x h marks (r ∷ roads) = relaxed_by_roads A u x h (marked_if A.no_worse marks r.head (A.extend x r.weight) (h + 1) u) roads

pub relaxed_is : {V : Type 0} (A : Algebra V) (g : GraphData) (u : ℕ) (x : V) (h : ℕ) (marks : List (Option (Mark V))) (numbers : List ℕ) →
    relaxed_marks A g u x h marks numbers ≡ relaxed_by_roads A u x h marks (roads_of g numbers)
relaxed_is A g u x h marks [] = refl
relaxed_is A g u x h marks (a ∷ numbers) = relaxed_is A g u x h (marked_if A.no_worse marks (arc_of g a).head (A.extend x (arc_of g a).weight) (h + 1) u) numbers
