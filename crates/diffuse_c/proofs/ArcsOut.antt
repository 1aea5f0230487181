-- The roads out of a vertex, with the vertex as their tail, are its arcs.
use Rattle.diffuse_c.proofs.Words.{◌≡◌, ℕ, List, [], ◌∷◌, get_or, refl, ap, ◌∙◌, subst, map, All, RoadArc, AreArcsFrom, arc_out_of, arc_from}
use Rattle.std.proofs.lemmas.List.Elements.{All-head, All-tail, All-contains_itself}
use Rattle.road_graph.specs.declared.OutRoad.{OutRoad}
use Rattle.road_graph.specs.GraphData.{GraphData, ListsRoadsFrom, arc_of, road_of, roads_of}

one : (v : ℕ) (a : RoadArc) → a.tail ≡ v → arc_from (arc_out_of v (road_of a)) ≡ a
one v a e = subst (λ (t : ℕ). arc_from (arc_out_of t (road_of a)) ≡ a) e refl

each : (g : GraphData) (v : ℕ) (numbers : List ℕ) → All (λ a. (arc_of g a).tail ≡ v) numbers → map arc_from (map (arc_out_of v) (roads_of g numbers)) ≡ map (arc_of g) numbers
each g v [] all = refl
each g v (a ∷ more) all =
    ap (λ x. x ∷ map arc_from (map (arc_out_of v) (roads_of g more))) (one v (arc_of g a) (All-head (λ b. (arc_of g b).tail ≡ v) a more all)) ∙ ap (λ xs. arc_of g a ∷ xs) (each g v more (All-tail (λ b. (arc_of g b).tail ≡ v) a more all))

pub arcs_out : (g : GraphData) (v : ℕ) (roads : List OutRoad) → ListsRoadsFrom g v roads → AreArcsFrom g v (map (arc_out_of v) roads)
arcs_out g v roads lists =
    let numbers : List ℕ = lists.0 in
    let all : All (λ a. (arc_of g a).tail ≡ v) numbers = λ (k d : ℕ) lt. ((lists.1.complete (get_or numbers k d)).0 (All-contains_itself numbers k d lt)).1 in
    (numbers, lists.1, ap (λ (rs : List OutRoad). map arc_from (map (arc_out_of v) rs)) lists.2 ∙ each g v numbers all)
