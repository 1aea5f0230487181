-- The roads of the arcs into a vertex, reversed, lead to vertices.
use Rattle.answer_check.proofs.Words.{◌≡◌, ℕ, ◌≤◌, ◌<◌, List, length, get_or, ap, sym, subst, ◌∙◌, arith, All, GraphData, IsGraph, HasVertex, ListsRoadsInto, arc_of, road_of, reversed_arc, OutRoad}
use Rattle.std.proofs.lemmas.List.{get_or-map, length-map, get_or_default}

pub ends_inside : (g : GraphData) → IsGraph g → (v n : ℕ) → n ≡ g.vertices → (roads : List OutRoad) → ListsRoadsInto g v roads → All (λ r. (1 ≤ r.head) × (r.head ≤ n)) roads
ends_inside g ok v n e roads lists i r lt =
    let count : length roads ≡ length lists.0 = rw (lists.2) (simp length-map) in
    let below : i < length lists.0 = omega (arith, count, lt) in
    let at : get_or roads i r ≡ road_of (reversed_arc (arc_of g (get_or lists.0 i 0))) =
    ap (λ (o : List OutRoad). get_or o i r) lists.2 ∙ get_or-map (λ a. road_of (reversed_arc (arc_of g a))) lists.0 i 0 r below in
    let has = ((lists.1 (get_or lists.0 i 0)).0 (i, below, get_or_default lists.0 i (get_or lists.0 i 0) 0 below)).0 in
    let tail : HasVertex g (get_or roads i r).head = subst (λ (q : OutRoad). HasVertex g q.head) (sym at) ((ok.ends (get_or lists.0 i 0) has).0) in
    (tail.0, omega (arith, tail.1, e))
