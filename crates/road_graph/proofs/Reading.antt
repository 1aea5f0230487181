-- What is read of a row.
use Rattle.road_graph.proofs.Words.{◌≡◌, ℕ, ◌+◌, ◌-◌, List, take, drop, get_or, refl, arith, OutRoad, Tail, GraphData, HasVertex, ListsArcsFrom, ListsRoadsFrom, roads_of, road_of, arc_of, numbers_at, AreRows}
use Rattle.std.specs.List.{drop-map, take-map}
use Rattle.road_graph.proofs.Numbers.{lists_from}

module _ (g : GraphData) (v : ℕ) (in_v : HasVertex g v) (starts numbers : List ℕ) (start past : ℕ) (from : start ≡ get_or starts (v - 1) 0) (to : past ≡ get_or starts v 0) where
  row_is : AreRows Tail g.vertices g.arcs starts numbers → take (past - start) (drop start numbers) ≡ numbers_at Tail v 0 g.arcs
  row_is known =
      let back : v - 1 + 1 ≡ v = omega (arith, in_v.0) in
      rw (from, to) (rw back at (known.rows (v - 1) (omega (arith, in_v.0, in_v.1))))

  pub row_lists_from : (list : List ℕ) → list ≡ numbers → AreRows Tail g.vertices g.arcs starts numbers → ListsArcsFrom g v (take (past - start) (drop start list))
  row_lists_from list is known = rw (is, row_is known) (lists_from g v)

  pub row_lists_roads : (list : List OutRoad) → list ≡ roads_of g numbers → AreRows Tail g.vertices g.arcs starts numbers → ListsRoadsFrom g v (take (past - start) (drop start list))
  row_lists_roads list is known = (
    take (past - start) (drop start numbers),
    row_lists_from numbers refl known,
    rw (is, drop-map (λ a. road_of (arc_of g a)) start numbers, take-map (λ a. road_of (arc_of g a)) (past - start) (drop start numbers)) refl,
  )
