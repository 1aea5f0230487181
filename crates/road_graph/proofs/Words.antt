-- The words and lemmas that many proofs of this crate use.
pub use Rattle.road_graph.specs.GraphData.{GraphData, HasArc, HasVertex, IsAscendingFrom, IsGraph, IsRank, IsReversed, JoinsVertices, ListsArcsFrom, ListsRoadsFrom, ListsRoadsInto, arc_of, reversed_arc, road_of, roads_of}
pub use Rattle.road_graph.specs.Making.{AreCounts, AreEnds, AreNumbers, AreRoadRows, AreRows, IsEntry, IsIndex, count_at, end_of, numbers_at, reversed_of, start_at}
pub use Rattle.road_graph.specs.Placing.{Placed, PlacedRoads}
pub use Rattle.road_graph.specs.declared.OutRoad.{OutRoad}
pub use Rattle.road_graph.specs.declared.RoadArc.{RoadArc}
pub use Rattle.road_graph.specs.declared.Side.{Side}
pub use Rattle.road_graph.specs.declared.Side.TheVariants.{Head, Tail}
pub use Rattle.std.proofs.Common.{List, [], add-zero, ap, arith, drop, eq-eqb, eqb, get_or, get_or-set_other, get_or-set_same, inl, inr, length, map, refl, replicate, set, subst, suc, sum, sym, take, true, zero, ℕ, ◌++◌, ◌+◌, ◌-◌, ◌<◌, ◌∙◌, ◌∷◌, ◌≡◌, ◌≤◌, ◌⊎◌}
pub use Rattle.std.proofs.Math.Seq.{take-append_seam}
pub use Rattle.std.proofs.lemmas.Bool.{cases_eq, cases_lt}
pub use Rattle.std.proofs.lemmas.Grind.{common_steps}
pub use Rattle.std.proofs.lemmas.List.{ext_get_or, get_or-drop, get_or-map, get_or-take, get_or_default, get_or_read, length-drop, length-map, length-set, length-take-le, take_all}
pub use Rattle.std.specs.Prelude.{Contains, slice_range}
