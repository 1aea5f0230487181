-- The words and lemmas that many proofs of this crate use.
pub use Rattle.arc_numbers.specs.BestRoad.{IsBestRoad, IsBestRoadOrNone, LeadsTo, better_road, road_at}
pub use Rattle.arc_numbers.specs.Numbering.{HasSameRoads, IsReordered}
pub use Rattle.arc_numbers.specs.RouteArcs.{AreRouteArcs, IsBestStep, IsStep}
pub use Rattle.arc_numbers.specs.Rows.{AreRowsFrom}
pub use Rattle.path_algebra.specs.Algebra.{Algebra}
pub use Rattle.path_algebra.specs.Walks.{IsBestCode, IsParentChain}
pub use Rattle.road_graph.specs.GraphData.{GraphData, HasVertex, ListsArcsFrom, ListsRoadsFrom, roads_of}
pub use Rattle.road_graph.specs.declared.OutRoad.{OutRoad}
pub use Rattle.std.proofs.Common.{Bool, List, None, Option, Some, [], ap, arith, drop, get_or, inl, inr, length, refl, set, subst, sym, take, ℕ, ◌++◌, ◌+◌, ◌-◌, ◌<◌, ◌∙◌, ◌∷◌, ◌≡◌, ◌≤◌}
pub use Rattle.std.proofs.Math.Nat.{eq-or-lt_of_le}
pub use Rattle.std.proofs.lemmas.List.{get_or_read, take_all}
pub use Rattle.std.specs.Prelude.{IsTrue, MatchOption}
