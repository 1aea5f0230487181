-- The words and lemmas that many proofs of this crate use.
pub use Rattle.factor_routes.specs.Greatest.{greatest_into}
pub use Rattle.factor_routes.specs.Numbers.{AreBestNumbers, numbers_of}
pub use Rattle.factor_routes.specs.Tails.{IsCountedChain, IsCountedRoute, IsLeastTail, adding_up, lesser}
pub use Rattle.path_algebra.proofs.Tight.{best_is_one}
pub use Rattle.path_algebra.specs.Algebra.{Algebra}
pub use Rattle.path_algebra.specs.Carried.{carried_value}
pub use Rattle.path_algebra.specs.Counted.{AreBestInto, CountsFit, IsCountedStepOf, cost_of, counted, counted_cost, sum_to}
pub use Rattle.path_algebra.specs.CountedWalks.{counted_laws}
pub use Rattle.path_algebra.specs.Walks.{AreBest, IsBest, IsBestLabel, label_of}
pub use Rattle.path_algebra.specs.declared.counted_sums.Cost.{Cost}
pub use Rattle.path_algebra.specs.declared.counted_sums.CountedSums.{CountedSums}
pub use Rattle.path_factors.specs.State.{FactorState}
pub use Rattle.road_graph.specs.GraphData.{GraphData, HasArc, HasVertex, IsGraph, ListsRoadsInto, arc_of, reversed_arc, road_of}
pub use Rattle.road_graph.specs.declared.OutRoad.{OutRoad}
pub use Rattle.route_tree.specs.Told.{IsToldOf}
pub use Rattle.route_tree.specs.Tree.{AreHopsAt, Branches, IsParentAt, IsTree, hops_of, parent_of}
pub use Rattle.std.proofs.Common.{IfOk, IfSome, List, None, Option, Some, [], ap, arith, drop, get_or, inl, inr, length, refl, subst, sym, ℕ, ◌%◌, ◌*◌, ◌++◌, ◌+◌, ◌-◌, ◌<◌, ◌^◌, ◌∙◌, ◌∷◌, ◌≡◌, ◌≤◌, ◌⊎◌}
pub use Rattle.std.proofs.Math.Nat.{mul-le-mul_left, mul-le-mul_right}
pub use Rattle.std.proofs.Math.Pow.{pow_mono}
pub use Rattle.std.proofs.lemmas.Bool.Decides.{nat_tests}
pub use Rattle.std.proofs.lemmas.Grind.{common_steps}
pub use Rattle.std.proofs.lemmas.List.{get_or_default}
pub use Rattle.std.proofs.lemmas.List.Elements.{All-cons, All-contains, All-nil}
pub use Rattle.std.specs.Prelude.{IsSome, is_some, option_map}
