-- The words and lemmas that many proofs of this crate use.
pub use Rattle.path_algebra.proofs.Walks.{all_inside}
pub use Rattle.path_algebra.specs.Algebra.{Algebra, IsLawful}
pub use Rattle.path_algebra.specs.Walks.{AreBest, AreHops, IsUnreached, IsWalk, is_marked, is_tight, is_tight_between, label_of}
pub use Rattle.halting.specs.Halting.{CanHalt}
pub use Rattle.road_graph.proofs.Lists.{head_or_tail, here, later, not_in_empty, same_some}
pub use Rattle.road_graph.specs.GraphData.{GraphData, HasArc, HasVertex, IsGraph, ListsArcsFrom, arc_of, reversed_arc, road_of, roads_of}
pub use Rattle.road_graph.specs.declared.OutRoad.{OutRoad}
pub use Rattle.route_tree.specs.Backward.{passes_back}
pub use Rattle.route_tree.specs.Blank.{AreFound, IsBlankBut}
pub use Rattle.route_tree.specs.BreadthFirst.{IsSameSearch, passes}
pub use Rattle.route_tree.specs.Levels.{AreLeast, AreLeastTails, IsLeastAt, IsLeastTail, IsMarked, IsPassed, IsTreeArc, IsWalkOf, Visiting, hops_if, next_if, parents_if, unreached}
pub use Rattle.route_tree.specs.Regions.{Covers, IsWithinHops, VisitingBack, is_tight_into, unmarked}
pub use Rattle.route_tree.specs.Told.{IsParentRoute}
pub use Rattle.route_tree.specs.Tree.{AreHopsAt, Branches, IsChain, IsLinked, IsLinkedAt, IsParentAt, IsRoute, IsTree, hops_of, parent_of}
pub use Rattle.std.proofs.Common.{Bool, List, None, Option, Some, [], add-one, ap, arith, cond, drop, drop-cons, eq-eqb, eqb, eqb-true, false, get_or, get_or-set_other, get_or-set_same, inl, inr, length, length-set, map, refl, replicate, reverse, set, subst, suc, sym, take, true, zero, ℕ, ◌++◌, ◌+◌, ◌-◌, ◌<◌, ◌∙◌, ◌∷◌, ◌≡◌, ◌≤◌, ◌⊎◌}
pub use Rattle.std.proofs.Math.ListN.{drop_of_length-le}
pub use Rattle.std.proofs.lemmas.Bool.{cases_eq}
pub use Rattle.std.proofs.lemmas.Grind.{common_steps}
pub use Rattle.std.proofs.lemmas.List.{get_or-map, get_or-replicate, get_or_default, length-append, length-map, length-replicate, nil_from_length}
pub use Rattle.std.proofs.lemmas.List.Elements.{All-cons, All-head, All-nil, All-tail, Contains-append_cases, Contains-append_left, Contains-append_right, Contains-push}
pub use Rattle.std.specs.Prelude.{All, Contains, IsTrue, ◌↔◌}
