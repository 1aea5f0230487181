-- The words and lemmas that many proofs of this crate use.
pub use Rattle.answer_lists.specs.Answers.{HavePlaces, IsFound}
pub use Rattle.answer_lists.specs.Kept.{IsKeptOver}
pub use Rattle.answer_lists.specs.Near.{HasReached, code_at, hops_at, parent_at}
pub use Rattle.answer_lists.specs.Sharing.{Shared, is_factored}
pub use Rattle.answer_lists.specs.Table.{AreRowCodes, AreTableCodes, IsTableCode}
pub use Rattle.answer_lists.specs.Tree.{HasLowCodes, code_for, line_of, lines_of, number_for}
pub use Rattle.answer_lists.specs.declared.kept.Kept.{Kept}
pub use Rattle.answer_text.specs.IsAnswer.{IsVertexLine}
pub use Rattle.arc_numbers.specs.RouteArcs.{AreRouteArcs}
pub use Rattle.path_algebra.specs.Algebra.{Algebra, IsLawful}
pub use Rattle.path_algebra.specs.Choices.{Under}
pub use Rattle.path_algebra.specs.Counted.{CountsFit, cost_of}
pub use Rattle.path_algebra.specs.Walks.{IsBestCode, IsBestLabel, label_of}
pub use Rattle.path_algebra.specs.declared.choice.AlgebraChoice.{AlgebraChoice}
pub use Rattle.path_algebra.specs.declared.choice.AlgebraChoice.TheVariants.{Hops, Reach, Reliable, Shortest, Widest, Within}
pub use Rattle.path_algebra.specs.declared.counted_sums.Cost.{Cost}
pub use Rattle.road_graph.specs.GraphData.{GraphData, HasVertex, IsGraph}
pub use Rattle.route_tree.specs.Found.{IsRouteBetween, found_of}
pub use Rattle.route_tree.specs.Searchers.{IsSearcherOf}
pub use Rattle.route_tree.specs.Told.{IsToldOf}
pub use Rattle.route_tree.specs.Tree.{hops_of, parent_of}
pub use Rattle.std.proofs.Common.{Bool, List, None, Option, Some, [], ap, arith, drop, false, get_or, inl, inr, length, of_z, refl, rules, subst, sym, take, to_z, true, w32, ℕ, ◌++◌, ◌+◌, ◌<◌, ◌∙◌, ◌∷◌, ◌≡◌}
pub use Rattle.std.specs.Arc.{arc_value}
pub use Rattle.std.specs.List.{AllZip}
pub use Rattle.std.specs.Prelude.{All, IfSome, map, pos}
pub use Rattle.tree_search.specs.Searcher.{TreeSearcherState}
