-- The words and lemmas that many proofs of this crate use.
pub use Rattle.path_algebra.specs.Algebra.{Algebra, IsLawful}
pub use Rattle.path_algebra.specs.Counted.{CarryHops, CarryHopsWithin, IsLeastCost, counted, sum_of_costs, sum_to}
pub use Rattle.path_algebra.specs.Given.{within}
pub use Rattle.path_algebra.specs.Laws.{held_sums}
pub use Rattle.path_algebra.specs.Names.{AlgebraName}
pub use Rattle.path_algebra.specs.Open.{AnswersBestOpen}
pub use Rattle.path_algebra.specs.Walks.{AreBest, Extends, IsBest, IsBestLabel, IsUnreached, IsWalk, IsWalkFrom, IsWalkValue, better_label, label_of}
pub use Rattle.road_graph.proofs.Lists.{head_or_tail, here, later, not_in_empty}
pub use Rattle.road_graph.specs.GraphData.{GraphData, HasArc, HasVertex, IsGraph, arc_of}
pub use Rattle.std.proofs.Common.{Bool, List, None, Option, Some, [], ap, arith, cond, eq-eqb, eqb, false, get_or, inl, inr, le-leb, leb-true, length, min, ne_eqb, refl, subst, suc, sym, true, zero, ℕ, ◌%◌, ◌*◌, ◌++◌, ◌+◌, ◌-◌, ◌/◌, ◌<◌, ◌^◌, ◌↔◌, ◌∙◌, ◌∷◌, ◌≡◌, ◌≤◌, ◌⊎◌}
pub use Rattle.std.proofs.Math.Nat.{add-mul, mul-le-mul_right}
pub use Rattle.std.proofs.lemmas.Bool.{cases_eq}
pub use Rattle.std.proofs.lemmas.Grind.{common_steps}
pub use Rattle.std.proofs.lemmas.List.Elements.{Contains-append_cases, Contains-append_left, Contains-append_right}
pub use Rattle.std.specs.Prelude.{All, Contains, IsTrue}
