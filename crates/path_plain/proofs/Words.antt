-- The words and lemmas that many proofs of this crate use.
pub use Rattle.path_algebra.proofs.Least.{other_no_worse, same_no_worse}
pub use Rattle.path_algebra.proofs.Walks.{all_inside, walk_value_is_value}
pub use Rattle.path_algebra.specs.Algebra.{Algebra, IsLawful, IsOrder}
pub use Rattle.path_algebra.specs.Open.{AnswersBestOpen, IsBestOpen}
pub use Rattle.path_algebra.specs.Walks.{AreBest, improved, label_of, offered, relaxed}
pub use Rattle.path_plain.specs.Noting.{AreNoted, IsNoted, noted_if, noted_list}
pub use Rattle.path_plain.specs.Opening.{AreOpening}
pub use Rattle.path_plain.specs.Queue.{IsQueue}
pub use Rattle.path_plain.specs.Rounds.{Between, IsSearchedAsFar, StaysBetween}
pub use Rattle.path_plain.specs.Searching.{Advances, IsOfSame, IsSameSearch, Relaxes, SearchState}
pub use Rattle.path_plain.specs.UpTo.{AreBestUpTo, IsPast}
pub use Rattle.ranked_queue.proofs.Bounds.{bound_is_ahead}
pub use Rattle.ranked_queue.specs.Order.{ranked_cmp}
pub use Rattle.road_graph.proofs.Lists.{head_or_tail, here, later, not_in_empty}
pub use Rattle.road_graph.specs.GraphData.{GraphData, HasVertex, IsGraph, ListsArcsFrom, arc_of}
pub use Rattle.std.proofs.Common.{Bool, List, None, Option, Some, [], ap, arith, cond, drop, false, get_or, get_or-set_other, get_or-set_same, inl, inr, length, length-set, not, refl, replicate, set, subst, suc, sym, take, true, zero, ℕ, ◌*◌, ◌+◌, ◌-◌, ◌<◌, ◌∙◌, ◌∷◌, ◌≡◌, ◌≤◌, ◌⊎◌}
pub use Rattle.std.proofs.lemmas.Bool.{cases_Bool, cases_eq}
pub use Rattle.std.proofs.lemmas.Grind.{common_steps}
pub use Rattle.std.proofs.lemmas.List.{get_or-replicate, get_or_default, length-replicate}
pub use Rattle.std.proofs.lemmas.List.Elements.{Contains-append_left, Contains-push, Contains-push_cases}
pub use Rattle.std.proofs.lemmas.List.Sorted.{Contains-permutation, IsPermutation-sym}
pub use Rattle.std.proofs.lemmas.List.Sums.{sum_by-set}
pub use Rattle.std.specs.BinaryHeap.{IsUpperBound}
pub use Rattle.std.specs.List.Sorted.{IsPermutation}
pub use Rattle.std.specs.Prelude.{All, Contains, IsTrue, is_some}
