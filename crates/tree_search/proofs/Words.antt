-- The words and lemmas that many proofs of this crate use.
pub use Rattle.path_algebra.proofs.Least.{other_no_worse, same_no_worse}
pub use Rattle.path_algebra.proofs.Walks.{all_inside}
pub use Rattle.path_algebra.specs.Algebra.{Algebra, IsLawful, IsOrder}
pub use Rattle.path_algebra.specs.Open.{AnswersBestOpen, IsBestOpen}
pub use Rattle.path_algebra.specs.Walks.{AreBest, label_of}
pub use Rattle.path_plain.proofs.Known.{IsSettled, none_settled}
pub use Rattle.halting.specs.Halting.{CanHalt}
pub use Rattle.path_plain.specs.Noting.{AreNoted}
pub use Rattle.ranked_queue.specs.Order.{by_number, by_number_order, ranked_cmp, tells, told}
pub use Rattle.road_graph.proofs.Lists.{not_in_empty, same_some}
pub use Rattle.road_graph.specs.GraphData.{GraphData, HasArc, HasVertex, IsGraph, arc_of}
pub use Rattle.route_tree.specs.Tree.{IsLinked, IsTree}
pub use Rattle.std.proofs.Common.{Bool, List, None, Option, Some, [], ap, arith, cond, drop, false, get_or, get_or-set_other, get_or-set_same, inl, inr, length, length-set, map, not, refl, replicate, set, subst, suc, sym, take, true, zero, ℕ, ◌*◌, ◌++◌, ◌+◌, ◌-◌, ◌<◌, ◌∙◌, ◌∷◌, ◌≡◌, ◌≤◌, ◌⊎◌}
pub use Rattle.std.proofs.Math.ListN.{get_or-map}
pub use Rattle.std.proofs.lemmas.Bool.{cases_Bool, cases_eq, ne_eqb}
pub use Rattle.std.proofs.lemmas.Bool.Decides.{eqb_tells}
pub use Rattle.std.proofs.lemmas.List.{get_or_default, length-map}
pub use Rattle.std.proofs.lemmas.List.Elements.{Contains-append_left, Contains-push, Contains-push_cases}
pub use Rattle.std.specs.BinaryHeap.{IsUpperBound}
pub use Rattle.std.specs.Prelude.{All, Contains, IsTrue, option_map}
pub use Rattle.tree_search.specs.Marks.{hops_in, is_better, is_lesser, key_of, keys_in, marked, marked_if, parent_or_none, parents_in, relaxed_marks, source_mark, unsettled, values_in}
pub use Rattle.tree_search.specs.Opening.{AreOpening}
pub use Rattle.tree_search.specs.Searching.{AreSettledOn, Forgoes, IsSameSearch, Proceeds, Relaxes, SearchState, is_end, listed_after}
pub use Rattle.tree_search.specs.declared.mark.Mark.{Mark}
pub use Rattle.tree_search.specs.declared.step.Step.{Step}
pub use Rattle.tree_search.specs.declared.step.Step.TheVariants.{Dropped, Ended, Settled}
