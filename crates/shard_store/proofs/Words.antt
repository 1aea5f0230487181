-- The words and lemmas that many proofs of this crate use.
pub use Rattle.ranked_queue.specs.declared.ranked.Ranked.{Ranked}
pub use Rattle.road_graph.proofs.Lists.{element_place, here}
pub use Rattle.road_graph.specs.GraphData.{arc_of}
pub use Rattle.road_graph.specs.declared.RoadArc.{RoadArc}
pub use Rattle.scholten_core.proofs.Basics.{one_if-most, sum_add, sum_most, sum_ones, sum_zero}
pub use Rattle.scholten_core.specs.Network.{Network, network}
pub use Rattle.scholten_core.specs.Sums.{one_if, sum_below}
pub use Rattle.scholten_core.specs.declared.item.Item.{Item}
pub use Rattle.scholten_core.specs.declared.item.Item.TheVariants.{Message as MessageOn}
pub use Rattle.shard_store.specs.Capacities.{outbox_bound}
pub use Rattle.shard_store.specs.Layout.{IsExtent, ShardLayoutData}
pub use Rattle.shard_store.specs.Outgoing.{arcs_from, local_vertices, outgoing}
unfoldable pub use Rattle.shard_store.specs.Outgoing.{arcs_out}
pub use Rattle.shard_store.specs.Plans.{shard_in}
pub use Rattle.shard_store.specs.Queue.{IsBestWaiting, IsHeldBy, IsWorseMessage, ranked_item}
pub use Rattle.shard_store.specs.Setup.{IsPlanned, SetupData, network_of}
unfoldable pub use Rattle.shard_store.specs.Setup.{place_in}
pub use Rattle.shard_store.specs.Tables.{ArePlacesInRange, VertexLists, listed}
unfoldable pub use Rattle.shard_store.specs.Tables.{placed}
pub use Rattle.shard_store.specs.Totals.{counted, is, total}
pub use Rattle.std.proofs.Common.{Bool, Contains, List, None, Option, Some, [], ap, append_assoc, arith, cond, drop, eq-eqb, eqb, false, get_or, get_or-set_other, get_or-set_same, inl, inr, leb, length, length-append, length-set, map, ne_eqb, not, refl, rules, set, subst, suc, sym, take, true, zero, ℕ, ◌++◌, ◌+◌, ◌-◌, ◌<◌, ◌∙◌, ◌∷◌, ◌≡◌, ◌≢◌, ◌≤◌, ◌⊎◌}
pub use Rattle.std.proofs.lemmas.Bool.{cases_Bool, cases_eq, cases_lt, cond-false, cond-true, false≢true}
pub use Rattle.std.proofs.lemmas.List.{append-nil, length-map}
pub use Rattle.std.proofs.lemmas.List.Elements.{All-cons, All-nil}
pub use Rattle.std.proofs.lemmas.List.FromFn.{length-range_with_len}
pub use Rattle.std.proofs.lemmas.List.Kept.{AllPairs-from_increasing}
pub use Rattle.std.specs.BinaryHeap.{heap_items}
pub use Rattle.std.specs.List.{range_with_len}
pub use Rattle.std.specs.List.Sorted.{IsPermutation, IsStrictlyIncreasing}
pub use Rattle.std.specs.Prelude.{slice_get}
