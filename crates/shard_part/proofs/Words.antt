-- The words and lemmas that many proofs of this crate use.
pub use Rattle.path_algebra.proofs.Least.{same_no_worse}
pub use Rattle.path_algebra.specs.Algebra.{Algebra, IsLawful, IsLawful as Lawful}
pub use Rattle.road_graph.proofs.Lists.{head_or_tail, here, here_as, later, not_in_empty}
pub use Rattle.road_graph.specs.GraphData.{HasArc, HasVertex, IsGraph, arc_of, road_of}
pub use Rattle.road_graph.specs.declared.OutRoad.{OutRoad}
pub use Rattle.road_graph.specs.declared.RoadArc.{RoadArc}
pub use Rattle.scholten_core.proofs.Basics.{one_if-most, put-at, put-other, put-same, put_tells, sum_most, sum_term}
pub use Rattle.scholten_core.proofs.CoreInvariant.{CoreInvariant, run_kept, step_kept}
pub use Rattle.scholten_core.proofs.Ended.{opening_kept}
pub use Rattle.scholten_core.proofs.Items.{token_told}
pub use Rattle.scholten_core.proofs.Networks.{head-arc, head-entry, tail-arc, tail-entry, well_formed}
pub use Rattle.scholten_core.proofs.Shares.{out_idle_agree}
pub use Rattle.scholten_core.specs.Deficit.{busy_out, deficit}
pub use Rattle.scholten_core.specs.Diffusion.{CoreState, accepted, answer_to, arrive, better_of, count_enabled, delivered, extend_label, freed, improves, is_enabled, is_idle, is_message, is_signal, opening, out_idle, pump, put, run_from, same_label, settle, state_after, step}
unfoldable pub use Rattle.scholten_core.specs.Diffusion.{is_due}
pub use Rattle.scholten_core.specs.Items.{IsDistinct, IsOutList, item_arc, item_of, pump_made, settle_made}
unfoldable pub use Rattle.scholten_core.specs.Items.{at}
pub use Rattle.scholten_core.specs.Network.{Network, WellFormed, network}
pub use Rattle.scholten_core.specs.Shares.{Agree}
pub use Rattle.scholten_core.specs.Sums.{one_if, sum_below}
pub use Rattle.scholten_core.specs.declared.event.Event.{Event}
pub use Rattle.scholten_core.specs.declared.event.Event.TheVariants.{Accept, Deliver}
pub use Rattle.scholten_core.specs.declared.item.Item.{Item}
pub use Rattle.scholten_core.specs.declared.item.Item.TheVariants.{Message as MessageOn, Signal as SignalOn}
pub use Rattle.scholten_core.specs.declared.token.Token.{Token}
pub use Rattle.scholten_core.specs.declared.token.Token.TheVariants.{Held, Idle, Message, Signal}
pub use Rattle.shard_part.specs.Exchange.{FitsAlone}
pub use Rattle.shard_part.specs.Handling.{GoesAtOnce, HandledAll, HandledItem, HandledItemIn, IsInTurn, arrive_here, made, rest_here, route, routes, settle_here, settle_tail_here, taken}
pub use Rattle.shard_part.specs.LocalInvariant.{IsClear, LocalInvariant, engages, idles, names}
pub use Rattle.shard_part.specs.Moves.{AreRowDeficits, IsArcRow, IsPlace, IsPopped, MaySend, RepInvariant, abstraction, engaged_or_answered, labelled, offered, rested, rested_by, valued, with_free, with_item, with_message, with_taken, with_value}
unfoldable pub use Rattle.shard_part.specs.Moves.{offered_all}
pub use Rattle.shard_part.specs.Opening.{first_items, opened_part, opened_parts}
pub use Rattle.shard_part.specs.Part.{IsOutgoing, IsOutgoingTo, OwnIdleIsTold}
pub use Rattle.shard_part.specs.PartState.{IsArc, PartData, event_of, maker_of, mine, state_in, token_if, vertex_of}
pub use Rattle.shard_part.specs.Readings.{has_ended}
pub use Rattle.shard_part.specs.Repaying.{AnswersAtOnce, AreVoid, HandledAtOnce, HandledRun, IsFit, IsOff, IsVoid, OfferedOrNoted, Owes, OwesMany, RestsRepaid, TakenRepaid, all_busy, as_items, more}
pub use Rattle.shard_part.specs.Represents.{HoldsShareIn, HoldsTables, Represents, RepresentsIn, core_of}
pub use Rattle.shard_part.specs.Weights.{All, Channels, at_place, channels_of, channels_weight, in_flight, mail_weight, message_weight, outs_weight, part_weight, signal_weight}
pub use Rattle.shard_store.proofs.Graphs.{arcs_first, place_below, place_source}
pub use Rattle.shard_store.proofs.Places.{own_apart, own_placed, table_long, table_write}
pub use Rattle.shard_store.proofs.Totals.{sum_at, sum_zero, total_append, total_by_arc, total_permutation}
pub use Rattle.shard_store.specs.Capacities.{outbox_bound, queue_bound, touches}
pub use Rattle.shard_store.specs.Layout.{AreOffsets, is_first, layout_view}
pub use Rattle.shard_store.specs.Outgoing.{arcs_out, local_vertices, outgoing}
pub use Rattle.shard_store.specs.Places.{ArcAt, VertexAt}
pub use Rattle.shard_store.specs.Plans.{shard_in}
pub use Rattle.shard_store.specs.Queue.{IsBestMessage, Line, Room, line}
pub use Rattle.shard_store.specs.Rows.{Rows, idle_rows, rows_of}
pub use Rattle.shard_store.specs.Setup.{IsPlanned, SetupData, network_of, setup_of}
unfoldable pub use Rattle.shard_store.specs.Setup.{place_in}
pub use Rattle.shard_store.specs.Tables.{placed}
unfoldable pub use Rattle.shard_store.specs.Tables.{scatter}
pub use Rattle.shard_store.specs.Tallies.{counted_on, top}
pub use Rattle.shard_store.specs.Totals.{counted, is, total}
pub use Rattle.shard_store.specs.declared.queue_order.QueueOrder.{QueueOrder}
pub use Rattle.shard_store.specs.declared.queue_order.QueueOrder.TheVariants.{Arrival, BestFirst}
pub use Rattle.std.proofs.Common.{Bool, Contains, List, None, Option, Some, [], ap, arith, cond, drop, eq-eqb, eqb, eqb-true, false, get_or, get_or-set_other, get_or-set_same, inl, inr, length, length-append, length-set, map, ne_eqb, not, refl, replicate, rules, set, subst, suc, sym, take, true, zero, ℕ, ◌&&◌, ◌++◌, ◌+◌, ◌-◌, ◌<◌, ◌^◌, ◌||◌, ◌∙◌, ◌∷◌, ◌≡◌, ◌≢◌, ◌≤◌, ◌⊎◌}
pub use Rattle.std.proofs.lemmas.Bool.{and_from, cases_Bool, cases_eq, cases_lt, cond-false, cond-true, false≢true}
pub use Rattle.std.proofs.lemmas.List.{get_or_read, length-map, map-set, take_all}
pub use Rattle.std.proofs.lemmas.List.Elements.{All-cons}
pub use Rattle.std.proofs.lemmas.List.Sorted.{All-permutation, IsPermutation-refl, IsPermutation-to_front, IsPermutation-trans}
pub use Rattle.std.specs.List.Sorted.{IsPermutation, IsStrictlyIncreasing}
pub use Rattle.std.specs.Prelude.{All as AllOf, IfNone, IfSome, IsSome, IsTrue, ◌↔◌}
