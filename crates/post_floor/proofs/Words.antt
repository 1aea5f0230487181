-- The words and lemmas that many proofs of this crate use.
pub use Rattle.atomic_table.proofs.Lists.{at_map, at_set}
pub use Rattle.atomic_table.specs.Seated.{TableId}
pub use Rattle.atomic_table.specs.Table.{Me, State, rest}
pub use Rattle.circular_buffer.specs.Buffer.{Buffer, buffer}
pub use Rattle.path_algebra.specs.Algebra.{Algebra}
pub use Rattle.path_algebra.specs.Walks.{better_label}
pub use Rattle.post_floor.specs.Boxes.{AreInOrder, IsBetween, box_count, done_now, empty, filling, full, mailbox, next_slot, reading, slot_after}
unfoldable pub use Rattle.post_floor.specs.Boxes.{dest, origin}
pub use Rattle.post_floor.specs.Claims.{before, cycled, first_is}
pub use Rattle.post_floor.specs.Closing.{AllSeated, AreJoined}
pub use Rattle.post_floor.specs.Data.{AreOpen, AreSlots, HasEnd, IsSeat, SeatData, seat_of}
pub use Rattle.post_floor.specs.Floor.{AreAllInOrder, CountsNone, FinalView, FloorInvariant, IsSeatOf, MailboxInvariant, Place, Slot, box, empty_slot, fill_claims, flat, in_transit, load_place, mailbox_capacity, read_claims, words_between}
pub use Rattle.post_floor.specs.Hints.{IsBestShown}
pub use Rattle.post_floor.specs.Plays.{HasEmpty, HoldsReachedShare, IsNextFill, IsNextRead, IsViewOf, StepsTo, Unclaimed, ViewLags, at_word, begin_fill, begin_read, end_fill, end_read, published_to, without}
pub use Rattle.post_floor.specs.Seats.{aside_right, both, cut_left, cut_right, knows, spent}
pub use Rattle.post_floor.specs.declared.view.View.{View}
pub use Rattle.scholten_core.proofs.CoreInvariant.{CoreInvariant}
pub use Rattle.scholten_core.proofs.Ended.{ended}
pub use Rattle.scholten_core.proofs.Networks.{well_formed}
pub use Rattle.scholten_core.specs.Diffusion.{CoreState, HasEnded, opening, run_from}
pub use Rattle.scholten_core.specs.Network.{WellFormed}
pub use Rattle.scholten_core.specs.Sums.{one_if}
pub use Rattle.scholten_core.specs.declared.event.Event.{Event}
pub use Rattle.scholten_core.specs.declared.item.Item.{Item}
pub use Rattle.shard_part.proofs.Showing.{AllLawful, all_append, all_parts, is_self}
pub use Rattle.shard_part.proofs.TakenCounts.{handled_same, run_append}
pub use Rattle.shard_part.proofs.UnderWay.{ended_empty}
pub use Rattle.shard_part.specs.Arriving.{MadeAt, joined}
pub use Rattle.shard_part.specs.Exact.{done_by}
pub use Rattle.shard_part.specs.Handling.{HandledAll}
pub use Rattle.shard_part.specs.OnePart.{OwnOutboxIsEmpty}
pub use Rattle.shard_part.specs.Opening.{opened_parts}
pub use Rattle.shard_part.specs.PartState.{PartData, event_of}
pub use Rattle.shard_part.specs.Readings.{has_ended}
pub use Rattle.shard_part.specs.Represents.{HoldsShareIn, HoldsTables, Represents, core_of}
pub use Rattle.shard_part.specs.Weights.{All, part_weight}
pub use Rattle.shard_store.proofs.Graphs.{place_below}
pub use Rattle.shard_store.proofs.Totals.{sum_at, sum_below_same, sum_zero, total_append}
pub use Rattle.shard_store.specs.Capacities.{outbox_bound}
pub use Rattle.shard_store.specs.Setup.{IsPlanned, SetupData, network_of, place_in}
pub use Rattle.shard_store.specs.Totals.{is, total}
pub use Rattle.std.proofs.Common.{Bool, List, [], ap, append-nil, append_assoc, arith, cond, drop, eq-eqb, eqb, false, get_or, get_or-set_other, get_or-set_same, inl, inr, length, length-append, length-set, map, ne_eqb, refl, replicate, rules, set, subst, suc, sym, take, true, zero, ℕ, ◌%◌, ◌*◌, ◌++◌, ◌+◌, ◌/◌, ◌<◌, ◌∙◌, ◌∷◌, ◌≡◌, ◌≢◌, ◌≤◌, ◌⊎◌}
pub use Rattle.std.proofs.Math.Nat.{div-lt_iff_lt-mul, mod-lt}
pub use Rattle.std.proofs.lemmas.Bool.{cases_eq, cases_lt}
pub use Rattle.std.proofs.lemmas.Grind.{common_steps}
pub use Rattle.std.proofs.lemmas.List.{length-replicate, map_push, nil_from_length, same_from_push}
pub use Rattle.std.specs.Prelude.{IfSome, IsTrue}
pub use lib.ListN.{get_elem?}
pub use mathlib.Core.Option.{Option, some, some-injective, some-ne-none}
