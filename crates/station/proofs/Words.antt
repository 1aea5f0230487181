-- The words and lemmas that many proofs of this crate use.
pub use Rattle.atomic_table.specs.Seated.{TableId}
pub use Rattle.path_algebra.proofs.Least.{same_no_worse}
pub use Rattle.path_algebra.specs.Algebra.{Algebra, IsLawful}
pub use Rattle.path_algebra.specs.Walks.{AreBest, IsBestLabel, IsWalkValue}
pub use Rattle.post_floor.specs.Boxes.{box_count, mailbox}
pub use Rattle.post_floor.specs.Data.{FloorData, SeatData, fill_box, read_box, seat_of}
pub use Rattle.post_floor.specs.Plays.{HoldsEndedShare, HoldsReachedShare, IsViewOf, LookOutcome, published_to}
pub use Rattle.post_floor.specs.declared.view.View.{View}
pub use Rattle.post_floor.specs.declared.view.WordStep.{WordStep}
pub use Rattle.scholten_core.proofs.Basics.{sum_ones}
pub use Rattle.scholten_core.specs.Accounts.{Totals, totals_of}
pub use Rattle.scholten_core.specs.Diffusion.{CoreState, count_enabled, opening}
pub use Rattle.scholten_core.specs.Items.{item_of}
pub use Rattle.scholten_core.specs.Network.{Network}
pub use Rattle.scholten_core.specs.Sums.{one_if}
pub use Rattle.scholten_core.specs.declared.event.Event.{Event}
pub use Rattle.scholten_core.specs.declared.item.Item.{Item}
pub use Rattle.scholten_core.specs.declared.item.Item.TheVariants.{Message as MessageOn, Signal as SignalOn}
pub use Rattle.shard_part.proofs.Room.{each_one, outs_member}
pub use Rattle.shard_part.proofs.Showing.{AllLawful, all_append, is_self}
pub use Rattle.shard_part.specs.Arriving.{joined}
pub use Rattle.shard_part.specs.Handling.{HandledAll}
pub use Rattle.shard_part.specs.OnePart.{OwnOutboxIsEmpty}
pub use Rattle.shard_part.specs.Opening.{opened_part, opened_parts}
pub use Rattle.shard_part.specs.Part.{HandledMany, IsHeldBack, IsRunOn, RunsAhead, RunsOn}
pub use Rattle.shard_part.specs.PartState.{PartData, state_in}
pub use Rattle.shard_part.specs.Readings.{IsOwn, has_ended}
pub use Rattle.shard_part.specs.Represents.{HoldsShare, core_of}
pub use Rattle.shard_part.specs.Weights.{All, at_place, in_flight, part_weight}
pub use Rattle.shard_store.proofs.Graphs.{place_below}
pub use Rattle.shard_store.proofs.Totals.{sum_zero}
pub use Rattle.shard_store.specs.Plans.{HasPlanned, PlanData, shard_in}
pub use Rattle.shard_store.specs.Setup.{IsPlanned, SetupData, network_of, place_in, setup_of}
pub use Rattle.shard_store.specs.Tallies.{tally_of, together, top}
pub use Rattle.shard_store.specs.Totals.{is, total}
pub use Rattle.shard_store.specs.declared.tally.Tally.{Tally}
pub use Rattle.station.specs.Gather.{ArePlaces, IsAtPlace, IsThere, counts_of}
pub use Rattle.station.specs.Handing.{AreHanded}
pub use Rattle.station.specs.Opened.{IsFreshPart, station_of}
pub use Rattle.station.specs.Station.{BelongsTo, ReportedEnd, StationData}
pub use Rattle.station.specs.Steps.{AllCameIn, AllTriedFrom, AllTriedTo, AreBehind, AreReady, Looked}
pub use Rattle.station.specs.Tries.{AreTries, IsTry, at, if_found, used}
pub use Rattle.station.specs.Turn.{HoldsNothingBack, IsAsFar, SentOff, Tried, Turned, Worked, received}
pub use Rattle.station.specs.declared.turn.Report.{Report}
pub use Rattle.std.proofs.Common.{Bool, IfSome, List, None, Option, Some, [], ap, append_assoc, arith, cond, eq-eqb, false, get_or, inl, inr, leb, length, length-append, map, min, refl, reverse, set, subst, suc, sym, true, vec_len, zero, ℕ, ◌*◌, ◌++◌, ◌+◌, ◌-◌, ◌<◌, ◌||◌, ◌∙◌, ◌∷◌, ◌≡◌, ◌≢◌, ◌≤◌, ◌⊎◌}
pub use Rattle.std.proofs.lemmas.Bool.{cases_eq, cases_lt, false≢true}
pub use Rattle.std.proofs.lemmas.Grind.{common_steps}
pub use Rattle.std.proofs.lemmas.List.{append-nil, length-map, nil_from_length}
pub use Rattle.std.specs.Int.{from_bool}
pub use Rattle.std.specs.Prelude.{Contains, IsTrue}
