-- The words and lemmas that many proofs of this crate use.
pub use Rattle.batch_settings.specs.declared.dealing.Dealing.{Dealing}
pub use Rattle.path_algebra.specs.Algebra.{Algebra}
pub use Rattle.post_floor.specs.Data.{FloorData}
pub use Rattle.shard_part.specs.Opening.{opened_part}
pub use Rattle.shard_store.specs.Setup.{SetupData}
pub use Rattle.station.specs.OneShard.{HasOneShard}
pub use Rattle.station.specs.Opened.{station_of}
pub use Rattle.station.specs.Station.{StationData}
pub use Rattle.std.proofs.Common.{Bool, List, Option, Some, Vec, [], add-one, ap, append-nil, append_assoc, arith, false, get_or, if◌then◌else◌, inl, inr, length, length-append, length-set, map, nat_eq, refl, rules, set, subst, suc, sym, true, vec_len, zero, ℕ, ◌*◌, ◌++◌, ◌+◌, ◌<◌, ◌∙◌, ◌∷◌, ◌≡◌, ◌≢◌, ◌≤◌}
pub use Rattle.std.proofs.lemmas.Bool.{cases_eq, cases_lt}
pub use Rattle.std.proofs.lemmas.Grind.{common_steps}
pub use Rattle.std.proofs.lemmas.List.{get_or_default, nil_from_length}
pub use Rattle.std.proofs.lemmas.List.Elements.{All-cons, All-head, All-nil, All-tail}
pub use Rattle.std.proofs.lemmas.Option.{slice_get_read}
pub use Rattle.std.specs.List.{All, AllWithin, HoldsAt}
pub use Rattle.std.specs.Prelude.{sum}
pub use Rattle.std.specs.Vec.Iter.{into_iter_items, into_iter_len}
pub use Rattle.worker_fleet.specs.Assigned.{IsAssigned}
pub use Rattle.worker_fleet.specs.Dealt.{begins_at, following}
unfoldable pub use Rattle.worker_fleet.specs.Dealt.{dealt, of_group, share_of}
pub use Rattle.worker_fleet.specs.Drives.{Drives, LetsTurn}
unfoldable pub use Rattle.worker_fleet.specs.Groups.{Some_of, gathered}
pub use Rattle.worker_fleet.specs.Moves.{Steps, still, then}
unfoldable pub use Rattle.worker_fleet.specs.Moves.{MovesEach}
pub use Rattle.worker_fleet.specs.OneShard.{IsWhole}
pub use Rattle.worker_fleet.specs.Stops.{StopsGroup}
pub use Rattle.worker_fleet.specs.Turns.{IsNextOpen, IsOnItsFloor, NextOn, StationHasEnded, StationIsOpen}
pub use Rattle.worker_fleet.specs.declared.driving.Driven.{Driven}
pub use Rattle.worker_fleet.specs.declared.driving.Outcome.TheVariants.{Ended, Stalled}
pub use Rattle.worker_fleet.specs.declared.group.GroupFault.{GroupFault}
