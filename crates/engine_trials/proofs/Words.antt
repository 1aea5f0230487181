-- The words and lemmas that many proofs of this crate use.
pub use Rattle.post_floor.specs.Data.{IsAt, seat_of}
pub use Rattle.shard_part.specs.Opening.{opened_part, opened_parts}
pub use Rattle.shard_store.specs.Setup.{SetupData, setup_of}
pub use Rattle.station.specs.Station.{BelongsTo}
pub use Rattle.std.proofs.Common.{Some, [], refl, rules, subst, sym, ◌++◌, ◌∙◌, ◌∷◌, ◌≡◌}
pub use Rattle.std.proofs.lemmas.List.Elements.{All-pop, All-push}
pub use Rattle.std.specs.List.{All}
pub use Rattle.worker_fleet.specs.Turns.{IsOnItsFloor}
