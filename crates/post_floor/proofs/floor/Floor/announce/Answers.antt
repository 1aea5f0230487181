use Rattle.std.proofs.Common.{refl}
use Rattle.post_floor.proofs.Seated.{seated, still, placed}
use Rattle.post_floor.proofs.floor.Floor.announce.Goals as goal

pub announce_word-requires-clause-step : goal.announce_word-requires-clause-step
announce_word-requires-clause-step g c κs within = record { told = refl; at = (seated c.self.view_is c.seat.view_is c.self.invariant c.seat.invariant c.requires.at).at }

pub returns-clause-at : goal.returns-clause-at
returns-clause-at g c =
    let z = seated c.self.view_is c.seat.view_is c.self.invariant c.seat.invariant c.requires.at in
    placed z c.announce_word.ensures.pass.0 z.setup c.announce_word.ensures.told.0

pub invariant_of-seat : goal.invariant_of-seat
invariant_of-seat g c =
    let z = seated c.self.view_is c.seat.view_is c.self.invariant c.seat.invariant c.requires.at in
    still z z.setup z.shard c.announce_word.ensures.told.0 refl refl refl refl c.announce_word.ensures.told.2
