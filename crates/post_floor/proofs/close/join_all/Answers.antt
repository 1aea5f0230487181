use Rattle.post_floor.proofs.Words.{◌≡◌, ap, ◌∙◌, rules, both, aside_right}
use Rattle.post_floor.proofs.Seats.{splits_aside, joins, all_front}
use Rattle.post_floor.proofs.Closing.{join_one, joined_end}
use Rattle.post_floor.proofs.close.join_all.Goals as goal

pub split_seat-free-requires : goal.split_seat-free-requires
split_seat-free-requires g c = let inv = c.loop-seat.invariant in
    let q = all_front (λ d. d.floor ≡ c.args.table.now.table_id) c.pop.new.self.items c.loop-seat.seats.items c.in-Some.seat c.in-Some.ensures.items inv.1 in
    (c.pass_of-own.ensures.pass.0 ∙ q.1, c.requires.pass.1, splits_aside g.A.PathAlgebra.meaning c.args.table.now.key c.pass_of-own.result.id c.pass_of-own.result.me.0)

pub join_seat-requires : goal.join_seat-requires
join_seat-requires g c = let inv = c.loop-seat.invariant in
    let q = all_front (λ d. d.floor ≡ c.args.table.now.table_id) c.pop.new.self.items c.loop-seat.seats.items c.in-Some.seat c.in-Some.ensures.items inv.1 in (
      inv.0,
      c.split_seat-free.ensures.3 ∙ c.pass_of-own.ensures.pass.0
          ∙ q.1,
      ap (λ z. z.1) c.split_seat-free.ensures.4,
      c.requires.pass.1,
      joins g.A.PathAlgebra.meaning c.args.table.now.key c.loop-seat.all.id c.loop-seat.all.me.0 c.split_seat-free.result.id c.split_seat-free.result.me.0,
    )

pub loop-seat-preserved : goal.loop-seat-preserved
loop-seat-preserved g c = let inv = c.loop-seat.invariant in
    let q = all_front (λ d. d.floor ≡ c.args.table.now.table_id) c.pop.new.self.items c.loop-seat.seats.items c.in-Some.seat c.in-Some.ensures.items inv.1 in (
      c.join_seat.ensures.0 ∙ inv.0,
      q.0,
      λ w J. inv.2 w (join_one w c.loop-seat.all.me.0 c.join_seat.new.seat.me.0 c.pop.new.self.items c.loop-seat.seats.items c.in-Some.seat c.in-Some.ensures.items
          (ap (λ z. z.0) c.join_seat.ensures.2 ∙ ap (λ z. both c.loop-seat.all.me.0 z.0) c.split_seat-free.ensures.4
          ∙ ap (λ z. both c.loop-seat.all.me.0 (aside_right z)) c.pass_of-own.ensures.pass.1) c.pass_of-own.ensures.part J),
    )

pub returns-clause-joined : goal.returns-clause-joined
returns-clause-joined g c = c.loop-seat.invariant.2 c.loop-seat.all.me.0 (joined_end c.loop-seat.all.me.0 c.loop-seat.seats.items (search rules))
