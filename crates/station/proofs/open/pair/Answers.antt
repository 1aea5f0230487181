use Rattle.std.proofs.Common.{◌++◌, ◌∷◌, [], reverse, sym, rules, ap, ◌∙◌, arith}
use Rattle.station.proofs.Words.{common_steps, seat_of, IsFreshPart, station_of}
use Rattle.std.proofs.lemmas.List.{append-nil, append_assoc, reverse-append}
use Rattle.post_floor.proofs.Seats.{all_front, last_seat}
use Rattle.station.proofs.Opening.{some_seat}
use Rattle.station.proofs.open.pair.Goals as goal

pub loop-part-init : goal.loop-part-init
loop-part-init g c = record { fresh = c.requires.parts; seats = c.requires.seats; paired = ([], ap reverse c.new-stations.ensures.items, append-nil c.args.parts.items) }

pub unreachable-requires : goal.unreachable-requires
unreachable-requires g c =
    some_seat (seat_of c.args.floor.now.id c.args.floor.now.setup.plan.shards) c.loop-part.parts.items c.pop.new.self.items c.in-Some.part
    c.loop-part.seats.items c.in-Some.ensures.items c.loop-part.invariant.seats (search rules)

pub new-requires-clause-part : goal.new-requires-clause-part
new-requires-clause-part g c κs within =
    (all_front (IsFreshPart g.A.PathAlgebra.meaning c.args.floor.now) c.pop.new.self.items c.loop-part.parts.items c.in-Some.part
    c.in-Some.ensures.items c.loop-part.invariant.fresh).1

pub new-requires-clause-seat : goal.new-requires-clause-seat
new-requires-clause-seat g c κs within =
    (last_seat (seat_of c.args.floor.now.id c.args.floor.now.setup.plan.shards) c.loop-part.parts.items c.pop.new.self.items c.in-Some.part
    c.loop-part.seats.items c.pop-in-Some.new.self.items c.in-Some-pop.seat
    c.in-Some.ensures.items c.loop-part.invariant.seats c.in-Some-pop.ensures.items).1

pub loop-part-preserved : goal.loop-part-preserved
loop-part-preserved g c =
    let i = c.loop-part.invariant in let p = c.in-Some.part in let f = c.args.floor.now in let qs = i.paired.0 in
    record {
      fresh = (all_front (IsFreshPart g.A.PathAlgebra.meaning f) c.pop.new.self.items c.loop-part.parts.items p c.in-Some.ensures.items i.fresh).0;
      seats = (last_seat (seat_of f.id f.setup.plan.shards) c.loop-part.parts.items c.pop.new.self.items p c.loop-part.seats.items
          c.pop-in-Some.new.self.items c.in-Some-pop.seat c.in-Some.ensures.items i.seats c.in-Some-pop.ensures.items).0;
      paired = (
        p ∷ qs,
        ap reverse c.in_ok-push.ensures ∙ reverse-append c.loop-part.stations.items (c.new.result ∷ [])
            ∙ ap (λ z. z ∷ reverse c.loop-part.stations.items) c.new.ensures ∙ ap (λ z. station_of f.id f.setup.plan.shards p ∷ z) i.paired.1,
        sym (append_assoc c.pop.new.self.items (p ∷ []) qs) ∙ ap (λ z. z ++ qs) (sym c.in-Some.ensures.items) ∙ i.paired.2,
      );
    }

pub returns : goal.returns
returns g c = grind (arith, common_steps)
