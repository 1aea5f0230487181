use Rattle.engine_trials.proofs.Words.{◌≡◌, ◌++◌, ◌∷◌, [], subst, sym, rules, IsAt, seat_of}
use Rattle.post_floor.proofs.Seats.{all_front, last_seat}
use Rattle.engine_trials.proofs.mailboxes.last_place.Goals as goal

pub returns : goal.returns
returns g c =
    let f = c.args.floor.now in let p = c.expect-part.result in let d = c.expect-seat.result in
    let popped : c.args.seats.now.items ≡ c.pop.new.self.items ++ d ∷ [] = search rules in
    let taken : c.args.parts.now.items ≡ c.pop-2.new.self.items ++ p ∷ [] = search rules in
    let s = last_seat (seat_of f.id f.setup.plan.shards) c.args.parts.now.items c.pop-2.new.self.items p c.args.seats.now.items c.pop.new.self.items d taken c.requires.seats popped in
    let a = all_front (λ q. IsAt g.A.PathAlgebra.meaning f (seat_of f.id f.setup.plan.shards q) q) c.pop-2.new.self.items c.args.parts.now.items p taken c.requires.at in
    record { seats = s.0; at = a.0; place = subst (λ z. IsAt g.A.PathAlgebra.meaning f z p) (sym s.1) a.1 }
