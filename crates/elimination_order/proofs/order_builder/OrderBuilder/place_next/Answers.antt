use Rattle.std.proofs.Common.{◌+◌, ◌∙◌, ap, sym, arith, length-set}
use Rattle.elimination_order.proofs.Counting.{filled_more}
use Rattle.elimination_order.proofs.Standing.{stand_more}
use Rattle.elimination_order.proofs.order_builder.OrderBuilder.place_next.Goals as goal

pub invariant_of-self : goal.invariant_of-self
invariant_of-self c =
    let s = c.args.self.now in
    let p = c.args.place in
    let long = length-set s.vertices.items p (s.count + 1) in
    record {
      few = omega (arith, long, s.few);
      whole = length-set s.places.items s.count p ∙ s.whole ∙ sym long;
      room = omega (arith, long, c.requires.next);
      stand = stand_more s.count s.vertices.items s.places.items p (omega (arith, c.requires.next, s.whole)) c.requires.place c.requires.free s.stand;
      counted = filled_more s.vertices.items p (s.count + 1) c.requires.place c.requires.free (omega arith) ∙ ap (λ n. n + 1) s.counted;
    }
