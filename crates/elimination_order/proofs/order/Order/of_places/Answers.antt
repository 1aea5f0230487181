use Rattle.std.proofs.Common.{◌≡◌, ℕ, ◌<◌, length, ap, ◌∙◌, refl, subst, arith}
use Rattle.std.proofs.lemmas.List.{ext_get_or}
use Rattle.elimination_order.specs.Orders.{HasEachPlace}
use Rattle.elimination_order.proofs.Placing.{each_place}
use Rattle.elimination_order.proofs.order.Order.of_places.Goals as goal

pub returns-clause-places : goal.returns-clause-places
returns-clause-places c =
    let b = c.loop-place.builder in let long = c.loop-place.invariant.long in let end = c.loop-place-test.false in
    ap (λ v. v.items) c.build.ensures.places
    ∙ ext_get_or 0 b.places.items c.args.places.now (b.whole ∙ long) (λ i low. c.loop-place.invariant.same i (let w = b.whole in let a = c.loop-place.auto.place-index-end in omega (arith, low, end, w, long, a)))

pub returns-clause-some : goal.returns-clause-some
returns-clause-some c =
    let o = c.build.result in
    let same = returns-clause-places c in
    let full : length o.vertices.items ≡ length c.args.places.now = ap (λ v. length v.items) c.build.ensures.vertices ∙ c.loop-place.invariant.long in
    subst HasEachPlace same (each_place (length o.vertices.items) o.vertices.items o.places.items o.whole refl o.stand)
