use Rattle.arc_numbers.proofs.Words.{◌≡◌, ◌+◌, ℕ, Bool, sym, subst, Option, MatchOption, OutRoad, get_or_read, IsBestRoadOrNone, LeadsTo, better_road, road_at}
use Rattle.arc_numbers.proofs.Choosing.{one_more}
use Rattle.arc_numbers.proofs.best_road.best_road.Goals as goal

pub loop-i-preserved : goal.loop-i-preserved
loop-i-preserved g c =
    let a = c.args in let A = g.A.PathAlgebra.meaning a.algebra in let roads = a.roads.now in let i = c.loop-i.i in
    let road : road_at roads i ≡ c.index-roads-i.result = sym (get_or_read roads i c.index-roads-i.result c.loop-i-test.true c.index-roads-i.is (record { head = 0; weight = 0 })) in
    let leads = subst (λ (r : OutRoad). MatchOption c.extended.result ((y : g.row.A-Value.Denot) → LeadsTo A a.x a.v r y → ⊥) (LeadsTo A a.x a.v r)) (sym road) c.extended.ensures in
    subst (λ (b : Option (ℕ × g.row.A-Value.Denot)). IsBestRoadOrNone A a.x a.v roads (i + 1) b) (sym c.better-best.ensures)
    (subst (λ (order : g.row.A-Value.Denot → g.row.A-Value.Denot → Bool). IsBestRoadOrNone A a.x a.v roads (i + 1) (better_road order c.loop-i.best i c.extended.result)) c.laws_hold.ensures.order
    (one_more A c.laws_hold.ensures.lawful.ordered a.x a.v roads i c.loop-i.best c.extended.result leads c.loop-i.invariant))
