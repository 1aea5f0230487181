use Rattle.factor_routes.proofs.Words.{◌≡◌, ℕ, ◌+◌, ◌-◌, ◌≤◌, [], ◌∷◌, drop, Option, Some, None, ap, sym, ◌∙◌, subst, arith, nat_tests, GraphData, ListsRoadsInto, OutRoad, AreBestInto, cost_of, IsBest, IsBestLabel, label_of, numbers_of, IsLeastTail}
use Rattle.factor_routes.proofs.Climbing.{best_into}
use Rattle.factor_routes.proofs.Tails.{last_is, least_from, looked, next_held, none_from, passed, row_is, row_tail, with_held}
use Rattle.factor_routes.proofs.road_factors.RoadFactors.tail_before.Goals as goal
use Rattle.factor_routes.proofs.road_factors.RoadFactors.tail_before.Goals.{then-ne+in_ok-least, else-ne}

pub loop-road-preserved : goal.loop-road-preserved
loop-road-preserved c =
    let f = c.args.self.now in
    let G = f.roads in
    let A = numbers_of f in
    let cost = cost_of f.algebra.cost in
    let k = f.algebra.bits in
    let v = c.args.at.0 in
    let y = c.args.at.1 in
    let sources = c.args.asker.now.sources in
    let items = c.roads_into-road-items.result.now in
    let i = c.loop-road.road-index in
    let road = c.road-item.result in
    let least = c.loop-road.least in
    let held = c.loop-road.held in
    let inv = c.loop-road.invariant in
    let lists = subst (λ (r : GraphData). ListsRoadsInto r v items) c.requires.by_head c.roads_into-road-items.ensures in
    let row = row_tail G v items lists i road c.loop-road-test.true in
    let tail = row.3 ∙ ap (λ (r : OutRoad). r.head) (sym c.road-item.is) in
    let before : (number : ℕ → Option ℕ) → AreBestInto A G sources number v →
    least_from cost k y number least (with_held held (road ∷ drop (i + 1) items)) ≡ least_from cost k y number None items =
    λ number into. next_held cost k y number least held items i road c.loop-road-test.true c.road-item.is ∙ inv.4 number into in
    elim c.if-ne.branch [
      | then-ne+in_ok-least w ↦
          rw (w.asker-is, w.least-is, w.held-is) (
            w.with_held.ensures.same ∙ inv.0,
            w.with_held.ensures.sources ∙ inv.1,
            w.in_ok-least.ensures.inside,
            (row.0, row.1, row.2, tail),
            λ number into. looked cost k y number A G sources c.loop-road.asker.sources v inv.1 into least w.in_ok-least.least held inv.3
                w.in_ok-least.ensures.lesser (road ∷ drop (i + 1) items)
                ∙ before number into,
          )
      | else-ne w ↦
          rw (w.asker-is, w.least-is, w.held-is) (
            inv.0,
            inv.1,
            inv.2,
            inv.3,
            λ number into.
                let is = w.if-ne.ensures in
                let same : road.head ≡ c.args.after = grind (arith, nat_tests) in
                let best = subst (λ (n : ℕ). IsBestLabel A G sources n (number n)) tail (into row.0 row.1 row.2) in
                let none = none_from cost k y road (number road.head)
                (λ n e. c.requires.after n (subst (λ (u : ℕ). IsBest A G sources u n) same (subst (IsBestLabel A G sources road.head) e best))) in
                passed cost k y number least held road (drop (i + 1) items) none ∙ before number into,
          )
    ]

last : (c : goal.After-added) (number : ℕ → Option ℕ) →
    AreBestInto (numbers_of c.args.self.now) c.args.self.now.roads c.args.asker.now.sources number c.args.at.0 →
    (c.added.result ≤ c.args.at.1)
    × IsLeastTail c.args.self.now.roads (cost_of c.args.self.now.algebra.cost) c.args.self.now.algebra.bits number c.args.at.0 c.args.at.1
    (Some (c.in-None-Some.road.head, c.args.at.1 - c.added.result))
last c number into =
    let f = c.args.self.now in
    let cost = cost_of f.algebra.cost in
    let k = f.algebra.bits in
    let v = c.args.at.0 in
    let y = c.args.at.1 in
    let items = c.roads_into-road-items.result.now in
    let rest = drop c.loop-road.road-index items in
    let lists = subst (λ (r : GraphData). ListsRoadsInto r v items) c.requires.by_head c.roads_into-road-items.ensures in
    let step = c.steps_exist.ensures c.args.asker.now.sources c.requires.sources v y number c.requires.vertex c.requires.number c.requires.positive into in
    let is : least_from cost k y number None (c.in-None-Some.road ∷ rest) ≡ least_from cost k y number None items =
    subst (λ (o : Option (ℕ × ℕ)). least_from cost k y number o (c.in-None-Some.road ∷ rest) ≡ least_from cost k y number None items) c.in-None-Some.is-0
    (subst (λ (h : Option OutRoad). least_from cost k y number c.loop-road.least (with_held h rest) ≡ least_from cost k y number None items)
    c.in-None-Some.is-1 (c.loop-road.invariant.4 number into)) in
    rw c.added.ensures.sum (last_is f.roads cost k y number v items lists c.in-None-Some.road c.loop-road.road-index c.loop-road-test.false is step)

pub overflow_sub-result : goal.overflow_sub-result
overflow_sub-result c =
    let f = c.args.self.now in
    let numbers = c.numbers_exist.ensures c.args.asker.now.sources c.requires.sources in
    let number : ℕ → Option ℕ = label_of numbers.0 in
    (last c number (best_into f.roads c.holds.ensures.roads (cost_of f.algebra.cost) f.algebra.bits c.args.asker.now.sources number
    (λ u in_u. numbers.1.best u in_u) c.args.at.0)).0

pub returns-in-None-Some-clause-least : goal.returns-in-None-Some-clause-least
returns-in-None-Some-clause-least c = λ number into. (last c number into).1

pub unreachable-requires : goal.unreachable-requires
unreachable-requires c =
    let f = c.args.self.now in
    let cost = cost_of f.algebra.cost in
    let k = f.algebra.bits in
    let v = c.args.at.0 in
    let y = c.args.at.1 in
    let sources = c.args.asker.now.sources in
    let items = c.roads_into-road-items.result.now in
    let inv = c.loop-road.invariant in
    let least = c.loop-road.least in
    let held = c.loop-road.held in
    let lists = subst (λ (r : GraphData). ListsRoadsInto r v items) c.requires.by_head c.roads_into-road-items.ensures in
    let numbers = c.numbers_exist.ensures sources c.requires.sources in
    let number : ℕ → Option ℕ = label_of numbers.0 in
    let into = best_into f.roads c.holds.ensures.roads cost k sources number (λ u in_u. numbers.1.best u in_u) v in
    let step = c.steps_exist.ensures sources c.requires.sources v y number c.requires.vertex c.requires.number c.requires.positive into in
    let row = row_is f.roads cost k y number v items lists least held c.loop-road.road-index c.loop-road-test.false (inv.4 number into) in
    let same = sym (looked cost k y number (numbers_of f) f.roads sources c.loop-road.asker.sources v inv.1 into least c.in_ok-tail.field-0 held inv.3
    c.in_ok-tail.ensures.lesser []) ∙ c.in-None.is in
    (subst (IsLeastTail f.roads cost k number v y) same row) step.0 step.1

pub returns-clause-least : goal.returns-clause-least
returns-clause-least c = λ number into.
    let f = c.args.self.now in
    let cost = cost_of f.algebra.cost in
    let k = f.algebra.bits in
    let v = c.args.at.0 in
    let y = c.args.at.1 in
    let items = c.roads_into-road-items.result.now in
    let inv = c.loop-road.invariant in
    let least = c.loop-road.least in
    let held = c.loop-road.held in
    let lists = subst (λ (r : GraphData). ListsRoadsInto r v items) c.requires.by_head c.roads_into-road-items.ensures in
    let row = row_is f.roads cost k y number v items lists least held c.loop-road.road-index c.loop-road-test.false (inv.4 number into) in
    let same = sym (looked cost k y number (numbers_of f) f.roads c.args.asker.now.sources c.loop-road.asker.sources v inv.1 into least c.in_ok-tail.field-0 held inv.3
    c.in_ok-tail.ensures.lesser []) ∙ c.in-Some.is in
    subst (IsLeastTail f.roads cost k number v y) same row
