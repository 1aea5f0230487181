use Rattle.factor_routes.proofs.Words.{◌≡◌, ℕ, Option, None, refl, sym, ◌∙◌, subst, arith, cost_of, counted_laws, IsBestLabel, numbers_of, adding_up}
use Rattle.factor_routes.proofs.Tails.{adding_up_is, adding_up_not, number_is_small, one_label}
use Rattle.factor_routes.proofs.road_factors.RoadFactors.tail_if.Goals as goal

pub returns-in_default-clause-tail : goal.returns-in_default-clause-tail
returns-in_default-clause-tail g c = λ sources number are best.
    let f = c.args.self.now in
    let same = one_label (numbers_of f) (counted_laws (cost_of f.algebra.cost) f.algebra.bits) f.roads c.holds.ensures.roads sources c.args.road.head
    c.in_ok-x.field-0 number (c.in_ok-x.ensures.best sources are) best in
    let is = c.in_default.is in
    let none : None ≡ number = cc in
    subst (λ (l : Option ℕ). None ≡ adding_up (cost_of f.algebra.cost) f.algebra.bits c.args.y c.args.road l) none refl

pub overflow_add-x : goal.overflow_add-x
overflow_add-x g c =
    let f = c.args.self.now in
    let known = c.requires.known in
    let best = subst (λ (l : Option ℕ). IsBestLabel (numbers_of f) f.roads known.0 c.args.road.head l) c.in-Some.is (c.in_ok-x.ensures.best known.0 known.1) in
    omega (arith, number_is_small f.roads c.holds.ensures.roads (cost_of f.algebra.cost) f.algebra.bits known.0 c.args.road.head c.in-Some.x best, c.added.ensures.low)

pub returns-then-x-added-clause-tail : goal.returns-then-x-added-clause-tail
returns-then-x-added-clause-tail g c = λ sources number are best.
    let f = c.args.self.now in
    let same = one_label (numbers_of f) (counted_laws (cost_of f.algebra.cost) f.algebra.bits) f.roads c.holds.ensures.roads sources c.args.road.head
    c.in_ok-x.field-0 number (c.in_ok-x.ensures.best sources are) best in
    let adds = c.added.ensures.sum in
    adding_up_is (cost_of f.algebra.cost) f.algebra.bits c.args.y c.in-Some.x c.args.road number (sym c.in-Some.is ∙ same) (omega (arith, c.if-x-added.true, adds))

pub returns-else-x-added-clause-tail : goal.returns-else-x-added-clause-tail
returns-else-x-added-clause-tail g c = λ sources number are best.
    let f = c.args.self.now in
    let same = one_label (numbers_of f) (counted_laws (cost_of f.algebra.cost) f.algebra.bits) f.roads c.holds.ensures.roads sources c.args.road.head
    c.in_ok-x.field-0 number (c.in_ok-x.ensures.best sources are) best in
    adding_up_not (cost_of f.algebra.cost) f.algebra.bits c.args.y c.in-Some.x c.args.road number (sym c.in-Some.is ∙ same)
    (λ e. c.if-x-added.false (omega (arith, e, c.added.ensures.sum)))
