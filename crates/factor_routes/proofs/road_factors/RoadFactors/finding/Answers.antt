use Rattle.factor_routes.proofs.Words.{◌≡◌, ℕ, ◌%◌, ◌^◌, Option, Some, None, ap, sym, ◌∙◌, IsSome, is_some, option_map, cost_of, label_of, carried_value, AreBestNumbers, numbers_of}
use Rattle.factor_routes.proofs.Carrying as carrying
use Rattle.factor_routes.proofs.road_factors.RoadFactors.finding.Goals as goal

pub returns-in_default-clause-told : goal.returns-in_default-clause-told
returns-in_default-clause-told g c = λ sources inside are.
    let f = c.args.self.now in
    let A = g.A.PathAlgebra.meaning c.args.algebra in
    let roads = c.holds.ensures.roads in
    let carry = c.requires.carried f.roads sources f.algebra.bits roads inside c.holds.ensures.fits in
    let whole = c.best_values_exist.ensures f.roads roads sources inside in
    let tree = c.trees_exist.ensures f.roads roads sources inside whole.0 whole.1 in
    let number : ℕ → Option ℕ = label_of c.args.numbers.now in
    let best : AreBestNumbers (numbers_of f) f.roads sources number = λ v in_v. are.best v in_v in
    let of = c.of.ensures in
    let is = c.in_default.is in
    let e : number c.args.v ≡ None = cc in
    rw c.none.ensures
    (rw c.none-2.ensures
    (carrying.unreached_if_none A f.roads roads sources (cost_of f.algebra.cost) f.algebra.bits carry number best tree.0 tree.1 c.args.v c.requires.vertex e))

pub returns-in_default-value_in-clause-told : goal.returns-in_default-value_in-clause-told
returns-in_default-value_in-clause-told g c = λ sources inside are.
    let f = c.args.self.now in
    let A = g.A.PathAlgebra.meaning c.args.algebra in
    let roads = c.holds.ensures.roads in
    let carry = c.requires.carried f.roads sources f.algebra.bits roads inside c.holds.ensures.fits in
    let whole = c.best_values_exist.ensures f.roads roads sources inside in
    let tree = c.trees_exist.ensures f.roads roads sources inside whole.0 whole.1 in
    let number : ℕ → Option ℕ = label_of c.args.numbers.now in
    let best : AreBestNumbers (numbers_of f) f.roads sources number = λ v in_v. are.best v in_v in
    let of = c.of.ensures in
    let some = c.in-Some.is in
    let e : number c.args.v ≡ Some c.in-Some.y = cc in
    let value = c.value_in.ensures in
    let is = c.in_default-value_in.is in
    let none : carried_value A f.algebra.bits (Some c.in-Some.y) ≡ None = cc in
    rw c.none.ensures
    (rw c.none-2.ensures
    (carrying.unreached_if_carried A f.roads roads sources (cost_of f.algebra.cost) f.algebra.bits carry number best tree.0 tree.1 c.args.v c.in-Some.y
    c.requires.vertex e none))

pub vertex_slot-requires : goal.vertex_slot-requires
vertex_slot-requires g c =
    carrying.tail_fits c.args.self.now.roads c.holds.ensures.roads c.in-Some.y c.in_ok-tail.tail c.in_ok-tail.ensures.inside

pub returns-clause-told : goal.returns-clause-told
returns-clause-told g c = λ sources inside are.
    let f = c.args.self.now in
    let A = g.A.PathAlgebra.meaning c.args.algebra in
    let roads = c.holds.ensures.roads in
    let carry = c.requires.carried f.roads sources f.algebra.bits roads inside c.holds.ensures.fits in
    let whole = c.best_values_exist.ensures f.roads roads sources inside in
    let tree = c.trees_exist.ensures f.roads roads sources inside whole.0 whole.1 in
    let number : ℕ → Option ℕ = label_of c.args.numbers.now in
    let best : AreBestNumbers (numbers_of f) f.roads sources number = λ v in_v. are.best v in_v in
    let of = c.of.ensures in
    let is = c.in-Some.is in
    let e : number c.args.v ≡ Some c.in-Some.y = cc in
    let value = sym c.value_in.ensures ∙ c.in-Some-value_in.is in
    let some : IsSome (carried_value A f.algebra.bits (Some c.in-Some.y)) = ap is_some value in
    let into = carrying.known_into A f.roads roads sources (cost_of f.algebra.cost) f.algebra.bits carry number best tree.0 tree.1 c.args.v in
    let hops = c.some.ensures ∙ ap (λ (n : ℕ). Some n) c.hops_in.ensures.hops in
    carrying.told_as A f.roads sources c.args.v (Some c.in-Some-value_in.value) c.some.result (Some (c.in-Some.y % 2 ^ f.algebra.bits))
    c.vertex_slot.result (option_map (λ tail. tail.0) c.in_ok-tail.tail) hops c.vertex_slot.ensures
    (carrying.told_by_tail A f.roads roads sources (cost_of f.algebra.cost) f.algebra.bits carry number best tree.0 tree.1 c.args.v c.in-Some.y
    c.requires.vertex e some c.in-Some-value_in.value c.in_ok-tail.tail value (c.in_ok-tail.ensures.least sources number are into))
