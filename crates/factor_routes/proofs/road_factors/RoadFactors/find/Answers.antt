use Rattle.factor_routes.proofs.Words.{◌≡◌, ℕ, List, [], ◌∷◌, Option, Some, None, ap, sym, ◌∙◌, subst, All-nil, All-cons, IsSome, is_some, HasVertex, cost_of, counted_laws, carried_value, IsBest, IsBestLabel, label_of, AreBestNumbers, numbers_of}
use Rattle.route_tree.specs.Found.{FoundData, IsFoundBetween}
use Rattle.route_tree.proofs.Told.{from_one}
use Rattle.factor_routes.proofs.Tails.{one_label}
use Rattle.factor_routes.proofs.Carrying as carrying
use Rattle.factor_routes.proofs.road_factors.RoadFactors.find.Goals as goal

pub returns-in_default-clause-found : goal.returns-in_default-clause-found
returns-in_default-clause-found g c =
    let f = c.args.self.now in
    let sources = c.args.pair.source ∷ [] in
    let inside = All-cons (HasVertex f.roads) c.args.pair.source [] c.requires.source (All-nil (HasVertex f.roads)) in
    let carry = c.requires.carried f.roads sources f.algebra.bits c.holds.ensures.roads inside c.holds.ensures.fits in
    let best = c.in_ok-number.ensures.best sources (c.begin.ensures.same ∙ c.requires.same, c.begin.ensures.source) in
    carry.labels c.args.pair.target None (subst (λ (l : Option ℕ). IsBestLabel (numbers_of f) f.roads sources c.args.pair.target l) c.in_default.is best)

pub returns-in_default-value_in-clause-found : goal.returns-in_default-value_in-clause-found
returns-in_default-value_in-clause-found g c =
    let f = c.args.self.now in
    let A = g.A.PathAlgebra.meaning c.args.algebra in
    let sources = c.args.pair.source ∷ [] in
    let inside = All-cons (HasVertex f.roads) c.args.pair.source [] c.requires.source (All-nil (HasVertex f.roads)) in
    let carry = c.requires.carried f.roads sources f.algebra.bits c.holds.ensures.roads inside c.holds.ensures.fits in
    let best = c.in_ok-number.ensures.best sources (c.begin.ensures.same ∙ c.requires.same, c.begin.ensures.source) in
    let at = subst (λ (l : Option ℕ). IsBestLabel (numbers_of f) f.roads sources c.args.pair.target l) c.in-Some.is best in
    subst (IsBestLabel A f.roads sources c.args.pair.target) (sym c.value_in.ensures ∙ c.in_default-value_in.is) (carry.labels c.args.pair.target (Some c.in-Some.number) at)

pub route_back-requires-clause-number : goal.route_back-requires-clause-number
route_back-requires-clause-number g c =
    let f = c.args.self.now in
    let sources = c.args.pair.source ∷ [] in
    let best = c.in_ok-number.ensures.best sources (c.begin.ensures.same ∙ c.requires.same, c.begin.ensures.source) in
    let kept = c.number.ensures.kept sources (c.begin.ensures.same ∙ c.requires.same, c.begin.ensures.source) in
    subst (λ (s : List ℕ). IsBest (numbers_of f) f.roads s c.args.pair.target c.in-Some.number) (sym kept.1)
    (subst (IsBestLabel (numbers_of f) f.roads sources c.args.pair.target) c.in-Some.is best)

pub route_back-requires-clause-same : goal.route_back-requires-clause-same
route_back-requires-clause-same g c =
    (c.number.ensures.kept (c.args.pair.source ∷ []) (c.begin.ensures.same ∙ c.requires.same, c.begin.ensures.source)).0

pub returns-in_err-route-clause-same : goal.returns-in_err-route-clause-same
returns-in_err-route-clause-same g c =
    c.route_back.ensures.same
    ∙ (c.number.ensures.kept (c.args.pair.source ∷ []) (c.begin.ensures.same ∙ c.requires.same, c.begin.ensures.source)).0
    ∙ sym c.requires.same

pub returns-clause-same : goal.returns-clause-same
returns-clause-same g c =
    c.route_back.ensures.same
    ∙ (c.number.ensures.kept (c.args.pair.source ∷ []) (c.begin.ensures.same ∙ c.requires.same, c.begin.ensures.source)).0
    ∙ sym c.requires.same

pub returns-clause-found : goal.returns-clause-found
returns-clause-found g c =
    let f = c.args.self.now in
    let A = g.A.PathAlgebra.meaning c.args.algebra in
    let cost = cost_of f.algebra.cost in
    let roads = c.holds.ensures.roads in
    let sources = c.args.pair.source ∷ [] in
    let target = c.args.pair.target in
    let y = c.in-Some.number in
    let inside = All-cons (HasVertex f.roads) c.args.pair.source [] c.requires.source (All-nil (HasVertex f.roads)) in
    let carry = c.requires.carried f.roads sources f.algebra.bits roads inside c.holds.ensures.fits in
    let numbers = c.numbers_exist.ensures sources inside in
    let number : ℕ → Option ℕ = label_of numbers.0 in
    let best : AreBestNumbers (numbers_of f) f.roads sources number = λ v in_v. numbers.1.best v in_v in
    let whole = c.best_values_exist.ensures f.roads roads sources inside in
    let tree = c.trees_exist.ensures f.roads roads sources inside whole.0 whole.1 in
    let asked = c.in_ok-number.ensures.best sources (c.begin.ensures.same ∙ c.requires.same, c.begin.ensures.source) in
    let at : number target ≡ Some y =
    one_label (numbers_of f) (counted_laws cost f.algebra.bits) f.roads roads sources target (number target) c.in_ok-number.field-0
    (best target c.requires.target) asked ∙ c.in-Some.is in
    let here : carried_value A f.algebra.bits (Some y) ≡ Some c.in-Some-value_in.value = sym c.value_in.ensures ∙ c.in-Some-value_in.is in
    let some : IsSome (carried_value A f.algebra.bits (Some y)) = ap is_some here in
    let value : IsBest A f.roads sources target c.in-Some-value_in.value =
    subst (IsBestLabel A f.roads sources target) here
    (carry.labels target (Some y) (subst (λ (l : Option ℕ). IsBestLabel (numbers_of f) f.roads sources target l) c.in-Some.is asked)) in
    let kept = c.number.ensures.kept sources (c.begin.ensures.same ∙ c.requires.same, c.begin.ensures.source) in
    let list = c.in_ok-route.route.items in
    let back = c.in_ok-route.ensures.route number (subst (λ (s : List ℕ). AreBestNumbers (numbers_of f) f.roads s number) (sym kept.1) best) at in
    let told = carrying.route_told A f.roads roads sources cost f.algebra.bits carry number best tree.0 tree.1 target y c.requires.target at some list back
    c.hops_in.result c.hops_in.ensures.hops in
    let found : FoundData = record { code = c.code.result; hops = c.hops_in.result; route = list } in
    let right : IsFoundBetween A f.roads c.args.pair.source target found = record {
      code = (c.in-Some-value_in.value, value, c.code.ensures);
      hops = told.0;
      route = from_one A f.roads c.args.pair.source target list told.1;
    } in
    right
