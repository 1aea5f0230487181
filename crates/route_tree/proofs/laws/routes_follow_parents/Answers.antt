use Rattle.route_tree.proofs.Told.{route_is, one_route, from_one}
use Rattle.route_tree.proofs.laws.routes_follow_parents.Goals as goal

pub returns : goal.returns
returns g c =
    let A = g.A.PathAlgebra.meaning c.args._algebra in
    record {
      follows = λ G roads sources t tree v in_v list route. route_is A G sources roads t tree v list in_v route;
      only = one_route A;
      from_one_source = from_one A;
    }
