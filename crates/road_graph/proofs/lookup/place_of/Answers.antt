use Rattle.road_graph.proofs.Lists.{found, rises}
use Rattle.road_graph.proofs.lookup.place_of.Goals as goal

pub returns-in-Ok-2-clause-place : goal.returns-in-Ok-2-clause-place
returns-in-Ok-2-clause-place c = (found c.args.row.now c.args.a c.binary_search.result c.in-Ok.at
    (λ i j less within. rises 0 c.args.row.now i j c.requires.ascending less within) c.requires.listed c.binary_search.ensures.position c.in-Ok.is).0

pub returns-in-Ok-2-clause-number : goal.returns-in-Ok-2-clause-number
returns-in-Ok-2-clause-number c = (found c.args.row.now c.args.a c.binary_search.result c.in-Ok.at
    (λ i j less within. rises 0 c.args.row.now i j c.requires.ascending less within) c.requires.listed c.binary_search.ensures.position c.in-Ok.is).1
