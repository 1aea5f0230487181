use Rattle.road_graph.proofs.Lists.{found}
use Rattle.path_factors.proofs.HeadRows.{rises_between}
use Rattle.path_factors.proofs.heads.position.Goals as goal

pub returns-in-Ok-2-clause-inside : goal.returns-in-Ok-2-clause-inside
returns-in-Ok-2-clause-inside c =
    (found c.args.heads.now c.args.place c.binary_search.result c.in-Ok.at (rises_between c.args.heads.now c.requires.ascending)
    c.requires.listed c.binary_search.ensures.position c.in-Ok.is).0

pub returns-in-Ok-2-clause-found : goal.returns-in-Ok-2-clause-found
returns-in-Ok-2-clause-found c =
    (found c.args.heads.now c.args.place c.binary_search.result c.in-Ok.at (rises_between c.args.heads.now c.requires.ascending)
    c.requires.listed c.binary_search.ensures.position c.in-Ok.is).1
