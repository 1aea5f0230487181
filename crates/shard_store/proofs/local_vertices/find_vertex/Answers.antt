use Rattle.shard_store.proofs.Increasing.{found_increasing}
use Rattle.shard_store.proofs.local_vertices.find_vertex.Goals as goal

pub returns-in-Ok-2-clause-inside : goal.returns-in-Ok-2-clause-inside
returns-in-Ok-2-clause-inside c = (found_increasing c.args.list.now c.args.v c.binary_search.result c.in-Ok.at c.requires.increasing c.requires.contained c.binary_search.ensures.position c.in-Ok.is).0

pub returns-in-Ok-2-clause-found : goal.returns-in-Ok-2-clause-found
returns-in-Ok-2-clause-found c = (found_increasing c.args.list.now c.args.v c.binary_search.result c.in-Ok.at c.requires.increasing c.requires.contained c.binary_search.ensures.position c.in-Ok.is).1
