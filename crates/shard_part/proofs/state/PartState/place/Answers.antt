use Rattle.std.proofs.Common.{refl}
use Rattle.shard_part.proofs.Graphs.{own_rising, place_leaves}
use Rattle.shard_part.proofs.state.PartState.place.Goals as goal

pub find-requires-clause-increasing : goal.find-requires-clause-increasing
find-requires-clause-increasing g c = (own_rising _ c.args.self.now _ _ _ c.self.inside.tables.own c.args.v c.self.view_is c.self.invariant refl c.requires.within c.requires.here).0

pub find-requires-clause-contained : goal.find-requires-clause-contained
find-requires-clause-contained g c = (own_rising _ c.args.self.now _ _ _ c.self.inside.tables.own c.args.v c.self.view_is c.self.invariant refl c.requires.within c.requires.here).1

pub returns-clause-place : goal.returns-clause-place
returns-clause-place g c = place_leaves _ c.args.self.now _ _ _ c.self.inside.tables.own c.args.v c.find.result c.self.view_is c.self.invariant refl c.find.ensures.inside c.find.ensures.found
